use Rattle.std.proofs.Common.{rules, tests, arith}
use Rattle.sheet.proofs.Found.{least_from_find}
use Rattle.sheet.proofs.sheet.Sheet.next_link.Goals as goal

pub returns : goal.returns
returns g c =
    let a = g.Self.Sheet.meaning c.args.self.now in
    least_from_find (a.linked c.args.left) (λ x r q k. search (rules, tests)) c.new.ensures.start (grind arith) c.new.ensures.exhausted c.find.ensures.runs
