use Rattle.stack.proofs.Untouched.{borrowed_untouched}
use Rattle.stack.proofs.borrowed.RefStacked.edit.Goals as goal

pub returns : goal.returns
returns g c =
    let u = borrowed_untouched (g.S.Stacked.stack c.args.self.now.now) c.args._route.now c.args._edit in
    record { answer = u.answer; after = u.after }
