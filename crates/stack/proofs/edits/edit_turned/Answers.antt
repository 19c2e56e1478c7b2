use Rattle.std.proofs.Common.{arith}
use Rattle.std.proofs.lemmas.List.{drop_all}
use Rattle.stack.proofs.Here.{made_here, refused_here}
use Rattle.stack.proofs.edits.edit_turned.Goals as goal

pub returns-in-Err : goal.returns-in-Err
returns-in-Err g c = λ l by.
    refused_here l (g.S.Stacked.stack c.args.below.now) c.args.route.now c.args.edit c.args.lengths.left c.args.lengths.right c.args.turned by
    (drop_all 0 c.args.route.now (omega (arith, c.in-empty.len_below))) c.refuse.result c.in-Err.refusal c.in-Err.ensures c.refuse.ensures

pub returns-in-Ok : goal.returns-in-Ok
returns-in-Ok g c = λ l by.
    made_here l (g.S.Stacked.stack c.args.below.now) c.args.route.now c.args.edit c.args.lengths.left c.args.lengths.right c.args.turned by
    (drop_all 0 c.args.route.now (omega (arith, c.in-empty.len_below))) c.edit.result (g.S.Stacked.stack c.edit.new.self)
    c.in-Ok.ensures c.edit.ensures.answer c.edit.ensures.after
