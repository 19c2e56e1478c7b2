use Rattle.std.proofs.Common.{refl, ap, ◌∙◌, arith}
use Rattle.std.proofs.lemmas.List.{drop_all}
use Rattle.stack.specs.Stacks.{shown}
use Rattle.stack.proofs.Here.{asked_here}
use Rattle.stack.proofs.over.look_up.Goals as goal

pub returns-in-empty : goal.returns-in-empty
returns-in-empty g c = λ l shows frees.
    c.look_up.ensures
    ∙ asked_here l (g.S.Stacked.stack c.args.below.now) c.args.route.now c.args.question (g.T.Sheet.meaning c.args.top.now) c.free.result
    (drop_all 0 c.args.route.now (omega (arith, c.in-empty.len_below)))
    (shows ∙ ap (shown l) (g.met.S.Stacked.reads c.args.below.now))
    (frees c.free.result (c.args.below, c.free.ensures, refl))
