use Rattle.std.proofs.Common.{ap, ◌∙◌, arith}
use Rattle.history.proofs.Runs.{one_more, at_end}
use Rattle.history.proofs.run.run_each.Goals as goal

pub loop-k-preserved : goal.loop-k-preserved
loop-k-preserved g c =
    let said = ap (g.O.Operate.answered (g.O.Operate.state c.loop-k.on)) c.index-history-k.is in
    let left = ap (g.O.Operate.stepped (g.O.Operate.state c.loop-k.on)) c.index-history-k.is in
    one_more g.O.Operate.answered g.O.Operate.stepped _ _ _ c.args.history.now _ _ c.loop-k.k _ _
    c.loop-k-test.true (omega arith) c.loop-k.invariant (c.operate.ensures.answer ∙ said) (c.operate.ensures.after ∙ left)

pub returns : goal.returns
returns g c =
    at_end g.O.Operate.answered g.O.Operate.stepped _ _ c.args.history.now _ _ c.loop-k.k (omega arith) (omega arith) c.loop-k.invariant
