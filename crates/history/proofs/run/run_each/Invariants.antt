use Rattle.history.proofs.Runs.{Left}
use Rattle.history.proofs.run.run_each.Given as goal

abbrev pub invariant-loop-k : goal.invariant-loop-k
invariant-loop-k g l =
    Left g.O.Operate.answered g.O.Operate.stepped (g.O.Operate.state l.initial.on) l.history l.initial.answers l.k (g.O.Operate.state l.on) l.answers
