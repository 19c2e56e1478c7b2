use Rattle.history.proofs.Conserved.{run_conserves}
use Rattle.history.proofs.run.run.Goals as goal

pub returns-clause-conserved : goal.returns-clause-conserved
returns-clause-conserved g c = run_conserves _ c.args.history.now _ _ c.run_each.ensures
