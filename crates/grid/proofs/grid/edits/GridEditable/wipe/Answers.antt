use Rattle.std.proofs.Common.{arith}
use Rattle.std.proofs.lemmas.Grind.{common_steps}
use Rattle.grid.specs.Grids.{bytes}
use Rattle.grid.proofs.Laid.{no_links_laid, grid_wiped}
use Rattle.grid.proofs.grid.edits.GridEditable.wipe.Goals as goal

pub invariant_of-self : goal.invariant_of-self
invariant_of-self c =
    let s = c.args.self.now in
    record { counted = no_links_laid s.lengths (bytes s) _ (grind (arith, common_steps)) }

pub returns-clause-done : goal.returns-clause-done
returns-clause-done c =
    let s = c.args.self.now in
    grid_wiped s.lengths (bytes s) _ (grind (arith, common_steps))
