use Rattle.std.proofs.Common.{arith}
use Rattle.std.proofs.lemmas.Bool.Decides.{nat_tests}
use Rattle.std.proofs.lemmas.Grind.{common_steps}
use Rattle.grid.specs.Grids.{bytes}
use Rattle.grid.proofs.Edits.{counted_linked, grid_linked}
use Rattle.grid.proofs.grid.edits.GridEditable.link.Goals as goal

pub invariant_of-self : goal.invariant_of-self
invariant_of-self c =
    let s = c.args.self.now in
    record { counted = counted_linked s.lengths (bytes s) _ c.args.left c.args.right (grind (arith, common_steps)) (grind (arith, nat_tests)) _ s.counted }

pub returns-clause-done : goal.returns-clause-done
returns-clause-done c =
    let s = c.args.self.now in
    grid_linked s.lengths (bytes s) _ c.args.left c.args.right (grind (arith, common_steps)) (grind (arith, nat_tests))
