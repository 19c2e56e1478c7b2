use Rattle.std.proofs.Common.{sym, arith}
use Rattle.std.proofs.lemmas.Grind.{common_steps}
use Rattle.grid.specs.Grids.{bytes}
use Rattle.grid.proofs.Edits.{counted_unlinked, grid_unlinked, linked_counts}
use Rattle.grid.proofs.grid.edits.GridEditable.unlink.Goals as goal

pub overflow_sub-self : goal.overflow_sub-self
overflow_sub-self c =
    let s = c.args.self.now in
    omega (arith, s.counted, linked_counts s.lengths.left s.lengths.right (bytes s) c.args.left c.args.right (sym c.if-not-linked.ensures))

pub invariant_of-self : goal.invariant_of-self
invariant_of-self c =
    let s = c.args.self.now in
    record { counted = counted_unlinked s.lengths (bytes s) _ c.args.left c.args.right (grind (arith, common_steps)) (sym c.if-not-linked.ensures) _ s.counted }

pub returns-clause-done : goal.returns-clause-done
returns-clause-done c =
    let s = c.args.self.now in
    grid_unlinked s.lengths (bytes s) _ c.args.left c.args.right (grind (arith, common_steps)) (sym c.if-not-linked.ensures)
