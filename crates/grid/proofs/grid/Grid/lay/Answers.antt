use Rattle.std.proofs.Common.{vec_items, arith}
use Rattle.std.proofs.lemmas.Grind.{common_steps}
use Rattle.grid.proofs.Laid.{no_links_laid, grid_laid}
use Rattle.grid.proofs.grid.Grid.lay.Goals as goal

pub invariant_of-result : goal.invariant_of-result
invariant_of-result c = record { counted = no_links_laid c.args.lengths (vec_items c.args.block) _ (grind (arith, common_steps)) }

pub returns-clause-state : goal.returns-clause-state
returns-clause-state c = grid_laid c.args.lengths (vec_items c.args.block) _ (grind (arith, common_steps))
