-- What a grid means, and how it stands.
use Rattle.std.specs.Prelude.{ℕ, List, vec_items}
use Rattle.alignment.specs.Alignment.{Alignment}
use Rattle.sheet.specs.Edits.{State}
use Rattle.grid.specs.declared.grid.Grid.{Grid}
use Rattle.grid.specs.Layout.{grid_alignment, grid_state}

-- the bytes of its block
abbrev pub bytes : Grid → List ℕ
bytes g = vec_items g.block

abbrev pub alignment_of : Grid → Alignment
alignment_of g = grid_alignment g.lengths.left g.lengths.right (bytes g)

abbrev pub state_of : Grid → State
state_of g = grid_state g.lengths.left g.lengths.right (bytes g)
