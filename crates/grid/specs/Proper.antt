-- The links of a grid lie within its words.
use Rattle.std.specs.Prelude.{◌≡◌, ℕ, true}
use Rattle.std.proofs.lemmas.Bool.{and_parts}
use Rattle.alignment.specs.Alignment.{Proper, within}
use Rattle.alignment.proofs.Propers.{proper_from}
use Rattle.grid.specs.declared.grid.Grid.{Grid}
use Rattle.grid.specs.Layout.{enough}
use Rattle.grid.specs.Grids.{bytes, alignment_of}

linked_within : (g : Grid) (i j : ℕ) → (alignment_of g).linked i j ≡ true → (within g.lengths.left i ≡ true) × (within g.lengths.right j ≡ true)
linked_within g i j on =
    let p = and_parts (within g.lengths.left i) _ (and_parts (enough (bytes g)) _ on).1 in
    (p.0, (and_parts (within g.lengths.right j) _ p.1).0)

pub grid_proper : (g : Grid) → Proper (alignment_of g)
grid_proper g =
    proper_from (alignment_of g) g.lengths.left_low g.lengths.left_high g.lengths.right_low g.lengths.right_high (linked_within g)
