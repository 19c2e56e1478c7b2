-- What a grid can still take and its links are at most 512 times 512.
use Rattle.std.specs.Prelude.{ℕ, ◌+◌, ◌-◌, ◌*◌, ◌≤◌, true, false, cond, List}
use Rattle.std.proofs.Common.{arith}
use Rattle.std.proofs.lemmas.Nat.{mul-le}
use Rattle.alignment.specs.Links.{links}
use Rattle.alignment.proofs.Counts.{links_le}
use Rattle.sheet.specs.declared.lengths.Lengths.{Lengths}
use Rattle.sheet.specs.Edits.{Bounded, capacity}
use Rattle.grid.specs.Layout.{enough, grid_alignment, grid_state}

pub grid_bounded : (l : Lengths) (block : List ℕ) → Bounded (grid_state l.left l.right block)
grid_bounded l block =
    let made = links (grid_alignment l.left l.right block) in
    let most = links_le (grid_alignment l.left l.right block) in
    let pairs = mul-le l.left l.right 512 512 l.left_high l.right_high in
    elim (enough block) as (λ long. cond long (l.left * l.right - made) 0 + made ≤ capacity) [ true ↦ omega (arith, most, pairs) | false ↦ omega (arith, most, pairs) ]
