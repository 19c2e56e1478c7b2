-- The search for the next link is a search among the bits of a row.
use Rattle.std.proofs.Common.{◌≡◌, ℕ, ◌+◌, ◌-◌, ◌≤◌, max, true, false, ◌&&◌, List, Some, None, Option, sym, arith}
use Rattle.std.proofs.lemmas.Bool.Decides.{nat_tests}
use Rattle.alignment.specs.Alignment.{Alignment, within}
use Rattle.alignment.specs.Links.{least, next_link}
use Rattle.alignment.proofs.Least.{shifted, least_some, least_none, next_is, next_is_none, next_link_none}
use Rattle.grid.specs.Layout.{bit_at, place, enough, grid_alignment}

-- nothing is linked in a block that is too short, nor to a left word that is not there
pub no_next_link : (n m : ℕ) (block : List ℕ) (i j : ℕ) → (enough block && within n i) ≡ false → None ≡ next_link (grid_alignment n m block) i j
no_next_link n m block i j off = sym (next_link_none (grid_alignment n m block) i j (λ t. grind (arith, nat_tests)))

-- the next link is the next bit of its left word; 0 stands for the first right word
module _ (n m : ℕ) (block : List ℕ) (i j : ℕ) (here : (enough block && within n i) ≡ true) where
  abbrev row : ℕ
  row = place m i 1

  abbrev from : ℕ
  from = row + max j 1 - 1

  abbrev a : Alignment
  a = grid_alignment n m block

  linked_in_row : (t b : ℕ) → 1 ≤ t → b ≡ row + t - 1 → a.linked i t ≡ (within m t && bit_at block b)
  linked_in_row t b low at =
      let same : place m i t ≡ b = omega arith in
      grind (arith, nat_tests)

  pub next_in_row : (r : Option ℕ) → r ≡ least (bit_at block) from (row + m - from) → shifted row 1 r ≡ next_link a i j
  next_in_row (Some b) e =
      let found = least_some (bit_at block) from (row + m - from) b (sym e) in
      let at = linked_in_row (b - row + 1) b in
      sym (next_is a i j (b - row + 1) (omega arith) (omega arith) (grind (arith, nat_tests))
      (λ t low high. let bit = linked_in_row t (row + t - 1) in let off = found.first (row + t - 1) in grind (arith, nat_tests)))
  next_in_row None e =
      sym (next_is_none a i j (λ t low high.
      let bit = linked_in_row t (row + t - 1) in
      let off = least_none (bit_at block) from (row + m - from) (sym e) (row + t - 1) in
      grind (arith, nat_tests)))
