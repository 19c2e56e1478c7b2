-- What linking and unlinking do to a grid.
use Rattle.std.proofs.Common.{◌≡◌, ℕ, ◌+◌, ◌-◌, ◌≤◌, true, false, cond, not, List, sym, ap, ap₂, ◌∙◌, arith}
use Rattle.std.proofs.Math.Path.{fun_ext}
use Rattle.std.proofs.lemmas.Bool.Decides.{nat_tests}
use Rattle.std.proofs.lemmas.List.{length-set}
use Rattle.alignment.specs.Alignment.{Alignment, within}
use Rattle.alignment.specs.Links.{links}
use Rattle.alignment.proofs.Counts.{links_le}
use Rattle.sheet.specs.declared.lengths.Lengths.{Lengths}
use Rattle.sheet.specs.Edits.{State, same_pair, with_link, without_link, accepted, linking, unlinking}
use Rattle.sheet.proofs.EditLaws.{links_with, links_without, linking_taken, unlinking_taken}
use Rattle.grid.specs.Layout.{enough, place, grid_alignment, grid_free, grid_state}
use Rattle.grid.specs.Blocks.{flipped, takes_link, linked_block}
use Rattle.grid.proofs.BitLaws.{flip_bits}
use Rattle.grid.proofs.Places.{place_byte, place_tells_pair}

-- where two words are not linked and nothing is free, the block is too short, and stays as it is
module _ (n m : ℕ) (block : List ℕ) (i j : ℕ) (hi : within n i ≡ true) (hj : within m j ≡ true) (off : (grid_alignment n m block).linked i j ≡ false) (none : grid_free n m block ≡ 0) where
  pub short_from_none_free : enough block ≡ false
  short_from_none_free =
      let most = links_le (with_link (grid_alignment n m block) i j) in
      let more = links_with (grid_alignment n m block) i j hi hj off in
      grind (arith, nat_tests)

  pub kept_where_none_free : linked_block n m block i j ≡ block
  kept_where_none_free = let short = short_from_none_free in grind (arith, nat_tests)

-- a link lies within the sheet, and counts
module _ (n m : ℕ) (block : List ℕ) (i j : ℕ) (on : (grid_alignment n m block).linked i j ≡ true) where
  pub linked_within : (enough block ≡ true) × (within n i ≡ true) × (within m j ≡ true)
  linked_within = (grind (arith, nat_tests), grind (arith, nat_tests), grind (arith, nat_tests))

  without : links (grid_alignment n m block) ≡ links (without_link (grid_alignment n m block) i j) + 1
  without = links_without (grid_alignment n m block) i j linked_within.1 linked_within.2 on

  pub linked_counts : 1 ≤ links (grid_alignment n m block)
  linked_counts = omega (arith, without)

-- a grid before and after the bit of (i, j) is turned over
module _ (l : Lengths) (block after : List ℕ) (i j : ℕ) (turned : after ≡ flipped block (place l.right i j)) where
  abbrev old : Alignment
  old = grid_alignment l.left l.right block

  abbrev new : Alignment
  new = grid_alignment l.left l.right after

  abbrev old_state : State
  old_state = grid_state l.left l.right block

  linked_turned : (a b : ℕ) → enough block ≡ true → within l.left i ≡ true → within l.right j ≡ true → new.linked a b ≡ cond (same_pair i j a b) (not (old.linked a b)) (old.linked a b)
  linked_turned a b long hi hj =
      let inside = place_byte l.left l.right i j l.left_high l.right_high hi hj in
      let bits = flip_bits block (place l.right i j) (place l.right a b) in
      let same = place_tells_pair l.left l.right a b i j in
      grind (arith, nat_tests, length-set)

  -- two words that are not linked are linked then
  module _ (takes : takes_link l.left l.right block i j ≡ true) where
    apart : (within l.left i ≡ true) × (within l.right j ≡ true) × (old.linked i j ≡ false)
    apart = (grind (arith, nat_tests), grind (arith, nat_tests), grind (arith, nat_tests))

    turned_on : new ≡ with_link old i j
    turned_on = ap (λ h. record { lefts = l.left; rights = l.right; linked = h }) (fun_ext (λ a. fun_ext (λ b. let e = linked_turned a b in grind (arith, nat_tests))))

    links_rise : links new ≡ links old + 1
    links_rise = ap links turned_on ∙ links_with old i j apart.0 apart.1 apart.2

    pub counted_linked : (count : ℕ) → count ≡ links old → count + 1 ≡ links new
    counted_linked count is = omega (arith, is, links_rise)

    pub grid_linked : accepted new (grid_free l.left l.right after) ≡ linking old_state i j
    grid_linked =
        let more = links_rise in
        let most = links_le new in
        let left : grid_free l.left l.right after ≡ old_state.free - 1 = grind (arith, nat_tests, length-set) in
        ap₂ accepted turned_on left ∙ sym (linking_taken old_state i j apart.0 apart.1 apart.2 (grind (arith, nat_tests)))

  -- and two that are linked are not
  module _ (on : old.linked i j ≡ true) where
    turned_off : new ≡ without_link old i j
    turned_off = ap (λ h. record { lefts = l.left; rights = l.right; linked = h }) (fun_ext (λ a. fun_ext (λ b. let e = linked_turned a b in grind (arith, nat_tests))))

    links_fall : links old ≡ links new + 1
    links_fall = without l.left l.right block i j on ∙ ap (λ a. links a + 1) (sym turned_off)

    pub counted_unlinked : (count : ℕ) → count ≡ links old → count - 1 ≡ links new
    counted_unlinked count is = omega (arith, is, links_fall)

    pub grid_unlinked : accepted new (grid_free l.left l.right after) ≡ unlinking old_state i j
    grid_unlinked =
        let fewer = links_fall in
        let most = links_le old in
        let within = linked_within l.left l.right block i j on in
        let left : grid_free l.left l.right after ≡ old_state.free + 1 = grind (arith, nat_tests, length-set) in
        ap₂ accepted turned_off left ∙ sym (unlinking_taken old_state i j within.1 within.2 on)
