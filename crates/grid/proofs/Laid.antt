-- What a block is that was laid, and what a grid on it is.
use Rattle.std.proofs.Common.{◌≡◌, ℕ, ◌+◌, ◌*◌, ◌/◌, ◌<◌, ◌≤◌, false, cond, List, ◌++◌, length, take, drop, replicate, refl, sym, ap, ap₂, ◌∙◌, arith}
use Rattle.std.proofs.Math.Path.{fun_ext}
use Rattle.std.proofs.lemmas.Bool.{cond-true, le-leb}
use Rattle.std.proofs.lemmas.Bool.Decides.{nat_tests}
use Rattle.std.proofs.lemmas.Grind.{common_steps}
use Rattle.std.proofs.lemmas.List.{length-take-le}
use Rattle.std.proofs.lemmas.Nat.Bits.{bit_at-zero}
use Rattle.alignment.specs.Alignment.{unlinked}
use Rattle.alignment.specs.Links.{links}
use Rattle.alignment.proofs.Counts.{links_le, links_none}
use Rattle.sheet.specs.declared.lengths.Lengths.{Lengths}
use Rattle.sheet.specs.Edits.{wiping}
use Rattle.grid.specs.Layout.{block_bytes, enough, bit_at, grid_alignment, grid_free, grid_state}
use Rattle.grid.specs.Blocks.{cleared, laid, laid_state}
use Rattle.grid.proofs.Places.{place_byte}

pub laid_from_fill : (block filled : List ℕ) → block_bytes ≤ length block → filled ≡ replicate (length (take block_bytes block)) 0 → filled ++ drop block_bytes block ≡ laid block
unfolding cleared
laid_from_fill block filled long zeros = rw (zeros, length-take-le block_bytes block long) (sym (cond-true _ _ _ (le-leb _ _ long)))

-- clearing keeps the length, and leaves no bit in the cleared bytes
length_cleared : (k : ℕ) (block : List ℕ) → k ≤ length block → length (cleared k block) ≡ length block
unfolding cleared
length_cleared k block h = grind (arith, common_steps)

no_bit_in_cleared : (k : ℕ) (block : List ℕ) (b : ℕ) → b / 8 < k → bit_at (cleared k block) b ≡ false
unfolding cleared
no_bit_in_cleared k block b h =
    grind (arith, common_steps, bit_at-zero)

-- nothing is linked in a block that is too short
pub links_short : (n m : ℕ) (block : List ℕ) → enough block ≡ false → links (grid_alignment n m block) ≡ 0
links_short n m block short = links_none (grid_alignment n m block) (λ i j. grind (arith, nat_tests))

-- free and links make the pairs of words, or nothing in a block that is too short
pub free_and_links : (n m : ℕ) (block : List ℕ) → grid_free n m block + links (grid_alignment n m block) ≡ cond (enough block) (n * m) 0
free_and_links n m block =
    let most = links_le (grid_alignment n m block) in
    let none = links_short n m block in
    grind (arith, nat_tests)

-- a grid on a block that was laid has no links
module _ (l : Lengths) (block : List ℕ) where
  unlinked_laid : grid_alignment l.left l.right (laid block) ≡ unlinked l.left l.right
  unlinked_laid =
      ap (λ h. record { lefts = l.left; rights = l.right; linked = h })
      (fun_ext (λ i. fun_ext (λ j.
      let inside = place_byte l.left l.right i j l.left_high l.right_high in
      grind (arith, nat_tests, no_bit_in_cleared))))

  pub no_links_laid : (after : List ℕ) → after ≡ laid block → 0 ≡ links (grid_alignment l.left l.right after)
  no_links_laid after is = rw is (sym (ap links unlinked_laid ∙ links_none (unlinked l.left l.right) (λ i j. refl)))

  pub grid_laid : (after : List ℕ) → after ≡ laid block → grid_state l.left l.right after ≡ laid_state l.left l.right block
  grid_laid after is =
      let none = no_links_laid (laid block) refl in
      let free : grid_free l.left l.right (laid block) ≡ cond (enough block) (l.left * l.right) 0 = grind (arith, nat_tests, length_cleared) in
      rw is (ap₂ (λ a f. record { sheet = a; free = f }) unlinked_laid free)

  pub grid_wiped : (after : List ℕ) → after ≡ laid block → grid_state l.left l.right after ≡ wiping (grid_state l.left l.right block)
  grid_wiped after is =
      grid_laid after is ∙ ap (λ f. record { sheet = unlinked l.left l.right; free = f }) (sym (free_and_links l.left l.right block))
