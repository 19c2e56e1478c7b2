-- An edit of a sheet that is turned round is the edit of the sheet itself at the words turned back.
use Rattle.std.proofs.Common.{◌≡◌, ℕ, Bool, true, ap, arith}
use mathlib.Core.Path.{fun_ext}
use Rattle.std.proofs.lemmas.Bool.Decides.{nat_tests}
use Rattle.alignment.specs.Alignment.{Alignment, within, unlinked}
use Rattle.alignment.specs.Layers.{swapped, opposite, mirrored}
use Rattle.alignment.proofs.Turns.{links_swapped, links_mirrored}
use Rattle.sheet.specs.Edits.{State, Bounded, with_link, without_link, linking, unlinking, wiping}
use Rattle.sheet.specs.Turns.{swapped_state, swapped_outcome, mirrored_state, mirrored_outcome}

abbrev table : ℕ → ℕ → (ℕ → ℕ → Bool) → Alignment
table n m h = record { lefts = n; rights = m; linked = h }

same_links : {n m : ℕ} {h k : ℕ → ℕ → Bool} → ((x y : ℕ) → h x y ≡ k x y) → table n m h ≡ table n m k
same_links {n} {m} same = ap (table n m) (fun_ext (λ x. fun_ext (same x)))

module _ (s : State) where
  pub turn_bounded_swapped : Bounded s → Bounded (swapped_state s)
  turn_bounded_swapped h = omega (arith, links_swapped s.sheet)

  pub turn_wiping_swapped : wiping (swapped_state s) ≡ swapped_state (wiping s)
  turn_wiping_swapped = rw (links_swapped s.sheet)

  pub turn_bounded_mirrored : Bounded s → Bounded (mirrored_state s)
  turn_bounded_mirrored h = omega (arith, links_mirrored s.sheet)

  pub turn_wiping_mirrored : wiping (mirrored_state s) ≡ mirrored_state (wiping s)
  turn_wiping_mirrored =
      let none : mirrored (unlinked s.sheet.lefts s.sheet.rights) ≡ unlinked s.sheet.lefts s.sheet.rights = same_links (λ x y. grind (arith, nat_tests)) in
      rw (links_mirrored s.sheet, none)

module _ (s : State) (i j : ℕ) where
  module _ (left : within s.sheet.rights i ≡ true) (right : within s.sheet.lefts j ≡ true) where
    pub turn_linking_swapped : linking (swapped_state s) i j ≡ swapped_outcome (linking s j i)
    turn_linking_swapped =
        let new : with_link (swapped s.sheet) i j ≡ swapped (with_link s.sheet j i) = same_links (λ x y. grind (arith, nat_tests)) in
        grind (arith, nat_tests)

    pub turn_unlinking_swapped : unlinking (swapped_state s) i j ≡ swapped_outcome (unlinking s j i)
    turn_unlinking_swapped =
        let new : without_link (swapped s.sheet) i j ≡ swapped (without_link s.sheet j i) = same_links (λ x y. grind (arith, nat_tests)) in
        grind (arith, nat_tests)

  module _ (left : within s.sheet.lefts i ≡ true) (right : within s.sheet.rights j ≡ true) where
    pub turn_linking_mirrored : linking (mirrored_state s) i j ≡ mirrored_outcome (linking s i (opposite s.sheet.rights j))
    turn_linking_mirrored =
        let new : with_link (mirrored s.sheet) i j ≡ mirrored (with_link s.sheet i (opposite s.sheet.rights j)) = same_links (λ x y. grind (arith, nat_tests)) in
        grind (arith, nat_tests)

    pub turn_unlinking_mirrored : unlinking (mirrored_state s) i j ≡ mirrored_outcome (unlinking s i (opposite s.sheet.rights j))
    turn_unlinking_mirrored =
        let new : without_link (mirrored s.sheet) i j ≡ mirrored (without_link s.sheet i (opposite s.sheet.rights j)) = same_links (λ x y. grind (arith, nat_tests)) in
        grind (arith, nat_tests)
