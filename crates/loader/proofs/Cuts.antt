-- Cutting bytes at the first separator.
use Rattle.std.proofs.Common.{◌≡◌, ℕ, ◌+◌, ◌-◌, ◌<◌, ◌≤◌, Bool, eqb, List, [], ◌∷◌, length, take, drop, Some, None, sym, ap, ◌∙◌, arith, position}
use Rattle.std.specs.List.{position_or_len, after_first}
use Rattle.std.proofs.lemmas.Bool.Decides.{nat_tests}
use Rattle.std.proofs.lemmas.List.{take_rest, length-take-le, length-drop}
use Rattle.std.proofs.lemmas.List.Splits.{slice_split_first, slice_split_none}
use Rattle.std.proofs.lemmas.List.Sums.{fails_before_first}
use Rattle.text.specs.Lines.{pieces}

abbrev pub is_sep : ℕ → ℕ → Bool
is_sep sep b = eqb b sep

module _ (sep : ℕ) (bs : List ℕ) where
  abbrev first : ℕ
  first = position_or_len (is_sep sep) bs

  -- what follows place k, as the code lends it
  abbrev pub after : ℕ → List ℕ
  after k = take (length bs - (k + 1)) (drop (k + 1) bs)

  pub cut_at : (k : ℕ) → position (is_sep sep) bs ≡ Some k → (pieces sep bs ≡ take k bs ∷ pieces sep (after k)) × (after k ≡ after_first (is_sep sep) bs) × (length (take k bs) + 1 + length (after k) ≡ length bs)
  cut_at k e =
      let at : (first < length bs) × (first ≡ k) = grind (arith, nat_tests) in
      let within : k ≤ length bs = omega arith in
      simp (take_rest, length-take-le, length-drop) (
        slice_split_first (is_sep sep) bs 0 at.0 ∙ ap (λ i. take i bs ∷ pieces sep (drop (i + 1) bs)) at.1,
        ap (λ i. drop (i + 1) bs) (sym at.1),
        omega arith,
      )

  pub cut_none : position (is_sep sep) bs ≡ None → pieces sep bs ≡ bs ∷ []
  cut_none e =
      let nowhere : length bs ≤ first = grind (arith, nat_tests) in
      slice_split_none (is_sep sep) bs (λ k d l. fails_before_first (is_sep sep) bs k d (omega arith))
