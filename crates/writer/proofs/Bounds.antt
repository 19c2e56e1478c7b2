-- How many bytes the lines of a sheet have at most.
use Rattle.std.proofs.Common.{◌≡◌, ℕ, zero, suc, ◌*◌, ◌≤◌, cond, List, [], ◌∷◌, ◌++◌, length, decimal, refl, ap, arith, length-append, suc-mul}
use Rattle.std.specs.List.{flat_map}
use Rattle.std.proofs.lemmas.Fmt.{length-decimal-le}
use Rattle.std.proofs.lemmas.Grind.{flat_map-append}
use Rattle.std.proofs.lemmas.Bool.{cond_both}
use Rattle.alignment.specs.Alignment.{Alignment, Proper}
use Rattle.alignment.specs.Links.{row, rows, in_order}
use Rattle.text.specs.Letters.{tab, feed}
use Rattle.text.specs.declared.line.Field.TheVariants.{Number}
use Rattle.text.specs.declared.line.Head.{Head}
use Rattle.text.specs.declared.line.Head.TheVariants as heads
use Rattle.text.specs.Written.{line, line_body, lengths_line, link_line}

-- parts of at most b bytes each
module _ {X : Type 0} (bytes : X → List ℕ) (f part : ℕ → List X) (none : f 0 ≡ []) (step : (n : ℕ) → f (suc n) ≡ f n ++ part (suc n)) (b : ℕ) where
  length_parts_le : (n : ℕ) → ((t : ℕ) → t ≤ n → length (flat_map bytes (part t)) ≤ b) → length (flat_map bytes (f n)) ≤ n * b
  length_parts_le zero each = omega (arith, ap (λ x. length (flat_map bytes x)) none)
  length_parts_le (suc n) each =
      let more = ap (λ x. length (flat_map bytes x)) (step n) in
      let parts = ap length (flat_map-append bytes (f n) (part (suc n))) in
      let two = length-append (flat_map bytes (f n)) (flat_map bytes (part (suc n))) in
      let last = each (suc n) (omega arith) in
      omega (arith, length_parts_le n (λ t le. each t (omega arith)), suc-mul n b)

-- a line of two words
length_pair_le : (h : Head) (i j : ℕ) → i ≤ 512 → j ≤ 512 → length (line h (Number i ∷ Number j ∷ [])) ≤ 10
length_pair_le h i j hi hj =
    let left = length-decimal-le 3 i (omega arith) (omega arith) (omega arith) in
    let right = length-decimal-le 3 j (omega arith) (omega arith) (omega arith) in
    let all = length-append (line_body h (Number i ∷ Number j ∷ [])) (feed ∷ []) in
    let first = length-append (tab ∷ decimal i) (tab ∷ (decimal j ++ [])) in
    omega (arith, length-append (tab ∷ decimal j) [])

module _ (a : Alignment) (ok : Proper a) where
  pub length_lengths_le : length (lengths_line a.lefts a.rights) ≤ 10
  length_lengths_le = length_pair_le heads.Sheet a.lefts a.rights ok.lefts_high ok.rights_high

  length_row_le : (i : ℕ) → i ≤ 512 → length (flat_map link_line (row a.linked i a.rights)) ≤ a.rights * 10
  length_row_le i hi =
      let wide = ok.rights_high in
      length_parts_le link_line (row a.linked i) (λ t. cond (a.linked i t) ((i, t) ∷ []) []) refl (λ _. refl) 10 a.rights
      (λ t le. cond_both (a.linked i t) ((i, t) ∷ []) [] (λ x. length (flat_map link_line x) ≤ 10)
      (λ _. omega (arith, length_pair_le heads.Link i t hi (omega arith), length-append (link_line (i, t)) []))
      (λ _. omega arith))

  pub length_links_le : length (flat_map link_line (in_order a)) ≤ 2621440
  length_links_le =
      let high = ok.lefts_high in
      let wide = ok.rights_high in
      let most = length_parts_le link_line (λ n. rows a.linked n a.rights) (λ i. row a.linked i a.rights) refl (λ _. refl) 5120 a.lefts (λ t le. omega (arith, length_row_le t (omega arith))) in
      omega arith
