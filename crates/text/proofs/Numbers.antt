-- A number as it is written, read back.
use Rattle.std.proofs.Common.{◌≡◌, ℕ, ◌^◌, ◌<◌, ◌≤◌, true, not, ◌||◌, eqb, length, get_or, Ok, decimal, refl, ap, ◌∙◌, ⊎_elim, arith}
use Rattle.std.specs.Str.Parse.{digits_value}
use Rattle.std.specs.Int.{IsInRange}
use Rattle.std.specs.Fmt.{digits}
use Rattle.std.specs.Str.{all_ascii_digits}
use Rattle.std.proofs.lemmas.Fmt.{length-decimal-le, decimal_nonempty, first_decimal, digits_decimal, digits_value-decimal}
use Rattle.std.proofs.lemmas.Str.Parse.{IsNumeralModel, numerals_by_value, tells_all_ascii_digits, not_in_digits}
use Rattle.std.proofs.lemmas.List.Elements.{All-from_get_or}
use Rattle.std.proofs.lemmas.Bool.Decides.{nat_tests}
use Rattle.std.proofs.lemmas.Bool.{cond-true, or_left, or_right, ne_eqb, not_from_false, cases_eq}
use Rattle.text.specs.Records.{is_number, number_in}
use Rattle.text.proofs.Pieces.{Other, Lacks}

own : IsNumeralModel (λ ds. all_ascii_digits ds ≡ true) (digits_value 10)
own = numerals_by_value (λ ds. all_ascii_digits ds ≡ true) tells_all_ascii_digits

zero_is_short : eqb (length (decimal 0)) 1 ≡ true
unfolding digits
zero_is_short = refl

module _ (n : ℕ) (small : n < 1000) where
  wide : n < 2 ^ 64
  wide = omega arith

  few : length (decimal n) ≤ 3
  few = length-decimal-le 3 n (omega arith) (omega arith) wide

  pub every : all_ascii_digits (decimal n) ≡ true
  every = digits_decimal own n wide

  bare : (eqb (length (decimal n)) 1 || not (eqb (get_or (decimal n) 0 0) 48)) ≡ true
  bare =
      ⊎_elim
      (λ e. or_left (eqb (length (decimal n)) 1) _ (ap (λ k. eqb (length (decimal k)) 1) e ∙ zero_is_short))
      (λ ne. or_right (eqb (length (decimal n)) 1) _ (not_from_false _ (ne_eqb _ 48 (λ e. let h : 48 < get_or (decimal n) 0 0 = first_decimal n (omega arith) wide in omega arith))))
      (cases_eq n 0)

  is_read : is_number (decimal n) ≡ true
  is_read =
      let some = decimal_nonempty n wide in
      let all = every in
      let alone = bare in
      let short = few in
      grind (arith, nat_tests)

  pub reads_back : (k : ℕ) → number_in k (decimal n) ≡ Ok n
  unfolding number_in
  reads_back k = cond-true (is_number (decimal n)) _ _ is_read ∙ ap Ok (digits_value-decimal own n wide)

  -- no digit is a byte that is none
  pub no_digit : (c : ℕ) → (IsInRange 48 57 c → ⊥) → Lacks c (decimal n)
  no_digit c ne = All-from_get_or (Other c) (decimal n) 0 (λ i h. ne_eqb _ c (not_in_digits own (decimal n) c every ne i h))
