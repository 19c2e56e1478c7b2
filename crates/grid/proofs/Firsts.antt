-- The first set bit of a row of bytes.
use Rattle.std.proofs.Common.{◌≡◌, ◌≢◌, ℕ, ◌+◌, ◌-◌, ◌*◌, ◌/◌, ◌%◌, ◌^◌, ◌<◌, ◌≤◌, Bool, true, false, ltb, List, Some, None, Option, refl, sym, ap, ◌∙◌, arith}
use Rattle.std.specs.Prelude.{slice_index, ◌==◌}
use Rattle.std.specs.Bool.{then_some}
use Rattle.std.specs.Option.{MatchOption}
use Rattle.std.specs.Int.{w8, trailing_zeros}
use Rattle.std.proofs.lemmas.Bool.{lt-ltb}
use Rattle.std.proofs.lemmas.Bool.Decides.{nat_tests}
use Rattle.std.proofs.lemmas.Nat.{shr-shr, shr_le}
use Rattle.std.proofs.lemmas.Nat.Bits.{bit_at-zero, bit_at_above, bit_at-trailing_zeros}
use Rattle.alignment.specs.Links.{least}
use Rattle.alignment.proofs.Least.{least_here, least_skips, least_none_passes, least_some, least_none}
use Rattle.grid.specs.Layout.{bit_at, filled}

-- the first that passes, if it stands before the end
least_reached : (p : ℕ → Bool) (k i n : ℕ) → k ≤ i → ((t : ℕ) → k ≤ t → t < i → p t ≡ false) → p i ≡ true → then_some (ltb i n) i ≡ least p k (n - k)
least_reached p k i n from off on =
    let at : k + (i - k) ≡ i = omega arith in
    let skip = least_skips p (i - k) k n (λ t low high. off t low (omega arith)) ∙ ap (λ x. least p x (n - x)) at in
    let here = least_here p i n in
    let over : n ≤ i → n - i ≡ 0 = λ h. omega arith in
    grind (arith, nat_tests)

pub least_found : (p : ℕ → Bool) (k n : ℕ) (r : Option ℕ) → MatchOption r ((t : ℕ) → k ≤ t → t < n → p t ≡ false) (λ i. (k ≤ i) × (i < n) × (p i ≡ true) × ((t : ℕ) → k ≤ t → t < i → p t ≡ false)) → r ≡ least p k (n - k)
least_found p k n None off = sym (least_none_passes p k (n - k) (λ t low high. off t low (omega arith)))
least_found p k n (Some i) first = ap (λ t. then_some t i) (sym (lt-ltb i n first.1)) ∙ least_reached p k i n first.0 first.3 first.2

-- r is byte q from bit b on
module _ (block : List ℕ) (b q r : ℕ) (at : b / 8 ≡ q) (is : r ≡ slice_index block q / 2 ^ (b % 8)) where
  in_rest : (t : ℕ) → b % 8 + t < 8 → bit_at block (b + t) ≡ (r / 2 ^ t % 2 == 1)
  in_rest t h =
      let d : (b + t) / 8 ≡ q = omega arith in
      let m : (b + t) % 8 ≡ b % 8 + t = omega arith in
      grind (arith, shr-shr)

  not_in_rest : (t : ℕ) → r / 2 ^ (t - b) % 2 ≡ 0 → b ≤ t → t < 8 * (q + 1) → bit_at block t ≡ false
  not_in_rest t off low high = let bit = in_rest (t - b) (omega arith) in grind (arith, nat_tests)

  -- its lowest set bit
  lowest_in_rest : r ≢ 0 → slice_index block q < 256 → (bit_at block (b + trailing_zeros w8 r) ≡ true) × ((t : ℕ) → b ≤ t → t < b + trailing_zeros w8 r → bit_at block t ≡ false)
  lowest_in_rest some byte =
      let z = trailing_zeros w8 r in
      let low = bit_at-trailing_zeros w8 r (omega arith) (omega (arith, is, shr_le (slice_index block q) (b % 8))) in
      let in_byte : b % 8 + z < 8 = let above = bit_at_above (slice_index block q) 8 (b % 8 + z) byte in grind (arith, low.1, shr-shr) in
      (in_rest z in_byte ∙ ap (λ k. k == 1) low.1, λ t from below. not_in_rest t (low.2 (t - b) (omega arith)) from (omega arith))

-- the search from a bit on: first in the rest of its byte, then in the bytes after it
module _ (block : List ℕ) (from end r : ℕ) (is : r ≡ slice_index block (from / 8) / 2 ^ (from % 8)) where
  pub first_in_byte : r ≢ 0 → slice_index block (from / 8) < 256 → then_some (ltb (from + trailing_zeros w8 r) end) (from + trailing_zeros w8 r) ≡ least (bit_at block) from (end - from)
  first_in_byte some byte =
      let low = lowest_in_rest block from (from / 8) r refl is some byte in
      least_reached (bit_at block) from (from + trailing_zeros w8 r) end (omega arith) low.1 low.0

  module _ (last : ℕ) (none : r ≡ 0) where
    abbrev next : Option ℕ
    next = least (filled block) (from / 8 + 1) (last - (from / 8 + 1))

    empty_before : (k : ℕ) → ((t : ℕ) → from / 8 + 1 ≤ t → t < k → filled block t ≡ false) → (t : ℕ) → from ≤ t → t < 8 * k → bit_at block t ≡ false
    empty_before k empty t low high =
        let in_byte = not_in_rest block from (from / 8) r refl is t in
        let after = empty (t / 8) in
        grind (arith, nat_tests, bit_at-zero)

    pub none_after : end ≤ 8 * last → None ≡ next → None ≡ least (bit_at block) from (end - from)
    none_after all e =
        sym (least_none_passes (bit_at block) from (end - from) (λ t low high.
        empty_before last (λ k h h'. least_none (filled block) (from / 8 + 1) (last - (from / 8 + 1)) (sym e) k h (omega arith)) t low (omega arith)))

    pub first_after : (k : ℕ) → Some k ≡ next → slice_index block k < 256 → then_some (ltb (8 * k + trailing_zeros w8 (slice_index block k)) end) (8 * k + trailing_zeros w8 (slice_index block k)) ≡ least (bit_at block) from (end - from)
    first_after k e byte =
        let found = least_some (filled block) (from / 8 + 1) (last - (from / 8 + 1)) k (sym e) in
        let start : 8 * k % 8 ≡ 0 = omega arith in
        let low = lowest_in_rest block (8 * k) k (slice_index block k) (omega arith) (rw start (omega arith)) (grind (arith, nat_tests, found.passes)) byte in
        let before = empty_before k found.first in
        least_reached (bit_at block) from (8 * k + trailing_zeros w8 (slice_index block k)) end (omega (arith, found.low))
        (λ t from below. let here = before t in let there = low.1 t in grind arith) low.0
