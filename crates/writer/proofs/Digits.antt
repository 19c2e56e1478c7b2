-- How many digits a number has in decimal, and its digits from the last one on.
use Rattle.std.proofs.Common.{◌≡◌, ℕ, zero, suc, ◌+◌, ◌-◌, ◌/◌, ◌%◌, ◌*◌, ◌^◌, ◌<◌, ◌≤◌, max, List, [], ◌∷◌, ◌++◌, length, drop, set, decimal, sym, ap, ◌∙◌, ⊎_elim, append_assoc, arith, length-append, pow-suc}
use Rattle.std.proofs.Math.Nat.{one-le-pow}
use Rattle.std.proofs.lemmas.Bool.{cases_lt}
use Rattle.std.proofs.lemmas.Fmt.{decimal_digit, decimal_step}
use Rattle.std.proofs.lemmas.List.{drop-set}

pub one_digit : (n : ℕ) → n < 10 → length (decimal n) ≡ 1
one_digit n h = ap length (decimal_digit n h)

pub one_more_digit : (n : ℕ) → 10 ≤ n → n < 2 ^ 64 → length (decimal n) ≡ length (decimal (n / 10)) + 1
one_more_digit n h f = ap length (decimal_step n h f) ∙ length-append (decimal (n / 10)) ((48 + n % 10) ∷ [])

-- the whole part of the logarithm to base 10 tells how many digits there are; 0 has one too
pub length_decimal : (k n : ℕ) → 10 ^ k ≤ max n 1 → max n 1 < 10 * 10 ^ k → n < 2 ^ 64 → length (decimal n) ≡ k + 1
length_decimal zero n low high f = one_digit n (omega arith)
length_decimal (suc k) n low high f =
    let some = one-le-pow k 10 (omega arith) in
    let more = pow-suc 10 k in
    let rest = length_decimal k (n / 10) (omega arith) (omega arith) (omega arith) in
    omega (arith, one_more_digit n (omega arith) f)

pub some_digit : (n : ℕ) → n < 2 ^ 64 → 1 ≤ length (decimal n)
some_digit n f = ⊎_elim (λ less. omega (arith, one_digit n less)) (λ more. omega (arith, one_more_digit n more f)) (cases_lt n 10)

-- a number has more than one digit from 10 on
pub more_than_one : (n : ℕ) → n < 2 ^ 64 → 1 < length (decimal n) → 10 ≤ n
more_than_one n f h = ⊎_elim (λ less. absurd (omega (arith, one_digit n less))) (λ more. more) (cases_lt n 10)

pub only_one : (n : ℕ) → n < 2 ^ 64 → length (decimal n) ≡ 1 → n < 10
only_one n f h = ⊎_elim (λ less. less) (λ more. absurd (omega (arith, one_more_digit n more f, some_digit (n / 10) (omega arith)))) (cases_lt n 10)

-- the digit before place k is written, and those of n / 10 are left
pub last_digit : (n k : ℕ) (part : List ℕ) → 10 ≤ n → n < 2 ^ 64 → 0 < k → k ≤ length part →
    decimal (n / 10) ++ drop (k - 1) (set part (k - 1) (48 + n % 10)) ≡ decimal n ++ drop k part
last_digit n zero part h f some l = absurd (omega arith)
last_digit n (suc k) part h f some l = rw (decimal_step n h f) (grind (arith, drop-set, append_assoc))

-- the first digit is written, and none is left
pub first_digit : (n : ℕ) (part : List ℕ) → n < 10 → 0 < length part → set part 0 (48 + n) ≡ decimal n ++ drop 1 part
first_digit n [] h l = absurd (omega arith)
first_digit n (b ∷ part) h l = ap (λ x. x ++ part) (sym (decimal_digit n h))
