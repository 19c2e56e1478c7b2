-- The last link of a left word at or before a right word.
use Rattle.std.specs.Prelude.{ℕ, zero, suc, Bool, cond, Some, None, Option}
use Rattle.alignment.specs.Alignment.{Alignment}

-- the greatest of 1 .. n that passes
abbrev pub greatest : (ℕ → Bool) → ℕ → Option ℕ
greatest p zero = None
greatest p (suc n) = cond (p (suc n)) (Some (suc n)) (greatest p n)

-- the greatest right word at or before j that is linked to i
abbrev pub last_link : Alignment → ℕ → ℕ → Option ℕ
last_link a i j = greatest (a.linked i) j
