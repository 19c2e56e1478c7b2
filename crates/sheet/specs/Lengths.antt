-- The test of a length, and what making a pair of lengths answers.
use Rattle.std.specs.Prelude.{ℕ, Bool, cond, ◌&&◌, Ok, Err, Result}
use Rattle.alignment.specs.Alignment.{within, most_words}
use Rattle.sheet.specs.declared.refusal.Refusal.{Refusal}
use Rattle.sheet.specs.declared.refusal.Refusal.TheVariants.{LengthOutOfRange}
use Rattle.sheet.specs.declared.lengths.Lengths.{Lengths}

-- a length is one of 1 .. 512
abbrev pub length_fits : ℕ → Bool
length_fits n = within most_words n

-- a number has to be a length
abbrev pub check_length : ℕ → Result (Unit {0}) Refusal
check_length n = cond (length_fits n) (Ok tt) (Err LengthOutOfRange)

-- two lengths in range, or a refusal
abbrev pub check_lengths : ℕ → ℕ → Result (ℕ × ℕ) Refusal
check_lengths n m = cond (length_fits n && length_fits m) (Ok (n, m)) (Err LengthOutOfRange)

-- a checked pair by its two numbers
abbrev pub measured : {E : Type 0} → Result Lengths E → Result (ℕ × ℕ) E
measured (Ok l) = Ok (l.left, l.right)
measured (Err e) = Err e
