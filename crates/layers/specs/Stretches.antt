-- Stretches of words: which are made, and how their words stand for words below.
use Rattle.std.specs.Prelude.{ℕ, ◌+◌, ◌-◌, cond, ◌&&◌, Some, None, Ok, Err, Option, Result, nat_le, nat_lt}
use Rattle.alignment.specs.Alignment.{within, most_words}
use Rattle.sheet.specs.declared.refusal.Refusal.{Refusal}
use Rattle.sheet.specs.declared.refusal.Refusal.TheVariants.{LengthOutOfRange}
use Rattle.layers.specs.declared.window.Stretch.{Stretch}

-- n words from word x on, or a refusal where one of the two numbers is not one of 1 .. 512
abbrev pub check_stretch : ℕ → ℕ → Result (ℕ × ℕ) Refusal
check_stretch x n = cond (within most_words x && within most_words n) (Ok (x, n)) (Err LengthOutOfRange)

-- a checked stretch by its two numbers
abbrev pub measured : {E : Type 0} → Result Stretch E → Result (ℕ × ℕ) E
measured (Ok s) = Ok (s.first, s.length)
measured (Err e) = Err e

-- the word below that word i of n words from word x on stands for
abbrev pub word_below : ℕ → ℕ → ℕ → Option ℕ
word_below x n i = cond (within n i) (Some (x + i - 1)) None

-- the word of n words from word x on that stands for word w below
abbrev pub word_inside : ℕ → ℕ → ℕ → Option ℕ
word_inside x n w = cond (nat_le x w && nat_lt w (x + n)) (Some (w - x + 1)) None
