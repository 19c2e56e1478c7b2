-- An alignment: the left words of a sentence, the right words of its translation, and which pairs of them are linked.
use Rattle.std.specs.Prelude.{◌≡◌, ℕ, ◌≤◌, Bool, true, false, ◌&&◌, nat_le}

-- the most words on a side
abbrev pub most_words : ℕ
most_words = 512

-- is i one of the words 1 .. n
abbrev pub within : ℕ → ℕ → Bool
within n i = nat_le 1 i && nat_le i n

-- words are numbered from 1 on either side
pub record Alignment : Type 0 where
  pub lefts : ℕ
  pub rights : ℕ
  pub linked : ℕ → ℕ → Bool

-- both lengths lie in 1 .. 512, and no link leaves the words
pub record Proper (a : Alignment) : Type 0 where
  pub lefts_low : 1 ≤ a.lefts
  pub lefts_high : a.lefts ≤ most_words
  pub rights_low : 1 ≤ a.rights
  pub rights_high : a.rights ≤ most_words
  pub inside : (i j : ℕ) → a.linked i j ≡ true → (1 ≤ i) × (i ≤ a.lefts) × (1 ≤ j) × (j ≤ a.rights)

-- no links yet between n left words and m right words
abbrev pub unlinked : ℕ → ℕ → Alignment
unlinked n m = record { lefts = n; rights = m; linked = λ _ _. false }
