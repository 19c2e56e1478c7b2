-- A text as its lines, and a line as its fields.
use Rattle.std.specs.Prelude.{ℕ, ◌+◌, Bool, cond, ◌&&◌, ◌||◌, List, [], ◌∷◌, ◌==◌, nat_le}
use Rattle.std.specs.List.{slice_split, list_all}
use Rattle.text.specs.Letters.{tab, feed}

-- the pieces before, between and after the separators
abbrev pub pieces : ℕ → List ℕ → List (List ℕ)
pieces sep bs = slice_split (λ b. b == sep) bs

-- all but the last
abbrev pub front : List (List ℕ) → List (List ℕ)
front [] = []
front (p ∷ []) = []
front (p ∷ q ∷ qs) = p ∷ front (q ∷ qs)

-- each line ends in a line feed, so what stands after the last one is no line
unfoldable pub lines : List ℕ → List (List ℕ)
lines text = front (pieces feed text)

-- the place after the first line feed
abbrev pub line_end : List ℕ → ℕ
line_end [] = 0
line_end (b ∷ bs) = cond (b == feed) 1 (1 + line_end bs)

unfoldable pub fields : List ℕ → List (List ℕ)
fields line = pieces tab line

-- a line holds tabs and the visible bytes 33 .. 126
abbrev pub clean : ℕ → Bool
clean b = b == tab || (nat_le 33 b && nat_le b 126)

abbrev pub all_clean : List ℕ → Bool
all_clean bs = list_all clean bs
