-- The links of an alignment from two words on, as a walk comes to them.
use Rattle.std.specs.Prelude.{ℕ, ◌+◌, ◌-◌, Bool, cond, List, [], ◌∷◌, ◌++◌}
use Rattle.std.specs.List.{flat_map, range_with_len}
use Rattle.alignment.specs.Alignment.{Alignment}

-- the links of left word i to the k right words from j on, by right word
abbrev pub row_from : (ℕ → ℕ → Bool) → ℕ → ℕ → ℕ → List (ℕ × ℕ)
row_from h i j k = flat_map (λ t. cond (h i t) ((i, t) ∷ []) []) (range_with_len j k)

-- the links of the k left words from i on to the right words 1 .. m, by left word, then right word
abbrev pub rows_from : (ℕ → ℕ → Bool) → ℕ → ℕ → ℕ → List (ℕ × ℕ)
rows_from h m i k = flat_map (λ s. row_from h s 1 m) (range_with_len i k)

-- the links from the two words i and j on, in order
abbrev pub links_from : Alignment → ℕ → ℕ → List (ℕ × ℕ)
links_from a i j = row_from a.linked i j (a.rights + 1 - j) ++ rows_from a.linked a.rights (i + 1) (a.lefts - i)
