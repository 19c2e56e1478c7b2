-- Alignments made of others: turned round, cut out, and put together.
use Rattle.std.specs.Prelude.{ℕ, ◌+◌, ◌-◌, min, max, ◌&&◌, ◌||◌}
use Rattle.alignment.specs.Alignment.{Alignment, within}

-- the sides exchanged
abbrev pub swapped : Alignment → Alignment
swapped a = record { lefts = a.rights; rights = a.lefts; linked = λ i j. a.linked j i }

-- of m right words, the one that stands as far from the end as j does from the start
abbrev pub opposite : ℕ → ℕ → ℕ
opposite m j = m + 1 - j

-- the right words in the other order
abbrev pub mirrored : Alignment → Alignment
mirrored a = record { lefts = a.lefts; rights = a.rights; linked = λ i j. within a.rights j && a.linked i (opposite a.rights j) }

-- n left words from word x on and m right words from word y on; words that are not there are loose
abbrev pub windowed : ℕ → ℕ → ℕ → ℕ → Alignment → Alignment
windowed x n y m a = record { lefts = n; rights = m; linked = λ i j. within n i && (within m j && a.linked (x + i - 1) (y + j - 1)) }

-- the larger length on each side, and the links of either
abbrev pub united : Alignment → Alignment → Alignment
united a b = record { lefts = max a.lefts b.lefts; rights = max a.rights b.rights; linked = λ i j. a.linked i j || b.linked i j }

-- the smaller length on each side, and the links in both
abbrev pub intersected : Alignment → Alignment → Alignment
intersected a b = record { lefts = min a.lefts b.lefts; rights = min a.rights b.rights; linked = λ i j. a.linked i j && b.linked i j }
