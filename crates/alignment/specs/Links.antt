-- The links of an alignment: how many there are, which words have one, which comes next, and all of them in order.
use Rattle.std.specs.Prelude.{ℕ, zero, suc, ◌+◌, ◌-◌, Bool, false, cond, ◌||◌, List, [], ◌∷◌, ◌++◌, Some, None, Option}
use Rattle.alignment.specs.Alignment.{Alignment}

-- does one of 1 .. n pass
abbrev pub some : (ℕ → Bool) → ℕ → Bool
some p zero = false
some p (suc n) = p (suc n) || some p n

-- how many of 1 .. n pass
abbrev pub count : (ℕ → Bool) → ℕ → ℕ
count p zero = 0
count p (suc n) = cond (p (suc n)) 1 0 + count p n

-- f 1 + .. + f n
abbrev pub sum : (ℕ → ℕ) → ℕ → ℕ
sum f zero = 0
sum f (suc n) = f (suc n) + sum f n

-- the least of k, k + 1, .., k + n - 1 that passes
abbrev pub least : (ℕ → Bool) → ℕ → ℕ → Option ℕ
least p k zero = None
least p k (suc n) = cond (p k) (Some k) (least p (k + 1) n)

-- how many links there are
abbrev pub links : Alignment → ℕ
links a = sum (λ i. count (a.linked i) a.rights) a.lefts

-- left word i has a link; a word without one is loose
abbrev pub left_linked : Alignment → ℕ → Bool
left_linked a i = some (a.linked i) a.rights

-- the least right word at or after j that is linked to i
abbrev pub next_link : Alignment → ℕ → ℕ → Option ℕ
next_link a i j = least (a.linked i) j (a.rights + 1 - j)

-- the links of left word i to the right words 1 .. m, by right word
abbrev pub row : (ℕ → ℕ → Bool) → ℕ → ℕ → List (ℕ × ℕ)
row h i zero = []
row h i (suc m) = row h i m ++ cond (h i (suc m)) ((i, suc m) ∷ []) []

-- the links of the left words 1 .. n to the right words 1 .. m, by left word, then right word
abbrev pub rows : (ℕ → ℕ → Bool) → ℕ → ℕ → List (ℕ × ℕ)
rows h zero m = []
rows h (suc n) m = rows h n m ++ row h (suc n) m

-- all links, by left word, then right word
abbrev pub in_order : Alignment → List (ℕ × ℕ)
in_order a = rows a.linked a.lefts a.rights
