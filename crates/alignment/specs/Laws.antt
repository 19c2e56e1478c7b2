-- What the look-ups and the order of links promise, in words of their own.
use Rattle.std.specs.Prelude.{◌≡◌, ℕ, ◌<◌, ◌≤◌, Bool, true, false, ◌&&◌, ◌||◌, ◌⊎◌, List, [], ◌∷◌, length, MatchOption, ◌==◌}
use Rattle.alignment.specs.Alignment.{Alignment, within}
use Rattle.alignment.specs.Links.{links, next_link, in_order}

-- r is a right word from j on that is linked to i, and none between is
pub record LeastLink (a : Alignment) (i j r : ℕ) : Type 0 where
  pub low : j ≤ r
  pub high : r ≤ a.rights
  pub is_linked : a.linked i r ≡ true
  pub first : (t : ℕ) → j ≤ t → t < r → a.linked i t ≡ false

-- no right word from j on is linked to i
abbrev pub NoLink : Alignment → ℕ → ℕ → Type 0
NoLink a i j = (t : ℕ) → j ≤ t → t ≤ a.rights → a.linked i t ≡ false

-- the next link is the least, and there is none only where no word is linked
abbrev pub NextLinkIsLeast : Type 0
NextLinkIsLeast = (a : Alignment) (i j : ℕ) → MatchOption (next_link a i j) (NoLink a i j) (LeastLink a i j)

-- is the pair among those
abbrev pub among : ℕ × ℕ → List (ℕ × ℕ) → Bool
among p [] = false
among p (q ∷ qs) = (p.0 == q.0 && p.1 == q.1) || among p qs

-- one pair comes before another: by left word, then right word
abbrev pub Before : ℕ × ℕ → ℕ × ℕ → Type 0
Before p q = (p.0 < q.0) ⊎ ((p.0 ≡ q.0) × (p.1 < q.1))

abbrev pub BeforeAll : ℕ × ℕ → List (ℕ × ℕ) → Type 0
BeforeAll p [] = Unit {0}
BeforeAll p (q ∷ qs) = Before p q × BeforeAll p qs

-- each pair comes before all that follow it, so none stands twice
abbrev pub Ascending : List (ℕ × ℕ) → Type 0
Ascending [] = Unit {0}
Ascending (p ∷ ps) = BeforeAll p ps × Ascending ps

-- a list of just the links, each once, by left word and then right word
pub record AllLinks (a : Alignment) (ps : List (ℕ × ℕ)) : Type 0 where
  pub ascends : Ascending ps
  pub has : (i j : ℕ) → among (i, j) ps ≡ (within a.lefts i && (within a.rights j && a.linked i j))
  pub counts : length ps ≡ links a

abbrev pub LinksInOrder : Type 0
LinksInOrder = (a : Alignment) → AllLinks a (in_order a)
