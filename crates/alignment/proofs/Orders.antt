-- The next link is the least, and the links in order are all links.
use Rattle.std.proofs.Common.{◌≡◌, ℕ, zero, suc, ◌<◌, ◌≤◌, Bool, true, false, cond, ◌&&◌, ◌||◌, eqb, ◌⊎◌, List, [], ◌∷◌, ◌++◌, length, Some, None, Option, refl, ap, ◌∙◌, inl, inr, ⊎_elim, arith, length-append, MatchOption}
use Rattle.std.proofs.lemmas.Bool.{cases_eq}
use Rattle.std.proofs.lemmas.Bool.Decides.{nat_tests}
use Rattle.alignment.specs.Alignment.{Alignment, within}
use Rattle.alignment.specs.Links.{count, sum, next_link, row, rows}
use Rattle.alignment.specs.Laws.{LeastLink, NoLink, NextLinkIsLeast, among, Before, BeforeAll, Ascending, LinksInOrder}
use Rattle.alignment.proofs.Least.{next_found, next_none}

next_cases : (a : Alignment) (i j : ℕ) (o : Option ℕ) → next_link a i j ≡ o → MatchOption o (NoLink a i j) (LeastLink a i j)
next_cases a i j None e = next_none a i j e
next_cases a i j (Some r) e =
    let f = next_found a i j r e in
    let low = f.low in
    let high = f.high in
    record { low = low; high = omega arith; is_linked = f.passes; first = f.first }

pub next_link_is_least : NextLinkIsLeast
next_link_is_least a i j = next_cases a i j (next_link a i j) refl

-- all of ps come before all of qs
abbrev AllBefore : List (ℕ × ℕ) → List (ℕ × ℕ) → Type 0
AllBefore [] qs = Unit {0}
AllBefore (p ∷ ps) qs = BeforeAll p qs × AllBefore ps qs

before_append : (p : ℕ × ℕ) (ps qs : List (ℕ × ℕ)) → BeforeAll p ps → BeforeAll p qs → BeforeAll p (ps ++ qs)
before_append p [] qs x y = y
before_append p (q ∷ ps) qs x y = (x.0, before_append p ps qs x.1 y)

ascending_append : (ps qs : List (ℕ × ℕ)) → Ascending ps → Ascending qs → AllBefore ps qs → Ascending (ps ++ qs)
ascending_append [] qs x y z = y
ascending_append (p ∷ ps) qs x y z = (before_append p ps qs x.0 z.0, ascending_append ps qs x.1 y z.1)

-- a pair that comes after all pairs up to (i, j)
abbrev UpTo : ℕ → ℕ → ℕ × ℕ → Type 0
UpTo i j p = (p.0 < i) ⊎ ((p.0 ≡ i) × (p.1 ≤ j))

abbrev AllUpTo : ℕ → ℕ → List (ℕ × ℕ) → Type 0
AllUpTo i j [] = Unit {0}
AllUpTo i j (p ∷ ps) = UpTo i j p × AllUpTo i j ps

up_to_append : (i j : ℕ) (ps qs : List (ℕ × ℕ)) → AllUpTo i j ps → AllUpTo i j qs → AllUpTo i j (ps ++ qs)
up_to_append i j [] qs x y = y
up_to_append i j (p ∷ ps) qs x y = (x.0, up_to_append i j ps qs x.1 y)

up_to_weaker : (i j k l : ℕ) → ((p : ℕ × ℕ) → UpTo i j p → UpTo k l p) → (ps : List (ℕ × ℕ)) → AllUpTo i j ps → AllUpTo k l ps
up_to_weaker i j k l w [] x = tt
up_to_weaker i j k l w (p ∷ ps) x = (w p x.0, up_to_weaker i j k l w ps x.1)

-- what comes up to (i, j) comes before the pairs of the row after it
before_one : (i j x y : ℕ) (p : ℕ × ℕ) → UpTo i j p → (i < x) ⊎ ((i ≡ x) × (j < y)) → Before p (x, y)
before_one i j x y p (inl a) (inl b) = inl (omega arith)
before_one i j x y p (inl a) (inr b) = inl (omega (arith, b.0))
before_one i j x y p (inr a) (inl b) = inl (omega (arith, a.0))
before_one i j x y p (inr a) (inr b) = inr (omega (arith, a.0, b.0), omega (arith, a.1, b.1))

before_next : (i j x y : ℕ) (b : Bool) (ps : List (ℕ × ℕ)) → AllUpTo i j ps → (i < x) ⊎ ((i ≡ x) × (j < y)) → AllBefore ps (cond b ((x, y) ∷ []) [])
before_next i j x y b [] u l = tt
before_next i j x y true (p ∷ ps) u l = ((before_one i j x y p u.0 l, tt), before_next i j x y true ps u.1 l)
before_next i j x y false (p ∷ ps) u l = (tt, before_next i j x y false ps u.1 l)

one_up_to : (i j : ℕ) (b : Bool) → AllUpTo i j (cond b ((i, j) ∷ []) [])
one_up_to i j true = (inr (refl, omega arith), tt)
one_up_to i j false = tt

one_ascends : (i j : ℕ) (b : Bool) → Ascending (cond b ((i, j) ∷ []) [])
one_ascends i j true = (tt, tt)
one_ascends i j false = tt

before_none : (ps : List (ℕ × ℕ)) → AllBefore ps []
before_none [] = tt
before_none (p ∷ ps) = (tt, before_none ps)

all_before_append : (ps qs rs : List (ℕ × ℕ)) → AllBefore ps qs → AllBefore ps rs → AllBefore ps (qs ++ rs)
all_before_append [] qs rs x y = tt
all_before_append (p ∷ ps) qs rs x y = (before_append p qs rs x.0 y.0, all_before_append ps qs rs x.1 y.1)

pub among_append : (p : ℕ × ℕ) (ps qs : List (ℕ × ℕ)) → among p (ps ++ qs) ≡ (among p ps || among p qs)
among_append p [] qs = refl
among_append p (q ∷ ps) qs = ap (λ b. (eqb p.0 q.0 && eqb p.1 q.1) || b) (among_append p ps qs) ∙ grind arith

length_one : (b : Bool) (p : ℕ × ℕ) → length (cond b (p ∷ []) []) ≡ cond b 1 0
length_one true p = refl
length_one false p = refl

among_one : (b : Bool) (x y i j : ℕ) → among (x, y) (cond b ((i, j) ∷ []) []) ≡ (b && (eqb x i && eqb y j))
among_one true x y i j = grind arith
among_one false x y i j = refl

module _ (h : ℕ → ℕ → Bool) where
  row_up_to : (i m : ℕ) → AllUpTo i m (row h i m)
  row_up_to i zero = tt
  row_up_to i (suc m) =
      up_to_append i (suc m) (row h i m) _
      (up_to_weaker i m i (suc m) (λ p. ⊎_elim inl (λ q. inr (q.0, omega (arith, q.1)))) (row h i m) (row_up_to i m))
      (one_up_to i (suc m) (h i (suc m)))

  row_ascends : (i m : ℕ) → Ascending (row h i m)
  row_ascends i zero = tt
  row_ascends i (suc m) =
      ascending_append (row h i m) _ (row_ascends i m) (one_ascends i (suc m) (h i (suc m)))
      (before_next i m i (suc m) (h i (suc m)) (row h i m) (row_up_to i m) (inr (refl, omega arith)))

  rows_up_to : (n m : ℕ) → AllUpTo n m (rows h n m)
  rows_up_to zero m = tt
  rows_up_to (suc n) m =
      up_to_append (suc n) m (rows h n m) _
      (up_to_weaker n m (suc n) m (λ p. ⊎_elim (λ q. inl (omega arith)) (λ q. inl (omega (arith, q.0)))) (rows h n m) (rows_up_to n m))
      (row_up_to (suc n) m)

  rows_before_row : (n m k : ℕ) → AllBefore (rows h n m) (row h (suc n) k)
  rows_before_row n m zero = before_none (rows h n m)
  rows_before_row n m (suc k) =
      all_before_append (rows h n m) (row h (suc n) k) _ (rows_before_row n m k)
      (before_next n m (suc n) (suc k) (h (suc n) (suc k)) (rows h n m) (rows_up_to n m) (inl (omega arith)))

  rows_ascend : (n m : ℕ) → Ascending (rows h n m)
  rows_ascend zero m = tt
  rows_ascend (suc n) m = ascending_append (rows h n m) _ (rows_ascend n m) (row_ascends (suc n) m) (rows_before_row n m m)

  among_row : (x y i m : ℕ) → among (x, y) (row h i m) ≡ (eqb x i && (within m y && h i y))
  among_row x y i zero = grind (arith, nat_tests)
  among_row x y i (suc m) =
      let one = among_one (h i (suc m)) x y i (suc m) in
      let here = among_row x y i m in
      among_append (x, y) (row h i m) _
      ∙ ⊎_elim
      (λ e. let l : h i y ≡ h i (suc m) = ap (h i) e in grind (arith, nat_tests))
      (λ ne. grind (arith, nat_tests))
      (cases_eq y (suc m))

  among_rows : (x y n m : ℕ) → among (x, y) (rows h n m) ≡ (within n x && (within m y && h x y))
  among_rows x y zero m = grind (arith, nat_tests)
  among_rows x y (suc n) m =
      let last = among_row x y (suc n) m in
      let here = among_rows x y n m in
      among_append (x, y) (rows h n m) _
      ∙ ⊎_elim
      (λ e. let l : h x y ≡ h (suc n) y = ap (λ k. h k y) e in grind (arith, nat_tests))
      (λ ne. grind (arith, nat_tests))
      (cases_eq x (suc n))

  row_length : (i m : ℕ) → length (row h i m) ≡ count (h i) m
  row_length i zero = refl
  row_length i (suc m) = length-append (row h i m) _ ∙ omega (arith, row_length i m, length_one (h i (suc m)) (i, suc m))

  rows_length : (n m : ℕ) → length (rows h n m) ≡ sum (λ i. count (h i) m) n
  rows_length zero m = refl
  rows_length (suc n) m = length-append (rows h n m) _ ∙ omega (arith, rows_length n m, row_length (suc n) m)

pub links_in_order : LinksInOrder
links_in_order a = record {
  ascends = rows_ascend a.linked a.lefts a.rights;
  has = λ i j. among_rows a.linked i j a.lefts a.rights;
  counts = rows_length a.linked a.lefts a.rights;
}
