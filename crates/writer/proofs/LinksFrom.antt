-- A walk through the links: what is left at each step of it.
use Rattle.std.proofs.Common.{◌≡◌, ℕ, zero, suc, ◌+◌, ◌-◌, ◌<◌, ◌≤◌, Bool, cond, List, [], ◌∷◌, ◌++◌, Some, None, sym, refl, ap, ◌∙◌, ⊎_elim, zero-add, append_assoc, append-nil, arith}
use Rattle.std.specs.List.{flat_map, range_with_len}
use Rattle.std.proofs.lemmas.Bool.{cases_Bool, cases_lt}
use Rattle.alignment.specs.Alignment.{Alignment, Proper}
use Rattle.alignment.specs.Links.{least, next_link, row, rows, in_order}
use Rattle.alignment.proofs.InOrder.{unlinked_outside}
use Rattle.alignment.proofs.Least.{next_found, next_link_none}
use Rattle.writer.specs.LinksFrom.{row_from, rows_from, links_from}

-- a list that grows by a part at each number is the parts one after another
module _ {X : Type 0} (f part : ℕ → List X) (step : (n : ℕ) → f (suc n) ≡ f n ++ part (suc n)) where
  parts_on : (n k : ℕ) → f n ++ flat_map part (range_with_len (n + 1) k) ≡ f (n + k)
  parts_on n zero = grind (arith, append-nil)
  parts_on n (suc k) = grind (arith, append_assoc, step n, parts_on (suc n) k)

module _ (h : ℕ → ℕ → Bool) where
  row_all : (i m : ℕ) → row_from h i 1 m ≡ row h i m
  row_all i m = parts_on (row h i) (λ t. cond (h i t) ((i, t) ∷ []) []) (λ _. refl) 0 m ∙ ap (row h i) (zero-add m)

  rows_all : (n m : ℕ) → rows_from h m 1 n ≡ rows h n m
  rows_all n m = parts_on (λ k. rows h k m) (λ s. row_from h s 1 m) (λ k. ap (λ x. rows h k m ++ x) (sym (row_all (suc k) m))) 0 n ∙ ap (λ k. rows h k m) (zero-add n)

  row_found : (i j k n r : ℕ) → k ≡ n - j → least (h i) j k ≡ Some r → row_from h i j k ≡ (i, r) ∷ row_from h i (r + 1) (n - (r + 1))
  row_found i j zero n r long e = cc
  row_found i j (suc k) n r long e = ⊎_elim (λ on. grind arith) (λ off. grind (arith, row_found i (j + 1) k n r)) (cases_Bool (h i j))

  row_none : (i j k : ℕ) → least (h i) j k ≡ None → row_from h i j k ≡ []
  row_none i j zero e = refl
  row_none i j (suc k) e = ⊎_elim (λ on. grind arith) (λ off. grind (arith, row_none i (j + 1) k)) (cases_Bool (h i j))

module _ (a : Alignment) (ok : Proper a) where
  -- from the first words on stand all links
  pub all_links : links_from a 1 1 ≡ in_order a
  all_links =
      let some = ok.lefts_low in
      let same : suc (a.lefts - 1) ≡ a.lefts = omega arith in
      grind (arith, same, rows_all a.linked (suc (a.lefts - 1)) a.rights)

  -- past the last left word there are none
  pub past_last : (i j : ℕ) → a.lefts < i → links_from a i j ≡ []
  past_last i j h =
      let none = next_link_none a i j (λ t. unlinked_outside a ok i t (λ p. omega (arith, p.1))) in
      grind (arith, row_none a.linked i j (a.rights + 1 - j) none)

  -- where left word i has no more links, the walk goes on at the next one
  pub next_left : (i j : ℕ) → i ≤ a.lefts → None ≡ next_link a i j → links_from a (i + 1) 1 ≡ links_from a i j
  next_left i j h e =
      let none = row_none a.linked i j (a.rights + 1 - j) (sym e) in
      ⊎_elim
      (λ lt. let more : a.lefts - i ≡ suc (a.lefts - (i + 1)) = omega arith in grind (arith, none, more))
      (λ ge. grind (arith, none, past_last (i + 1) 1))
      (cases_lt i a.lefts)

  module _ (i j r : ℕ) (e : Some r ≡ next_link a i j) where
    -- the next link of left word i, and the links after it
    pub found : links_from a i j ≡ (i, r) ∷ links_from a i (r + 1)
    found = ap (λ x. x ++ rows_from a.linked a.rights (i + 1) (a.lefts - i)) (row_found a.linked i j (a.rights + 1 - j) (a.rights + 1) r refl (sym e))

    pub found_small : r ≤ 512
    found_small = let next = next_found a i j r (sym e) in omega (arith, next.low, next.high, ok.rights_high)
