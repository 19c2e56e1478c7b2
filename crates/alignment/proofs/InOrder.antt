-- The links in order: how the rows grow, and where there is no link.
use Rattle.std.proofs.Common.{◌≡◌, ℕ, zero, suc, ◌<◌, ◌≤◌, Bool, false, cond, List, [], ◌∷◌, ◌++◌, sym, refl, ap, ◌∙◌, ⊎_elim, append_assoc, append-nil, arith}
use Rattle.std.proofs.lemmas.Bool.{cond-false, cases_Bool, cases_lt}
use Rattle.alignment.specs.Alignment.{Alignment, Proper}
use Rattle.alignment.specs.Links.{row, rows}

-- a list that grows by a part at each number, as a row and the rows do
module _ {X : Type 0} (f part : ℕ → List X) (step : (n : ℕ) → f (suc n) ≡ f n ++ part (suc n)) where
  -- an earlier list is the front of a later one
  pub grown : (m n : ℕ) → m ≤ n → (s : List X) × (f n ≡ f m ++ s)
  grown m zero le = ([], ap f (omega arith) ∙ sym (append-nil (f m)))
  grown m (suc n) le =
      ⊎_elim
      (λ lt. let p = grown m n (omega arith) in (p.0 ++ part (suc n), step n ∙ ap (λ x. x ++ part (suc n)) p.1 ∙ append_assoc (f m) p.0 (part (suc n))))
      (λ ge. ([], ap f (omega arith) ∙ sym (append-nil (f m))))
      (cases_lt m (suc n))

  -- it is the same where every part between is empty
  pub unchanged : (m n : ℕ) → m ≤ n → ((t : ℕ) → m < t → t ≤ n → part t ≡ []) → f n ≡ f m
  unchanged m zero le none = ap f (omega arith)
  unchanged m (suc n) le none =
      ⊎_elim
      (λ lt. step n ∙ ap (λ x. f n ++ x) (none (suc n) lt (omega arith)) ∙ append-nil (f n) ∙ unchanged m n (omega arith) (λ t lo hi. none t lo (omega arith)))
      (λ ge. ap f (omega arith))
      (cases_lt m (suc n))

module _ (h : ℕ → ℕ → Bool) where
  pub row_grown : (i m n : ℕ) → m ≤ n → (s : List (ℕ × ℕ)) × (row h i n ≡ row h i m ++ s)
  row_grown i = grown (row h i) (λ t. cond (h i t) ((i, t) ∷ []) []) (λ _. refl)

  pub row_unchanged : (i m n : ℕ) → m ≤ n → ((t : ℕ) → m < t → t ≤ n → h i t ≡ false) → row h i n ≡ row h i m
  row_unchanged i m n le none = unchanged (row h i) (λ t. cond (h i t) ((i, t) ∷ []) []) (λ _. refl) m n le (λ t lo hi. cond-false (h i t) _ _ (none t lo hi))

  pub rows_grown : (m i n : ℕ) → i ≤ n → (s : List (ℕ × ℕ)) × (rows h n m ≡ rows h i m ++ s)
  rows_grown m = grown (λ n. rows h n m) (λ i. row h i m) (λ _. refl)

  pub rows_unchanged : (m i n : ℕ) → i ≤ n → ((t : ℕ) → i < t → t ≤ n → row h t m ≡ []) → rows h n m ≡ rows h i m
  rows_unchanged m = unchanged (λ n. rows h n m) (λ i. row h i m) (λ _. refl)

  pub row_none : (i m : ℕ) → ((t : ℕ) → 1 ≤ t → h i t ≡ false) → row h i m ≡ []
  row_none i m none = row_unchanged i 0 m (omega arith) (λ t lo hi. none t lo)

-- there is no link outside the words
pub unlinked_outside : (a : Alignment) → Proper a → (i j : ℕ) → ((1 ≤ i) × (i ≤ a.lefts) × (1 ≤ j) × (j ≤ a.rights) → ⊥) → a.linked i j ≡ false
unlinked_outside a ok i j out = ⊎_elim (λ y. absurd (out (ok.inside i j y))) (λ f. f) (cases_Bool (a.linked i j))
