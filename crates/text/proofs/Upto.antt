-- The links of an alignment up to a place, in order, and what linking the next pair makes of them.
use Rattle.std.proofs.Common.{◌≡◌, ℕ, suc, ◌-◌, ◌<◌, ◌≤◌, Bool, true, false, ◌&&◌, ◌||◌, eqb, ltb, leb, sym, refl, ap, ◌∙◌, ⊎_elim, arith}
use mathlib.Core.Path.{fun_ext}
use Rattle.std.proofs.lemmas.Bool.{cases_Bool, ne_eqb, both_ways, cases_eq}
use Rattle.std.proofs.lemmas.Bool.Decides.{nat_tests}
use Rattle.alignment.specs.Alignment.{Alignment, Proper, unlinked}
use Rattle.sheet.specs.Edits.{with_link, accepted, linking}
use Rattle.sheet.proofs.EditLaws.{linking_taken}

-- (x, y) comes no later than (i, j), by left word, then right word
abbrev pub up_to : ℕ → ℕ → ℕ → ℕ → Bool
up_to i j x y = ltb x i || (eqb x i && leb y j)

abbrev of_links : Alignment → (ℕ → ℕ → Bool) → Alignment
of_links a h = record { lefts = a.lefts; rights = a.rights; linked = h }

-- the links of a that come no later than (i, j)
abbrev pub upto : Alignment → ℕ → ℕ → Alignment
upto a i j = of_links a (λ x y. up_to i j x y && a.linked x y)

same_links : (a : Alignment) (h k : ℕ → ℕ → Bool) → ((x y : ℕ) → h x y ≡ k x y) → of_links a h ≡ of_links a k
same_links a h k e = ap (of_links a) (fun_ext (λ x. fun_ext (λ y. e x y)))

-- two tests that agree where there is a link
agree : (p q l : Bool) → (l ≡ true → p ≡ q) → (p && l) ≡ (q && l)
agree p q true e = ap (λ b. b && true) (e refl)
agree true true false e = refl
agree true false false e = refl
agree false true false e = refl
agree false false false e = refl

-- one place on, elsewhere nothing changes
step_elsewhere : (i j x y : ℕ) → (x ≡ i → y ≡ suc j → ⊥) → up_to i j x y ≡ up_to i (suc j) x y
step_elsewhere i j x y apart =
    ⊎_elim
    (λ p. ⊎_elim (λ q. absurd (apart p q)) (λ nq. grind (arith, nat_tests)) (cases_eq y (suc j)))
    (λ np. grind (arith, nat_tests))
    (cases_eq x i)

module _ (a : Alignment) (proper : Proper a) where
  pub upto_none : upto a 0 a.rights ≡ unlinked a.lefts a.rights
  upto_none = same_links a _ _ (λ x y. ⊎_elim
      (λ l. let w = proper.inside x y l in grind (arith, nat_tests))
      (λ n. grind (arith, nat_tests))
      (cases_Bool (a.linked x y)))

  pub upto_all : upto a a.lefts a.rights ≡ a
  upto_all = same_links a _ _ (λ x y. ⊎_elim
      (λ l. let w = proper.inside x y l in grind (arith, nat_tests))
      (λ n. grind (arith, nat_tests))
      (cases_Bool (a.linked x y)))

  -- the next row begins where this one ended
  pub upto_row : (i : ℕ) → upto a i a.rights ≡ upto a (suc i) 0
  upto_row i = same_links a _ _ (λ x y. agree _ _ (a.linked x y) (λ l. let w = proper.inside x y l in grind (arith, nat_tests)))

  -- no link at the next place: nothing changes
  pub upto_skip : (i j : ℕ) → a.linked i (suc j) ≡ false → upto a i j ≡ upto a i (suc j)
  upto_skip i j off = same_links a _ _ (λ x y. agree _ _ (a.linked x y) (λ l. step_elsewhere i j x y (λ p q.
      both_ways (a.linked i (suc j)) off (ap (λ k. a.linked k (suc j)) (sym p) ∙ ap (a.linked x) (sym q) ∙ l))))

  -- a link at the next place is added
  pub upto_link : (i j : ℕ) → a.linked i (suc j) ≡ true → with_link (upto a i j) i (suc j) ≡ upto a i (suc j)
  upto_link i j on = same_links a _ _ (λ x y. ⊎_elim
      (λ p. ⊎_elim
      (λ q. let l : a.linked x y ≡ true = ap (λ k. a.linked k y) p ∙ ap (a.linked i) q ∙ on in grind (arith, nat_tests))
      (λ nq. let e = step_elsewhere i j x y (λ _ q. nq q) in grind (arith, nat_tests))
      (cases_eq y (suc j)))
      (λ np. let e = step_elsewhere i j x y (λ p _. np p) in grind (arith, nat_tests))
      (cases_eq x i))

  -- and that is what linking does
  pub linking_next : (i j f : ℕ) → 1 ≤ i → i ≤ a.lefts → suc j ≤ a.rights → a.linked i (suc j) ≡ true → 0 < f → linking (record { sheet = upto a i j; free = f }) i (suc j) ≡ accepted (upto a i (suc j)) (f - 1)
  linking_next i j f low high below on some =
      linking_taken (record { sheet = upto a i j; free = f }) i (suc j) (grind (arith, nat_tests)) (grind (arith, nat_tests)) (grind (arith, nat_tests)) (ne_eqb f 0 (λ e. omega arith))
      ∙ ap (λ b. accepted b (f - 1)) (upto_link i j on)
