-- The least that passes, step by step and in words of its own.
use Rattle.std.proofs.Common.{◌≡◌, ℕ, zero, suc, ◌+◌, ◌-◌, ◌<◌, ◌≤◌, Bool, true, false, Some, None, Option, sym, refl, ap, ◌∙◌, ⊎_elim, arith}
use Rattle.std.proofs.lemmas.Bool.{cond-true, cond-false, cases_Bool, cases_eq, cases_lt}
use Rattle.alignment.specs.Alignment.{Alignment, Proper}
use Rattle.alignment.specs.Links.{least, next_link}

one_left : (k n : ℕ) → k < n → n - k ≡ suc (n - (k + 1))
one_left k n h = omega arith

pub least_here : (p : ℕ → Bool) (k n : ℕ) → k < n → p k ≡ true → least p k (n - k) ≡ Some k
least_here p k n h on = ap (least p k) (one_left k n h) ∙ cond-true (p k) _ _ on

pub least_next : (p : ℕ → Bool) (k n : ℕ) → k < n → p k ≡ false → least p k (n - k) ≡ least p (k + 1) (n - (k + 1))
least_next p k n h off = ap (least p k) (one_left k n h) ∙ cond-false (p k) _ _ off

pub least_none_passes : (p : ℕ → Bool) (k n : ℕ) → ((t : ℕ) → k ≤ t → t < k + n → p t ≡ false) → least p k n ≡ None
least_none_passes p k zero off = refl
least_none_passes p k (suc n) off =
    cond-false (p k) _ _ (off k (omega arith) (omega arith)) ∙ least_none_passes p (k + 1) n (λ t l h. off t (omega arith) (omega arith))

-- d places on, where none of those between passes
pub least_skips : (p : ℕ → Bool) (d k n : ℕ) → ((t : ℕ) → k ≤ t → t < k + d → p t ≡ false) → least p k (n - k) ≡ least p (k + d) (n - (k + d))
least_skips p zero k n off = let e : k ≡ k + zero = omega arith in ap (λ x. least p x (n - x)) e
least_skips p (suc d) k n off =
    let step : least p k (n - k) ≡ least p (k + 1) (n - (k + 1)) =
    ⊎_elim
    (λ (h : k < n). least_next p k n h (off k (omega arith) (omega arith)))
    (λ (h : n ≤ k). let a : n - k ≡ 0 = omega arith in let b : n - (k + 1) ≡ 0 = omega arith in ap (least p k) a ∙ sym (ap (least p (k + 1)) b))
    (cases_lt k n) in
    let e : k + 1 + d ≡ k + suc d = omega arith in
    step ∙ least_skips p d (k + 1) n (λ t l h. off t (omega arith) (omega arith)) ∙ ap (λ x. least p x (n - x)) e

-- the number that stands as far from e as r stands from d
abbrev pub shifted : ℕ → ℕ → Option ℕ → Option ℕ
shifted d e (Some r) = Some (r - d + e)
shifted d e None = None

-- the same test over shifted numbers has the same least, shifted
pub least_shifts : (p q : ℕ → Bool) (d e k n : ℕ) → ((t : ℕ) → k ≤ t → t < k + n → q (e + t) ≡ p (d + t)) → least q (e + k) n ≡ shifted d e (least p (d + k) n)
least_shifts p q d e k zero same = refl
least_shifts p q d e k (suc n) same =
    let here : q (e + k) ≡ p (d + k) = same k (omega arith) (omega arith) in
    ⊎_elim
    (λ t.
    let at : e + k ≡ d + k - d + e = omega arith in
    cond-true (q (e + k)) _ _ (here ∙ t) ∙ ap Some at ∙ sym (ap (shifted d e) (cond-true (p (d + k)) (Some (d + k)) (least p (d + k + 1) n) t)))
    (λ f.
    let on : e + k + 1 ≡ e + (k + 1) = omega arith in
    let off : d + (k + 1) ≡ d + k + 1 = omega arith in
    cond-false (q (e + k)) _ _ (here ∙ f) ∙ ap (λ x. least q x n) on
    ∙ least_shifts p q d e (k + 1) n (λ t l h. same t (omega arith) (omega arith))
    ∙ ap (λ x. shifted d e (least p x n)) off ∙ sym (ap (shifted d e) (cond-false (p (d + k)) (Some (d + k)) (least p (d + k + 1) n) f)))
    (cases_Bool (p (d + k)))

-- the least that passes, in words of its own
pub record Least (p : ℕ → Bool) (k n r : ℕ) : Type 0 where
  pub low : k ≤ r
  pub high : r < k + n
  pub passes : p r ≡ true
  pub first : (t : ℕ) → k ≤ t → t < r → p t ≡ false

pub least_some : (p : ℕ → Bool) (k n r : ℕ) → least p k n ≡ Some r → Least p k n r
least_some p k zero r e = let z : ◌≡◌ {A = ℕ} 0 1 = cc in absurd (omega arith)
least_some p k (suc n) r e =
    ⊎_elim
    (λ t.
    let s : Some k ≡ Some r = sym (cond-true (p k) (Some k) (least p (k + 1) n) t) ∙ e in
    let q : k ≡ r = cc in
    record { low = omega arith; high = omega arith; passes = ap p (sym q) ∙ t; first = λ u l h. absurd (omega arith) })
    (λ f.
    let s = least_some p (k + 1) n r (sym (cond-false (p k) (Some k) (least p (k + 1) n) f) ∙ e) in
    record {
      low = omega (arith, s.low);
      high = omega (arith, s.high);
      passes = s.passes;
      first = λ u l h. ⊎_elim (λ q. ap p (sym q) ∙ f) (λ ne. s.first u (omega arith) h) (cases_eq k u);
    })
    (cases_Bool (p k))

pub least_none : (p : ℕ → Bool) (k n : ℕ) → least p k n ≡ None → (t : ℕ) → k ≤ t → t < k + n → p t ≡ false
least_none p k zero e t lo hi = absurd (omega arith)
least_none p k (suc n) e t lo hi =
    ⊎_elim
    (λ y. let s : Some k ≡ None = sym (cond-true (p k) (Some k) (least p (k + 1) n) y) ∙ e in let z : ◌≡◌ {A = ℕ} 0 1 = cc in absurd (omega arith))
    (λ f. ⊎_elim (λ q. ap p (sym q) ∙ f) (λ ne. least_none p (k + 1) n (sym (cond-false (p k) (Some k) (least p (k + 1) n) f) ∙ e) t (omega arith) (omega arith)) (cases_eq k t))
    (cases_Bool (p k))

-- the next link, in words of its own
module _ (a : Alignment) (i j : ℕ) where
  pub next_none : next_link a i j ≡ None → (t : ℕ) → j ≤ t → t ≤ a.rights → a.linked i t ≡ false
  next_none e t lo hi = least_none (a.linked i) j (a.rights + 1 - j) e t lo (omega arith)

  pub next_found : (r : ℕ) → next_link a i j ≡ Some r → Least (a.linked i) j (a.rights + 1 - j) r
  next_found r e = least_some (a.linked i) j (a.rights + 1 - j) r e

  pub next_is : (r : ℕ) → j ≤ r → r ≤ a.rights → a.linked i r ≡ true → ((t : ℕ) → j ≤ t → t < r → a.linked i t ≡ false) → next_link a i j ≡ Some r
  next_is r low high on first =
      let at : j + (r - j) ≡ r = omega arith in
      least_skips (a.linked i) (r - j) j (a.rights + 1) (λ t l h. first t l (omega arith))
      ∙ ap (λ x. least (a.linked i) x (a.rights + 1 - x)) at ∙ least_here (a.linked i) r (a.rights + 1) (omega arith) on

  pub next_is_none : ((t : ℕ) → j ≤ t → t ≤ a.rights → a.linked i t ≡ false) → next_link a i j ≡ None
  next_is_none off = least_none_passes (a.linked i) j (a.rights + 1 - j) (λ t low high. off t low (omega arith))

  -- where there is no next link, no number from there on is linked
  pub none_from : Proper a → next_link a i j ≡ None → (t : ℕ) → j ≤ t → a.linked i t ≡ false
  none_from ok none t from = ⊎_elim (λ on. next_none none t from (ok.inside i t on).3) (λ off. off) (cases_Bool (a.linked i t))

-- no word has the number 0, so the search from 0 is the search from 1
pub next_link_from_zero : (a : Alignment) (i : ℕ) → a.linked i 0 ≡ false → next_link a i 0 ≡ next_link a i 1
next_link_from_zero a i off = least_next (a.linked i) 0 (a.rights + 1) (omega arith) off

pub next_link_none : (a : Alignment) (i j : ℕ) → ((t : ℕ) → a.linked i t ≡ false) → next_link a i j ≡ None
next_link_none a i j off = least_none_passes (a.linked i) j (a.rights + 1 - j) (λ t _ _. off t)
