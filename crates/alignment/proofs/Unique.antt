-- An ascending list of pairs is told by which pairs are in it, so one of just the links is the links in order.
use Rattle.std.proofs.Common.{◌≡◌, ℕ, ◌<◌, true, false, ◌&&◌, ◌||◌, eqb, ◌⊎◌, List, [], ◌∷◌, sym, refl, ap, ◌∙◌, subst, ap₂, inl, inr, ⊎_elim, arith}
use Rattle.std.proofs.lemmas.Bool.{cases_order, cases_Bool, and_parts, and_from, eq-eqb, eqb-true, or_left, or_from, both_ways, false≢true}
use Rattle.alignment.specs.Alignment.{Alignment, within}
use Rattle.alignment.specs.Links.{in_order}
use Rattle.alignment.specs.Laws.{among, Before, BeforeAll, Ascending}
use Rattle.alignment.proofs.Orders.{links_in_order}

pub before_trans : (p q r : ℕ × ℕ) → Before p q → Before q r → Before p r
before_trans p q r (inl a) (inl b) = inl (omega arith)
before_trans p q r (inl a) (inr b) = inl (omega (arith, b.0))
before_trans p q r (inr a) (inl b) = inl (omega (arith, a.0))
before_trans p q r (inr a) (inr b) = inr (a.0 ∙ b.0, omega (arith, a.1, b.1))

pub before_all_trans : (p q : ℕ × ℕ) (rs : List (ℕ × ℕ)) → Before p q → BeforeAll q rs → BeforeAll p rs
before_all_trans p q [] h all = tt
before_all_trans p q (r ∷ rs) h all = (before_trans p q r h all.0, before_all_trans p q rs h all.1)

-- two pairs are the same, or one of them comes first
pub cases_before : (p q : ℕ × ℕ) → (p ≡ q) ⊎ (Before p q ⊎ Before q p)
cases_before p q =
    ⊎_elim
    (λ e.
    ⊎_elim
    (λ f. inl (ap₂ (λ x y. (x, y)) e f))
    (λ (ne : (p.1 < q.1) ⊎ (q.1 < p.1)). inr (⊎_elim (λ lt. inl (inr (e, lt))) (λ gt. inr (inr (sym e, gt))) ne))
    (cases_order p.1 q.1))
    (λ (ne : (p.0 < q.0) ⊎ (q.0 < p.0)). inr (⊎_elim (λ lt. inl (inl lt)) (λ gt. inr (inl gt)) ne))
    (cases_order p.0 q.0)

-- the test of two pairs for being the same
pub same_tells : (p q : ℕ × ℕ) → (eqb p.0 q.0 && eqb p.1 q.1) ≡ true → p ≡ q
same_tells p q t = let u = and_parts (eqb p.0 q.0) (eqb p.1 q.1) t in ap₂ (λ x y. (x, y)) (eqb-true _ _ u.0) (eqb-true _ _ u.1)

pub not_same : (p q : ℕ × ℕ) → (p ≡ q → ⊥) → (eqb p.0 q.0 && eqb p.1 q.1) ≡ false
not_same p q ne = ⊎_elim (λ t. absurd (ne (same_tells p q t))) (λ f. f) (cases_Bool (eqb p.0 q.0 && eqb p.1 q.1))

-- no pair comes before itself
pub before_apart : (p q : ℕ × ℕ) → Before p q → p ≡ q → ⊥
before_apart p q (inl a) e = absurd (omega (arith, ap (λ (x : ℕ × ℕ). x.0) e))
before_apart p q (inr a) e = absurd (omega (arith, a.1, ap (λ (x : ℕ × ℕ). x.1) e))

-- the first of a list is in it
pub among_first : (p : ℕ × ℕ) (ps : List (ℕ × ℕ)) → among p (p ∷ ps) ≡ true
among_first p ps = or_left _ (among p ps) (and_from (eqb p.0 p.0) (eqb p.1 p.1) (eq-eqb _ _ refl) (eq-eqb _ _ refl))

-- what comes before all of a list is not in it
pub before_not_among : (p : ℕ × ℕ) (qs : List (ℕ × ℕ)) → BeforeAll p qs → among p qs ≡ false
before_not_among p [] all = refl
before_not_among p (q ∷ qs) all = or_from _ _ (not_same p q (before_apart p q all.0)) (before_not_among p qs all.1)

-- what comes before the first of an ascending list is not in it
pub before_first_not_among : (p q : ℕ × ℕ) (qs : List (ℕ × ℕ)) → Before p q → Ascending (q ∷ qs) → among p (q ∷ qs) ≡ false
before_first_not_among p q qs h asc = before_not_among p (q ∷ qs) (h, before_all_trans p q qs h asc.0)

-- where two lists have the same first pair, before all others, and the same pairs in them, so do their rests
same_rest : (p x : ℕ × ℕ) (ps qs : List (ℕ × ℕ)) → BeforeAll p ps → BeforeAll p qs → among x (p ∷ ps) ≡ among x (p ∷ qs) → among x ps ≡ among x qs
same_rest p x ps qs a b same =
    ⊎_elim
    (λ e. ap (λ y. among y ps) e ∙ before_not_among p ps a ∙ sym (ap (λ y. among y qs) e ∙ before_not_among p qs b))
    (λ ne.
    let off = not_same x p (⊎_elim (before_apart x p) (λ h e. before_apart p x h (sym e)) ne) in
    sym (ap (λ t. t || among x ps) off) ∙ same ∙ ap (λ t. t || among x qs) off)
    (cases_before x p)

-- two ascending lists with the same pairs in them are the same
pub ascending_unique : (ps qs : List (ℕ × ℕ)) → Ascending ps → Ascending qs → ((i j : ℕ) → among (i, j) ps ≡ among (i, j) qs) → ps ≡ qs
ascending_unique [] [] a b same = refl
ascending_unique [] (q ∷ qs) a b same = absurd (false≢true (same q.0 q.1 ∙ among_first q qs))
ascending_unique (p ∷ ps) [] a b same = absurd (false≢true (sym (same p.0 p.1) ∙ among_first p ps))
ascending_unique (p ∷ ps) (q ∷ qs) a b same =
    ⊎_elim
    (λ e.
    let rest : ps ≡ qs =
    ascending_unique ps qs a.1 b.1
    (λ i j. same_rest p (i, j) ps qs a.0 (subst (λ x. BeforeAll x qs) (sym e) b.0) (same i j ∙ ap (λ x. among (i, j) (x ∷ qs)) (sym e))) in
    ap₂ (λ x xs. x ∷ xs) e rest)
    (λ (ne : Before p q ⊎ Before q p).
    absurd (⊎_elim
    (λ h. both_ways (among p (q ∷ qs)) (before_first_not_among p q qs h b) (sym (same p.0 p.1) ∙ among_first p ps))
    (λ h. both_ways (among q (p ∷ ps)) (before_first_not_among q p ps h a) (same q.0 q.1 ∙ among_first q qs))
    ne))
    (cases_before p q)

-- an ascending list of just the links is the links in order
pub in_order_unique : (a : Alignment) (ps : List (ℕ × ℕ)) → Ascending ps → ((i j : ℕ) → among (i, j) ps ≡ (within a.lefts i && (within a.rights j && a.linked i j))) → ps ≡ in_order a
in_order_unique a ps asc has =
    let all = links_in_order a in
    ascending_unique ps (in_order a) asc all.ascends (λ i j. has i j ∙ sym (all.has i j))
