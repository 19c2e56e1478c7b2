-- Alignments cut out and put together: that they are proper, and their next links by those below. An answer stands on the left of its equation,
-- as in a contract.
use Rattle.std.proofs.Common.{◌≡◌, ℕ, ◌+◌, ◌-◌, ◌<◌, ◌≤◌, min, max, true, false, Some, None, Option, sym, ap, ◌∙◌, ⊎_elim, arith}
use Rattle.std.proofs.lemmas.Bool.{cases_lt, and_parts, and_from, and_left, and_right, or_cases, or_from, or_left, or_right}
use Rattle.alignment.specs.Alignment.{Alignment, Proper, most_words, within}
use Rattle.alignment.specs.Links.{next_link}
use Rattle.alignment.specs.Laws.{LeastLink, NoLink}
use Rattle.alignment.specs.Layers.{windowed, united, intersected}
use Rattle.alignment.proofs.Least.{least_skips, next_found, next_none, next_is, next_is_none, none_from}
use Rattle.alignment.proofs.Propers.{proper_from, within_from}
use Rattle.alignment.proofs.InOrder.{unlinked_outside}

pub windowed_proper : (x n y m : ℕ) (a : Alignment) → 1 ≤ n → n ≤ most_words → 1 ≤ m → m ≤ most_words → Proper (windowed x n y m a)
windowed_proper x n y m a nl nh ml mh =
    proper_from (windowed x n y m a) nl nh ml mh
    (λ i j on. let p = and_parts (within n i) _ on in (p.0, (and_parts (within m j) _ p.1).0))

pub united_proper : (a b : Alignment) → Proper a → Proper b → Proper (united a b)
united_proper a b ok ko = record {
  lefts_low = omega (arith, ok.lefts_low);
  lefts_high = omega (arith, ok.lefts_high, ko.lefts_high);
  rights_low = omega (arith, ok.rights_low);
  rights_high = omega (arith, ok.rights_high, ko.rights_high);
  inside = λ i j on. ⊎_elim
      (λ l. let p = ok.inside i j l in (p.0, omega (arith, p.1), p.2, omega (arith, p.3)))
      (λ r. let p = ko.inside i j r in (p.0, omega (arith, p.1), p.2, omega (arith, p.3)))
      (or_cases (a.linked i j) (b.linked i j) on);
}

pub intersected_proper : (a b : Alignment) → Proper a → Proper b → Proper (intersected a b)
intersected_proper a b ok ko = record {
  lefts_low = omega (arith, ok.lefts_low, ko.lefts_low);
  lefts_high = omega (arith, ok.lefts_high);
  rights_low = omega (arith, ok.rights_low, ko.rights_low);
  rights_high = omega (arith, ok.rights_high);
  inside = λ i j on.
      let both = and_parts (a.linked i j) (b.linked i j) on in
      let p = ok.inside i j both.0 in
      let q = ko.inside i j both.1 in
      (p.0, omega (arith, p.1, q.1), p.2, omega (arith, p.3, q.3));
}

module _ (a : Alignment) (i j : ℕ) where
  -- the law that the next link is the least, the other way
  found_is : (r : ℕ) → LeastLink a i j r → Some r ≡ next_link a i j
  found_is r s = sym (next_is a i j r s.low s.high s.is_linked s.first)

  found_none : NoLink a i j → None ≡ next_link a i j
  found_none none = sym (next_is_none a i j none)

  -- no word has the number 0
  pub next_from_one : Proper a → next_link a i (max j 1) ≡ next_link a i j
  next_from_one ok =
      let on : j + (1 - j) ≡ max j 1 = omega arith in
      sym (least_skips (a.linked i) (1 - j) j (a.rights + 1) (λ t l h. unlinked_outside a ok i t (λ p. absurd (omega (arith, p.2))))
      ∙ ap (next_link a i) on)

-- the next link in a window, by the next link below
module _ (x n y m : ℕ) (a : Alignment) (i j : ℕ) where
  loose_below : (t : ℕ) → a.linked (x + i - 1) (y + t - 1) ≡ false → (windowed x n y m a).linked i t ≡ false
  loose_below t off = and_right (within n i) _ (and_right (within m t) _ off)

  pub windowed_left_outside : within n i ≡ false → None ≡ next_link (windowed x n y m a) i j
  windowed_left_outside out = found_none (windowed x n y m a) i j (λ t l h. and_left _ _ out)

  module _ (low : 1 ≤ j) where
    pub windowed_none : Proper a → None ≡ next_link a (x + i - 1) (y + j - 1) → None ≡ next_link (windowed x n y m a) i j
    windowed_none ok e =
        found_none (windowed x n y m a) i j (λ t l h. loose_below t (none_from a (x + i - 1) (y + j - 1) ok (sym e) (y + t - 1) (omega arith)))

    module _ (w : ℕ) (e : Some w ≡ next_link a (x + i - 1) (y + j - 1)) where
      pub windowed_past : y + m ≤ w → None ≡ next_link (windowed x n y m a) i j
      windowed_past past =
          let u = next_found a (x + i - 1) (y + j - 1) w (sym e) in
          found_none (windowed x n y m a) i j (λ t l h. loose_below t (u.first (y + t - 1) (omega arith) (omega arith)))

      pub windowed_found : within n i ≡ true → w < y + m → Some (w - y + 1) ≡ next_link (windowed x n y m a) i j
      windowed_found here inside =
          let u = next_found a (x + i - 1) (y + j - 1) w (sym e) in
          let from = u.low in
          let at : y + (w - y + 1) - 1 ≡ w = omega arith in
          found_is (windowed x n y m a) i j (w - y + 1) (record {
            low = omega arith;
            high = omega arith;
            is_linked = and_from _ _ here (and_from _ _ (within_from m (w - y + 1) (omega arith) (omega arith)) (ap (a.linked (x + i - 1)) at ∙ u.passes));
            first = λ t l h. loose_below t (u.first (y + t - 1) (omega arith) (omega arith));
          })

-- the lesser of two numbers, as far as there are any
abbrev pub lesser : Option ℕ → Option ℕ → Option ℕ
lesser (Some x) (Some y) = Some (min x y)
lesser (Some x) None = Some x
lesser None o = o

module _ (a b : Alignment) (i j : ℕ) where
  -- a next link of one, where the other has none before it
  united_by_first : (x : ℕ) → Some x ≡ next_link a i j → ((t : ℕ) → j ≤ t → t < x → b.linked i t ≡ false) → Some x ≡ next_link (united a b) i j
  united_by_first x e off =
      let u = next_found a i j x (sym e) in
      found_is (united a b) i j x (record {
        low = u.low;
        high = omega (arith, u.high);
        is_linked = or_left _ _ u.passes;
        first = λ t l h. or_from _ _ (u.first t l h) (off t l h);
      })

  united_by_second : (y : ℕ) → Some y ≡ next_link b i j → ((t : ℕ) → j ≤ t → t < y → a.linked i t ≡ false) → Some y ≡ next_link (united a b) i j
  united_by_second y f off =
      let v = next_found b i j y (sym f) in
      found_is (united a b) i j y (record {
        low = v.low;
        high = omega (arith, v.high);
        is_linked = or_right _ _ v.passes;
        first = λ t l h. or_from _ _ (off t l h) (v.first t l h);
      })

  -- the next link in either is the lesser of both
  pub united_next : Proper a → Proper b → (o p : Option ℕ) → o ≡ next_link a i j → p ≡ next_link b i j → lesser o p ≡ next_link (united a b) i j
  united_next ok ko (Some x) (Some y) e f =
      ⊎_elim
      (λ (h : x < y). let is : min x y ≡ x = omega arith in ap Some is ∙ united_by_first x e (λ t l g. (next_found b i j y (sym f)).first t l (omega arith)))
      (λ (h : y ≤ x). let is : min x y ≡ y = omega arith in ap Some is ∙ united_by_second y f (λ t l g. (next_found a i j x (sym e)).first t l (omega arith)))
      (cases_lt x y)
  united_next ok ko (Some x) None e f = united_by_first x e (λ t l _. none_from b i j ko (sym f) t l)
  united_next ok ko None (Some y) e f = united_by_second y f (λ t l _. none_from a i j ok (sym e) t l)
  united_next ok ko None None e f =
      found_none (united a b) i j (λ t l _. or_from _ _ (none_from a i j ok (sym e) t l) (none_from b i j ko (sym f) t l))

  -- the next link in both: the second is asked from the word x of the first on
  pub intersected_first_none : None ≡ next_link a i j → None ≡ next_link (intersected a b) i j
  intersected_first_none e = found_none (intersected a b) i j (λ t l h. and_left _ _ (next_none a i j (sym e) t l (omega arith)))

  module _ (x : ℕ) (e : Some x ≡ next_link a i j) where
    pub intersected_second_none : None ≡ next_link b i x → None ≡ next_link (intersected a b) i j
    intersected_second_none f =
        found_none (intersected a b) i j
        (λ t l h. ⊎_elim
        (λ g. and_left _ _ ((next_found a i j x (sym e)).first t l g))
        (λ g. and_right _ _ (next_none b i x (sym f) t g (omega arith)))
        (cases_lt t x))

    -- the same word in both is the next link
    pub intersected_found : Some x ≡ next_link b i x → Some x ≡ next_link (intersected a b) i j
    intersected_found f =
        let u = next_found a i j x (sym e) in
        let v = next_found b i x x (sym f) in
        found_is (intersected a b) i j x (record {
          low = u.low;
          high = omega (arith, u.high, v.high);
          is_linked = and_from _ _ u.passes v.passes;
          first = λ t l h. and_left _ _ (u.first t l h);
        })

    -- no word before the second's is linked in both
    pub intersected_skips : (y : ℕ) → Some y ≡ next_link b i x → next_link (intersected a b) i y ≡ next_link (intersected a b) i j
    intersected_skips y f =
        let u = next_found a i j x (sym e) in
        let v = next_found b i x y (sym f) in
        let on : j + (y - j) ≡ y = omega (arith, u.low, v.low) in
        sym (least_skips ((intersected a b).linked i) (y - j) j ((intersected a b).rights + 1)
        (λ t l h. ⊎_elim (λ g. and_left _ _ (u.first t l g)) (λ g. and_right _ _ (v.first t g (omega arith))) (cases_lt t x))
        ∙ ap (next_link (intersected a b) i) on)
