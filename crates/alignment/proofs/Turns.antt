-- An alignment turned round is proper where it was, and has as many links.
use Rattle.std.proofs.Common.{◌≡◌, ℕ, zero, suc, ◌+◌, Bool, ◌&&◌, sym, refl, ap, ◌∙◌, ⊎_elim, arith}
use Rattle.std.proofs.lemmas.Bool.{and_parts, cases_Bool, both_ways}
use Rattle.alignment.specs.Alignment.{Alignment, Proper, within}
use Rattle.alignment.specs.Links.{count, sum, links}
use Rattle.alignment.specs.Layers.{swapped, opposite, mirrored}
use Rattle.alignment.proofs.Counts.{one, count_is_sum, count_same, sum_same, sum_none}
use Rattle.alignment.proofs.InOrder.{unlinked_outside}
use Rattle.alignment.proofs.Propers.{within_from, proper_from}

pub swapped_proper : (a : Alignment) → Proper a → Proper (swapped a)
swapped_proper a ok = record {
  lefts_low = ok.rights_low;
  lefts_high = ok.rights_high;
  rights_low = ok.lefts_low;
  rights_high = ok.lefts_high;
  inside = λ i j on. let w = ok.inside j i on in (w.2, w.3, w.0, w.1);
}

pub mirrored_proper : (a : Alignment) → Proper a → Proper (mirrored a)
mirrored_proper a ok =
    proper_from (mirrored a) ok.lefts_low ok.lefts_high ok.rights_low ok.rights_high
    (λ i j on.
    let p = and_parts (within a.rights j) _ on in
    let w = ok.inside i (opposite a.rights j) p.1 in
    (within_from a.lefts i w.0 w.1, p.0))

-- a number that is no right word has an opposite that is none
pub mirrored_linked : (a : Alignment) → Proper a → (i j : ℕ) → (mirrored a).linked i j ≡ a.linked i (opposite a.rights j)
mirrored_linked a ok i j =
    let m = a.rights in
    let on = a.linked i (opposite m j) in
    ⊎_elim
    (λ t. ap (λ b. b && on) t)
    (λ f. ap (λ b. b && on) f ∙ sym (unlinked_outside a ok i (opposite m j) (λ w. both_ways (within m j) f (within_from m j (omega (arith, w.3)) (omega (arith, w.2))))))
    (cases_Bool (within m j))

sum_of_both : (f g : ℕ → ℕ) (n : ℕ) → sum (λ k. f k + g k) n ≡ sum f n + sum g n
sum_of_both f g zero = refl
sum_of_both f g (suc n) = omega (arith, sum_of_both f g n)

-- a table has one sum, by rows and by columns
sum_exchanged : (f : ℕ → ℕ → ℕ) (n m : ℕ) → sum (λ i. sum (f i) m) n ≡ sum (λ j. sum (λ i. f i j) n) m
sum_exchanged f zero m = sym (sum_none (λ j. 0) m (λ j. refl))
sum_exchanged f (suc n) m =
    ap (λ x. sum (f (suc n)) m + x) (sum_exchanged f n m) ∙ sym (sum_of_both (f (suc n)) (λ j. sum (λ i. f i j) n) m)

pub links_swapped : (a : Alignment) → links (swapped a) ≡ links a
links_swapped a =
    let by_sums : (h : ℕ → ℕ → Bool) (n m : ℕ) → sum (λ i. count (h i) m) n ≡ sum (λ i. sum (λ j. one (h i j)) m) n =
    λ h n m. sum_same _ _ n (λ i _ _. count_is_sum (h i) m) in
    by_sums (swapped a).linked a.rights a.lefts
    ∙ sum_exchanged (λ i j. one (a.linked j i)) a.rights a.lefts
    ∙ sym (by_sums a.linked a.lefts a.rights)

sum_from_first : (f : ℕ → ℕ) (n : ℕ) → sum f (suc n) ≡ f 1 + sum (λ k. f (suc k)) n
sum_from_first f zero = refl
sum_from_first f (suc n) = omega (arith, sum_from_first f n)

-- a sum is the same from its last term to its first
sum_opposite : (f : ℕ → ℕ) (n : ℕ) → sum (λ k. f (opposite n k)) n ≡ sum f n
sum_opposite f zero = refl
sum_opposite f (suc n) =
    let last : f (opposite (suc n) (suc n)) ≡ f 1 = ap f (omega arith) in
    let rest : sum (λ k. f (opposite (suc n) k)) n ≡ sum (λ k. f (suc (opposite n k))) n =
    sum_same _ _ n (λ k low high. let e : opposite (suc n) k ≡ suc (opposite n k) = omega arith in ap f e) in
    omega (arith, last, rest, sum_opposite (λ k. f (suc k)) n, sum_from_first f n)

pub links_mirrored : (a : Alignment) → links (mirrored a) ≡ links a
links_mirrored a =
    let m = a.rights in
    sum_same _ _ a.lefts
    (λ i _ _.
    count_same ((mirrored a).linked i) (λ j. a.linked i (opposite m j)) m (λ j low high. ap (λ b. b && a.linked i (opposite m j)) (within_from m j low high))
    ∙ count_is_sum (λ j. a.linked i (opposite m j)) m
    ∙ sum_opposite (λ j. one (a.linked i j)) m
    ∙ sym (count_is_sum (a.linked i) m))
