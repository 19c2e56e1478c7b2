-- Where a search among ascending records ends, and what stands there.
use Rattle.std.proofs.Common.{◌≡◌, ℕ, ◌+◌, ◌<◌, ◌≤◌, true, false, List, [], ◌∷◌, length, get_or, Ok, Err, Result, ◌⊎◌, sym, refl, ap, ◌∙◌, ap₂, ⊎_elim, cond, arith}
use Rattle.std.specs.List.{prefix_len}
use Rattle.std.specs.List.Sorted.{IsSearchInRange, IsBinarySearchResult, IsNonDecreasingBy}
use Rattle.std.specs.declared.cmp.Ordering.{Ordering}
use Rattle.std.specs.Ordering.{nat_cmp, ordering_then, ordering_index}
use Rattle.std.proofs.lemmas.Cmp.{nat_cmp_total, on_total, then_total}
use Rattle.std.proofs.lemmas.Bool.{cases_lt, cases_order, both_ways}
use Rattle.std.proofs.lemmas.Bool.Decides.{nat_tests}
use Rattle.std.proofs.lemmas.List.Sorted.{searchable_from_sorted}
use Rattle.std.proofs.lemmas.List.Sums.{prefix_len_is, prefix_len_passes, prefix_len_stops}
use Rattle.alignment.specs.Laws.{among, Before, Ascending}
use Rattle.alignment.proofs.Unique.{before_apart}
use Rattle.list.specs.declared.record.LinkRecord.{LinkRecord}
use Rattle.list.specs.Layout.{pairs, comes_before, place, searched}
use Rattle.list.proofs.Ascends.{pair, ascending_at, same_record, among_decides, not_among}

-- the place of a pair, by the records
place_of : (rs : List LinkRecord) (p : ℕ × ℕ) → place (pairs rs) p ≡ prefix_len (λ r. comes_before (pair r) p) rs
place_of [] p = refl
place_of (r ∷ rs) p = ap (λ n. cond (comes_before (pair r) p) (1 + n) 0) (place_of rs p)

-- those before its place come before it, and the one there does not
module _ (rs : List LinkRecord) (p : ℕ × ℕ) (k : ℕ) where
  module _ (at : k ≡ place (pairs rs) p) where
    pub before_place : (m : ℕ) (d : LinkRecord) → m < k → Before (pair (get_or rs m d)) p
    before_place m d less = let t = prefix_len_passes (λ r. comes_before (pair r) p) rs m d (omega (arith, place_of rs p)) in grind (arith, nat_tests)

    pub at_place : (d : LinkRecord) → k < length rs → Before (pair (get_or rs k d)) p → ⊥
    at_place d inside h =
        let on = at ∙ place_of rs p in
        let t = ap (λ n. comes_before (pair (get_or rs n d)) p) on ∙ prefix_len_stops (λ r. comes_before (pair r) p) rs d (omega (arith, on)) in
        absurd (grind (arith, nat_tests))

  -- that tells the place
  place_is : k ≤ length rs → (d : LinkRecord) → ((m : ℕ) → m < k → Before (pair (get_or rs m d)) p) → (k < length rs → Before (pair (get_or rs k d)) p → ⊥) → place (pairs rs) p ≡ k
  place_is h d below stop =
      place_of rs p
      ∙ prefix_len_is (λ r. comes_before (pair r) p) rs k d h (λ m l. let b = below m l in grind (arith, nat_tests)) (λ l. let b = stop l in grind (arith, nat_tests))

module _ (rs : List LinkRecord) (x : LinkRecord) where
  -- a record that is there stands at its place, and one that is not comes before the one there
  module _ (k : ℕ) (at : k ≡ place (pairs rs) (pair x)) (inside : k < length rs) where
    pub found_at : Ascending (pairs rs) → among (pair x) (pairs rs) ≡ true → x ≡ get_or rs k x
    found_at asc on =
        let c = (among_decides rs x).0 on in
        ⊎_elim
        (λ same. sym c.2 ∙ ap (λ n. get_or rs n x) same)
        (λ (other : (c.0 < k) ⊎ (k < c.0)).
        ⊎_elim
        (λ less. absurd (before_apart _ _ (before_place rs (pair x) k at c.0 x less) (ap pair c.2)))
        (λ more. absurd (at_place rs (pair x) k at x inside (rw c.2 at (ascending_at rs k c.0 x asc more c.1))))
        other)
        (cases_order c.0 k)

    pub missing_at : among (pair x) (pairs rs) ≡ false → Before (pair x) (pair (get_or rs k x))
    missing_at off =
        let other : (e : (get_or rs k x).left ≡ x.left) → (get_or rs k x).right ≡ x.right → ⊥ =
        λ e f. both_ways _ off ((among_decides rs x).1 (k, inside, same_record _ x e f)) in
        let after = at_place rs (pair x) k at x inside in
        grind arith

  -- a binary search for x ends at it, or, where it is not among the records, at its place
  abbrev compared : LinkRecord → Ordering
  compared y = ordering_then (nat_cmp y.left x.left) (nat_cmp y.right x.right)

  rise : Ascending (pairs rs) → IsNonDecreasingBy (λ y. ordering_index (compared y)) rs
  rise asc =
      searchable_from_sorted (then_total (on_total (λ (r : LinkRecord). r.left) nat_cmp_total) (on_total (λ (r : LinkRecord). r.right) nat_cmp_total))
      (λ y. y) rs x (λ k d _ h. let b = ascending_at rs k (k + 1) d asc (omega arith) h in grind (arith, nat_tests))

  pub search_ends : Ascending (pairs rs) → (r : Result ℕ ℕ) → IsSearchInRange r (length rs) → IsBinarySearchResult compared rs r → r ≡ searched (pairs rs) (pair x)
  search_ends asc (Ok k) inside equal =
      let e = equal x in
      let here : get_or rs k x ≡ x = grind (arith, nat_tests, same_record (get_or rs k x) x) in
      let at =
      place_is rs (pair x) k (omega arith) x
      (λ m l. rw here at (ascending_at rs m k x asc l inside))
      (λ _ h. before_apart _ _ h (ap pair here)) in
      sym (ap₂ (λ b n. cond b (Ok n) (Err n)) ((among_decides rs x).1 (k, inside, here)) at)
  search_ends asc (Err k) inside parted =
      let below : (m : ℕ) → m < k → Before (pair (get_or rs m x)) (pair x) =
      λ m l. let o = (parted (rise asc)).0 m x (omega arith) l in grind (arith, nat_tests) in
      let above : (m : ℕ) → k ≤ m → m < length rs → Before (pair x) (pair (get_or rs m x)) =
      λ m l h. let o = (parted (rise asc)).1 m x l h in grind (arith, nat_tests) in
      let off =
      not_among rs x
      (λ m l same. ⊎_elim (λ less. before_apart _ _ (below m less) (ap pair same)) (λ more. before_apart _ _ (above m more l) (ap pair (sym same))) (cases_lt m k)) in
      let at = place_is rs (pair x) k inside x below (λ h b. let a = above k (omega arith) h in absurd (grind arith)) in
      sym (ap₂ (λ b n. cond b (Ok n) (Err n)) off at)
