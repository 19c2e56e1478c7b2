-- Ascending records: what stands where, and what taking one in or out leaves.
use Rattle.std.proofs.Common.{◌≡◌, ℕ, zero, suc, ◌+◌, ◌<◌, true, false, not, ◌&&◌, eqb, List, [], ◌∷◌, length, get_or, Decides, sym, refl, ap, ◌∙◌, ap₂, ⊎_elim, arith}
use Rattle.std.specs.List.{Contains, insert, remove}
use Rattle.std.specs.List.Sorted.{IsPermutation}
use Rattle.std.proofs.lemmas.Bool.{cases_Bool, cases_lt}
use Rattle.std.proofs.lemmas.Bool.Decides.{nat_tests, Decides-by_or, same_from_decides, Decides-like}
use Rattle.std.proofs.lemmas.List.Edits.{length-remove, get_or-remove_below, get_or-remove_above}
use Rattle.std.proofs.lemmas.List.Elements.{Decides-contains}
use Rattle.std.proofs.lemmas.List.Sorted.{IsPermutation-insert, IsPermutation-remove, IsPermutation-sym, Contains-permutation}
use Rattle.alignment.specs.Laws.{among, Before, BeforeAll, Ascending}
use Rattle.alignment.proofs.Unique.{before_all_trans, before_apart, same_tells}
use Rattle.list.specs.declared.record.LinkRecord.{LinkRecord}
use Rattle.list.specs.Layout.{pairs}

abbrev pub pair : LinkRecord → ℕ × ℕ
pair r = (r.left, r.right)

pub same_record : (r x : LinkRecord) → r.left ≡ x.left → r.right ≡ x.right → r ≡ x
same_record r x e f = ap₂ (λ i j. record { left = i; right = j }) e f

-- an earlier record comes before a later one
before_at : (r : LinkRecord) (rs : List LinkRecord) (k : ℕ) (d : LinkRecord) → BeforeAll (pair r) (pairs rs) → k < length rs → Before (pair r) (pair (get_or rs k d))
before_at r [] k d all h = absurd (omega arith)
before_at r (s ∷ rs) zero d all h = all.0
before_at r (s ∷ rs) (suc k) d all h = before_at r rs k d all.1 (omega arith)

pub ascending_at : (rs : List LinkRecord) (k m : ℕ) (d : LinkRecord) → Ascending (pairs rs) → k < m → m < length rs → Before (pair (get_or rs k d)) (pair (get_or rs m d))
ascending_at [] k m d asc less h = absurd (omega arith)
ascending_at (r ∷ rs) k zero d asc less h = absurd (omega arith)
ascending_at (r ∷ rs) zero (suc m) d asc less h = before_at r rs m d asc.0 (omega arith)
ascending_at (r ∷ rs) (suc k) (suc m) d asc less h = ascending_at rs k m d asc.1 (omega arith) (omega arith)

-- a record between those before it and those after it may be taken in
before_inserted : (r x : LinkRecord) (k : ℕ) (rs : List LinkRecord) → Before (pair r) (pair x) → BeforeAll (pair r) (pairs rs) → BeforeAll (pair r) (pairs (insert rs k x))
before_inserted r x zero rs h all = (h, all)
before_inserted r x (suc k) [] h all = (h, tt)
before_inserted r x (suc k) (s ∷ rs) h all = (all.0, before_inserted r x k rs h all.1)

pub inserted_ascends : (rs : List LinkRecord) (k : ℕ) (x : LinkRecord) → Ascending (pairs rs) → ((m : ℕ) → m < k → Before (pair (get_or rs m x)) (pair x)) → (k < length rs → Before (pair x) (pair (get_or rs k x))) → Ascending (pairs (insert rs k x))
inserted_ascends [] zero x asc below above = (tt, tt)
inserted_ascends [] (suc k) x asc below above = (tt, tt)
inserted_ascends (r ∷ rs) zero x asc below above = let h = above (omega arith) in ((h, before_all_trans (pair x) (pair r) (pairs rs) h asc.0), asc)
inserted_ascends (r ∷ rs) (suc k) x asc below above =
    (before_inserted r x k rs (below 0 (omega arith)) asc.0, inserted_ascends rs k x asc.1 (λ m l. below (suc m) (omega arith)) (λ h. above (omega arith)))

-- any may be taken out
before_removed : (r : LinkRecord) (k : ℕ) (rs : List LinkRecord) → BeforeAll (pair r) (pairs rs) → BeforeAll (pair r) (pairs (remove rs k))
before_removed r zero [] all = tt
before_removed r (suc k) [] all = tt
before_removed r zero (s ∷ rs) all = all.1
before_removed r (suc k) (s ∷ rs) all = (all.0, before_removed r k rs all.1)

pub removed_ascends : (rs : List LinkRecord) (k : ℕ) → Ascending (pairs rs) → Ascending (pairs (remove rs k))
removed_ascends [] zero asc = tt
removed_ascends [] (suc k) asc = tt
removed_ascends (r ∷ rs) zero asc = asc.1
removed_ascends (r ∷ rs) (suc k) asc = (before_removed r k rs asc.0, removed_ascends rs k asc.1)

-- a pair is among those of the records that stand there
pub among_decides : (rs : List LinkRecord) (x : LinkRecord) → Decides (among (pair x) (pairs rs)) (Contains rs x)
among_decides rs x =
    Decides-contains rs x _
    (Decides-by_or (λ r. eqb x.left r.left && eqb x.right r.right) (λ r. r ≡ x) (λ l. among (pair x) (pairs l))
    (λ r. (λ t. grind (arith, nat_tests, same_record r x), λ e. grind (arith, nat_tests))) refl (λ _ _. refl) rs)

pub not_among : (rs : List LinkRecord) (x : LinkRecord) → ((k : ℕ) → k < length rs → get_or rs k x ≡ x → ⊥) → among (pair x) (pairs rs) ≡ false
not_among rs x none = ⊎_elim (λ on. let c = (among_decides rs x).0 on in absurd (none c.0 c.1 c.2)) (λ off. off) (cases_Bool (among (pair x) (pairs rs)))

-- in whichever order
among_permuted : (rs ss : List LinkRecord) (x : LinkRecord) → IsPermutation rs ss → among (pair x) (pairs rs) ≡ among (pair x) (pairs ss)
among_permuted rs ss x p =
    same_from_decides _ _ (among_decides rs x) (Decides-like _ (Contains-permutation ss rs x (IsPermutation-sym rs ss p)) (Contains-permutation rs ss x p) (among_decides ss x))

pub among_inserted : (rs : List LinkRecord) (k : ℕ) (y x : LinkRecord) → among (pair x) (pairs (insert rs k y)) ≡ among (pair x) (pairs (y ∷ rs))
among_inserted rs k y x = sym (among_permuted (y ∷ rs) (insert rs k y) x (IsPermutation-insert rs k y))

-- no record stands twice
removed_apart : (rs : List LinkRecord) (k : ℕ) (y : LinkRecord) → Ascending (pairs rs) → k < length rs → y ≡ get_or rs k y → among (pair y) (pairs (remove rs k)) ≡ false
removed_apart rs k y asc h is =
    not_among (remove rs k) y
    (λ m l same.
    ⊎_elim
    (λ below. before_apart _ _ (rw (← is) at (ascending_at rs m k y asc below h)) (ap pair (sym (get_or-remove_below rs k y m below h) ∙ same)))
    (λ above.
    before_apart _ _ (rw (← is) at (ascending_at rs k (m + 1) y asc (omega arith) (omega (arith, length-remove rs k h))))
    (ap pair (sym same ∙ get_or-remove_above rs k y m above h)))
    (cases_lt m k))

pub among_removed : (rs : List LinkRecord) (k : ℕ) (y x : LinkRecord) → Ascending (pairs rs) → k < length rs → y ≡ get_or rs k y → among (pair x) (pairs (remove rs k)) ≡ (not (eqb x.left y.left && eqb x.right y.right) && among (pair x) (pairs rs))
among_removed rs k y x asc h is =
    let all = among_permuted rs (y ∷ remove rs k) x (IsPermutation-remove rs k y h is) in
    let apart : (eqb x.left y.left && eqb x.right y.right) ≡ true → among (pair x) (pairs (remove rs k)) ≡ false =
    λ t. ap (λ z. among z (pairs (remove rs k))) (same_tells (pair x) (pair y) t) ∙ removed_apart rs k y asc h is in
    grind arith
