-- The next link, by the record at the place where the search for it ends.
use Rattle.std.proofs.Common.{◌≡◌, ℕ, ◌<◌, ◌≤◌, true, false, eqb, List, length, get_or, take, None, sym, ap, ◌∙◌, ⊎_elim, arith}
use Rattle.std.specs.Bool.{then_some}
use Rattle.std.specs.List.{HoldsAt}
use Rattle.std.proofs.lemmas.Bool.{cases_lt, cases_eq}
use Rattle.std.proofs.lemmas.Bool.Decides.{nat_tests}
use Rattle.alignment.specs.Links.{next_link}
use Rattle.alignment.specs.Laws.{Before}
use Rattle.alignment.proofs.Least.{next_is, next_is_none}
use Rattle.alignment.proofs.Propers.{within_parts}
use Rattle.list.specs.declared.record.LinkRecord.{LinkRecord}
use Rattle.list.specs.declared.link_list.LinkList.{LinkList}
use Rattle.list.specs.Layout.{place}
use Rattle.list.specs.Lists.{records_of, links_of, alignment_of}
use Rattle.list.specs.Proper.{linked_within}
use Rattle.list.proofs.Links.{links_ascend}
use Rattle.list.proofs.Ascends.{pair, ascending_at, among_decides, not_among}
use Rattle.list.proofs.Places.{before_place, at_place}

module _ (s : LinkList) (i j k : ℕ) (found : k ≡ place (links_of s) (i, j)) where
  abbrev rs : List LinkRecord
  rs = take s.count (records_of s)

  abbrev link : ℕ → LinkRecord
  link t = record { left = i; right = t }

  -- a link to a word from j on stands at that place or after it
  late : (t m : ℕ) → j ≤ t → get_or rs m (link t) ≡ link t → k ≤ m
  late t m low same = ⊎_elim (λ less. let b = rw same at (before_place rs (i, j) k found m (link t) less) in absurd (omega arith)) (λ h. h) (cases_lt m k)

  pub next_past : length rs ≤ k → next_link (alignment_of s) i j ≡ None
  next_past past = next_is_none (alignment_of s) i j (λ t low _. not_among rs (link t) (λ m l same. omega (arith, late t m low same)))

  module _ (r : LinkRecord) (inside : k < length rs) (read : HoldsAt (λ x. r ≡ x) rs k) where
    first : Before (pair r) (i, j) → ⊥
    first = rw (← read r) at (at_place rs (i, j) k found r inside)

    none : (t : ℕ) → j ≤ t → (r ≡ link t → ⊥) → (Before (pair r) (i, t) → ⊥) → (alignment_of s).linked i t ≡ false
    none t low here after =
        not_among rs (link t)
        (λ m l same.
        ⊎_elim
        (λ less. after (rw (← read (link t), same) at (ascending_at rs k m (link t) (links_ascend s) less l)))
        (λ past. let e : k ≡ m = omega (arith, late t m low same) in here (read (link t) ∙ ap (λ n. get_or rs n (link t)) e ∙ same))
        (cases_lt k m))

    pub next_at : next_link (alignment_of s) i j ≡ then_some (eqb r.left i) r.right
    next_at =
        ⊎_elim
        (λ e.
        let on : (alignment_of s).linked i r.right ≡ true = rw e at ((among_decides rs r).1 (k, inside, sym (read r))) in
        next_is (alignment_of s) i j r.right (grind (arith, first)) (within_parts _ _ (linked_within s i r.right on).1).1 on
        (λ t low less. none t low (λ same. omega (arith, ap (λ (x : LinkRecord). x.right) same)) (λ b. absurd (grind arith)))
        ∙ grind (arith, nat_tests))
        (λ ne.
        next_is_none (alignment_of s) i j (λ t low _. none t low (λ same. ne (ap (λ (x : LinkRecord). x.left) same)) (λ b. absurd (grind (arith, first))))
        ∙ grind (arith, nat_tests))
        (cases_eq r.left i)
