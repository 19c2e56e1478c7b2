-- What an edit leaves of a list: its records, its links and what is free.
use Rattle.std.proofs.Common.{◌≡◌, ℕ, ◌+◌, ◌-◌, ◌<◌, ◌≤◌, min, max, Bool, true, false, List, [], ◌++◌, length, take, drop, replicate, Vec, Global, vec_items, Ok, Err, sym, refl, ap, ◌∙◌, subst, ap₂, arith}
use mathlib.Core.Path.{fun_ext}
use Rattle.std.specs.List.{insert, remove, copy_within}
use Rattle.std.specs.Vec.{with_item, with_items_from}
use Rattle.std.proofs.lemmas.Grind.{common_steps}
use Rattle.std.proofs.lemmas.List.Edits.{length-insert, length-remove}
use Rattle.std.proofs.lemmas.Simd.{map-map}
use Rattle.std.proofs.lemmas.List.{map-id, take_at}
use Rattle.std.proofs.lemmas.Bool.Decides.{nat_tests}
use Rattle.std.proofs.lemmas.Bool.{and_parts, false≢true}
use Rattle.alignment.specs.Alignment.{Alignment, within}
use Rattle.alignment.specs.Links.{links, in_order}
use Rattle.alignment.specs.Laws.{among, Ascending}
use Rattle.sheet.specs.Edits.{State, Bounded, with_link, without_link, wiping}
use Rattle.sheet.specs.Words.{check_words}
use Rattle.sheet.proofs.Words.{words_within}
use Rattle.list.specs.declared.record.LinkRecord.{LinkRecord}
use Rattle.list.specs.declared.link_list.LinkList.{LinkList}
use Rattle.list.specs.Layout.{most_links, room, free_record, pairs, records, list_alignment, list_state, place, searched}
use Rattle.list.specs.Blocks.{left_block}
use Rattle.list.specs.Lists.{records_of, links_of, alignment_of, state_of}
use Rattle.list.specs.ListLaws.{kept_length, links_counted, list_bounded}
use Rattle.list.specs.Proper.{linked_within}
use Rattle.list.proofs.Ascends.{inserted_ascends, among_inserted, removed_ascends, among_removed}
use Rattle.list.proofs.Links.{ordered_from, links_ascend}
use Rattle.list.proofs.Places.{before_place, found_at, missing_at}
use Rattle.list.proofs.Moved.{shifted_in, shifted_out}

-- after rs, the records that held before links are free where only after of them hold links now, and the rest is as it was
abbrev left_of : List LinkRecord → ℕ → ℕ → List LinkRecord → List LinkRecord
left_of rs before after block = rs ++ (replicate (before - after) free_record ++ drop (max before after) block)

-- the block that a list leaves
pub block_left : (s t : LinkList) → records_of t ≡ left_of (take t.count (records_of t)) s.count t.count (records_of s) → records_of t ≡ left_block (alignment_of s) (alignment_of t) (records_of s)
block_left s t is =
    is
    ∙ sym (ap (λ rs. left_of rs (links (alignment_of s)) (links (alignment_of t)) (records_of s)) (ap records (sym t.ordered) ∙ map-map _ _ (take t.count (records_of t)) ∙ map-id (take t.count (records_of t)))
    ∙ ap₂ (λ n k. left_of (take t.count (records_of t)) n k (records_of s)) (links_counted s) (links_counted t))

-- a refused edit leaves the block as it was
pub block_kept : (s : LinkList) → records_of s ≡ left_block (alignment_of s) (alignment_of s) (records_of s)
block_kept s = block_left s s (grind (arith, common_steps))

-- the list s stands as t tells, with the first k records of the block as its links
pub record Edited (s : LinkList) (t : State) (k : ℕ) (block : Vec LinkRecord Global) : Type 0 where
  pub fits : k ≤ room (vec_items block)
  pub ordered : pairs (take k (vec_items block)) ≡ in_order (list_alignment s.lengths.left s.lengths.right (take k (vec_items block)))
  pub state : list_state s.lengths.left s.lengths.right k (vec_items block) ≡ t
  pub bounded : Bounded (list_state s.lengths.left s.lengths.right k (vec_items block))
  pub left : vec_items block ≡ left_block (alignment_of s) (list_alignment s.lengths.left s.lengths.right (take k (vec_items block))) (records_of s)

module _ (s : LinkList) where
  abbrev alignment : List LinkRecord → Alignment
  alignment rs = list_alignment s.lengths.left s.lengths.right rs

  abbrev kept : List LinkRecord
  kept = take s.count (records_of s)

  module _ (h : ℕ → ℕ → Bool) (f k : ℕ) (block : Vec LinkRecord Global) (rs : List LinkRecord) (long : length rs ≡ k) (enough : k ≤ room (records_of s)) (asc : Ascending (pairs rs)) (has : (i j : ℕ) → among (i, j) (pairs rs) ≡ h i j) (inside : (i j : ℕ) → h i j ≡ true → (within s.lengths.left i ≡ true) × (within s.lengths.right j ≡ true)) (is : vec_items block ≡ left_of rs s.count k (records_of s)) where
    front : take k (vec_items block) ≡ rs
    front = ap (take k) is ∙ take_at rs _ k long

    same_length : length (vec_items block) ≡ length (records_of s)
    same_length = grind (arith, common_steps)

    fits : k ≤ room (vec_items block)
    fits = omega (arith, same_length, enough)

    ordered : pairs (take k (vec_items block)) ≡ in_order (alignment (take k (vec_items block)))
    ordered = subst (λ x. pairs x ≡ in_order (alignment x)) (sym front) (ordered_from s.lengths.left s.lengths.right rs asc (λ i j on. inside i j (sym (has i j) ∙ on)))

    edited : room (records_of s) - k ≡ f → Edited s (record { sheet = record { lefts = s.lengths.left; rights = s.lengths.right; linked = h }; free = f }) k block
    edited free =
        let now : LinkList = record { lengths = s.lengths; block = block; count = k; fits = fits; ordered = ordered } in
        record {
          fits = fits;
          ordered = ordered;
          state = ap₂ (λ x n. record { sheet = record { lefts = s.lengths.left; rights = s.lengths.right; linked = x }; free = n })
              (fun_ext (λ i. fun_ext (λ j. ap (λ x. among (i, j) (pairs x)) front ∙ has i j))) (ap (λ n. min most_links n - k) same_length ∙ free);
          bounded = list_bounded now;
          left = block_left s now (is ∙ ap (λ x. left_of x s.count k (records_of s)) (sym front));
        }

  -- wiping frees the records of all links
  pub wiped : (n : ℕ) (freed : List LinkRecord) → n ≡ s.count → freed ≡ replicate n free_record → Edited s (wiping (state_of s)) 0 (with_items_from s.block 0 freed)
  wiped n freed all is =
      edited (λ _ _. false) (room (records_of s) - s.count + links (alignment_of s)) 0 (with_items_from s.block 0 freed) [] refl (omega arith) tt (λ i j. refl) (λ i j on. absurd (false≢true on))
      (grind (arith, common_steps)) (omega (arith, links_counted s, s.fits))

  module _ (i j k : ℕ) where
    abbrev link : LinkRecord
    link = record { left = i; right = j }

    -- linking takes the link in where the search for it ended
    pub linked_in : Ok tt ≡ check_words s.lengths.left s.lengths.right i j → Err k ≡ searched (links_of s) (i, j) → k ≤ s.count → s.count < room (records_of s) → (moved : Vec LinkRecord Global) → vec_items moved ≡ copy_within (records_of s) k s.count (k + 1) → Edited s (record { sheet = with_link (alignment_of s) i j; free = room (records_of s) - s.count - 1 }) (s.count + 1) (with_item moved k link)
    linked_in words found low more moved is =
        let w = words_within s.lengths.left s.lengths.right i j words in
        let off : among (i, j) (links_of s) ≡ false = grind (arith, found) in
        let at : k ≡ place (links_of s) (i, j) = grind (arith, found) in
        let new = shifted_in (records_of s) s.count k link low (omega (arith, more)) in
        edited (with_link (alignment_of s) i j).linked (room (records_of s) - s.count - 1) (s.count + 1) (with_item moved k link) (insert kept k link)
        (omega (arith, length-insert kept k link (omega (arith, kept_length s)), kept_length s)) (omega arith)
        (inserted_ascends kept k link (links_ascend s) (λ m less. before_place kept (i, j) k at m link less) (λ inside. missing_at kept link k at inside off))
        (λ x y. among_inserted kept k link (record { left = x; right = y }))
        (λ x y on. let old = linked_within s x y in (grind (arith, nat_tests, on, old, w), grind (arith, nat_tests, on, old, w)))
        (grind (arith, common_steps, is, new))
        (omega arith)

    -- unlinking takes it out, and frees the last record of the links
    pub taken_out : Ok k ≡ searched (links_of s) (i, j) → k < s.count → (moved : Vec LinkRecord Global) → vec_items moved ≡ copy_within (records_of s) (k + 1) s.count k → Edited s (record { sheet = without_link (alignment_of s) i j; free = room (records_of s) - s.count + 1 }) (s.count - 1) (with_item moved (s.count - 1) free_record)
    taken_out found inside moved is =
        let on : among (i, j) (links_of s) ≡ true = grind (arith, found) in
        let at : k ≡ place (links_of s) (i, j) = grind (arith, found) in
        let within_kept : k < length (take s.count (records_of s)) = omega (arith, kept_length s) in
        let new = shifted_out (records_of s) s.count k free_record inside (omega (arith, s.fits)) in
        let one : s.count - (s.count - 1) ≡ 1 = omega arith in
        let rest : max s.count (s.count - 1) ≡ s.count = omega arith in
        edited (without_link (alignment_of s) i j).linked (room (records_of s) - s.count + 1) (s.count - 1) (with_item moved (s.count - 1) free_record) (remove kept k)
        (omega (arith, length-remove kept k within_kept, kept_length s)) (omega (arith, s.fits))
        (removed_ascends kept k (links_ascend s))
        (λ x y. among_removed kept k link (record { left = x; right = y }) (links_ascend s) within_kept (found_at kept link k at within_kept (links_ascend s) on))
        (λ x y on. linked_within s x y (and_parts _ (among (x, y) (links_of s)) on).1)
        (rw (is, new, one, rest))
        (omega (arith, s.fits))
