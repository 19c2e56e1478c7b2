-- The links and the free of a list together are at most what a sheet can have.
use Rattle.std.specs.Prelude.{◌≡◌, ℕ, List, length, take}
use Rattle.std.proofs.Common.{sym, ap, subst, ◌∙◌, arith}
use Rattle.std.proofs.lemmas.List.{length-map, length-take-le}
use Rattle.alignment.specs.Laws.{Ascending}
use Rattle.alignment.specs.Links.{links, in_order}
use Rattle.alignment.proofs.Orders.{links_in_order}
use Rattle.sheet.specs.Edits.{Bounded}
use Rattle.list.specs.declared.link_list.LinkList.{LinkList}
use Rattle.list.specs.declared.record.LinkRecord.{LinkRecord}
use Rattle.list.specs.Layout.{pairs, list_alignment}
use Rattle.list.specs.Lists.{records_of, alignment_of, state_of}

-- records in order ascend, and are as many as the links
module _ (n m : ℕ) (rs : List LinkRecord) (ordered : pairs rs ≡ in_order (list_alignment n m rs)) where
  pub ordered_ascends : Ascending (pairs rs)
  ordered_ascends = subst Ascending (sym ordered) (links_in_order (list_alignment n m rs)).ascends

  pub ordered_counts : links (list_alignment n m rs) ≡ length rs
  ordered_counts = sym (links_in_order (list_alignment n m rs)).counts ∙ ap length (sym ordered) ∙ length-map rs _

module _ (l : LinkList) where
  pub kept_length : length (take l.count (records_of l)) ≡ l.count
  kept_length = length-take-le l.count (records_of l) (omega (arith, l.fits))

  -- each of the records in use is a link
  pub links_counted : links (alignment_of l) ≡ l.count
  links_counted = ordered_counts l.lengths.left l.lengths.right (take l.count (records_of l)) l.ordered ∙ kept_length

  pub list_bounded : Bounded (state_of l)
  list_bounded = omega (arith, links_counted, l.fits)
