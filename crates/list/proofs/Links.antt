-- What the links of a list tell.
use Rattle.std.proofs.Common.{◌≡◌, ℕ, true, List, take, arith}
use Rattle.alignment.specs.Alignment.{within}
use Rattle.alignment.specs.Links.{in_order}
use Rattle.alignment.specs.Laws.{among, Ascending}
use Rattle.alignment.proofs.Unique.{in_order_unique}
use Rattle.list.specs.declared.record.LinkRecord.{LinkRecord}
use Rattle.list.specs.declared.link_list.LinkList.{LinkList}
use Rattle.list.specs.Layout.{pairs, list_alignment}
use Rattle.list.specs.Lists.{records_of, links_of}
use Rattle.list.specs.ListLaws.{ordered_ascends}

-- records whose pairs ascend and lie within the words are in order
pub ordered_from : (n m : ℕ) (rs : List LinkRecord) → Ascending (pairs rs) → ((i j : ℕ) → among (i, j) (pairs rs) ≡ true → (within n i ≡ true) × (within m j ≡ true)) → pairs rs ≡ in_order (list_alignment n m rs)
ordered_from n m rs asc inside = in_order_unique (list_alignment n m rs) (pairs rs) asc (λ i j. let h = inside i j in grind arith)

-- those of a list ascend
pub links_ascend : (l : LinkList) → Ascending (links_of l)
links_ascend l = ordered_ascends l.lengths.left l.lengths.right (take l.count (records_of l)) l.ordered
