-- The links of a list lie within its words.
use Rattle.std.specs.Prelude.{◌≡◌, ℕ, true}
use Rattle.std.proofs.Common.{sym, ap, ◌∙◌}
use Rattle.std.proofs.lemmas.Bool.{and_parts}
use Rattle.alignment.specs.Alignment.{Proper, within}
use Rattle.alignment.specs.Laws.{among}
use Rattle.alignment.proofs.Orders.{links_in_order}
use Rattle.alignment.proofs.Propers.{proper_from}
use Rattle.list.specs.declared.link_list.LinkList.{LinkList}
use Rattle.list.specs.Lists.{alignment_of}

pub linked_within : (l : LinkList) (i j : ℕ) → (alignment_of l).linked i j ≡ true → (within l.lengths.left i ≡ true) × (within l.lengths.right j ≡ true)
linked_within l i j on =
    let p = and_parts (within l.lengths.left i) _ (sym ((links_in_order (alignment_of l)).has i j) ∙ ap (among (i, j)) (sym l.ordered) ∙ on) in
    (p.0, (and_parts (within l.lengths.right j) _ p.1).0)

pub list_proper : (l : LinkList) → Proper (alignment_of l)
list_proper l =
    proper_from (alignment_of l) l.lengths.left_low l.lengths.left_high l.lengths.right_low l.lengths.right_high (linked_within l)
