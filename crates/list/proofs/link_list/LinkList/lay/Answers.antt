use Rattle.std.proofs.Common.{[], arith}
use Rattle.std.proofs.lemmas.Bool.{false≢true}
use Rattle.list.proofs.Links.{ordered_from}
use Rattle.list.proofs.link_list.LinkList.lay.Goals as goal

pub invariant_of-result : goal.invariant_of-result
invariant_of-result c =
    let l = c.args.lengths in
    record { fits = omega arith; ordered = ordered_from l.left l.right [] tt (λ i j on. absurd (false≢true on)) }
