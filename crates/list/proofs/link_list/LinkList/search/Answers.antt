use Rattle.list.specs.declared.record.LinkRecord.{LinkRecord}
use Rattle.list.proofs.Links.{links_ascend}
use Rattle.list.proofs.Places.{search_ends}
use Rattle.list.proofs.link_list.LinkList.search.Goals as goal

pub returns-clause-place : goal.returns-clause-place
returns-clause-place c =
    let x : LinkRecord = record { left = c.args.left; right = c.args.right } in
    rw (← c.links.ensures)
    (search_ends c.links.result.now x (rw c.links.ensures (links_ascend c.args.self.now)) c.binary_search.result c.binary_search.ensures.bound c.binary_search.ensures.position)
