use Rattle.std.proofs.Common.{◌≡◌, arith}
use Rattle.std.proofs.lemmas.Grind.{common_steps}
use Rattle.list.specs.Layout.{place}
use Rattle.list.specs.Lists.{links_of}
use Rattle.list.proofs.LookedUp.{next_past, next_at}
use Rattle.list.proofs.link_list.look_ups.LinkListSheet.next_link.Goals as goal

pub returns : goal.returns
returns c =
    let s = c.args.self.now in
    let found : c.match-search.first ≡ place (links_of s) (c.args.left, c.args.right) = grind (arith, common_steps) in
    let past = next_past s c.args.left c.args.right c.match-search.first found in
    let at = next_at s c.args.left c.args.right c.match-search.first found in
    grind (arith, common_steps)
