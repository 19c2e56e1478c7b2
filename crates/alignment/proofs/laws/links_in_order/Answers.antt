use Rattle.alignment.proofs.Orders.{links_in_order}
use Rattle.alignment.proofs.laws.links_in_order.Goals as goal

pub returns : goal.returns
returns c = links_in_order
