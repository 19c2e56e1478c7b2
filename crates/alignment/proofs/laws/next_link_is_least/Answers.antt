use Rattle.alignment.proofs.Orders.{next_link_is_least}
use Rattle.alignment.proofs.laws.next_link_is_least.Goals as goal

pub returns : goal.returns
returns c = next_link_is_least
