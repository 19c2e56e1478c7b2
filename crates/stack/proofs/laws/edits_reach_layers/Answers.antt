use Rattle.stack.proofs.Through.{edits_reach_layers}
use Rattle.stack.proofs.laws.edits_reach_layers.Goals as goal

pub returns : goal.returns
returns c = edits_reach_layers
