use mathlib.Core.Path.{ap}
use Rattle.pile.specs.Piles.{at_bottom}
use Rattle.pile.proofs.piles.run_on_every_layer.Goals as goal

pub returns : goal.returns
returns g c = ap at_bottom c.run-ran.ensures.done
