use Rattle.std.proofs.Common.{◌≡◌, ◌+◌, length}
use Rattle.text.specs.Lines.{lines}
use Rattle.text.specs.Loading.{loading}
use Rattle.loader.proofs.load.load.Given as goal

-- what is still to be loaded leads where the whole did; each link made took one that was free
abbrev pub invariant-loop-tail : goal.invariant-loop-tail
invariant-loop-tail g l =
    let now = g.S.Editable.state l.sheet in
    let first = g.S.Editable.state l.initial.sheet in
    (loading l.made now (lines l.rest) ≡ loading 0 first (lines l.text)) × (l.made + now.free ≡ first.free)

abbrev pub decreases-loop-tail : goal.decreases-loop-tail
decreases-loop-tail g l = length l.rest
