use Rattle.std.proofs.Common.{◌≡◌, ◌-◌}
use Rattle.alignment.specs.Links.{next_link}
use Rattle.alignment.specs.Layers.{intersected}
use Rattle.layers.proofs.intersection.IntersectionSheet.next_link.Given as goal

abbrev pub invariant-loop-first : goal.invariant-loop-first
invariant-loop-first g l =
    let both = intersected (g.P.Sheet.meaning l.self.first) (g.Q.Sheet.meaning l.self.second) in
    next_link both l.left l.from ≡ next_link both l.left l.right

abbrev pub decreases-loop-first : goal.decreases-loop-first
decreases-loop-first g l = 513 - l.from
