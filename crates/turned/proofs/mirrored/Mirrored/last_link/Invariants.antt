use Rattle.std.proofs.Common.{◌+◌, ◌-◌}
use Rattle.turned.proofs.Last.{Halved}
use Rattle.turned.proofs.mirrored.Mirrored.last_link.Given as goal

abbrev pub invariant-loop-low : goal.invariant-loop-low
invariant-loop-low g l = Halved ((g.S.Sheet.meaning l.self.below).linked l.left) l.last l.low l.high l.found

abbrev pub decreases-loop-low : goal.decreases-loop-low
decreases-loop-low g l = l.high + 1 - l.low
