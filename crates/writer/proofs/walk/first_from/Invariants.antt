use Rattle.std.proofs.Common.{◌≡◌}
use Rattle.writer.specs.LinksFrom.{links_from}
use Rattle.writer.proofs.walk.first_from.Given as goal

abbrev pub invariant-loop-left : goal.invariant-loop-left
invariant-loop-left g l = links_from (g.S.Sheet.meaning l.sheet) l.left l.start ≡ links_from (g.S.Sheet.meaning l.sheet) l.first l.initial.start
