use Rattle.std.proofs.Common.{drop}
use Rattle.writer.specs.Unwritten.{line_from, Unwritten}
use Rattle.writer.proofs.line.Line.put.Given as goal

abbrev pub invariant-loop-field : goal.invariant-loop-field
invariant-loop-field g l = Unwritten l.fn.out l.at l.self l.out l.end (line_from (drop l.field-index l.field-items))
