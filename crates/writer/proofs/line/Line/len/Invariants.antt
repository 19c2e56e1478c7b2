use Rattle.std.proofs.Common.{◌≡◌, ◌+◌, ◌*◌, ◌≤◌, length, drop}
use Rattle.writer.specs.Unwritten.{line_from}
use Rattle.writer.proofs.line.Line.len.Given as goal

abbrev pub invariant-loop-field : goal.invariant-loop-field
invariant-loop-field g l = (l.len + length (line_from (drop l.field-index l.field-items)) ≡ length l.self + 1) × (l.len ≤ 2 + 11 * l.field-index)
