use Rattle.std.proofs.Common.{◌≡◌, ◌+◌, ◌*◌, ◌≤◌, length}
use Rattle.text.specs.Written.{sheet_text}
use Rattle.writer.specs.Unwritten.{text_from}
use Rattle.writer.proofs.whole.sheet_len.Given as goal

abbrev pub invariant-loop-left : goal.invariant-loop-left
invariant-loop-left g l = record {
  rest : l.len + length (text_from l.left-iterator) ≡ length (sheet_text (g.S.Sheet.meaning l.sheet));
  short : l.len + 90 * length l.left-iterator ≤ 90 + 90 * (512 * 512);
}
