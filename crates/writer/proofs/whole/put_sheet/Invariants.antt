use Rattle.text.specs.Written.{sheet_text}
use Rattle.writer.specs.Unwritten.{text_from, Unwritten}
use Rattle.writer.proofs.whole.put_sheet.Given as goal

abbrev pub invariant-loop-left : goal.invariant-loop-left
invariant-loop-left g l = Unwritten l.fn.out l.at (sheet_text (g.S.Sheet.meaning l.sheet)) l.out l.end (text_from l.left-iterator)
