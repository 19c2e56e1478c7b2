use Rattle.std.proofs.Common.{arith, length-append}
use Rattle.writer.proofs.SheetText.{two_parts, links_most}
use Rattle.writer.proofs.whole.sheet_len.Goals as goal

pub loop-left-init : goal.loop-left-init
loop-left-init g c = grind (arith, two_parts, length-append, links_most _ (g.met.S.Sheet.proper c.args.sheet.now))
