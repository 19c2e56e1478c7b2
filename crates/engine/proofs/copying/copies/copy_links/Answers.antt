use Rattle.std.proofs.Common.{arith}
use Rattle.std.proofs.lemmas.Grind.{common_steps}
use Rattle.engine.proofs.Copies.{carries_over}
use Rattle.engine.proofs.copying.copies.copy_links.Goals as goal

pub returns-in_err-made-clause-carries_over : goal.returns-in_err-made-clause-carries_over
returns-in_err-made-clause-carries_over g c =
    carries_over _ c.write_sheet.ensures.reads_back (g.Q.Editable.state c.args.onto.now) c.args.buffer.now _ (g.Q.Editable.state c.load.new.sheet) c.write_sheet.new.out (grind (arith, common_steps))

pub returns-clause-carries_over : goal.returns-clause-carries_over
returns-clause-carries_over g c =
    carries_over _ c.write_sheet.ensures.reads_back (g.Q.Editable.state c.args.onto.now) c.args.buffer.now _ (g.Q.Editable.state c.load.new.sheet) c.write_sheet.new.out (grind (arith, common_steps))
