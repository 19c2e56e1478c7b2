use Rattle.std.proofs.Common.{get_or, ap, arith}
use Rattle.std.proofs.lemmas.List.{drop_all}
use Rattle.text.specs.declared.line.Field.TheVariants.{Number}
use Rattle.text.specs.Letters.{tab, feed}
use Rattle.text.specs.Written.{field_bytes}
use Rattle.writer.specs.Unwritten.{line_from}
use Rattle.writer.proofs.Unwritten.{next_field, rest_same, then_byte, then_part, all_written}
use Rattle.writer.proofs.line.Line.put.Goals as goal

pub loop-field-preserved : goal.loop-field-preserved
loop-field-preserved g c =
    let fs = c.self.inside.fields in
    let i = c.loop-field.field-index in
    let here = rest_same (next_field fs i (Number 0) (omega arith)) c.loop-field.invariant in
    then_part _ (field_bytes (get_or fs i (Number 0))) (then_byte tab here) (omega arith) c.fill_field.ensures

pub returns-clause-after : goal.returns-clause-after
returns-clause-after g c =
    let none = drop_all c.loop-field.field-index c.self.inside.fields (omega arith) in
    all_written (then_byte feed (rest_same (ap line_from none) c.loop-field.invariant))
