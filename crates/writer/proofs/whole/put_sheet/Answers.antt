use Rattle.std.proofs.Common.{◌≡◌, ◌++◌, refl, arith, length-append, append_assoc}
use Rattle.text.specs.Written.{sheet_text}
use Rattle.writer.specs.Unwritten.{text_from}
use Rattle.writer.proofs.Unwritten.{rest_same, then_all}
use Rattle.writer.proofs.SheetText.{two_parts}
use Rattle.writer.proofs.whole.put_sheet.Goals as goal

pub put-end-requires : goal.put-end-requires
put-end-requires g c = grind (arith, two_parts (g.S.Sheet.meaning c.args.sheet.now), length-append)

pub loop-left-init : goal.loop-left-init
loop-left-init g c =
    let parts : sheet_text (g.S.Sheet.meaning c.args.sheet.now) ≡ c.lengths_line.result ++ text_from c.into_iter-left-iterator.result = grind (arith, two_parts) in
    then_all c.lengths_line.result (rest_same parts (record { place = refl; room = c.requires; buffer = refl })) c.put-end.ensures.end c.put-end.ensures.after

pub loop-left-preserved : goal.loop-left-preserved
loop-left-preserved g c =
    let more : text_from c.loop-left.left-iterator ≡ c.link_line.result ++ text_from c.next.new.self = grind (arith, append_assoc) in
    then_all c.link_line.result (rest_same more c.loop-left.invariant) c.put-end-in-loop-left.ensures.end c.put-end-in-loop-left.ensures.after
