use Rattle.std.proofs.Common.{◌+◌, sym, ◌∙◌, arith}
use Rattle.writer.proofs.LinksFrom.{found, found_small, next_left, past_last}
use Rattle.writer.proofs.walk.first_from.Goals as goal

pub returns-in-Some : goal.returns-in-Some
returns-in-Some g c =
    let ok = g.met.S.Sheet.proper c.args.sheet.now in
    record {
      first = sym c.loop-left.invariant ∙ found _ ok c.loop-left.left c.loop-left.start c.in-Some.right c.in-Some.ensures;
      inside = found_small _ ok c.loop-left.left c.loop-left.start c.in-Some.right c.in-Some.ensures;
    }

pub loop-left-preserved : goal.loop-left-preserved
loop-left-preserved g c =
    let last = c.lengths.ensures.left in
    next_left _ (g.met.S.Sheet.proper c.args.sheet.now) c.loop-left.left c.loop-left.start (omega arith) c.in_default.ensures ∙ c.loop-left.invariant

pub returns-clause-first : goal.returns-clause-first
returns-clause-first g c =
    let last = c.lengths.ensures.left in
    sym c.loop-left.invariant ∙ past_last _ (g.met.S.Sheet.proper c.args.sheet.now) c.loop-left.left c.loop-left.start (omega arith)

pub returns-in_default-clause-first : goal.returns-in_default-clause-first
returns-in_default-clause-first g c =
    let ok = g.met.S.Sheet.proper c.args.sheet.now in
    let last = c.lengths.ensures.left in
    sym (next_left _ ok c.loop-left.left c.loop-left.start (omega arith) c.in_default.ensures ∙ c.loop-left.invariant) ∙ past_last _ ok (c.loop-left.left + 1) 1 (omega arith)
