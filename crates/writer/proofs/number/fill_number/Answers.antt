use Rattle.std.proofs.Common.{◌≡◌, decimal, drop, ◌++◌, sym, ap, ◌∙◌, arith}
use Rattle.writer.proofs.Digits.{one_more_digit, some_digit, more_than_one, only_one, last_digit, first_digit}
use Rattle.writer.proofs.number.fill_number.Goals as goal

pub loop-place-preserved : goal.loop-place-preserved
loop-place-preserved c =
    let l = c.loop-place in
    let more = more_than_one l.rest (omega arith) (omega (arith, l.invariant.1)) in
    (last_digit l.rest l.place l.part more (omega arith) (omega arith) (omega arith) ∙ l.invariant.0, omega (arith, l.invariant.1, one_more_digit l.rest more (omega arith)))

pub overflow_cast-part-2 : goal.overflow_cast-part-2
overflow_cast-part-2 c = let l = c.loop-place in omega (arith, l.invariant.1, only_one l.rest (omega arith) (omega (arith, l.invariant.1, some_digit l.rest (omega arith))))

pub overflow_add-part-2 : goal.overflow_add-part-2
overflow_add-part-2 c = let l = c.loop-place in omega (arith, l.invariant.1, only_one l.rest (omega arith) (omega (arith, l.invariant.1, some_digit l.rest (omega arith))))

pub bounds-part-0 : goal.bounds-part-0
bounds-part-0 c = omega (arith, some_digit c.args.number (omega arith), c.requires)

pub returns : goal.returns
returns c =
    let l = c.loop-place in
    let first : l.place ≡ 1 = omega (arith, l.invariant.1, some_digit l.rest (omega arith)) in
    first_digit l.rest l.part (only_one l.rest (omega arith) (l.invariant.1 ∙ first)) (omega (arith, some_digit c.args.number (omega arith), c.requires))
    ∙ ap (λ k. decimal l.rest ++ drop k l.part) (sym first) ∙ l.invariant.0
