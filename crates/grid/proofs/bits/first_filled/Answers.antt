use Rattle.std.proofs.Common.{◌≡◌, true, false, rules, tests, arith}
use Rattle.std.proofs.lemmas.Iterator.{first_from_Range}
use Rattle.std.proofs.lemmas.List.{get_or_read}
use Rattle.std.proofs.lemmas.Bool.Decides.{nat_tests}
use Rattle.grid.specs.Layout.{filled}
use Rattle.grid.proofs.Firsts.{least_found}
use Rattle.grid.proofs.bits.first_filled.Goals as goal

pub returns-clause-first : goal.returns-clause-first
returns-clause-first c =
    let bytes = c.args.bytes.now in
    least_found (filled bytes) c.args.from c.args.end c.find.result
    (first_from_Range _ _ _ _ (λ k. filled bytes k ≡ true) (λ k. filled bytes k ≡ false) c.find.ensures.ran
    (λ k q h. grind (arith, tests, nat_tests, get_or_read))
    (λ k q h. (search rules, grind (arith, tests, nat_tests, get_or_read))))
