use Rattle.std.proofs.Common.{rules, refl, ◌∙◌, arith}
use Rattle.std.proofs.lemmas.Grind.{common_steps}
use Rattle.grid.proofs.Firsts.{first_in_byte, none_after, first_after}
use Rattle.grid.proofs.bits.first_set.Goals as goal
use Rattle.grid.proofs.bits.first_set.Goals.{then-rest-ne0, else-rest-ne0+in_ok-byte}

pub returns-in_err-byte-clause-first : goal.returns-in_err-byte-clause-first
returns-in_err-byte-clause-first c =
    c.from_residual.ensures ∙ none_after c.args.bytes.now c.args.from c.args.end _ refl c.div_ceil.result c.if-rest-ne0.false (grind (arith, common_steps)) c.in_err-byte.ensures.first

pub returns-clause-first : goal.returns-clause-first
returns-clause-first c =
    c.then_some.ensures
    ∙ elim c.if-rest-ne0.branch [
      | then-rest-ne0 w ↦ rw w.b-is (first_in_byte c.args.bytes.now c.args.from c.args.end _ refl w.if-rest-ne0.true (search rules))
      | else-rest-ne0+in_ok-byte w ↦ rw w.b-is
          (first_after c.args.bytes.now c.args.from c.args.end _ refl w.div_ceil.result w.if-rest-ne0.false w.in_ok-byte.byte w.in_ok-byte.ensures.first (search rules))
    ]
