use Rattle.std.proofs.Common.{Ok, ap, ◌∙◌, arith}
use Rattle.std.proofs.lemmas.Bool.{true≢false}
use Rattle.std.proofs.lemmas.Grind.{common_steps}
use Rattle.sheet.specs.Edits.{outcome}
use Rattle.list.proofs.ListEdits.{taken_out}
use Rattle.list.proofs.link_list.edits.LinkListEditable.unlink.Goals as goal

pub returns : goal.returns
returns c =
    let e = taken_out c.args.self.now c.args.left c.args.right c.in-Ok.k c.in-Ok.ensures.place c.in-Ok.ensures.bound c.copy_within.new.self c.copy_within.ensures.items in
    record { done = ap (outcome (Ok tt)) e.state ∙ grind (arith, common_steps); bounded = e.bounded; block = e.left; kept = λ refused. absurd (true≢false refused) }

pub invariant_of-self : goal.invariant_of-self
invariant_of-self c =
    let e = taken_out c.args.self.now c.args.left c.args.right c.in-Ok.k c.in-Ok.ensures.place c.in-Ok.ensures.bound c.copy_within.new.self c.copy_within.ensures.items in
    record { fits = e.fits; ordered = e.ordered }
