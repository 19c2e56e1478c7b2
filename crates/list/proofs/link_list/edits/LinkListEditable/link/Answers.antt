use Rattle.std.proofs.Common.{Ok, ap, ◌∙◌, arith}
use Rattle.std.proofs.lemmas.Bool.{true≢false}
use Rattle.std.proofs.lemmas.Grind.{common_steps}
use Rattle.sheet.specs.Edits.{outcome}
use Rattle.list.proofs.ListEdits.{linked_in}
use Rattle.list.proofs.link_list.edits.LinkListEditable.link.Goals as goal

pub returns : goal.returns
returns c =
    let e =
    linked_in c.args.self.now c.args.left c.args.right c.in-Err.k c.in_ok-check_words.ensures c.in-Err.ensures.place c.in-Err.ensures.bound (omega arith) c.copy_within.new.self
    c.copy_within.ensures.items in
    record { done = ap (outcome (Ok tt)) e.state ∙ grind (arith, common_steps); bounded = e.bounded; block = e.left; kept = λ refused. absurd (true≢false refused) }

pub invariant_of-self : goal.invariant_of-self
invariant_of-self c =
    let e =
    linked_in c.args.self.now c.args.left c.args.right c.in-Err.k c.in_ok-check_words.ensures c.in-Err.ensures.place c.in-Err.ensures.bound (omega arith) c.copy_within.new.self
    c.copy_within.ensures.items in
    record { fits = e.fits; ordered = e.ordered }
