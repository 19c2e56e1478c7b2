use Rattle.std.proofs.Common.{length, arith}
use Rattle.list.proofs.ListEdits.{wiped}
use Rattle.list.proofs.link_list.edits.LinkListEditable.wipe.Goals as goal

pub returns : goal.returns
returns c =
    let e = wiped c.args.self.now (length c.slice_mut.result.now) c.fill.new.self (omega arith) (c.fill.ensures.after (λ y is. is)) in
    record { done = e.state; bounded = e.bounded; block = e.left }

pub invariant_of-self : goal.invariant_of-self
invariant_of-self c =
    let e = wiped c.args.self.now (length c.slice_mut.result.now) c.fill.new.self (omega arith) (c.fill.ensures.after (λ y is. is)) in
    record { fits = e.fits; ordered = e.ordered }
