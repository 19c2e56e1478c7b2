use Rattle.pile.proofs.Untouched.{fixed_untouched}
use Rattle.pile.proofs.bottom.fixed_stack.BottomFixedStacked.edit.Goals as goal

pub returns : goal.returns
returns g c =
    let u = fixed_untouched (g.S.Sheet.meaning c.args.self.now.sheet) c.args._route.now c.args._edit in
    record { answer = u.answer; after = u.after }
