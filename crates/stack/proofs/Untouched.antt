-- Sheets that no edit reaches.
use Rattle.std.proofs.Common.{List, [], ◌∷◌, refl}
use Rattle.history.specs.declared.operation.Edit.{Edit}
use Rattle.history.specs.declared.operation.Answer.TheVariants.{Nowhere}
use Rattle.stack.specs.declared.step.Turn.{Turn}
use Rattle.stack.specs.declared.step.Turn.TheVariants.{First, Second}
use Rattle.stack.specs.Stacks.{Stack, over, borrowed}
use Rattle.stack.specs.Places.{Edited}

pub borrowed_untouched : (t : Stack) (r : List Turn) (e : Edit) → Edited (over borrowed t) r e Nowhere (over borrowed t)
borrowed_untouched t [] e = record { answer = refl; after = refl }
borrowed_untouched t (First ∷ r) e = record { answer = refl; after = refl }
borrowed_untouched t (Second ∷ r) e = record { answer = refl; after = refl }
