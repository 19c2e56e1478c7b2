-- A fixed sheet is one that no edit reaches.
use mathlib.Core.Path.{refl}
use mathlib.Core.List.{List, [], ◌∷◌}
use Rattle.alignment.specs.Alignment.{Alignment}
use Rattle.history.specs.declared.operation.Edit.{Edit}
use Rattle.history.specs.declared.operation.Answer.TheVariants.{Nowhere}
use Rattle.stack.specs.declared.step.Turn.{Turn}
use Rattle.stack.specs.Stacks.{fixed}
use Rattle.stack.specs.Places.{Edited}

pub fixed_untouched : (a : Alignment) (r : List Turn) (e : Edit) → Edited (fixed a) r e Nowhere (fixed a)
fixed_untouched a [] e = record { answer = refl; after = refl }
fixed_untouched a (w ∷ r) e = record { answer = refl; after = refl }
