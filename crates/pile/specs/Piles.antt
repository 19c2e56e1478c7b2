-- The stack of a pile of every layer.
use Rattle.std.specs.Prelude.{List, [], ◌∷◌, ◌++◌}
use Rattle.alignment.specs.Alignment.{Alignment}
use Rattle.sheet.specs.Edits.{State}
use Rattle.history.specs.Histories.{Ran, ran}
use Rattle.layers.specs.declared.window.Stretch.{Stretch}
use Rattle.stack.specs.Stacks.{Stack, base, fixed, over, both, swap, mirror, window, union, intersection}

-- a window of the first sheet mirrored, united with what the second swapped and the third have in common
abbrev pub pile_of : State → State → Alignment → Stretch → Stretch → Stack
pile_of s t a left right =
    both union (over (window left.first left.length right.first right.length) (over mirror (base s))) (both intersection (over swap (base t)) (fixed a))

-- the sheets at the bottom of a stack, from left to right
abbrev pub bottoms : Stack → List Stack
bottoms (base s) = base s ∷ []
bottoms (fixed a) = fixed a ∷ []
bottoms (over l t) = bottoms t
bottoms (both j t u) = bottoms t ++ bottoms u

-- what running a history comes to, by the sheets at the bottom
abbrev pub at_bottom : Ran Stack → Ran (List Stack)
at_bottom o = ran o.result (bottoms o.after) o.block

abbrev pub sheets_of : State → State → Alignment → List Stack
sheets_of s t a = base s ∷ base t ∷ fixed a ∷ []
