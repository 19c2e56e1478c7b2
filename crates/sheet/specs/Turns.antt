-- An editable sheet whose alignment is turned round, with the same free.
use Rattle.alignment.specs.Alignment.{Alignment}
use Rattle.alignment.specs.Layers.{swapped, mirrored}
use Rattle.sheet.specs.Edits.{State, Outcome, outcome}

abbrev pub turned_state : (Alignment → Alignment) → State → State
turned_state turn s = record { sheet = turn s.sheet; free = s.free }

-- the same answer, and what is left turned round
abbrev pub turned_outcome : (Alignment → Alignment) → Outcome → Outcome
turned_outcome turn o = outcome o.answer (turned_state turn o.after)

-- with its sides exchanged
abbrev pub swapped_state : State → State
swapped_state = turned_state swapped

abbrev pub swapped_outcome : Outcome → Outcome
swapped_outcome = turned_outcome swapped

-- with its right words in the other order
abbrev pub mirrored_state : State → State
mirrored_state = turned_state mirrored

abbrev pub mirrored_outcome : Outcome → Outcome
mirrored_outcome = turned_outcome mirrored
