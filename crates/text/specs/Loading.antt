-- Loading a sheet's text: the lengths in its first line, then the linkings of its other lines, up to the end or the first fault.
use Rattle.std.specs.Prelude.{◌≡◌, ℕ, ◌+◌, ◌-◌, List, [], ◌∷◌, length, Ok, Err, fold, Result}
use Rattle.alignment.specs.Links.{links}
use Rattle.sheet.specs.Edits.{State, linking}
use Rattle.sheet.specs.declared.refusal.Refusal.{Refusal}
use Rattle.text.specs.Refused.{refused_field}
use Rattle.text.specs.Records.{lengths_in, record_in}
use Rattle.text.specs.declared.line.Record.{Record}
use Rattle.text.specs.declared.line.Record.TheVariants.{Link, End}
use Rattle.text.specs.declared.fault.Fault.{Fault}
use Rattle.text.specs.declared.fault.LineFault.TheVariants.{Unended}
use Rattle.text.specs.declared.fault.RecordFault.{RecordFault}
use Rattle.text.specs.declared.fault.RecordFault.TheVariants.{Line, Sheet}

-- the fault of line k
abbrev pub fault_at : ℕ → RecordFault → Fault
fault_at k f = record { line = k; cause = f }

-- a line's answer as the text's
abbrev pub on_line : {A : Type 0} → ℕ → Result A RecordFault → Result A Fault
on_line k (Ok x) = Ok x
on_line k (Err f) = Err (fault_at k f)

-- the lengths in the first of the lines
abbrev pub first_lengths : List (List ℕ) → Result (ℕ × ℕ) RecordFault
first_lengths [] = Err (Line Unended)
first_lengths (l ∷ ls) = lengths_in l

-- the lines after the first
abbrev pub later : List (List ℕ) → List (List ℕ)
later [] = []
later (l ∷ ls) = ls

-- the lengths in the first line of a text
abbrev pub opening : List (List ℕ) → Result (ℕ × ℕ) Fault
opening ls = on_line 1 (first_lengths ls)

-- what loading answers, the number of links it made or a fault, and what it leaves
pub record Loaded : Type 0 where
  pub answer : Result ℕ Fault
  pub after : State

abbrev pub loaded : Result ℕ Fault → State → Loaded
loaded r s = record { answer = r; after = s }

-- the linking of one line, on to the rest where it is accepted
abbrev pub linked_on : ℕ → State → Result (Unit {0}) Refusal → (State → Loaded) → Loaded
linked_on made s (Ok u) rest = rest s
linked_on made s (Err e) rest = loaded (Err (fault_at (made + 2) (Sheet e (refused_field e)))) s

-- one line by what it says: a fault, the end, or a link
abbrev pub line_on : ℕ → State → Result Record RecordFault → (State → Loaded) → Loaded
line_on made s (Err f) rest = loaded (Err (fault_at (made + 2) f)) s
line_on made s (Ok End) rest = loaded (Ok made) s
line_on made s (Ok (Link i j)) rest = linked_on made (linking s i j).after (linking s i j).answer rest

-- the lines from line 2 on, after as many links were made: each line before made one link, so line 2 + made is next
abbrev pub loading : ℕ → State → List (List ℕ) → Loaded
loading made s [] = loaded (Err (fault_at (made + 2) (Line Unended))) s
loading made s (l ∷ ls) = line_on made s (record_in l) (λ t. loading (made + 1) t ls)

-- Loading as linkings: the pairs of the lines before any fault, and what linking them one after the other leaves.

abbrev pub accepted_pair : Result (Unit {0}) Refusal → ℕ × ℕ → List (ℕ × ℕ) → List (ℕ × ℕ)
accepted_pair (Ok u) p ps = p ∷ ps
accepted_pair (Err e) p ps = []

abbrev pub line_pairs : State → Result Record RecordFault → (State → List (ℕ × ℕ)) → List (ℕ × ℕ)
line_pairs s (Err f) rest = []
line_pairs s (Ok End) rest = []
line_pairs s (Ok (Link i j)) rest = accepted_pair (linking s i j).answer (i, j) (rest (linking s i j).after)

-- the pairs that the lines link before any fault
abbrev pub pairs_linked : State → List (List ℕ) → List (ℕ × ℕ)
pairs_linked s [] = []
pairs_linked s (l ∷ ls) = line_pairs s (record_in l) (λ t. pairs_linked t ls)

-- one linking after the other
abbrev pub linkings : State → List (ℕ × ℕ) → State
linkings s ps = fold (λ t p. (linking t p.0 p.1).after) s ps

-- how many links an answer tells of: a fault in line 2 + k came after k links
abbrev pub links_told : Result ℕ Fault → ℕ
links_told (Ok n) = n
links_told (Err f) = f.line - 2

-- loading does what these linkings do, tells how many there were, and that many links are new
pub record AsLinkings (s : State) (ls : List (List ℕ)) (r : Result ℕ Fault) (after : State) : Type 0 where
  pub leaves : after ≡ linkings s (pairs_linked s ls)
  pub tells : links_told r ≡ length (pairs_linked s ls)
  pub counts : links after.sheet ≡ links s.sheet + length (pairs_linked s ls)
