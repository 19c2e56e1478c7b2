-- Operations at any place of a stack: what each answers, and the stack that it leaves.
use Rattle.std.specs.Prelude.{◌≡◌, ℕ, Bool, true, false, List, [], ◌∷◌, Some, None, Ok, Option, Result}
use Rattle.alignment.specs.Alignment.{Alignment}
use Rattle.alignment.specs.Layers.{opposite}
use Rattle.sheet.specs.Edits.{State}
use Rattle.sheet.specs.Words.{check_words}
use Rattle.sheet.specs.declared.refusal.Refusal.{Refusal}
use Rattle.history.specs.declared.operation.Edit.{Edit}
use Rattle.history.specs.declared.operation.Edit.TheVariants.{Link, Unlink, Wipe}
use Rattle.history.specs.declared.operation.LookUp.{LookUp}
use Rattle.history.specs.declared.operation.Answer.{Answer}
use Rattle.history.specs.declared.operation.Answer.TheVariants.{Nowhere, Refused}
use Rattle.history.specs.Operations.{editing, told, looked_up}
use Rattle.stack.specs.declared.step.Turn.{Turn}
use Rattle.stack.specs.declared.step.Turn.TheVariants.{First, Second}
use Rattle.stack.specs.Stacks.{Layer, borrowed, swap, mirror, window, Stack, base, fixed, over, both, shown, reading, free_of}

-- A look-up at the end of a route answers of what stands there.
abbrev pub look_told : Stack → List Turn → LookUp → Answer
look_told t [] l = looked_up (reading t) (free_of t) l
look_told (base s) (w ∷ r) l = Nowhere
look_told (fixed a) (w ∷ r) l = Nowhere
look_told (over k t) (First ∷ r) l = look_told t r l
look_told (over k t) (Second ∷ r) l = Nowhere
look_told (both j t u) (First ∷ r) l = look_told t r l
look_told (both j t u) (Second ∷ r) l = look_told u r l

-- a sheet by its links and what is free
abbrev pub stand : Alignment → ℕ → State
stand a f = record { sheet = a; free = f }

-- an edit of a sheet that is editable, or not
abbrev pub told_here : Option ℕ → Alignment → Edit → Answer
told_here None a e = Nowhere
told_here (Some f) a e = told (editing (stand a f) e).answer

-- nothing below a borrowed sheet can be edited
abbrev pub told_through : Layer → Answer → Answer
told_through borrowed r = Nowhere
told_through swap r = r
told_through mirror r = r
told_through (window x n y m) r = r

-- An edit at the end of a route answers as an edit of what stands there.
abbrev pub edit_told : Stack → List Turn → Edit → Answer
edit_told t [] e = told_here (free_of t) (reading t) e
edit_told (base s) (w ∷ r) e = Nowhere
edit_told (fixed a) (w ∷ r) e = Nowhere
edit_told (over l t) (First ∷ r) e = told_through l (edit_told t r e)
edit_told (over l t) (Second ∷ r) e = Nowhere
edit_told (both j t u) (First ∷ r) e = edit_told t r e
edit_told (both j t u) (Second ∷ r) e = edit_told u r e

-- the same edit of the words that `w` gives for its own
abbrev pub moved : (ℕ → ℕ → ℕ × ℕ) → Edit → Edit
moved w (Link i j) = Link (w i j).0 (w i j).1
moved w (Unlink i j) = Unlink (w i j).0 (w i j).1
moved w Wipe = Wipe

-- the same edit from the other side
abbrev pub swapped_edit : Edit → Edit
swapped_edit e = moved (λ i j. (j, i)) e

-- the same edit at the opposite one of m right words
abbrev pub mirrored_edit : ℕ → Edit → Edit
mirrored_edit m e = moved (λ i j. (i, opposite m j)) e

-- the layers that turn the edits of their own into edits of the sheet below
abbrev pub turns : Layer → Bool
turns borrowed = false
turns swap = true
turns mirror = true
turns (window x n y m) = false

-- the edit of the sheet below, with these links, that an edit of the layer is
abbrev pub turned_edit : Layer → Alignment → Edit → Edit
turned_edit borrowed a e = e
turned_edit swap a e = swapped_edit e
turned_edit mirror a e = mirrored_edit a.rights e
turned_edit (window x n y m) a e = e

-- the words of an edit have to be there
abbrev pub check_edit : ℕ → ℕ → Edit → Result (Unit {0}) Refusal
check_edit n m (Link i j) = check_words n m i j
check_edit n m (Unlink i j) = check_words n m i j
check_edit n m Wipe = Ok tt

-- a refusal is of a sheet that is editable
abbrev pub refused_where : Option ℕ → Refusal → Answer
refused_where None e = Nowhere
refused_where (Some f) e = Refused e

-- An edit of a swapped or mirrored sheet is, by the layer's rule, one of the sheet below.
abbrev pub edited_over : Layer → Alignment → Edit → Stack → (Edit → Stack) → Stack
edited_over borrowed a e t below = t
edited_over swap a e t below = below (swapped_edit e)
edited_over mirror a e t below = below (mirrored_edit a.rights e)
edited_over (window x n y m) a e t below = t

abbrev pub edited : Stack → Edit → Stack
edited (base s) e = base (editing s e).after
edited (fixed a) e = fixed a
edited (over l t) e = over l (edited_over l (reading t) e t (edited t))
edited (both j t u) e = both j t u

abbrev pub held : Layer → Stack → Stack → Stack
held borrowed t new = t
held swap t new = new
held mirror t new = new
held (window x n y m) t new = new

-- the stack after an edit at the end of a route; where there is nothing to edit, nothing changes
abbrev pub changed : Stack → List Turn → Edit → Stack
changed t [] e = edited t e
changed (base s) (w ∷ r) e = base s
changed (fixed a) (w ∷ r) e = fixed a
changed (over l t) (First ∷ r) e = over l (held l t (changed t r e))
changed (over l t) (Second ∷ r) e = over l t
changed (both j t u) (First ∷ r) e = both j (changed t r e) u
changed (both j t u) (Second ∷ r) e = both j t (changed u r e)

-- an edit at the end of a route, by what it answers and the stack that it leaves
pub record Edited (t : Stack) (r : List Turn) (e : Edit) (x : Answer) (u : Stack) : Type 0 where
  pub answer : x ≡ edit_told t r e
  pub after : u ≡ changed t r e

-- a layer with these lengths over a stack, whose edit is another one of the sheet below
pub record Turns (l : Layer) (t : Stack) (n m : ℕ) (e below : Edit) : Type 0 where
  pub turned : turns l ≡ true
  pub left : n ≡ (shown l (reading t)).lefts
  pub right : m ≡ (shown l (reading t)).rights
  pub edit : below ≡ turned_edit l (reading t) e
