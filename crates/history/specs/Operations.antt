-- What one operation answers, and what it leaves.
use Rattle.std.specs.Prelude.{ℕ, Some, None, Ok, Err, Option, Result}
use Rattle.alignment.specs.Alignment.{Alignment}
use Rattle.alignment.specs.Links.{next_link}
use Rattle.sheet.specs.declared.refusal.Refusal.{Refusal}
use Rattle.sheet.specs.Edits.{State, Outcome, outcome, linking, unlinking, wiping}
use Rattle.history.specs.declared.operation.Edit.{Edit}
use Rattle.history.specs.declared.operation.Edit.TheVariants.{Link, Unlink, Wipe}
use Rattle.history.specs.declared.operation.LookUp.{LookUp}
use Rattle.history.specs.declared.operation.LookUp.TheVariants.{Lengths as AskLengths, Linked as AskLinked, NextLink as AskNextLink, Free as AskFree}
use Rattle.history.specs.declared.operation.Operation.{Operation}
use Rattle.history.specs.declared.operation.Operation.TheVariants.{Edit as Editing, LookUp as Asking}
use Rattle.history.specs.declared.operation.Answer.{Answer}
use Rattle.history.specs.declared.operation.Answer.TheVariants.{Done, Refused, Lengths, Linked, NextLink, Free, Nowhere}

-- what an edit answers, and what it leaves
abbrev pub editing : State → Edit → Outcome
editing s (Link i j) = linking s i j
editing s (Unlink i j) = unlinking s i j
editing s Wipe = outcome (Ok tt) (wiping s)

abbrev pub told : Result (Unit {0}) Refusal → Answer
told (Ok u) = Done
told (Err e) = Refused e

-- only an editable sheet has a number free
abbrev pub free_told : Option ℕ → Answer
free_told None = Nowhere
free_told (Some f) = Free f

-- what a look-up answers of an alignment, and of the number free
abbrev pub looked_up : Alignment → Option ℕ → LookUp → Answer
looked_up a f AskLengths = Lengths a.lefts a.rights
looked_up a f (AskLinked i j) = Linked (a.linked i j)
looked_up a f (AskNextLink i j) = NextLink (next_link a i j)
looked_up a f AskFree = free_told f

-- what an operation answers of an editable sheet
abbrev pub answered : State → Operation → Answer
answered s (Editing e) = told (editing s e).answer
answered s (Asking l) = looked_up s.sheet (Some s.free) l

-- what it leaves: a look-up changes nothing
abbrev pub stepped : State → Operation → State
stepped s (Editing e) = (editing s e).after
stepped s (Asking l) = s
