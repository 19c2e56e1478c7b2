-- The definitions at small histories, by computation.
use Rattle.std.proofs.Common.{◌≡◌, false, List, [], ◌∷◌, Some, refl}
use Rattle.alignment.specs.Links.{in_order}
use Rattle.sheet.specs.declared.refusal.Refusal.TheVariants.{LeftOutside, AlreadyLinked, NotLinked, NothingFree}
use Rattle.sheet.specs.Edits.{started}
use Rattle.history.specs.declared.operation.Edit.TheVariants.{Link, Unlink, Wipe}
use Rattle.history.specs.declared.operation.LookUp.TheVariants as ask
use Rattle.history.specs.declared.operation.Operation.{Operation}
use Rattle.history.specs.declared.operation.Operation.TheVariants.{Edit, LookUp}
use Rattle.history.specs.declared.operation.Answer.TheVariants.{Done, Refused, Lengths, Linked, NextLink, Free}
use Rattle.history.specs.Operations.{answered, stepped}
use Rattle.history.specs.Histories.{standing, transcript}

-- one link at a time
abbrev one_free : List Operation
one_free = Edit (Link 1 3) ∷ Edit (Link 1 3) ∷ Edit (Link 2 2) ∷ LookUp (ask.NextLink 1 0) ∷ Edit (Unlink 1 3) ∷ Edit (Unlink 1 3) ∷ Edit (Link 2 2) ∷ LookUp ask.Free ∷ []

its_answers : transcript answered stepped (started 2 3 1) one_free ≡ Done ∷ Refused AlreadyLinked ∷ Refused NothingFree ∷ NextLink (Some 3) ∷ Done ∷ Refused NotLinked ∷ Done ∷ Free 0 ∷ []
its_answers = refl

its_links : in_order (standing (started 2 3 1) one_free).sheet ≡ (2, 2) ∷ []
its_links = refl

-- wiping gives all places back, and look-ups outside the sheet are answered
wiped : transcript answered stepped (started 2 3 6) (Edit (Link 1 1) ∷ Edit (Link 2 3) ∷ Edit Wipe ∷ LookUp ask.Free ∷ LookUp (ask.Linked 9 9) ∷ LookUp ask.Lengths ∷ Edit (Link 3 9) ∷ []) ≡ Done ∷ Done ∷ Done ∷ Free 6 ∷ Linked false ∷ Lengths 2 3 ∷ Refused LeftOutside ∷ []
wiped = refl
