-- Free and links together are the same after every history.
use Rattle.std.proofs.Common.{◌≡◌, List, [], ◌∷◌, refl, ap, ◌∙◌, arith}
use Rattle.std.proofs.lemmas.Bool.Decides.{nat_tests}
use Rattle.alignment.specs.Alignment.{unlinked}
use Rattle.alignment.proofs.Counts.{links_none}
use Rattle.sheet.specs.Edits.{State}
use Rattle.sheet.proofs.EditLaws.{links_with, links_without}
use Rattle.history.specs.declared.operation.Edit.{Edit}
use Rattle.history.specs.declared.operation.Edit.TheVariants.{Link, Unlink, Wipe}
use Rattle.history.specs.declared.operation.Operation.{Operation}
use Rattle.history.specs.declared.operation.Operation.TheVariants.{Edit as Editing, LookUp as Asking}
use Rattle.history.specs.declared.operation.Answer.{Answer}
use Rattle.history.specs.Operations.{editing, stepped}
use Rattle.history.specs.Histories.{standing, Ran, running}
use Rattle.history.specs.Laws.{places}

edit_conserves : (s : State) (e : Edit) → places (editing s e).after ≡ places s
edit_conserves s (Link i j) = grind (arith, nat_tests, links_with)
edit_conserves s (Unlink i j) = grind (arith, nat_tests, links_without)
edit_conserves s Wipe = omega (arith, links_none (unlinked s.sheet.lefts s.sheet.rights) (λ i j. refl))

step_conserves : (s : State) (o : Operation) → places (stepped s o) ≡ places s
step_conserves s (Editing e) = edit_conserves s e
step_conserves s (Asking l) = refl

conserved : (s : State) (os : List Operation) → places (standing s os) ≡ places s
conserved s [] = refl
conserved s (o ∷ os) = conserved (stepped s o) os ∙ step_conserves s o

pub run_conserves : (s : State) (os : List Operation) (block : List Answer) (o : Ran State) → o ≡ running s os block → places o.after ≡ places s
run_conserves s os block o e = ap (λ (x : Ran State). places x.after) e ∙ grind (arith, nat_tests, conserved)
