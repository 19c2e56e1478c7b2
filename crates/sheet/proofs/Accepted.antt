-- When an edit is accepted.
use Rattle.std.proofs.Common.{◌≡◌, ℕ, ◌+◌, Ok, Err, arith}
use Rattle.std.proofs.lemmas.Bool.Decides.{nat_tests}
use Rattle.alignment.specs.Links.{links}
use Rattle.sheet.specs.Edits.{State, linking}
use Rattle.sheet.proofs.EditLaws.{links_with, linking_taken}
use Rattle.sheet.specs.declared.refusal.Refusal.{Refusal}

-- a linking that is accepted adds one to the links
pub links_rise : (s : State) (i j : ℕ) (u : Unit {0}) → (linking s i j).answer ≡ Ok u → links (linking s i j).after.sheet ≡ links s.sheet + 1
links_rise s i j u e = grind (arith, nat_tests, links_with, linking_taken)

-- a refusal changes nothing
pub linking_refused : (s : State) (i j : ℕ) (e : Refusal) → (linking s i j).answer ≡ Err e → (linking s i j).after ≡ s
linking_refused s i j e p = grind (arith, nat_tests)
