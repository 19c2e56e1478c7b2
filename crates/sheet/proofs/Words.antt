-- What the test of the two words of an edit tells.
use Rattle.std.proofs.Common.{◌≡◌, ℕ, true, Ok, Err, arith}
use Rattle.std.proofs.lemmas.Bool.Decides.{nat_tests}
use Rattle.alignment.specs.Alignment.{within}
use Rattle.sheet.specs.declared.refusal.Refusal.{Refusal}
use Rattle.sheet.specs.Edits.{State, refused, linking, unlinking}
use Rattle.sheet.specs.Words.{check_words}

pub words_within : (n m i j : ℕ) → Ok tt ≡ check_words n m i j → (within n i ≡ true) × (within m j ≡ true)
words_within n m i j e = (grind (arith, nat_tests), grind (arith, nat_tests))

-- an edit of words that are refused is refused alike
module _ (s : State) (i j : ℕ) (r : Refusal) (e : Err r ≡ check_words s.sheet.lefts s.sheet.rights i j) where
  pub linking_outside : linking s i j ≡ refused r s
  linking_outside = grind (arith, nat_tests)

  pub unlinking_outside : unlinking s i j ≡ refused r s
  unlinking_outside = grind (arith, nat_tests)
