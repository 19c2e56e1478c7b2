-- What a list of operations answers, and what it leaves.
use Rattle.std.specs.Prelude.{cond, List, [], ◌∷◌, ◌++◌, length, drop, Ok, Err, fold, Result, nat_le}
use Rattle.sheet.specs.declared.refusal.Refusal.{Refusal}
use Rattle.sheet.specs.declared.refusal.Refusal.TheVariants.{BlockTooShort}
use Rattle.sheet.specs.Edits.{State}
use Rattle.history.specs.declared.operation.Operation.{Operation}
use Rattle.history.specs.declared.operation.Answer.{Answer}
use Rattle.history.specs.Operations.{answered, stepped}

-- the standing links and the number free, operation by operation
abbrev pub standing : State → List Operation → State
standing s os = fold stepped s os

-- the answers to a list of operations, one for each, where `answer` and `step` say what one operation answers and leaves
abbrev pub transcript : {S O : Type 0} → (S → O → Answer) → (S → O → S) → S → List O → List Answer
transcript answer step s [] = []
transcript answer step s (o ∷ os) = answer s o ∷ transcript answer step (step s o) os

-- the block of answers: they fill it from its start, and the places after them are as they were
abbrev pub filled : {S O : Type 0} → (S → O → Answer) → (S → O → S) → S → List O → List Answer → List Answer
filled answer step s os block = transcript answer step s os ++ drop (length os) block

-- what running a history answers, what stands then, and the block of answers
pub record Ran (S : Type 0) : Type 0 where
  pub result : Result (Unit {0}) Refusal
  pub after : S
  pub block : List Answer

abbrev pub ran : {S : Type 0} → Result (Unit {0}) Refusal → S → List Answer → Ran S
ran r s b = record { result = r; after = s; block = b }

-- a block with too few places is refused, and nothing is done
abbrev pub running_by : {S O : Type 0} → (S → O → Answer) → (S → O → S) → S → List O → List Answer → Ran S
running_by answer step s os block =
    cond (nat_le (length os) (length block)) (ran (Ok tt) (fold step s os) (filled answer step s os block)) (ran (Err BlockTooShort) s block)

abbrev pub running : State → List Operation → List Answer → Ran State
running s os block = running_by answered stepped s os block
