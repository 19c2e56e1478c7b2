-- What a list of operations anywhere in a stack answers, and what it leaves.
use Rattle.std.specs.Prelude.{List, fold}
use Rattle.history.specs.declared.operation.Operation.{Operation}
use Rattle.history.specs.declared.operation.Operation.TheVariants.{Edit, LookUp}
use Rattle.history.specs.declared.operation.Answer.{Answer}
use Rattle.history.specs.Histories.{Ran, running_by}
use Rattle.stack.specs.declared.step.Turn.{Turn}
use Rattle.stack.specs.declared.step.Step.{Step}
use Rattle.stack.specs.Stacks.{Stack}
use Rattle.stack.specs.Places.{look_told, edit_told, changed}

abbrev operation_told : Stack → List Turn → Operation → Answer
operation_told t r (Edit e) = edit_told t r e
operation_told t r (LookUp l) = look_told t r l

abbrev operation_left : Stack → List Turn → Operation → Stack
operation_left t r (Edit e) = changed t r e
operation_left t r (LookUp l) = t

-- what a step answers
abbrev pub step_told : Stack → Step → Answer
step_told t s = operation_told t s.route.now s.operation

-- what it leaves: a look-up changes nothing
abbrev pub step_left : Stack → Step → Stack
step_left t s = operation_left t s.route.now s.operation

-- the stack after a history, step by step, refused ones included
abbrev pub lived : Stack → List Step → Stack
lived t ss = fold step_left t ss

abbrev pub living : Stack → List Step → List Answer → Ran Stack
living t ss block = running_by step_told step_left t ss block
