use Rattle.std.proofs.Common.{rules}
use Rattle.text.proofs.Linkings.{as_linkings}
use Rattle.loader.proofs.load.load.Goals as goal

pub returns-in_err-tail-clause-linkings : goal.returns-in_err-tail-clause-linkings
returns-in_err-tail-clause-linkings g c = as_linkings _ _ _ _ (search rules)

pub returns-clause-linkings : goal.returns-clause-linkings
returns-clause-linkings g c = as_linkings _ _ _ _ (search rules)
