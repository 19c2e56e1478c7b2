use Rattle.std.proofs.Common.{rules}
use Rattle.std.proofs.lemmas.List.Sums.{list_all-from_AllPass}
use Rattle.loader.proofs.record.check_bytes.Goals as goal

pub returns-then-all : goal.returns-then-all
returns-then-all c = search (rules, list_all-from_AllPass)
