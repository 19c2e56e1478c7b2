use Rattle.std.proofs.Common.{◌∙◌, sym, rules}
use borrow.Author.Tests.{tests}
use Rattle.std.proofs.lemmas.Iterator.{YieldsList-from_slice}
use Rattle.std.proofs.lemmas.Iterator.Search.{position_from_yields_List}
use Rattle.loader.proofs.Cuts.{is_sep, cut_at, cut_none}
use Rattle.loader.proofs.split.split_once.Goals as goal

pub returns-in_err-end : goal.returns-in_err-end
returns-in_err-end c =
    let found = position_from_yields_List (is_sep c.args.separator) _ _ c.position.result c.position.ensures.ran (YieldsList-from_slice c.args.bytes.now cc) (λ x b q k. search (rules, tests)) in
    rw c.from_residual.ensures (cut_none c.args.separator c.args.bytes.now (sym found ∙ c.in_err-end.was))

pub returns : goal.returns
returns c =
    let found = position_from_yields_List (is_sep c.args.separator) _ _ c.position.result c.position.ensures.ran (YieldsList-from_slice c.args.bytes.now cc) (λ x b q k. search (rules, tests)) in
    cut_at c.args.separator c.args.bytes.now c.in_ok-end.end (sym found ∙ c.in_ok-end.was)
