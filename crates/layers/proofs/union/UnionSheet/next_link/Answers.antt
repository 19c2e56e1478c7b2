use Rattle.std.proofs.Common.{◌≡◌, ℕ, min, ◌++◌, Option, Some, None, refl, sym, ◌∙◌, arith}
use Rattle.std.specs.List.{reduce}
use Rattle.std.specs.Option.{option_to_list}
use Rattle.std.proofs.lemmas.Iterator.Adapters.{YieldsList-from_once, option_map_id}
use Rattle.std.proofs.lemmas.Iterator.Consumers.{YieldsList-from_chain, min_from_yields_List}
use Rattle.alignment.proofs.Layers.{lesser, united_next}
use Rattle.layers.proofs.union.UnionSheet.next_link.Goals as goal

least_of_two : (o p : Option ℕ) → reduce min (option_to_list o ++ option_to_list p) ≡ lesser o p
least_of_two None None = refl
least_of_two None (Some y) = refl
least_of_two (Some x) None = refl
least_of_two (Some x) (Some y) = refl

pub returns : goal.returns
returns g c =
    let u = c.args.self.now in
    let both = YieldsList-from_chain (YieldsList-from_once c.next_link-first.result (cc)) (YieldsList-from_once c.next_link-second.result (grind arith)) (cc) (cc) in
    sym (option_map_id c.min.result) ∙ min_from_yields_List _ _ c.min.ensures.ran both
    ∙ least_of_two _ _
    ∙ united_next _ _ c.args.left c.args.right (g.met.P.Sheet.proper u.first) (g.met.Q.Sheet.proper u.second) _ _ c.next_link-first.ensures c.next_link-second.ensures
