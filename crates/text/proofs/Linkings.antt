-- Loading does what the linkings of its lines do.
use Rattle.std.proofs.Common.{◌≡◌, ℕ, ◌+◌, List, [], ◌∷◌, length, Ok, Err, Result, sym, refl, ap, ◌∙◌, arith}
use Rattle.sheet.specs.Edits.{State, linking}
use Rattle.sheet.specs.declared.refusal.Refusal.{Refusal}
use Rattle.alignment.specs.Links.{links}
use Rattle.sheet.proofs.Accepted.{linking_refused, links_rise}
use Rattle.text.specs.Records.{record_in}
use Rattle.text.specs.Loading.{Loaded, loaded, linked_on, line_on, loading, accepted_pair, line_pairs, pairs_linked, linkings, links_told, AsLinkings}
use Rattle.text.specs.declared.line.Record.{Record}
use Rattle.text.specs.declared.line.Record.TheVariants.{Link, End}
use Rattle.text.specs.declared.fault.Fault.{Fault}
use Rattle.text.specs.declared.fault.RecordFault.{RecordFault}

-- what the lines after k links give, and the pairs that they link
record Told (k : ℕ) (s : State) (o : Loaded) (ps : List (ℕ × ℕ)) : Type 0 where
  leaves : o.after ≡ linkings s ps
  tells : links_told o.answer ≡ k + length ps
  counts : links o.after.sheet ≡ links s.sheet + length ps

told_link : (k : ℕ) (s : State) (i j : ℕ) (a : Result (Unit {0}) Refusal) (rest : State → Loaded) (ps : List (ℕ × ℕ)) → a ≡ (linking s i j).answer → Told (k + 1) (linking s i j).after (rest (linking s i j).after) ps → Told k s (linked_on k (linking s i j).after a rest) (accepted_pair a (i, j) ps)
told_link k s i j (Ok u) rest ps e t = record { leaves = t.leaves; tells = omega (arith, t.tells); counts = omega (arith, t.counts, links_rise s i j u (sym e)) }
told_link k s i j (Err f) rest ps e t =
    let same = linking_refused s i j f (sym e) in
    record { leaves = same; tells = omega arith; counts = omega (arith, ap (λ (z : State). links z.sheet) same) }

told_line : (k : ℕ) (s : State) (r : Result Record RecordFault) (rest : State → Loaded) (pairs : State → List (ℕ × ℕ)) → ((t : State) → Told (k + 1) t (rest t) (pairs t)) → Told k s (line_on k s r rest) (line_pairs s r pairs)
told_line k s (Err f) rest pairs more = record { leaves = refl; tells = omega arith; counts = omega arith }
told_line k s (Ok End) rest pairs more = record { leaves = refl; tells = omega arith; counts = omega arith }
told_line k s (Ok (Link i j)) rest pairs more = told_link k s i j (linking s i j).answer rest (pairs (linking s i j).after) refl (more (linking s i j).after)

told : (k : ℕ) (s : State) (ls : List (List ℕ)) → Told k s (loading k s ls) (pairs_linked s ls)
told k s [] = record { leaves = refl; tells = omega arith; counts = omega arith }
told k s (l ∷ ls) = told_line k s (record_in l) (λ t. loading (k + 1) t ls) (λ t. pairs_linked t ls) (λ t. told (k + 1) t ls)

pub as_linkings : (s : State) (ls : List (List ℕ)) (r : Result ℕ Fault) (after : State) → loaded r after ≡ loading 0 s ls → AsLinkings s ls r after
as_linkings s ls r after e =
    let t = told 0 s ls in
    record {
      leaves = ap (λ (o : Loaded). o.after) e ∙ t.leaves;
      tells = ap (λ (o : Loaded). links_told o.answer) e ∙ omega (arith, t.tells);
      counts = ap (λ (o : Loaded). links o.after.sheet) e ∙ t.counts;
    }
