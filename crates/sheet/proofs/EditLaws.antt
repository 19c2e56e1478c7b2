-- What an edit does to the number of links, and what it answers where it is accepted.
use Rattle.std.proofs.Common.{◌≡◌, ℕ, ◌+◌, ◌-◌, ◌≤◌, true, false, eqb, arith}
use Rattle.std.proofs.lemmas.Bool.Decides.{nat_tests}
use Rattle.alignment.specs.Alignment.{Alignment, within}
use Rattle.alignment.specs.Links.{links}
use Rattle.alignment.proofs.Propers as propers
use Rattle.alignment.proofs.Counts.{links_one_more}
use Rattle.sheet.specs.Edits.{State, same_pair, with_link, without_link, accepted, linking, unlinking}

pub within_parts : (n i : ℕ) → within n i ≡ true → (1 ≤ i) × (i ≤ n)
within_parts = propers.within_parts

pub within_from : (n i : ℕ) → 1 ≤ i → i ≤ n → within n i ≡ true
within_from = propers.within_from

pub same_pair_else : (i j a b : ℕ) → ((a ≡ i) × (b ≡ j) → ⊥) → same_pair i j a b ≡ false
same_pair_else i j a b ne = grind (arith, nat_tests)

pub links_with : (a : Alignment) (i j : ℕ) → within a.lefts i ≡ true → within a.rights j ≡ true → a.linked i j ≡ false → links (with_link a i j) ≡ links a + 1
links_with a i j hi hj off =
    let x = within_parts a.lefts i hi in
    let y = within_parts a.rights j hj in
    links_one_more a.linked (with_link a i j).linked a.lefts a.rights i j x.0 x.1 y.0 y.1
    off (grind (arith, nat_tests)) (λ k l ne. rw (same_pair_else i j k l ne))

pub links_without : (a : Alignment) (i j : ℕ) → within a.lefts i ≡ true → within a.rights j ≡ true → a.linked i j ≡ true → links a ≡ links (without_link a i j) + 1
links_without a i j hi hj on =
    let x = within_parts a.lefts i hi in
    let y = within_parts a.rights j hj in
    links_one_more (without_link a i j).linked a.linked a.lefts a.rights i j x.0 x.1 y.0 y.1
    (grind (arith, nat_tests)) on (λ k l ne. rw (same_pair_else i j k l ne))

-- what an edit comes to where it passes its tests
module _ (s : State) (i j : ℕ) (p : within s.sheet.lefts i ≡ true) (q : within s.sheet.rights j ≡ true) where
  pub linking_taken : s.sheet.linked i j ≡ false → eqb s.free 0 ≡ false → linking s i j ≡ accepted (with_link s.sheet i j) (s.free - 1)
  linking_taken r f = rw (p, q, r, f)

  pub unlinking_taken : s.sheet.linked i j ≡ true → unlinking s i j ≡ accepted (without_link s.sheet i j) (s.free + 1)
  unlinking_taken r = rw (p, q, r)
