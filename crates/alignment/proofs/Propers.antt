-- What makes an alignment proper.
use Rattle.std.proofs.Common.{◌≡◌, ℕ, ◌≤◌, true, arith}
use Rattle.std.proofs.lemmas.Bool.Decides.{nat_tests}
use Rattle.alignment.specs.Alignment.{Alignment, Proper, within, most_words}

pub within_parts : (n i : ℕ) → within n i ≡ true → (1 ≤ i) × (i ≤ n)
within_parts n i h = (grind (arith, nat_tests), grind (arith, nat_tests))

pub within_from : (n i : ℕ) → 1 ≤ i → i ≤ n → within n i ≡ true
within_from n i low high = grind (arith, nat_tests)

-- lengths in range, and links within the words
pub proper_from : (a : Alignment) → 1 ≤ a.lefts → a.lefts ≤ most_words → 1 ≤ a.rights → a.rights ≤ most_words → ((i j : ℕ) → a.linked i j ≡ true → (within a.lefts i ≡ true) × (within a.rights j ≡ true)) → Proper a
proper_from a ll lh rl rh w = record {
  lefts_low = ll;
  lefts_high = lh;
  rights_low = rl;
  rights_high = rh;
  inside = λ i j on. let u = within_parts a.lefts i (w i j on).0 in let v = within_parts a.rights j (w i j on).1 in (u.0, u.1, v.0, v.1);
}
