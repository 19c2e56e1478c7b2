-- The greatest that passes: how halving finds it, and what it is among the opposites.
use Rattle.std.proofs.Common.{◌≡◌, ℕ, zero, suc, ◌+◌, ◌-◌, ◌/◌, ◌<◌, ◌≤◌, Bool, true, false, Some, None, Option, sym, refl, ap, ⊎_elim, arith}
use Rattle.std.specs.Option.{option_map}
use Rattle.std.proofs.lemmas.Bool.{cases_eq}
use Rattle.alignment.specs.Alignment.{Alignment, Proper}
use Rattle.alignment.specs.Links.{least, next_link}
use Rattle.alignment.specs.Layers.{opposite, mirrored}
use Rattle.alignment.proofs.Least.{none_from, next_found}
use Rattle.alignment.proofs.Turns.{mirrored_linked}
use Rattle.turned.specs.Last.{greatest, last_link}

greatest_here : (p : ℕ → Bool) (n : ℕ) → 1 ≤ n → p n ≡ true → greatest p n ≡ Some n
greatest_here p zero low on = absurd (omega arith)
greatest_here p (suc n) low on = rw on

greatest_skips : (p : ℕ → Bool) (m n : ℕ) → m ≤ n → ((t : ℕ) → m < t → t ≤ n → p t ≡ false) → greatest p n ≡ greatest p m
greatest_skips p m zero le off = grind arith
greatest_skips p m (suc n) le off = ⊎_elim (λ e. ap (greatest p) (sym e)) (λ ne. grind (arith, greatest_skips p m n)) (cases_eq m (suc n))

-- where the greatest of 1 .. last is after some look-ups: in low .. high, or else it is the one found
pub record Halved (p : ℕ → Bool) (last low high : ℕ) (found : Option ℕ) : Type 0 where
  pub from_one : 1 ≤ low
  pub closing : low ≤ high + 1
  pub to_last : high ≤ last
  pub none_after : (t : ℕ) → high < t → t ≤ last → p t ≡ false
  pub found_before : found ≡ greatest p (low - 1)

-- the word between low and high that is looked up next
abbrev pub middle : ℕ → ℕ → ℕ
middle low high = low + (high - low) / 2

module _ {a : Alignment} {i last low high : ℕ} {found : Option ℕ} (h : Halved (a.linked i) last low high found) (ok : Proper a) (more : low ≤ high) where
  -- a word that is found is the greatest up to itself
  pub halved_up : (word : ℕ) → Some word ≡ next_link a i (middle low high) → word ≤ high → Halved (a.linked i) last (word + 1) high (Some word)
  halved_up word e hi = let at = next_found a i (middle low high) word (sym e) in grind (arith, greatest_here)

  -- where none is found up to high, none from the middle on is linked
  pub halved_down : (o : Option ℕ) → o ≡ next_link a i (middle low high) → ((word : ℕ) → o ≡ Some word → high < word) → Halved (a.linked i) last low (middle low high - 1) found
  halved_down None e past = let none = none_from a i (middle low high) ok (sym e) in grind arith
  halved_down (Some word) e past = let at = next_found a i (middle low high) word (sym e) in let above = past word refl in grind arith

pub halved_last : {p : ℕ → Bool} {last low high : ℕ} {found : Option ℕ} → Halved p last low high found → high < low → found ≡ greatest p last
halved_last h met = grind (arith, greatest_skips)

-- the least among the opposites is the opposite of the greatest
least_opposite : (p q : ℕ → Bool) (m : ℕ) → ((t : ℕ) → q t ≡ p (opposite m t)) → (k n : ℕ) → n ≡ opposite m k → least q k n ≡ option_map (opposite m) (greatest p n)
least_opposite p q m same k zero e = refl
least_opposite p q m same k (suc n) e = grind (arith, same k, least_opposite p q m same (k + 1) n)

module _ (a : Alignment) (ok : Proper a) (i j : ℕ) where
  pub next_link_mirrored : next_link (mirrored a) i j ≡ option_map (opposite a.rights) (last_link a i (opposite a.rights j))
  next_link_mirrored = least_opposite (a.linked i) ((mirrored a).linked i) a.rights (mirrored_linked a ok i) j (opposite a.rights j) refl
