-- The next link in a window, by the next link between the words below.
use Rattle.std.proofs.Common.{◌≡◌, ℕ, ◌+◌, ◌-◌, max, Some, None, sym, ◌∙◌, ap₂, arith}
use Rattle.std.proofs.lemmas.Bool.Decides.{nat_tests}
use Rattle.alignment.specs.Alignment.{Alignment, Proper}
use Rattle.alignment.specs.Links.{next_link}
use Rattle.alignment.proofs.Least.{next_found}
use Rattle.alignment.proofs.Layers.{next_from_one, windowed_left_outside, windowed_none, windowed_past, windowed_found}
use Rattle.layers.specs.declared.window.Stretch.{Stretch}
use Rattle.layers.specs.Stretches.{word_below, word_inside}
use Rattle.layers.specs.Windows.{seen, seen_proper}

module _ (l r : Stretch) (a : Alignment) (i j : ℕ) where
  pub next_of_no_word : None ≡ word_below l.first l.length i → None ≡ next_link (seen l r a) i j
  next_of_no_word e = windowed_left_outside l.first l.length r.first r.length a i j (grind (arith, nat_tests))

  -- p and q are the words below from which the search goes on there
  module _ (k p q : ℕ) (start : k ≡ max j 1) (left : Some p ≡ word_below l.first l.length i) (right : Some q ≡ word_below r.first r.length k) where
    from_start : next_link (seen l r a) i k ≡ next_link (seen l r a) i j
    from_start = rw start (next_from_one (seen l r a) i j (seen_proper l r a))

    below : next_link a p q ≡ next_link a (l.first + i - 1) (r.first + k - 1)
    below = ap₂ (next_link a) (grind (arith, nat_tests)) (grind (arith, nat_tests))

    pub next_none_below : Proper a → None ≡ next_link a p q → None ≡ next_link (seen l r a) i j
    next_none_below ok e = windowed_none l.first l.length r.first r.length a i k (omega arith) ok (e ∙ below) ∙ from_start

    pub next_found_below : (w : ℕ) → Some w ≡ next_link a p q → word_inside r.first r.length w ≡ next_link (seen l r a) i j
    next_found_below w e =
        let found = next_found a (l.first + i - 1) (r.first + k - 1) w (sym (e ∙ below)) in
        let inside = windowed_found l.first l.length r.first r.length a i k (omega arith) w (e ∙ below) (grind (arith, nat_tests)) in
        let past = windowed_past l.first l.length r.first r.length a i k (omega arith) w (e ∙ below) in
        let same = from_start in
        grind (arith, nat_tests)

pub ruleset window_next = (next_of_no_word, next_none_below, next_found_below)
