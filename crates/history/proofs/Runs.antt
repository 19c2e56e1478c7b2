-- One operation more of a history.
use Rattle.std.proofs.Common.{◌≡◌, ℕ, ◌+◌, ◌<◌, ◌≤◌, leb, List, [], ◌∷◌, ◌++◌, length, get_or, take, drop, set, Ok, fold, sym, ap, ◌∙◌, append_assoc, arith}
use Rattle.std.proofs.lemmas.List.{at_drop_more, at_drop_all, take_more_set, drop-drop, drop-set-lt, length-set, take-append-drop}
use Rattle.std.proofs.lemmas.Bool.{cond-true, le-leb}
use Rattle.history.specs.declared.operation.Answer.{Answer}
use Rattle.history.specs.Histories.{transcript, filled, ran, running_by}

module _ {S O : Type 0} (answer : S → O → Answer) (step : S → O → S) where
  -- what is still to come after k operations gives the whole
  pub record Left (s₀ : S) (os : List O) (block₀ : List Answer) (k : ℕ) (s : S) (block : List Answer) : Type 0 where
    pub stands : fold step s (drop k os) ≡ fold step s₀ os
    pub fills : take k block ++ filled answer step s (drop k os) (drop k block) ≡ filled answer step s₀ os block₀
    pub long : length block ≡ length block₀

  pub one_more : (s₀ s t : S) (os : List O) (block₀ block : List Answer) (k : ℕ) (e : O) (a : Answer) → k < length os → length os ≤ length block₀ → Left s₀ os block₀ k s block → a ≡ answer s (get_or os k e) → t ≡ step s (get_or os k e) → Left s₀ os block₀ (k + 1) t (set block k a)
  one_more s₀ s t os block₀ block k e a h room l said stepped =
      let o = get_or os k e in
      let rest = drop (k + 1) os in
      let to-come = transcript answer step t rest in
      let places : drop (length rest) (drop (k + 1) block) ≡ drop (length (o ∷ rest)) (drop k block) =
      drop-drop (length rest) (k + 1) block ∙ ap (λ n. drop n block) (omega arith) ∙ sym (drop-drop (length (o ∷ rest)) k block) in
      record {
        stands = ap (λ x. fold step x rest) stepped ∙ sym (at_drop_more (fold step s) os k e h) ∙ l.stands;
        fills = ap (λ x. x ++ filled answer step t rest (drop (k + 1) (set block k a))) (take_more_set block k a (omega (arith, l.long)))
            ∙ append_assoc (take k block) (a ∷ []) (filled answer step t rest (drop (k + 1) (set block k a)))
            ∙ ap (λ x. take k block ++ a ∷ (to-come ++ drop (length rest) x)) (drop-set-lt (k + 1) block k a (omega arith))
            ∙ ap (λ x. take k block ++ a ∷ (to-come ++ x)) places
            ∙ ap (λ x. take k block ++ x ∷ (to-come ++ drop (length (o ∷ rest)) (drop k block))) said
            ∙ ap (λ x. take k block ++ answer s o ∷ (transcript answer step x rest ++ drop (length (o ∷ rest)) (drop k block))) stepped
            ∙ sym (at_drop_more (λ x. take k block ++ filled answer step s x (drop k block)) os k e h)
            ∙ l.fills;
        long = length-set block k a ∙ l.long;
      }

  pub at_end : (s₀ s : S) (os : List O) (block₀ block : List Answer) (k : ℕ) → k ≡ length os → length os ≤ length block₀ → Left s₀ os block₀ k s block → ran (Ok tt) s block ≡ running_by answer step s₀ os block₀
  at_end s₀ s os block₀ block k e room l =
      let stands : s ≡ fold step s₀ os = sym (at_drop_all (fold step s) os k (omega arith)) ∙ l.stands in
      let fills : block ≡ filled answer step s₀ os block₀ =
      sym (take-append-drop k block) ∙ sym (at_drop_all (λ x. take k block ++ filled answer step s x (drop k block)) os k (omega arith)) ∙ l.fills in
      ap (λ x. ran (Ok tt) x block) stands ∙ ap (ran (Ok tt) (fold step s₀ os)) fills
      ∙ sym (cond-true (leb (length os) (length block₀)) _ _ (le-leb _ _ room))
