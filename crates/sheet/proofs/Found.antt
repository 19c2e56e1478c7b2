-- What `find` answers over the numbers of a range.
use Rattle.std.proofs.Common.{◌≡◌, ℕ, ◌+◌, ◌-◌, ◌<◌, ◌≤◌, Bool, true, false, Some, None, Option, MatchOption, Bor, sym, refl, ap, ap₂, ◌∙◌, arith}
use denote.Param.Members.{Mut}
use Rattle.std.specs.Bool.{IsTrue}
use Rattle.std.specs.Fn.{CalledAt}
use Rattle.std.specs.Iterator.Runs.{Run, SomeRun, CallKeepsClosure, ItemsCountUp, NoItemPasses, EndsAtFirstPassing}
use Rattle.std.specs.Range.{range_inclusive_start, range_inclusive_end, range_inclusive_exhausted}
use Rattle.std.specs.declared.ops.RangeInclusive.{RangeInclusive}
use Rattle.std.proofs.iter.runs.Sources.{nat_range_inclusive_steps, inclusive_listed}
use Rattle.std.proofs.lemmas.Iterator.Adapters.{option_map_id}
use Rattle.alignment.specs.Links.{least}
use Rattle.alignment.proofs.Least.{least_none_passes, least_skips, least_here}

-- at a closure that computes a test
module _ {F : Type 0} {g : Mut F (Bor ℕ × Unit {0}) Bool} {f : F} (test : ℕ → Bool) (computes : (x : ℕ) (r : Bool) (q : F) → CalledAt g f x r q → (q ≡ f) × (r ≡ test x)) where
  kept : CallKeepsClosure g f
  kept x r q c = (computes x.0.now r q (record { shown = x.0; shows = refl; called = c })).0

  -- of a run that counts up from a to below b
  module _ {S : Type 0} {steps : S → Option ℕ → S → Type 0} (p : Run steps) (a b : ℕ) (up : ItemsCountUp p a b) where
    place : (t : ℕ) → a ≤ t → t < a + p.len → p.at (t - a) ≡ Some t
    place t lo hi = sym (option_map_id (p.at (t - a))) ∙ up.3 (t - a) (omega arith) ∙ ap Some (omega arith)

    counted : (o : Option ℕ) → MatchOption o (IsTrue p.whole × NoItemPasses p g f) (EndsAtFirstPassing p g f) → o ≡ least test a (b - a)
    counted None h = sym (least_none_passes test a (b - a) (λ t lo hi. sym (computes t false f (rw (place t lo (omega (arith, up.1 h.0))) at (h.1 kept (t - a)))).1))
    counted (Some r) h =
        let is : r ≡ a + h.0 = (rw h.2 at (up.2 h.0)).0 in
        let passes = (computes r true f (h.3 kept).0).1 in
        sym (
        least_skips test h.0 a b (λ t lo hi. sym (computes t false f (rw (place t lo (omega (arith, h.1))) at ((h.3 kept).1 (t - a) (omega arith)))).1)
        ∙ least_here test (a + h.0) b (omega (arith, h.1, up.0)) (cc)
        ∙ ap Some (sym is)
        )

  -- over `a..=m`
  pub least_from_find : {s : RangeInclusive ℕ} {a m : ℕ} {o : Option ℕ} → range_inclusive_start s ≡ a → range_inclusive_end s ≡ m → range_inclusive_exhausted s ≡ false → SomeRun nat_range_inclusive_steps s (λ p. MatchOption o (IsTrue p.whole × NoItemPasses p g f) (EndsAtFirstPassing p g f)) → o ≡ least test a (m + 1 - a)
  least_from_find {o = o} start last fresh h =
      let l = inclusive_listed h.0 h.0.seen in
      counted h.0 l.0 l.1 (l.4 (ap range_inclusive_exhausted h.1 ∙ fresh)).0 o h.2
      ∙ ap₂ (λ x y. least test x (y - x)) (l.2 ∙ ap range_inclusive_start h.1 ∙ start) (l.3 ∙ ap (λ t. range_inclusive_end t + 1) h.1 ∙ ap (λ x. x + 1) last)
