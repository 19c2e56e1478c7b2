-- Edits through swapped and mirrored layers.
use Rattle.std.proofs.Common.{◌≡◌, ℕ, Bool, true, false, ◌&&◌, Some, None, Ok, Err, Option, sym, refl, ap, ◌∙◌, ⊎_elim, arith}
use Rattle.std.proofs.lemmas.Bool.{cases_Bool, and_parts}
use Rattle.std.proofs.lemmas.Bool.Decides.{nat_tests}
use Rattle.alignment.specs.Alignment.{Alignment, within}
use Rattle.alignment.specs.Layers.{swapped, mirrored}
use Rattle.sheet.specs.declared.refusal.Refusal.{Refusal}
use Rattle.sheet.specs.Edits.{State, Outcome, outcome, refused}
use Rattle.sheet.specs.Turns.{turned_state, turned_outcome}
use Rattle.sheet.proofs.Turns.{turn_linking_swapped, turn_unlinking_swapped, turn_wiping_swapped, turn_linking_mirrored, turn_unlinking_mirrored, turn_wiping_mirrored}
use Rattle.sheet.proofs.Words.{linking_outside, unlinking_outside}
use Rattle.history.specs.declared.operation.Edit.{Edit}
use Rattle.history.specs.declared.operation.Edit.TheVariants.{Link, Unlink, Wipe}
use Rattle.history.specs.Operations.{editing, told}
use Rattle.stack.specs.Stacks.{Stack, base, fixed, over, both, borrowed, swap, mirror, window, reading, free_of}
use Rattle.stack.specs.Places.{stand, told_here, swapped_edit, mirrored_edit, check_edit, refused_where, edited}
use Rattle.stack.specs.Laws.{stands_with, stands_at, edited_at, EditsReachLayers}

-- are the words of an edit there
abbrev pub there : ℕ → ℕ → Edit → Bool
there n m (Link i j) = within n i && within m j
there n m (Unlink i j) = within n i && within m j
there n m Wipe = true

checked_there : (n m : ℕ) (e : Edit) → Ok tt ≡ check_edit n m e → there n m e ≡ true
checked_there n m (Link i j) h = grind (arith, nat_tests)
checked_there n m (Unlink i j) h = grind (arith, nat_tests)
checked_there n m Wipe h = refl

refused_not_there : (n m : ℕ) (e : Edit) (r : Refusal) → Err r ≡ check_edit n m e → there n m e ≡ false
refused_not_there n m (Link i j) r h = grind (arith, nat_tests)
refused_not_there n m (Unlink i j) r h = grind (arith, nat_tests)
refused_not_there n m Wipe r h = grind (arith, nat_tests)

-- an edit whose words are not there changes nothing
not_there_leaves : (s : State) (e : Edit) → there s.sheet.lefts s.sheet.rights e ≡ false → (editing s e).after ≡ s
not_there_leaves s (Link i j) h = grind (arith, nat_tests)
not_there_leaves s (Unlink i j) h = grind (arith, nat_tests)
not_there_leaves s Wipe h = grind (arith, nat_tests)

refused_alike : (s : State) (e : Edit) (r : Refusal) → Err r ≡ check_edit s.sheet.lefts s.sheet.rights e → editing s e ≡ refused r s
refused_alike s (Link i j) r h = linking_outside s i j r h
refused_alike s (Unlink i j) r h = unlinking_outside s i j r h
refused_alike s Wipe r h = grind (arith, nat_tests)

-- A turn of an alignment, and of the edits of it: an edit whose words are there is the turned edit of the alignment itself.
pub record Turning (turn : Alignment → Alignment) (back : Alignment → Edit → Edit) : Type 0 where
  pub agrees : (s : State) (e : Edit) → there (turn s.sheet).lefts (turn s.sheet).rights e ≡ true → editing (turned_state turn s) e ≡ turned_outcome turn (editing s (back s.sheet e))
  pub keeps : (a : Alignment) (e : Edit) → there a.lefts a.rights (back a e) ≡ there (turn a).lefts (turn a).rights e

pub swap_turns : Turning swapped (λ a e. swapped_edit e)
swap_turns = record { agrees = agrees; keeps = keeps }
  where
    agrees : (s : State) (e : Edit) → there s.sheet.rights s.sheet.lefts e ≡ true → editing (turned_state swapped s) e ≡ turned_outcome swapped (editing s (swapped_edit e))
    agrees s (Link i j) h = let w = and_parts _ _ h in turn_linking_swapped s i j w.0 w.1
    agrees s (Unlink i j) h = let w = and_parts _ _ h in turn_unlinking_swapped s i j w.0 w.1
    agrees s Wipe h = ap (outcome (Ok tt)) (turn_wiping_swapped s)

    keeps : (a : Alignment) (e : Edit) → there a.lefts a.rights (swapped_edit e) ≡ there a.rights a.lefts e
    keeps a (Link i j) = grind (arith, nat_tests)
    keeps a (Unlink i j) = grind (arith, nat_tests)
    keeps a Wipe = refl

pub mirror_turns : Turning mirrored (λ a e. mirrored_edit a.rights e)
mirror_turns = record { agrees = agrees; keeps = keeps }
  where
    agrees : (s : State) (e : Edit) → there s.sheet.lefts s.sheet.rights e ≡ true → editing (turned_state mirrored s) e ≡ turned_outcome mirrored (editing s (mirrored_edit s.sheet.rights e))
    agrees s (Link i j) h = let w = and_parts _ _ h in turn_linking_mirrored s i j w.0 w.1
    agrees s (Unlink i j) h = let w = and_parts _ _ h in turn_unlinking_mirrored s i j w.0 w.1
    agrees s Wipe h = ap (outcome (Ok tt)) (turn_wiping_mirrored s)

    keeps : (a : Alignment) (e : Edit) → there a.lefts a.rights (mirrored_edit a.rights e) ≡ there a.lefts a.rights e
    keeps a (Link i j) = grind (arith, nat_tests)
    keeps a (Unlink i j) = grind (arith, nat_tests)
    keeps a Wipe = refl

-- an edit whose words are not there leaves the whole stack as it was
edited_not_there : (t : Stack) (e : Edit) → there (reading t).lefts (reading t).rights e ≡ false → edited t e ≡ t
edited_not_there (base s) e h = ap base (not_there_leaves s e h)
edited_not_there (fixed a) e h = refl
edited_not_there (over borrowed t) e h = refl
edited_not_there (over swap t) e h = ap (over swap) (edited_not_there t (swapped_edit e) (swap_turns.keeps (reading t) e ∙ h))
edited_not_there (over mirror t) e h = ap (over mirror) (edited_not_there t (mirrored_edit (reading t).rights e) (mirror_turns.keeps (reading t) e ∙ h))
edited_not_there (over (window x n y m) t) e h = refl
edited_not_there (both j t u) e h = refl

module _ (turn : Alignment → Alignment) (back : Alignment → Edit → Edit) (turns : Turning turn back) where
  -- what is left, whether the words are there or not
  left_turned : (s : State) (e : Edit) → turned_state turn (editing s (back s.sheet e)).after ≡ (editing (turned_state turn s) e).after
  left_turned s e =
      ⊎_elim
      (λ h. sym (ap (λ (o : Outcome). o.after) (turns.agrees s e h)))
      (λ h. ap (turned_state turn) (not_there_leaves s (back s.sheet e) (turns.keeps s.sheet e ∙ h)) ∙ sym (not_there_leaves (turned_state turn s) e h))
      (cases_Bool (there (turn s.sheet).lefts (turn s.sheet).rights e))

  abbrev turned_at : Option State → Option State
  turned_at None = None
  turned_at (Some s) = Some (turned_state turn s)

  stands_turned : (f : Option ℕ) (a : Alignment) → stands_with f (turn a) ≡ turned_at (stands_with f a)
  stands_turned None a = refl
  stands_turned (Some f) a = refl

  edited_turned : (f : Option ℕ) (a : Alignment) (e : Edit) → turned_at (edited_at (stands_with f a) (back a e)) ≡ edited_at (stands_with f (turn a)) e
  edited_turned None a e = refl
  edited_turned (Some f) a e = ap Some (left_turned (stand a f) e)

  edit_reaches : (t : Stack) (e : Edit) → stands_at (edited t (back (reading t) e)) ≡ edited_at (stands_at t) (back (reading t) e) → stands_with (free_of (edited t (back (reading t) e))) (turn (reading (edited t (back (reading t) e)))) ≡ edited_at (stands_with (free_of t) (turn (reading t))) e
  edit_reaches t e below =
      let u = edited t (back (reading t) e) in
      stands_turned (free_of u) (reading u) ∙ ap turned_at below ∙ edited_turned (free_of t) (reading t) e

  -- what a layer answers, where the words are there, and where they are refused
  pub told_turned : (f : Option ℕ) (a : Alignment) (e : Edit) → Ok tt ≡ check_edit (turn a).lefts (turn a).rights e → told_here f a (back a e) ≡ told_here f (turn a) e
  told_turned None a e h = refl
  told_turned (Some f) a e h = sym (ap (λ (o : Outcome). told o.answer) (turns.agrees (stand a f) e (checked_there _ _ e h)))

  pub told_refused : (f : Option ℕ) (a : Alignment) (e : Edit) (r : Refusal) → Err r ≡ check_edit (turn a).lefts (turn a).rights e → refused_where f r ≡ told_here f (turn a) e
  told_refused None a e r h = refl
  told_refused (Some f) a e r h = sym (ap (λ (o : Outcome). told o.answer) (refused_alike (stand (turn a) f) e r h))

  pub left_refused : (t : Stack) (e : Edit) (r : Refusal) → Err r ≡ check_edit (turn (reading t)).lefts (turn (reading t)).rights e → t ≡ edited t (back (reading t) e)
  left_refused t e r h = sym (edited_not_there t (back (reading t) e) (turns.keeps (reading t) e ∙ refused_not_there _ _ e r h))

pub edits_reach_layers : EditsReachLayers
edits_reach_layers (base s) e = refl
edits_reach_layers (fixed a) e = refl
edits_reach_layers (over borrowed t) e = refl
edits_reach_layers (over swap t) e = edit_reaches swapped (λ a. swapped_edit) swap_turns t e (edits_reach_layers t (swapped_edit e))
edits_reach_layers (over mirror t) e = edit_reaches mirrored (λ a. mirrored_edit a.rights) mirror_turns t e (edits_reach_layers t (mirrored_edit (reading t).rights e))
edits_reach_layers (over (window x n y m) t) e = refl
edits_reach_layers (both j t u) e = refl
