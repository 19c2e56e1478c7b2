-- An edit of a swapped or mirrored layer, made through the sheet below or refused.
use Rattle.std.proofs.Common.{◌≡◌, ℕ, true, List, [], Ok, Err, Option, sym, refl, ap, ◌∙◌}
use Rattle.std.proofs.lemmas.Bool.{true≢false}
use Rattle.alignment.specs.Alignment.{Alignment}
use Rattle.sheet.specs.declared.refusal.Refusal.{Refusal}
use Rattle.history.specs.declared.operation.Edit.{Edit}
use Rattle.history.specs.declared.operation.LookUp.{LookUp}
use Rattle.history.specs.declared.operation.Answer.{Answer}
use Rattle.history.specs.Operations.{looked_up}
use Rattle.stack.specs.declared.step.Turn.{Turn}
use Rattle.stack.specs.Stacks.{Layer, borrowed, swap, mirror, window, Stack, over, shown, reading, free_through, free_of}
use Rattle.stack.specs.Places.{look_told, told_here, edit_told, swapped_edit, mirrored_edit, turns, turned_edit, check_edit, refused_where, edited_over, edited, changed, Edited, Turns}
use Rattle.stack.proofs.Through.{Turning, swap_turns, mirror_turns, told_turned, told_refused, left_refused}

-- what a look-up of the layer itself answers
pub asked_here : (l : Layer) (t : Stack) (r : List Turn) (q : LookUp) (a : Alignment) (f : Option ℕ) → r ≡ [] → a ≡ shown l (reading t) → f ≡ free_through l (free_of t) → looked_up a f q ≡ look_told (over l t) r q
asked_here l t r q a f here shows free = rw (here, shows, free)

-- a layer through which edits go: its free is that of the sheet below, and an edit of it is one of the sheet below
pub record Passes (l : Layer) (back : Alignment → Edit → Edit) : Type 0 where
  pub turns : Turning (shown l) back
  pub free : (f : Option ℕ) → f ≡ free_through l f
  pub edits : (a : Alignment) (e : Edit) (t : Stack) (below : Edit → Stack) → below (back a e) ≡ edited_over l a e t below

pub swap_passes : Passes swap (λ a. swapped_edit)
swap_passes = record { turns = swap_turns; free = λ f. refl; edits = λ a e t below. refl }

pub mirror_passes : Passes mirror (λ a. mirrored_edit a.rights)
mirror_passes = record { turns = mirror_turns; free = λ f. refl; edits = λ a e t below. refl }

passes : (l : Layer) → turns l ≡ true → Passes l (turned_edit l)
passes borrowed h = absurd (true≢false (sym h))
passes swap h = swap_passes
passes mirror h = mirror_passes
passes (window x n y m) h = absurd (true≢false (sym h))

-- what is answered and left at the layer itself
module _ (l : Layer) (t : Stack) (r : List Turn) (e : Edit) (n m : ℕ) (f : Edit) (by : Turns l t n m e f) (here : r ≡ []) where
  passed : Passes l (turned_edit l)
  passed = passes l by.turned

  answered_here : (x : Answer) → x ≡ told_here (free_of t) (shown l (reading t)) e → x ≡ edit_told (over l t) r e
  answered_here x h = h ∙ ap (λ f. told_here f (shown l (reading t)) e) (passed.free (free_of t)) ∙ sym (ap (λ w. edit_told (over l t) w e) here)

  left_here : (u : Stack) → u ≡ edited t (turned_edit l (reading t) e) → over l u ≡ changed (over l t) r e
  left_here u h = ap (over l) (h ∙ passed.edits (reading t) e t (edited t)) ∙ sym (ap (λ w. changed (over l t) w e) here)

  -- the lengths tested are those of the layer
  tested : check_edit n m e ≡ check_edit (shown l (reading t)).lefts (shown l (reading t)).rights e
  tested = ap (λ k. check_edit k m e) by.left ∙ ap (λ k. check_edit (shown l (reading t)).lefts k e) by.right

  pub made_here : (x : Answer) (u : Stack) → Ok tt ≡ check_edit n m e → x ≡ edit_told t r f → u ≡ changed t r f → Edited (over l t) r e x (over l u)
  made_here x u ok told left = record {
    answer = answered_here x (told ∙ ap (λ w. edit_told t w f) here ∙ ap (told_here (free_of t) (reading t)) by.edit ∙ told_turned (shown l) (turned_edit l) passed.turns (free_of t) (reading t) e (ok ∙ tested));
    after = left_here u (left ∙ ap (λ w. changed t w f) here ∙ ap (edited t) by.edit);
  }

  pub refused_here : (x : Answer) (c : Refusal) → Err c ≡ check_edit n m e → x ≡ refused_where (free_of t) c → Edited (over l t) r e x (over l t)
  refused_here x c refusal told = record {
    answer = answered_here x (told ∙ told_refused (shown l) (turned_edit l) passed.turns (free_of t) (reading t) e c (refusal ∙ tested));
    after = left_here t (left_refused (shown l) (turned_edit l) passed.turns t e c (refusal ∙ tested));
  }
