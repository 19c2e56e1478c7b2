-- The definitions at small stacks, by computation.
use Rattle.std.proofs.Common.{◌≡◌, [], ◌∷◌, refl}
use Rattle.alignment.specs.Links.{in_order}
use Rattle.alignment.specs.Alignment.{Alignment, unlinked}
use Rattle.sheet.specs.declared.refusal.Refusal.TheVariants.{LeftOutside}
use Rattle.sheet.specs.Edits.{started, with_link}
use Rattle.history.specs.declared.operation.Edit.TheVariants.{Link}
use Rattle.history.specs.declared.operation.Answer.TheVariants.{Refused, Nowhere}
use Rattle.stack.specs.declared.step.Turn.TheVariants.{First, Second}
use Rattle.stack.specs.Stacks.{Stack, base, fixed, over, both, borrowed, swap, mirror, window, union, intersection, reading}
use Rattle.stack.specs.Places.{edit_told, changed}

-- two left words, three right words, and the link (1, 3)
abbrev small : Alignment
small = with_link (unlinked 2 3) 1 3

swapped_shows : in_order (reading (over swap (fixed small))) ≡ (3, 1) ∷ []
swapped_shows = refl

mirrored_shows : in_order (reading (over mirror (fixed small))) ≡ (1, 1) ∷ []
mirrored_shows = refl

-- a window past the end has loose words
window_shows : in_order (reading (over (window 1 3 2 4) (fixed small))) ≡ (1, 2) ∷ []
window_shows = refl

both_show : in_order (reading (both union (fixed small) (over mirror (fixed small)))) ≡ (1, 1) ∷ (1, 3) ∷ []
both_show = refl

neither_shows : in_order (reading (both intersection (fixed small) (over mirror (fixed small)))) ≡ []
neither_shows = refl

-- an empty sheet swapped, beside a sheet that is lent
abbrev pile : Stack
pile = both union (over swap (base (started 2 3 6))) (over borrowed (base (started 2 3 6)))

edited_below : in_order (reading (changed (changed pile (First ∷ []) (Link 3 1)) (First ∷ First ∷ []) (Link 2 1))) ≡ (1, 2) ∷ (3, 1) ∷ []
edited_below = refl

own_left_word_first : edit_told pile (First ∷ []) (Link 4 4) ≡ Refused LeftOutside
own_left_word_first = refl

nothing_to_edit : edit_told pile [] (Link 1 1) ≡ Nowhere
nothing_to_edit = refl

nothing_changes_through_a_borrow : changed pile (Second ∷ First ∷ []) (Link 1 1) ≡ pile
nothing_changes_through_a_borrow = refl
