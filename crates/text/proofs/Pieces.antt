-- Cutting at the first separator.
use Rattle.std.proofs.Common.{◌≡◌, ℕ, suc, ◌+◌, ◌<◌, ◌≤◌, Bool, true, false, not, cond, eqb, drop, List, [], ◌∷◌, ◌++◌, length, refl, ap, ◌∙◌, arith}
use Rattle.std.specs.List.{All, position_or_len, after_first}
use Rattle.std.proofs.lemmas.Bool.{cond-false, eq-eqb}
use Rattle.std.proofs.lemmas.List.{length-drop}
use Rattle.std.proofs.lemmas.List.Elements.{All-head, All-tail}
use Rattle.std.proofs.lemmas.List.Splits.{slice_split_at, slice_split_none, length-slice_split}
use Rattle.text.specs.Letters.{feed}
use Rattle.text.specs.Lines.{pieces, front, lines, line_end}

abbrev pub Other : ℕ → ℕ → Type 0
Other sep b = eqb b sep ≡ false

-- no byte of bs is sep
abbrev pub Lacks : ℕ → List ℕ → Type 0
Lacks sep bs = All (Other sep) bs

front_cut : (p : List ℕ) (ps : List (List ℕ)) → 0 < length ps → front (p ∷ ps) ≡ p ∷ front ps
front_cut p [] h = absurd (omega arith)
front_cut p (q ∷ qs) h = refl

-- up to the first separator is the first piece
pub pieces_cut : (sep : ℕ) (p q : List ℕ) → Lacks sep p → pieces sep (p ++ sep ∷ q) ≡ p ∷ pieces sep q
pieces_cut sep p q x = slice_split_at (λ b. eqb b sep) p sep q x (eq-eqb sep sep refl)

-- without a separator there is one piece
pub pieces_whole : (sep : ℕ) (p : List ℕ) → Lacks sep p → pieces sep p ≡ p ∷ []
pieces_whole sep p x = slice_split_none (λ b. eqb b sep) p x

abbrev is_feed : ℕ → Bool
is_feed b = eqb b feed

-- the first piece is a line where a feed follows it
pub lines_first : (text p q : List ℕ) → pieces feed text ≡ p ∷ pieces feed q → lines text ≡ p ∷ lines q
unfolding lines
lines_first text p q e = ap front e ∙ front_cut p (pieces feed q) (omega (arith, length-slice_split (λ b. eqb b feed) q))

pub lines_none : (text p : List ℕ) → pieces feed text ≡ p ∷ [] → lines text ≡ []
unfolding lines
lines_none text p e = ap front e

pub lines_cut : (p q : List ℕ) → Lacks feed p → lines (p ++ feed ∷ q) ≡ p ∷ lines q
lines_cut p q x = lines_first (p ++ feed ∷ q) p q (pieces_cut feed p q x)

-- what follows the first line
pub line_end_rest : (text : List ℕ) → drop (line_end text) text ≡ after_first is_feed text
line_end_rest [] = refl
line_end_rest (b ∷ bs) =
    let on : 1 + line_end bs ≡ suc (line_end bs) = omega arith in
    let last : 1 + position_or_len is_feed bs + 1 ≡ suc (position_or_len is_feed bs + 1) = omega arith in
    elim (eqb b feed) as (λ e. drop (cond e 1 (1 + line_end bs)) (b ∷ bs) ≡ drop (cond (not e) (1 + position_or_len is_feed bs) 0 + 1) (b ∷ bs)) [ true ↦ refl | false ↦ rw (on, last) (line_end_rest bs) ]

pub line_end_cut : (p q : List ℕ) → Lacks feed p → line_end (p ++ feed ∷ q) ≡ length p + 1
line_end_cut [] q x = refl
line_end_cut (b ∷ p) q x = cond-false (eqb b feed) _ _ (All-head (Other feed) b p x) ∙ omega (arith, line_end_cut p q (All-tail (Other feed) b p x))

-- the first line is within the text
pub line_end_le : (text : List ℕ) → line_end text ≤ length text
line_end_le [] = omega arith
line_end_le (b ∷ bs) = let later = line_end_le bs in elim (eqb b feed) as (λ e. cond e 1 (1 + line_end bs) ≤ length (b ∷ bs)) [ true ↦ omega arith | false ↦ omega (arith, later) ]

pub line_end_splits : (text rest : List ℕ) → rest ≡ drop (line_end text) text → line_end text + length rest ≡ length text
line_end_splits text rest is = omega (arith, ap length is, length-drop (line_end text) text, line_end_le text)
