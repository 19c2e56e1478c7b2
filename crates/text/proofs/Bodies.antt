-- A line of two numbers as it is written, read back.
use Rattle.std.proofs.Common.{◌≡◌, ℕ, ◌<◌, true, ◌&&◌, List, [], ◌∷◌, ◌++◌, Ok, decimal, refl, ap, ◌∙◌, append_assoc, append-nil, arith}
use Rattle.std.specs.Char.{is_ascii_digit}
use Rattle.std.specs.Str.{all_ascii_digits}
use Rattle.std.proofs.lemmas.Bool.{cond-true, and_from, and_parts}
use Rattle.std.proofs.lemmas.Bool.Decides.{nat_tests}
use Rattle.std.proofs.lemmas.List.Folds.{list_all-append}
use Rattle.std.proofs.lemmas.List.Sums.{AllPass-from_list_all}
use Rattle.std.proofs.lemmas.List.Elements.{All-nil, All-cons, All-weaker}
use Rattle.sheet.specs.Lengths.{length_fits}
use Rattle.text.specs.Letters.{tab, feed, letter}
use Rattle.text.specs.Lines.{pieces, lines, fields, clean, all_clean}
use Rattle.text.specs.Records.{and_then, of_fields, two_numbers, number_in, first_headed, heading, lengths_by, record_by, lengths_in, record_in, as_lengths}
use Rattle.text.specs.Written.{line, line_body}
use Rattle.text.specs.declared.line.Head.{Head}
use Rattle.text.specs.declared.line.Head.TheVariants as heads
use Rattle.text.specs.declared.line.Field.TheVariants.{Number}
use Rattle.text.specs.declared.line.Record.TheVariants.{Link, End}
use Rattle.text.proofs.Numbers.{reads_back, no_digit, every}
use Rattle.text.proofs.Pieces.{Other, Lacks, pieces_cut, pieces_whole, lines_cut}

digit_clean : (c : ℕ) → is_ascii_digit c ≡ true → clean c ≡ true
digit_clean c e = grind (arith, nat_tests)

digits_clean : (ds : List ℕ) → all_ascii_digits ds ≡ true → all_clean ds ≡ true
digits_clean [] e = refl
digits_clean (c ∷ cs) e =
    let p = and_parts (is_ascii_digit c) (all_ascii_digits cs) e in
    and_from (clean c) (all_clean cs) (digit_clean c p.0) (digits_clean cs p.1)

clean_append : (p q : List ℕ) → all_clean p ≡ true → all_clean q ≡ true → all_clean (p ++ q) ≡ true
clean_append p q x y = list_all-append clean p q ∙ and_from (all_clean p) (all_clean q) x y

-- a line feed is not clean
clean_ended : (bs : List ℕ) → all_clean bs ≡ true → Lacks feed bs
clean_ended bs e = All-weaker (λ b. clean b ≡ true) (Other feed) (λ b c. grind (arith, nat_tests)) bs (AllPass-from_list_all clean bs e)

letter_clean : (h : Head) → clean (letter h) ≡ true
letter_clean heads.Sheet = refl
letter_clean heads.Link = refl
letter_clean heads.End = refl
letter_clean heads.Fault = refl

letter_other : (h : Head) → Other tab (letter h)
letter_other heads.Sheet = refl
letter_other heads.Link = refl
letter_other heads.End = refl
letter_other heads.Fault = refl

abbrev pub pair_body : Head → ℕ → ℕ → List ℕ
pair_body h n m = line_body h (Number n ∷ Number m ∷ [])

module _ (h : Head) (n m : ℕ) (n-small : n < 1000) (m-small : m < 1000) where
  pair_clean : all_clean (pair_body h n m) ≡ true
  pair_clean =
      and_from (clean (letter h)) _ (letter_clean h)
      (clean_append (decimal n) (tab ∷ (decimal m ++ [])) (digits_clean (decimal n) (every n n-small))
      (clean_append (decimal m) [] (digits_clean (decimal m) (every m m-small)) refl))

  pub pair_ended : Lacks feed (pair_body h n m)
  pair_ended = clean_ended (pair_body h n m) pair_clean

  number_lacks : (n : ℕ) → n < 1000 → Lacks tab (decimal n)
  number_lacks n small = no_digit n small tab (λ d. omega (arith, d))

  pair_fields : fields (pair_body h n m) ≡ (letter h ∷ []) ∷ decimal n ∷ decimal m ∷ []
  unfolding fields
  pair_fields =
      pieces_cut tab (letter h ∷ []) (decimal n ++ tab ∷ (decimal m ++ [])) (All-cons (Other tab) (letter h) [] (letter_other h) (All-nil (Other tab)))
      ∙ ap (λ ps. (letter h ∷ []) ∷ ps)
      (pieces_cut tab (decimal n) (decimal m ++ []) (number_lacks n n-small)
      ∙ ap (λ ps. decimal n ∷ ps) (ap (pieces tab) (append-nil (decimal m)) ∙ pieces_whole tab (decimal m) (number_lacks m m-small)))

  pair_heading : heading (pair_body h n m) ≡ Ok (letter h, decimal n ∷ decimal m ∷ [])
  unfolding heading
  pair_heading = cond-true (all_clean (pair_body h n m)) _ _ pair_clean ∙ ap first_headed pair_fields

  pair_numbers : two_numbers (decimal n ∷ decimal m ∷ []) ≡ Ok (n, m)
  pair_numbers =
      ap (λ r. and_then r (λ x. and_then (number_in 3 (decimal m)) (λ y. Ok (x, y)))) (reads_back n n-small 2)
      ∙ ap (λ r. and_then r (λ y. Ok (n, y))) (reads_back m m-small 3)

pub lengths_read : (n m : ℕ) → n < 1000 → m < 1000 → length_fits n ≡ true → length_fits m ≡ true → lengths_in (pair_body heads.Sheet n m) ≡ Ok (n, m)
unfolding lengths_in
lengths_read n m x y u v =
    ap (λ h. and_then h lengths_by) (pair_heading heads.Sheet n m x y)
    ∙ ap (λ r. and_then (of_fields r) as_lengths) (pair_numbers heads.Sheet n m x y)
    ∙ cond-true (length_fits n && length_fits m) _ _ (and_from (length_fits n) (length_fits m) u v)

pub link_read : (n m : ℕ) → n < 1000 → m < 1000 → record_in (pair_body heads.Link n m) ≡ Ok (Link n m)
unfolding record_in
link_read n m x y =
    ap (λ h. and_then h record_by) (pair_heading heads.Link n m x y)
    ∙ ap (λ r. and_then (of_fields r) (λ p. Ok (Link p.0 p.1))) (pair_numbers heads.Link n m x y)

pub end_read : record_in (letter heads.End ∷ []) ≡ Ok End
unfolding record_in heading fields
end_read = refl

-- a line's end is its own
pub lines_pair : (h : Head) (n m : ℕ) (rest : List ℕ) → n < 1000 → m < 1000 → lines (line h (Number n ∷ Number m ∷ []) ++ rest) ≡ pair_body h n m ∷ lines rest
lines_pair h n m rest x y = ap lines (append_assoc (pair_body h n m) (feed ∷ []) rest) ∙ lines_cut (pair_body h n m) rest (pair_ended h n m x y)
