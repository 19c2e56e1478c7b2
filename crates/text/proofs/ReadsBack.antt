-- What is written of an alignment reads back to it.
use Rattle.std.proofs.Common.{◌≡◌, ℕ, zero, suc, ◌+◌, ◌-◌, ◌<◌, ◌≤◌, Bool, true, false, cond, List, [], ◌∷◌, ◌++◌, map, length, drop, Ok, sym, refl, ap, ◌∙◌, ⊎_elim, append_assoc, arith}
use Rattle.std.specs.List.{flat_map}
use Rattle.std.proofs.lemmas.List.{map-append, drop_at, length_push}
use Rattle.std.proofs.lemmas.Bool.{cases_Bool, cond-true, cond-false, and_from, le-leb}
use Rattle.alignment.specs.Alignment.{Alignment, Proper, unlinked}
use Rattle.alignment.specs.Links.{count, sum, links, row, rows, in_order}
use Rattle.sheet.specs.Edits.{State, Outcome}
use Rattle.sheet.specs.Lengths.{length_fits}
use Rattle.text.specs.Letters.{feed, letter}
use Rattle.text.specs.Lines.{lines, line_end}
use Rattle.text.specs.Loading.{on_line, opening, loaded, linked_on, line_on, loading}
use Rattle.text.specs.Written.{link_line, end_line, lengths_line, body_text, sheet_text}
use Rattle.text.specs.ReadsBack.{ReadsBack}
use Rattle.text.specs.declared.line.Head.TheVariants as heads
use Rattle.text.proofs.Bodies.{pair_body, pair_ended, lengths_read, link_read, end_read, lines_pair}
use Rattle.text.proofs.Pieces.{line_end_cut}
use Rattle.text.proofs.Upto.{upto, upto_none, upto_all, upto_row, upto_skip, linking_next}

-- the lines of links, without their ends
abbrev bodies : List (ℕ × ℕ) → List (List ℕ)
bodies ps = map (λ p. pair_body heads.Link p.0 p.1) ps

-- each word has at most three digits
abbrev Short : List (ℕ × ℕ) → Type 0
Short [] = Unit {0}
Short (p ∷ ps) = (p.0 < 1000) × (p.1 < 1000) × Short ps

short_append : (ps qs : List (ℕ × ℕ)) → Short ps → Short qs → Short (ps ++ qs)
short_append [] qs x y = y
short_append (p ∷ ps) qs x y = (x.0, x.1, short_append ps qs x.2 y)

short_one : (b : Bool) (i j : ℕ) → i < 1000 → j < 1000 → Short (cond b ((i, j) ∷ []) [])
short_one true i j x y = (x, y, tt)
short_one false i j x y = tt

short_row : (h : ℕ → ℕ → Bool) (i m : ℕ) → i < 1000 → m < 1000 → Short (row h i m)
short_row h i zero x y = tt
short_row h i (suc m) x y = short_append (row h i m) _ (short_row h i m x (omega arith)) (short_one (h i (suc m)) i (suc m) x y)

short_rows : (h : ℕ → ℕ → Bool) (n m : ℕ) → n < 1000 → m < 1000 → Short (rows h n m)
short_rows h zero m x y = tt
short_rows h (suc n) m x y = short_append (rows h n m) _ (short_rows h n m (omega arith) y) (short_row h (suc n) m x y)

lines_of_links : (ps : List (ℕ × ℕ)) (rest : List ℕ) → Short ps → lines (flat_map link_line ps ++ rest) ≡ bodies ps ++ lines rest
lines_of_links [] rest s = refl
lines_of_links (p ∷ ps) rest s =
    ap lines (append_assoc (link_line p) (flat_map link_line ps) rest)
    ∙ lines_pair heads.Link p.0 p.1 (flat_map link_line ps ++ rest) s.0 s.1
    ∙ ap (λ ls. pair_body heads.Link p.0 p.1 ∷ ls) (lines_of_links ps rest s.2)

after_bodies : (ps qs : List (ℕ × ℕ)) (ls : List (List ℕ)) → bodies (ps ++ qs) ++ ls ≡ bodies ps ++ (bodies qs ++ ls)
after_bodies ps qs ls = ap (λ x. x ++ ls) (map-append (λ p. pair_body heads.Link p.0 p.1) ps qs) ∙ append_assoc (bodies ps) (bodies qs) ls

module _ (a : Alignment) (proper : Proper a) where
  abbrev at : ℕ → ℕ → ℕ → State
  at i j f = record { sheet = upto a i j; free = f }

  same_load : (k k' i j f f' : ℕ) (q : List (List ℕ)) → k ≡ k' → f ≡ f' → loading k (at i j f) q ≡ loading k' (at i j f') q
  same_load k k' i j f f' q x y = ap (λ k. loading k (at i j f) q) x ∙ ap (λ f. loading k' (at i j f) q) y

  -- one line more
  link_loads : (i j k f : ℕ) (q : List (List ℕ)) → 1 ≤ i → i ≤ a.lefts → suc j ≤ a.rights → a.linked i (suc j) ≡ true → 0 < f → loading k (at i j f) (pair_body heads.Link i (suc j) ∷ q) ≡ loading (k + 1) (at i (suc j) (f - 1)) q
  link_loads i j k f q low high below on some =
      let left = proper.lefts_high in
      let right = proper.rights_high in
      ap (λ r. line_on k (at i j f) r (λ t. loading (k + 1) t q)) (link_read i (suc j) (omega arith) (omega arith))
      ∙ ap (λ (o : Outcome). linked_on k o.after o.answer (λ t. loading (k + 1) t q)) (linking_next a proper i j f low high below on some)

  row_loads : (i j k f : ℕ) (q : List (List ℕ)) → 1 ≤ i → i ≤ a.lefts → j ≤ a.rights → count (a.linked i) j ≤ f → loading k (at i 0 f) (bodies (row a.linked i j) ++ q) ≡ loading (k + count (a.linked i) j) (at i j (f - count (a.linked i) j)) q
  row_loads i zero k f q low high below some = same_load k (k + 0) i 0 f (f - 0) q (omega arith) (omega arith)
  row_loads i (suc j) k f q low high below some =
      let c = count (a.linked i) j in
      let split : Bool → List (ℕ × ℕ) = λ b. cond b ((i, suc j) ∷ []) [] in
      let step : (ps : List (ℕ × ℕ)) → c ≤ f → split (a.linked i (suc j)) ≡ ps → loading k (at i 0 f) (bodies (row a.linked i (suc j)) ++ q) ≡ loading (k + c) (at i j (f - c)) (bodies ps ++ q) = λ ps fits e.
      ap (loading k (at i 0 f)) (after_bodies (row a.linked i j) (split (a.linked i (suc j))) q ∙ ap (λ x. bodies (row a.linked i j) ++ (bodies x ++ q)) e)
      ∙ row_loads i j k f (bodies ps ++ q) low high (omega arith) fits in
      ⊎_elim
      (λ on.
      let one : ◌≡◌ {A = ℕ} (cond (a.linked i (suc j)) 1 0) 1 = cond-true (a.linked i (suc j)) 1 0 on in
      step ((i, suc j) ∷ []) (omega (arith, one)) (cond-true (a.linked i (suc j)) ((i, suc j) ∷ []) [] on)
      ∙ link_loads i j (k + c) (f - c) q low high below on (omega (arith, one))
      ∙ same_load (k + c + 1) (k + count (a.linked i) (suc j)) i (suc j) (f - c - 1) (f - count (a.linked i) (suc j)) q (omega (arith, one)) (omega (arith, one)))
      (λ off.
      let none : ◌≡◌ {A = ℕ} (cond (a.linked i (suc j)) 1 0) 0 = cond-false (a.linked i (suc j)) 1 0 off in
      step [] (omega (arith, none)) (cond-false (a.linked i (suc j)) ((i, suc j) ∷ []) [] off)
      ∙ ap (λ b. loading (k + c) (record { sheet = b; free = f - c }) q) (upto_skip a proper i j off)
      ∙ same_load (k + c) (k + count (a.linked i) (suc j)) i (suc j) (f - c) (f - count (a.linked i) (suc j)) q (omega (arith, none)) (omega (arith, none)))
      (cases_Bool (a.linked i (suc j)))

  abbrev below_rows : ℕ → ℕ
  below_rows n = sum (λ i. count (a.linked i) a.rights) n

  rows_load : (n k f : ℕ) (q : List (List ℕ)) → n ≤ a.lefts → below_rows n ≤ f → loading k (at 0 a.rights f) (bodies (rows a.linked n a.rights) ++ q) ≡ loading (k + below_rows n) (at n a.rights (f - below_rows n)) q
  rows_load zero k f q high some = same_load k (k + 0) 0 a.rights f (f - 0) q (omega arith) (omega arith)
  rows_load (suc n) k f q high some =
      let m = a.rights in
      let s = below_rows n in
      let c = count (a.linked (suc n)) m in
      let next = bodies (row a.linked (suc n) m) ++ q in
      ap (loading k (at 0 m f)) (after_bodies (rows a.linked n m) (row a.linked (suc n) m) q)
      ∙ rows_load n k f next (omega arith) (omega arith)
      ∙ ap (λ b. loading (k + s) (record { sheet = b; free = f - s }) next) (upto_row a proper n)
      ∙ row_loads (suc n) m (k + s) (f - s) q (omega arith) high (omega arith) (omega arith)
      ∙ same_load (k + s + c) (k + below_rows (suc n)) (suc n) m (f - s - c) (f - below_rows (suc n)) q (omega arith) (omega arith)

  body_lines : lines (body_text a) ≡ bodies (in_order a) ++ (letter heads.End ∷ []) ∷ []
  unfolding body_text lines
  body_lines = lines_of_links (in_order a) end_line (short_rows a.linked a.lefts a.rights (omega (arith, proper.lefts_high)) (omega (arith, proper.rights_high)))

  loads_again : (free : ℕ) → links a ≤ free → loading 0 (record { sheet = unlinked a.lefts a.rights; free = free }) (lines (body_text a)) ≡ loaded (Ok (links a)) (record { sheet = a; free = free - links a })
  loads_again free enough =
      let last = (letter heads.End ∷ []) ∷ [] in
      ap (λ b. loading 0 (record { sheet = b; free = free }) (lines (body_text a))) (sym (upto_none a proper))
      ∙ ap (loading 0 (at 0 a.rights free)) body_lines
      ∙ rows_load a.lefts 0 free last (omega arith) enough
      ∙ ap (λ r. line_on (0 + links a) (at a.lefts a.rights (free - links a)) r (λ t. loading (0 + links a + 1) t [])) end_read
      ∙ ap (λ k. loaded (Ok k) (at a.lefts a.rights (free - links a))) (omega arith)
      ∙ ap (λ b. loaded (Ok (links a)) (record { sheet = b; free = free - links a })) (upto_all a proper)

  abbrev first_body : List ℕ
  first_body = pair_body heads.Sheet a.lefts a.rights

  pub reads_back : ReadsBack a
  unfolding sheet_text
  reads_back =
      let n = a.lefts in
      let m = a.rights in
      let left = proper.lefts_high in
      let right = proper.rights_high in
      let fits_left : length_fits n ≡ true = and_from _ _ (le-leb 1 n proper.lefts_low) (le-leb n 512 left) in
      let fits_right : length_fits m ≡ true = and_from _ _ (le-leb 1 m proper.rights_low) (le-leb m 512 right) in
      let whole : sheet_text a ≡ first_body ++ feed ∷ body_text a = append_assoc first_body (feed ∷ []) (body_text a) in
      record {
        first = ap opening (lines_pair heads.Sheet n m (body_text a) (omega arith) (omega arith)) ∙ ap (on_line 1) (lengths_read n m (omega arith) (omega arith) fits_left fits_right);
        rest =
            ap (λ t. drop (line_end t) t) whole
            ∙ ap (λ k. drop k (first_body ++ feed ∷ body_text a)) (line_end_cut first_body (body_text a) (pair_ended heads.Sheet n m (omega arith) (omega arith)))
            ∙ ap (drop (length first_body + 1)) (sym whole)
            ∙ drop_at (lengths_line n m) (body_text a) (length first_body + 1) (length_push first_body feed);
        links_again = loads_again;
      }
