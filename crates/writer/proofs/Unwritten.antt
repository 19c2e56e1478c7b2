-- What one write after another leaves.
use Rattle.std.proofs.Common.{◌≡◌, ℕ, ◌+◌, ◌-◌, ◌<◌, List, [], ◌∷◌, ◌++◌, length, get_or, drop, set, refl, ap, ◌∙◌, subst, append_assoc, arith, length-append, length-drop, length-take, take-append-drop}
use Rattle.std.proofs.Math.Seq.{drop-cons}
use borrow.Rule.Slice.PartMut.{put_mid}
use Rattle.std.proofs.lemmas.List.{set_split, drop-drop}
use Rattle.std.proofs.lemmas.List.Edits.{paste_all, paste-paste}
use Rattle.text.specs.Letters.{tab}
use Rattle.text.specs.Written.{field_bytes, wrote}
use Rattle.text.specs.declared.line.Field.{Field}
use Rattle.writer.specs.Unwritten.{line_from, Unwritten}

-- the next field of a line, and the rest of it
pub next_field : (fs : List Field) (i : ℕ) (d : Field) → i < length fs → line_from (drop i fs) ≡ tab ∷ (field_bytes (get_or fs i d) ++ line_from (drop (i + 1) fs))
next_field fs i d l = ap line_from (drop-cons fs i d l) ∙ grind (arith, append_assoc)

pub rest_same : {d all x s t : List ℕ} {at end : ℕ} → s ≡ t → Unwritten d at all x end s → Unwritten d at all x end t
rest_same {d} {all} {x} {s} {t} {at} {end} e w = subst (λ u. Unwritten d at all x end u) e w

-- t is written next, up to e
pub then_all : {d all x y rest : List ℕ} {at end e : ℕ} (t : List ℕ) → Unwritten d at all x end (t ++ rest) → e ≡ end + length t → y ≡ wrote x end t → Unwritten d at all y e rest
then_all {x = x} {y = y} {rest = rest} {end = end} t w long is =
    let place = w.place in
    let room = w.room in
    record {
      place = omega (arith, length-append {A = ℕ});
      room = grind (arith, is, length-append, length-take, length-drop);
      buffer = (λ i. wrote (is i) (long i) rest) ∙ grind (arith, length-append, paste-paste x end t rest (length t) (length rest), paste_all) ∙ w.buffer;
    }

-- a byte is written next
pub then_byte : {d all x rest : List ℕ} {at end : ℕ} (b : ℕ) → Unwritten d at all x end (b ∷ rest) → Unwritten d at all (set x end b) (end + 1) rest
then_byte {x = x} {end = end} b w = let room = w.room in then_all (b ∷ []) w refl (set_split x end b (omega arith) ∙ grind arith)

-- the part up to e is lent next, and holds t after
pub then_part : {d all x ys rest : List ℕ} {at end : ℕ} (e : ℕ) (t : List ℕ) → Unwritten d at all x end (t ++ rest) → e ≡ end + length t → ys ≡ t → Unwritten d at all (put_mid end (e - end) x ys) e rest
then_part e t w long is = then_all t w long (grind (arith, is, drop-drop))

pub all_written : {d all x : List ℕ} {at end : ℕ} → Unwritten d at all x end [] → x ≡ wrote d at all
all_written {x = x} {end = end} w = grind (arith, w.buffer, take-append-drop end x)
