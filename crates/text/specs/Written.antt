-- Lines as they are written, and the text of a sheet.
use Rattle.std.specs.Prelude.{ℕ, ◌+◌, cond, List, [], ◌∷◌, ◌++◌, length, take, drop, Ok, Err, decimal, Result, nat_le}
use Rattle.std.specs.List.{flat_map}
use Rattle.alignment.specs.Alignment.{Alignment}
use Rattle.alignment.specs.Links.{in_order}
use Rattle.sheet.specs.declared.refusal.Refusal.{Refusal}
use Rattle.sheet.specs.declared.refusal.Refusal.TheVariants.{BlockTooShort}
use Rattle.text.specs.Letters.{tab, feed, letter, layer_name}
use Rattle.text.specs.Faults.{fault_layer, fault_number, fault_field}
use Rattle.text.specs.declared.line.Head.{Head}
use Rattle.text.specs.declared.line.Head.TheVariants as heads
use Rattle.text.specs.declared.line.Field.{Field}
use Rattle.text.specs.declared.line.Field.TheVariants.{Number, Name}
use Rattle.text.specs.declared.fault.Fault.{Fault}

-- a number in decimal, or the name of a layer
abbrev pub field_bytes : Field → List ℕ
field_bytes (Number n) = decimal n
field_bytes (Name l) = layer_name l

-- a head, and each field after a tab
abbrev pub line_body : Head → List Field → List ℕ
line_body h fs = letter h ∷ flat_map (λ f. tab ∷ field_bytes f) fs

-- every line ends in a line feed
abbrev pub line : Head → List Field → List ℕ
line h fs = line_body h fs ++ feed ∷ []

abbrev pub lengths_line : ℕ → ℕ → List ℕ
lengths_line n m = line heads.Sheet (Number n ∷ Number m ∷ [])

abbrev pub link_line : ℕ × ℕ → List ℕ
link_line p = line heads.Link (Number p.0 ∷ Number p.1 ∷ [])

abbrev pub end_line : List ℕ
end_line = line heads.End []

abbrev pub fault_line : Fault → List ℕ
fault_line f = line heads.Fault (Name (fault_layer f.cause) ∷ Number (fault_number f.cause) ∷ Number f.line ∷ Number (fault_field f.cause) ∷ [])

-- the lines after the first one: the links by left word, then right word, and the end
unfoldable pub body_text : Alignment → List ℕ
body_text a = flat_map link_line (in_order a) ++ end_line

-- a sheet in its normal form
unfoldable pub sheet_text : Alignment → List ℕ
sheet_text a = lengths_line a.lefts a.rights ++ body_text a

-- d with s written over it from `at` on
abbrev pub wrote : List ℕ → ℕ → List ℕ → List ℕ
wrote d at s = take at d ++ (s ++ drop (at + length s) d)

-- what writing answers, the place after what was written or a refusal, and what it leaves
pub record Put : Type 0 where
  pub answer : Result ℕ Refusal
  pub buffer : List ℕ

abbrev pub put : Result ℕ Refusal → List ℕ → Put
put r d = record { answer = r; buffer = d }

-- s is written into d from `at` on; where it does not fit, nothing is
abbrev pub writing : List ℕ → ℕ → List ℕ → Put
writing d at s = cond (nat_le (at + length s) (length d)) (put (Ok (at + length s)) (wrote d at s)) (put (Err BlockTooShort) d)
