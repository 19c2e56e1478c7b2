-- What one line says, and what is at fault in it, in the order of the tests.
use Rattle.std.specs.Prelude.{ℕ, Bool, cond, not, ◌&&◌, ◌||◌, List, [], ◌∷◌, length, Ok, Err, Result, ◌==◌, nat_le, slice_index}
use Rattle.std.specs.Str.Parse.{digits_value}
use Rattle.std.specs.Str.{all_ascii_digits}
use Rattle.sheet.specs.Lengths.{length_fits}
use Rattle.sheet.specs.declared.refusal.Refusal.TheVariants.{LengthOutOfRange}
use Rattle.text.specs.Letters.{letter}
use Rattle.text.specs.Lines.{fields, all_clean}
use Rattle.text.specs.declared.line.Head.TheVariants as heads
use Rattle.text.specs.declared.line.Record.{Record}
use Rattle.text.specs.declared.line.Record.TheVariants.{Link, End}
use Rattle.text.specs.declared.fault.LineFault.TheVariants.{ForeignByte}
use Rattle.text.specs.declared.fault.FieldFault.{FieldFault}
use Rattle.text.specs.declared.fault.FieldFault.TheVariants.{Count, Number}
use Rattle.text.specs.declared.fault.RecordFault.{RecordFault}
use Rattle.text.specs.declared.fault.RecordFault.TheVariants.{Line, Field, Head, Sheet}

-- what follows an answer; a fault stays
abbrev pub and_then : {A B E : Type 0} → Result A E → (A → Result B E) → Result B E
and_then (Ok x) f = f x
and_then (Err e) f = Err e

-- a field's fault as one of the line
abbrev pub of_fields : {A : Type 0} → Result A FieldFault → Result A RecordFault
of_fields (Ok x) = Ok x
of_fields (Err e) = Err (Field e)

-- one to three digits, and no needless zero in front
abbrev pub is_number : List ℕ → Bool
is_number ds = nat_le 1 (length ds) && (nat_le (length ds) 3 && (all_ascii_digits ds && (length ds == 1 || not (slice_index ds 0 == 48))))

-- the number that field k holds
unfoldable pub number_in : ℕ → List ℕ → Result ℕ FieldFault
number_in k ds = cond (is_number ds) (Ok (digits_value 10 ds)) (Err (Number k))

-- the two numbers after a head, which are fields 2 and 3
abbrev pub two_numbers : List (List ℕ) → Result (ℕ × ℕ) FieldFault
two_numbers [] = Err Count
two_numbers (a ∷ []) = Err Count
two_numbers (a ∷ b ∷ []) = and_then (number_in 2 a) (λ x. and_then (number_in 3 b) (λ y. Ok (x, y)))
two_numbers (a ∷ b ∷ c ∷ fs) = Err Count

-- nothing after a head
abbrev pub nothing : List (List ℕ) → Result (Unit {0}) FieldFault
nothing [] = Ok tt
nothing (a ∷ fs) = Err Count

-- a head is a field of one byte
abbrev pub headed : List ℕ → List (List ℕ) → Result (ℕ × List (List ℕ)) RecordFault
headed [] fs = Err Head
headed (b ∷ []) fs = Ok (b, fs)
headed (b ∷ c ∷ bs) fs = Err Head

abbrev pub first_headed : List (List ℕ) → Result (ℕ × List (List ℕ)) RecordFault
first_headed [] = Err Head
first_headed (f ∷ fs) = headed f fs

-- the head of a line, and the fields after it
unfoldable pub heading : List ℕ → Result (ℕ × List (List ℕ)) RecordFault
heading l = cond (all_clean l) (first_headed (fields l)) (Err (Line ForeignByte))

-- the first field that holds no length
abbrev pub bad_length : ℕ → ℕ
bad_length n = cond (length_fits n) 3 2

-- two numbers as the lengths of a sheet
abbrev pub as_lengths : ℕ × ℕ → Result (ℕ × ℕ) RecordFault
as_lengths p = cond (length_fits p.0 && length_fits p.1) (Ok p) (Err (Sheet LengthOutOfRange (bad_length p.0)))

-- the first line by its head
abbrev pub lengths_by : ℕ × List (List ℕ) → Result (ℕ × ℕ) RecordFault
lengths_by h = cond (h.0 == letter heads.Sheet) (and_then (of_fields (two_numbers h.1)) as_lengths) (Err Head)

-- a later line by its head
abbrev pub record_by : ℕ × List (List ℕ) → Result Record RecordFault
record_by h =
    cond (h.0 == letter heads.Link) (and_then (of_fields (two_numbers h.1)) (λ p. Ok (Link p.0 p.1)))
    (cond (h.0 == letter heads.End) (and_then (of_fields (nothing h.1)) (λ _. Ok End)) (Err Head))

-- what the first line says: the lengths of the sheet
unfoldable pub lengths_in : List ℕ → Result (ℕ × ℕ) RecordFault
lengths_in l = and_then (heading l) lengths_by

-- what a later line says: a link, or the end
unfoldable pub record_in : List ℕ → Result Record RecordFault
record_in l = and_then (heading l) record_by
