-- The definitions at small texts, by computation.
use Rattle.std.proofs.Common.{◌≡◌, Ok, Err, codes, refl}
use Rattle.std.specs.Fmt.{digits}
use Rattle.alignment.specs.Alignment.{unlinked}
use Rattle.sheet.specs.Edits.{State, with_link}
use Rattle.sheet.specs.declared.refusal.Refusal.TheVariants as refusals
use Rattle.text.specs.Lines.{lines, fields}
use Rattle.text.specs.Records.{lengths_in, record_in, heading, number_in}
use Rattle.text.specs.Loading.{opening, loading, fault_at}
use Rattle.text.specs.Written.{sheet_text, body_text, fault_line}
use Rattle.text.specs.declared.fault.LineFault.TheVariants.{Unended, ForeignByte}
use Rattle.text.specs.declared.fault.FieldFault.TheVariants.{Count, Number}
use Rattle.text.specs.declared.fault.RecordFault.TheVariants.{Line, Field, Head, Sheet}

-- two words on each side, no links, and four free
small : State
small = record { sheet = unlinked 2 2; free = 4 }

-- a left word outside the sheet is the sheet's fault in field 2 of its line
left_outside : (loading 0 small (lines (codes "L\t3\t1\n"))).answer ≡ Err (fault_at 2 (Sheet refusals.LeftOutside 2))
unfolding small lines record_in heading fields number_in
left_outside = refl

left_outside_line : fault_line (fault_at 2 (Sheet refusals.LeftOutside 2)) ≡ codes "F\tsheet\t1\t2\t2\n"
unfolding digits
left_outside_line = refl

counts_links : (loading 0 small (lines (codes "L\t2\t1\nL\t1\t1\nE\nrest"))).answer ≡ Ok 2
unfolding small lines record_in heading fields number_in
counts_links = refl

normal_form : sheet_text (with_link (with_link (unlinked 4 5) 4 3) 1 1) ≡ codes "S\t4\t5\nL\t1\t1\nL\t4\t3\nE\n"
unfolding sheet_text body_text digits
normal_form = refl

two_lengths : opening (lines (codes "S\t512\t1\nE\n")) ≡ Ok (512, 1)
unfolding lines lengths_in heading fields number_in
two_lengths = refl

length_too_long : opening (lines (codes "S\t512\t513\nE\n")) ≡ Err (fault_at 1 (Sheet refusals.LengthOutOfRange 3))
unfolding lines lengths_in heading fields number_in
length_too_long = refl

unended : opening (lines (codes "S\t1\t1")) ≡ Err (fault_at 1 (Line Unended))
unfolding lines lengths_in heading fields number_in
unended = refl

needless_zero : opening (lines (codes "S\t4\t05\n")) ≡ Err (fault_at 1 (Field (Number 3)))
unfolding lines lengths_in heading fields number_in
needless_zero = refl

too_few : opening (lines (codes "S\t4\n")) ≡ Err (fault_at 1 (Field Count))
unfolding lines lengths_in heading fields number_in
too_few = refl

empty_line : (loading 0 small (lines (codes "\nE\n"))).answer ≡ Err (fault_at 2 Head)
unfolding small lines record_in heading fields number_in
empty_line = refl

foreign : (loading 0 small (lines (codes "L 1\t1\nE\n"))).answer ≡ Err (fault_at 2 (Line ForeignByte))
unfolding small lines record_in heading fields number_in
foreign = refl
