-- What the lister gives of a text: the sheet in its normal form, or the line of its first fault.
use Rattle.std.specs.Prelude.{ℕ, ◌+◌, ◌*◌, cond, List, take, drop, Ok, Err, Result, ◌==◌}
use Rattle.alignment.specs.Alignment.{Alignment, unlinked}
use Rattle.alignment.specs.Links.{links}
use Rattle.sheet.specs.Edits.{State}
use Rattle.sheet.specs.declared.refusal.Refusal.TheVariants.{NoLinks}
use Rattle.text.specs.Lines.{lines, line_end}
use Rattle.text.specs.Records.{and_then}
use Rattle.text.specs.Loading.{Loaded, opening, loading, fault_at}
use Rattle.text.specs.Written.{sheet_text, fault_line}
use Rattle.text.specs.declared.fault.Fault.{Fault}
use Rattle.text.specs.declared.fault.RecordFault.TheVariants.{Sheet}

-- the bytes of a text that are read
abbrev pub most_bytes : ℕ
most_bytes = 65536

-- n left words and m right words, no links, and each pair free
abbrev pub blank : ℕ → ℕ → State
blank n m = record { sheet = unlinked n m; free = n * m }

-- a sheet that was loaded; one without links is refused at its end, the line after its links
abbrev pub with_links : Alignment → ℕ → Result Alignment Fault
with_links a made = cond (links a == 0) (Err (fault_at (made + 2) (Sheet NoLinks 0))) (Ok a)

abbrev pub loaded_sheet : Loaded → Result Alignment Fault
loaded_sheet o = and_then o.answer (with_links o.after.sheet)

-- the sheet that a text tells of, or its first fault
unfoldable pub sheet_in : List ℕ → Result Alignment Fault
sheet_in text = and_then (opening (lines text)) (λ p. loaded_sheet (loading 0 (blank p.0 p.1) (lines (drop (line_end text) text))))

abbrev pub shown : Result Alignment Fault → List ℕ
shown (Ok a) = sheet_text a
shown (Err f) = fault_line f

-- the output for a text, of which no more than its first bytes are read
abbrev pub listed : List ℕ → List ℕ
listed text = shown (sheet_in (take most_bytes text))
