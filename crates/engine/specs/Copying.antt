-- What carrying the links of a sheet over by way of its text answers and leaves.
use Rattle.std.specs.Prelude.{◌≡◌, ℕ, ◌-◌, ◌≤◌, cond, List, length, Ok, Err, Result, nat_le}
use Rattle.alignment.specs.Alignment.{Alignment, unlinked}
use Rattle.alignment.specs.Links.{links}
use Rattle.sheet.specs.Edits.{State}
use Rattle.sheet.specs.declared.refusal.Refusal.TheVariants.{BlockTooShort}
use Rattle.text.specs.Lines.{lines}
use Rattle.text.specs.Loading.{loading}
use Rattle.text.specs.Written.{body_text, sheet_text, wrote}
use Rattle.text.specs.declared.fault.Fault.{Fault}
use Rattle.engine.specs.declared.copying.CopyFault.{CopyFault}
use Rattle.engine.specs.declared.copying.CopyFault.TheVariants.{Buffer, Text}

-- the answer, the sheet that was loaded, and the buffer
pub record Copied : Type 0 where
  pub answer : Result ℕ CopyFault
  pub after : State
  pub buffer : List ℕ

abbrev pub copied : Result ℕ CopyFault → State → List ℕ → Copied
copied r s d = record { answer = r; after = s; buffer = d }

abbrev pub of_text : Result ℕ Fault → Result ℕ CopyFault
of_text (Ok n) = Ok n
of_text (Err f) = Err (Text f)

-- the text of a goes into the buffer d, and its lines after the first are loaded into s
abbrev pub copying : Alignment → State → List ℕ → Copied
copying a s d =
    cond (nat_le (length (sheet_text a)) (length d))
    (copied (of_text (loading 0 s (lines (body_text a))).answer) (loading 0 s (lines (body_text a))).after (wrote d 0 (sheet_text a)))
    (copied (Err (Buffer BlockTooShort)) s d)

-- a sheet of the same lengths, without links and with free enough, then has the same links
abbrev pub CarriesOver : Alignment → State → ℕ → Result ℕ CopyFault → State → Type 0
CarriesOver a s room r after =
    s.sheet ≡ unlinked a.lefts a.rights → links a ≤ s.free → length (sheet_text a) ≤ room →
    (r ≡ Ok (links a)) × (after ≡ record { sheet = a; free = s.free - links a })
