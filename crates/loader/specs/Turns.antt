-- What loading the next line gives.
use Rattle.std.specs.Prelude.{◌≡◌, ℕ, ◌+◌, ◌<◌, List, length, Some, None, Ok, Err, Option, Result}
use Rattle.std.specs.Borrow.{Bor}
use Rattle.sheet.specs.Edits.{State}
use Rattle.text.specs.Lines.{lines}
use Rattle.text.specs.Loading.{fault_at, loaded, loading}
use Rattle.text.specs.declared.fault.RecordFault.{RecordFault}

-- Loading the text into s, after any number of links, goes on with the rest of the text after one link more,
-- which takes one that was free; or it ends here, or with this fault.
abbrev pub LineLoaded : State → List ℕ → Result (Option (Bor (List ℕ))) RecordFault → State → Type 0
LineLoaded s text (Ok (Some rest)) t =
    ((made : ℕ) → loading made s (lines text) ≡ loading (made + 1) t (lines rest.now)) × (t.free + 1 ≡ s.free) × (length rest.now < length text)
LineLoaded s text (Ok None) t = (made : ℕ) → loading made s (lines text) ≡ loaded (Ok made) t
LineLoaded s text (Err f) t = (made : ℕ) → loading made s (lines text) ≡ loaded (Err (fault_at (made + 2) f)) t
