-- What no history changes.
use Rattle.std.specs.Prelude.{ℕ, ◌+◌}
use Rattle.alignment.specs.Links.{links}
use Rattle.sheet.specs.Edits.{State}

-- the links there are and those that can still be made, together
abbrev pub places : State → ℕ
places s = s.free + links s.sheet
