-- What appending to a buffer leaves, and when there may be no memory for it.
use Rattle.std.specs.Prelude.{◌≡◌, ℕ, ◌+◌, ◌<◌, true, false, List, ◌++◌, length, replicate, Ok, Err, Result}
use Rattle.std.specs.declared.alloc.AllocError.{AllocError}
use Rattle.grid.specs.Layout.{enough}
use Rattle.sheet.specs.declared.refusal.Refusal.TheVariants.{BlockTooShort}
use Rattle.engine.specs.Listing.{listed}
use Rattle.engine.specs.declared.listing.Unlisted.{Unlisted}
use Rattle.engine.specs.declared.listing.Unlisted.TheVariants.{Block, Memory}

-- a buffer held `was` and had room for `room` bytes: `more` zeros follow, from the answered place on;
-- or nothing changed, and they did not fit into that room
abbrev pub Lengthened : List ℕ → ℕ → ℕ → Result ℕ AllocError → List ℕ → Type 0
Lengthened was room more (Ok at) after = (at ≡ length was) × (after ≡ was ++ replicate more 0)
Lengthened was room more (Err e) after = (after ≡ was) × (room < length was + more)

-- s follows; or nothing changed, and s did not fit into the room
abbrev pub Appended : List ℕ → ℕ → List ℕ → Result (Unit {0}) AllocError → List ℕ → Type 0
Appended was room s (Ok u) after = after ≡ was ++ s
Appended was room s (Err e) after = (after ≡ was) × (room < length was + length s)

-- the listing of the text follows; or nothing changed, and the block was too short or the listing did not fit into the room
abbrev pub ListingAppended : List ℕ → List ℕ → List ℕ → ℕ → Result (Unit {0}) Unlisted → List ℕ → Type 0
ListingAppended text block was room (Ok u) after = (enough block ≡ true) × (after ≡ was ++ listed text)
ListingAppended text block was room (Err (Block e)) after = (enough block ≡ false) × (e ≡ BlockTooShort) × (after ≡ was)
ListingAppended text block was room (Err (Memory e)) after = (enough block ≡ true) × (after ≡ was) × (room < length was + length (listed text))
