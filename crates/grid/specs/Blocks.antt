-- The test of a block, and the whole block that each call leaves.
use Rattle.std.specs.Prelude.{ℕ, ◌*◌, ◌/◌, ◌%◌, ◌^◌, Bool, cond, not, ◌&&◌, List, ◌++◌, drop, replicate, Ok, Err, Result, bit_xor, slice_index, slice_set}
use Rattle.alignment.specs.Alignment.{within}
use Rattle.sheet.specs.Edits.{State, started}
use Rattle.sheet.specs.declared.refusal.Refusal.{Refusal}
use Rattle.sheet.specs.declared.refusal.Refusal.TheVariants.{BlockTooShort}
use Rattle.grid.specs.Layout.{block_bytes, enough, place, grid_alignment}

-- a block is refused where it is too short to keep links
abbrev pub test_block : List ℕ → Result (Unit {0}) Refusal
test_block block = cond (enough block) (Ok tt) (Err BlockTooShort)

-- the first k bytes are zero, and the bytes after them are as they were
unfoldable pub cleared : ℕ → List ℕ → List ℕ
cleared k block = replicate k 0 ++ drop k block

-- the bytes that a grid uses are zero; a block that is too short is as it was
abbrev pub laid : List ℕ → List ℕ
laid block = cond (enough block) (cleared block_bytes block) block

-- a grid of n left words and m right words on a block that was laid
abbrev pub laid_state : ℕ → ℕ → List ℕ → State
laid_state n m block = started n m (cond (enough block) (n * m) 0)

-- bit b is turned over, and all else is as it was
abbrev pub flipped : List ℕ → ℕ → List ℕ
flipped block b = slice_set block (b / 8) (bit_xor (slice_index block (b / 8)) (2 ^ (b % 8)))

-- words of the sheet that are not linked, on a block that is long enough
abbrev pub takes_link : ℕ → ℕ → List ℕ → ℕ → ℕ → Bool
takes_link n m block i j = enough block && (within n i && (within m j && not ((grid_alignment n m block).linked i j)))

-- linking turns over the bit of a link that it accepts, which was 0, and nothing else
abbrev pub linked_block : ℕ → ℕ → List ℕ → ℕ → ℕ → List ℕ
linked_block n m block i j = cond (takes_link n m block i j) (flipped block (place m i j)) block

-- unlinking turns over the bit of a link that is there, which was 1, and nothing else
abbrev pub unlinked_block : ℕ → ℕ → List ℕ → ℕ → ℕ → List ℕ
unlinked_block n m block i j = cond ((grid_alignment n m block).linked i j) (flipped block (place m i j)) block
