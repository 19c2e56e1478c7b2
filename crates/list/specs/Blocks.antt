-- The whole block that each call leaves.
use Rattle.std.specs.Prelude.{ℕ, ◌-◌, max, List, ◌++◌, drop, replicate}
use Rattle.alignment.specs.Alignment.{Alignment}
use Rattle.alignment.specs.Links.{links, in_order}
use Rattle.sheet.specs.Edits.{State, started}
use Rattle.list.specs.declared.record.LinkRecord.{LinkRecord}
use Rattle.list.specs.Layout.{room, free_record, records}

-- a list of n left words and m right words on a block that was laid
abbrev pub laid_state : ℕ → ℕ → List LinkRecord → State
laid_state n m block = started n m (room block)

-- the block after an edit, accepted or refused: the links stand first, in order; records that a removal freed are (0, 0); the rest is as it was
abbrev pub left_block : Alignment → Alignment → List LinkRecord → List LinkRecord
left_block before after block =
    records (in_order after) ++ (replicate (links before - links after) free_record ++ drop (max (links before) (links after)) block)
