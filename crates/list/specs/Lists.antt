-- What a list means, and how it stands.
use Rattle.std.specs.Prelude.{ℕ, List, take, vec_items}
use Rattle.alignment.specs.Alignment.{Alignment}
use Rattle.sheet.specs.Edits.{State}
use Rattle.list.specs.declared.record.LinkRecord.{LinkRecord}
use Rattle.list.specs.declared.link_list.LinkList.{LinkList}
use Rattle.list.specs.Layout.{pairs, list_alignment, list_state}

-- the records of its block
abbrev pub records_of : LinkList → List LinkRecord
records_of l = vec_items l.block

-- its links, in order
abbrev pub links_of : LinkList → List (ℕ × ℕ)
links_of l = pairs (take l.count (records_of l))

abbrev pub alignment_of : LinkList → Alignment
alignment_of l = list_alignment l.lengths.left l.lengths.right (take l.count (records_of l))

abbrev pub state_of : LinkList → State
state_of l = list_state l.lengths.left l.lengths.right l.count (records_of l)
