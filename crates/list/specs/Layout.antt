-- How a list keeps its links in a block of records.
use Rattle.std.specs.Prelude.{ℕ, ◌-◌, min, Bool, cond, ◌&&◌, ◌||◌, List, map, length, take, Ok, Err, Result, ◌==◌, nat_lt}
use Rattle.std.specs.List.{prefix_len}
use Rattle.alignment.specs.Alignment.{Alignment}
use Rattle.alignment.specs.Laws.{among}
use Rattle.sheet.specs.Edits.{State}
use Rattle.list.specs.declared.record.LinkRecord.{LinkRecord}

-- a list uses at most the first 4,096 records of its block, one for each link
abbrev pub most_links : ℕ
most_links = 4096

-- how many links a block has room for
abbrev pub room : List LinkRecord → ℕ
room block = min most_links (length block)

-- a record that a removal freed
abbrev pub free_record : LinkRecord
free_record = record { left = 0; right = 0 }

-- records as pairs of words, and pairs of words as records
abbrev pub pairs : List LinkRecord → List (ℕ × ℕ)
pairs rs = map (λ (r : LinkRecord). (r.left, r.right)) rs

abbrev pub records : List (ℕ × ℕ) → List LinkRecord
records ps = map (λ (p : ℕ × ℕ). record { left = p.0; right = p.1 }) ps

-- what n left words, m right words and the records of the links mean
abbrev pub list_alignment : ℕ → ℕ → List LinkRecord → Alignment
list_alignment n m rs = record { lefts = n; rights = m; linked = λ i j. among (i, j) (pairs rs) }

-- the first k records of the block are the links, and what they leave of its room is free
abbrev pub list_state : ℕ → ℕ → ℕ → List LinkRecord → State
list_state n m k block = record { sheet = list_alignment n m (take k block); free = room block - k }

-- does one pair come before another: by left word, then right word
abbrev pub comes_before : ℕ × ℕ → ℕ × ℕ → Bool
comes_before q p = nat_lt q.0 p.0 || (q.0 == p.0 && nat_lt q.1 p.1)

-- how many of the pairs, from the first on, come before p
abbrev pub place : List (ℕ × ℕ) → ℕ × ℕ → ℕ
place ps p = prefix_len (λ q. comes_before q p) ps

-- where a search for p ends: at p, if it is among the pairs, and otherwise where it would stand
abbrev pub searched : List (ℕ × ℕ) → ℕ × ℕ → Result ℕ ℕ
searched ps p = cond (among p ps) (Ok (place ps p)) (Err (place ps p))
