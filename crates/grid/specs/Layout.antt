-- How a grid keeps its links in a block of bytes.
use Rattle.std.specs.Prelude.{ℕ, ◌+◌, ◌-◌, ◌*◌, ◌/◌, ◌%◌, ◌^◌, Bool, cond, not, ◌&&◌, List, length, ◌==◌, nat_le, slice_index}
use Rattle.alignment.specs.Alignment.{Alignment, within}
use Rattle.alignment.specs.Links.{links}
use Rattle.sheet.specs.Edits.{State}

-- a grid uses the first 32,768 bytes of its block: a bit for each of 512 times 512 links
abbrev pub block_bytes : ℕ
block_bytes = 32768

-- is the block long enough to keep links
abbrev pub enough : List ℕ → Bool
enough block = nat_le block_bytes (length block)

-- bit b is in byte b / 8, the low bit of a byte first
abbrev pub bit_at : List ℕ → ℕ → Bool
bit_at block b = slice_index block (b / 8) / 2 ^ (b % 8) % 2 == 1

-- byte k has a set bit
abbrev pub filled : List ℕ → ℕ → Bool
filled block k = not (slice_index block k == 0)

-- the bit of link (i, j), where there are m right words
abbrev pub place : ℕ → ℕ → ℕ → ℕ
place m i j = (i - 1) * m + (j - 1)

-- what n left words, m right words and a block mean; a block that is too short has no links
abbrev pub grid_alignment : ℕ → ℕ → List ℕ → Alignment
grid_alignment n m block =
    record { lefts = n; rights = m; linked = λ i j. enough block && (within n i && (within m j && bit_at block (place m i j))) }

-- each pair of words that is not linked can be; nothing is free in a block that is too short
abbrev pub grid_free : ℕ → ℕ → List ℕ → ℕ
grid_free n m block = cond (enough block) (n * m - links (grid_alignment n m block)) 0

abbrev pub grid_state : ℕ → ℕ → List ℕ → State
grid_state n m block = record { sheet = grid_alignment n m block; free = grid_free n m block }
