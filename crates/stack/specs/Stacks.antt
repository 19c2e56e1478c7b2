-- Sheets and layers over one another, by what they are made of, and what stands there.
use Rattle.std.specs.Prelude.{ℕ, Some, None, Option}
use Rattle.alignment.specs.Alignment.{Alignment}
use Rattle.alignment.specs.Layers.{swapped, mirrored, windowed, united, intersected}
use Rattle.sheet.specs.Edits.{State}

-- a layer over one sheet; a borrowed sheet shows its lender and lets nothing change it
pub data Layer : Type 0 where
  borrowed : Layer
  swap : Layer
  mirror : Layer
  -- the first word and the length of the left stretch, then of the right one
  window : ℕ → ℕ → ℕ → ℕ → Layer

-- a layer over two sheets
pub data Joint : Type 0 where
  union : Joint
  intersection : Joint

pub data Stack : Type 0 where
  -- an editable sheet, at the bottom
  base : State → Stack
  -- any other sheet at the bottom, whose links stand from the start
  fixed : Alignment → Stack
  over : Layer → Stack → Stack
  both : Joint → Stack → Stack → Stack

-- the rule of each layer
abbrev pub shown : Layer → Alignment → Alignment
shown borrowed a = a
shown swap a = swapped a
shown mirror a = mirrored a
shown (window x n y m) a = windowed x n y m a

abbrev pub joined : Joint → Alignment → Alignment → Alignment
joined union a b = united a b
joined intersection a b = intersected a b

-- the standing links of a layer follow by its rule from those of each sheet below
abbrev pub reading : Stack → Alignment
reading (base s) = s.sheet
reading (fixed a) = a
reading (over l t) = shown l (reading t)
reading (both j t u) = joined j (reading t) (reading u)

-- a swapped or mirrored sheet is editable where the sheet below is, with its free
abbrev pub free_through : Layer → Option ℕ → Option ℕ
free_through borrowed f = None
free_through swap f = f
free_through mirror f = f
free_through (window x n y m) f = None

-- how many links can still be made, where the sheet on top is editable
abbrev pub free_of : Stack → Option ℕ
free_of (base s) = Some s.free
free_of (fixed a) = None
free_of (over l t) = free_through l (free_of t)
free_of (both j t u) = None
