-- What a window means, and that it is proper.
use Rattle.alignment.specs.Alignment.{Alignment, Proper}
use Rattle.alignment.specs.Layers.{windowed}
use Rattle.alignment.proofs.Layers.{windowed_proper}
use Rattle.layers.specs.declared.window.Stretch.{Stretch}

-- of an alignment, the part that a stretch of left words and a stretch of right words show
abbrev pub seen : Stretch → Stretch → Alignment → Alignment
seen l r a = windowed l.first l.length r.first r.length a

pub seen_proper : (l r : Stretch) (a : Alignment) → Proper (seen l r a)
seen_proper l r a =
    windowed_proper l.first l.length r.first r.length a l.length_low l.length_high r.length_low r.length_high
