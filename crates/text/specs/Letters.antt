-- The letters and names of the format, as bytes.
use Rattle.std.specs.Prelude.{ℕ, List, codes}
use Rattle.text.specs.declared.line.Head.{Head}
use Rattle.text.specs.declared.line.Head.TheVariants as heads
use Rattle.text.specs.declared.line.Layer.{Layer}
use Rattle.text.specs.declared.line.Layer.TheVariants as layers

-- a tab stands between two fields, and a line feed ends each line
abbrev pub tab : ℕ
tab = 9

abbrev pub feed : ℕ
feed = 10

abbrev pub letter : Head → ℕ
letter heads.Sheet = 83
letter heads.Link = 76
letter heads.End = 69
letter heads.Fault = 70

abbrev pub layer_name : Layer → List ℕ
layer_name layers.Line = codes "line"
layer_name layers.Field = codes "field"
layer_name layers.Record = codes "record"
layer_name layers.Sheet = codes "sheet"
