-- What a fault line tells of a fault: the layer that found it, its number, and the field (0 for the whole line).
use Rattle.std.specs.Prelude.{ℕ}
use Rattle.sheet.specs.Refusals.{refusal_number}
use Rattle.text.specs.declared.fault.LineFault.TheVariants.{Unended, ForeignByte}
use Rattle.text.specs.declared.fault.FieldFault.TheVariants.{Count, Number}
use Rattle.text.specs.declared.fault.RecordFault.{RecordFault}
use Rattle.text.specs.declared.fault.RecordFault.TheVariants.{Line, Field, Head, Sheet}
use Rattle.text.specs.declared.line.Layer.{Layer}
use Rattle.text.specs.declared.line.Layer.TheVariants as layers

abbrev pub fault_layer : RecordFault → Layer
fault_layer (Line f) = layers.Line
fault_layer (Field f) = layers.Field
fault_layer Head = layers.Record
fault_layer (Sheet e k) = layers.Sheet

-- the sheet's own number where the sheet refuses
abbrev pub fault_number : RecordFault → ℕ
fault_number (Line ForeignByte) = 13
fault_number (Line Unended) = 14
fault_number (Field Count) = 15
fault_number (Field (Number k)) = 16
fault_number Head = 17
fault_number (Sheet e k) = refusal_number e

abbrev pub fault_field : RecordFault → ℕ
fault_field (Line f) = 0
fault_field (Field Count) = 0
fault_field (Field (Number k)) = k
fault_field Head = 1
fault_field (Sheet e k) = k
