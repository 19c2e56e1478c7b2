use Rattle.std.proofs.Common.{◌≡◌, ◌^◌, ◌<◌, drop}
use Rattle.std.specs.Str.Parse.{digits_value, digits_value_after}
use Rattle.std.specs.Str.{all_ascii_digits}
use Rattle.loader.proofs.record.number.Given as goal

abbrev pub invariant-loop-b : goal.invariant-loop-b
invariant-loop-b l =
    (all_ascii_digits (drop l.b-index l.field) ≡ all_ascii_digits l.field)
    × (digits_value_after 10 l.value (drop l.b-index l.field) ≡ digits_value 10 l.field)
    × (l.value < 10 ^ l.b-index)
