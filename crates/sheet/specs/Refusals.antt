-- The number of each refusal.
use Rattle.std.specs.Prelude.{ℕ}
use Rattle.sheet.specs.declared.refusal.Refusal.{Refusal}
use Rattle.sheet.specs.declared.refusal.Refusal.TheVariants.{LeftOutside, RightOutside, AlreadyLinked, NotLinked, NothingFree, NoLinks, LengthOutOfRange, BlockTooShort}

abbrev pub refusal_number : Refusal → ℕ
refusal_number LeftOutside = 1
refusal_number RightOutside = 2
refusal_number AlreadyLinked = 3
refusal_number NotLinked = 4
refusal_number NothingFree = 5
refusal_number NoLinks = 6
refusal_number LengthOutOfRange = 7
refusal_number BlockTooShort = 12
