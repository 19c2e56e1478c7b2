-- Which field of a line the sheet's refusal is about.
use Rattle.std.specs.Prelude.{ℕ}
use Rattle.sheet.specs.declared.refusal.Refusal.{Refusal}
use Rattle.sheet.specs.declared.refusal.Refusal.TheVariants.{LeftOutside, RightOutside, AlreadyLinked, NotLinked, NothingFree, NoLinks, LengthOutOfRange, BlockTooShort}

-- the left word is field 2, the right word field 3; any other refusal is about the whole line
abbrev pub refused_field : Refusal → ℕ
refused_field LeftOutside = 2
refused_field RightOutside = 3
refused_field AlreadyLinked = 0
refused_field NotLinked = 0
refused_field NothingFree = 0
refused_field NoLinks = 0
refused_field LengthOutOfRange = 0
refused_field BlockTooShort = 0
