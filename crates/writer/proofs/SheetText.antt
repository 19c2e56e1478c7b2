-- The text of a sheet: its first line, and the rest.
use Rattle.std.proofs.Common.{◌≡◌, ◌*◌, ◌≤◌, ◌++◌, length, refl, arith}
use Rattle.std.proofs.lemmas.Nat.{mul-le}
use Rattle.alignment.specs.Alignment.{Alignment, Proper}
use Rattle.alignment.specs.Links.{in_order}
use Rattle.alignment.proofs.Counts.{links_le}
use Rattle.alignment.proofs.Orders.{links_in_order}
use Rattle.text.specs.Written.{lengths_line, body_text, sheet_text}
use Rattle.writer.specs.Unwritten.{text_from}

pub two_parts : (a : Alignment) → sheet_text a ≡ lengths_line a.lefts a.rights ++ text_from (in_order a)
unfolding sheet_text body_text
two_parts a = refl

pub links_most : (a : Alignment) → Proper a → length (in_order a) ≤ 512 * 512
links_most a ok = omega (arith, (links_in_order a).counts, links_le a, mul-le a.lefts a.rights 512 512 ok.lefts_high ok.rights_high)
