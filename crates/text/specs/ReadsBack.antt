-- The law of the text: what is written of an alignment reads back to it.
use Rattle.std.specs.Prelude.{◌≡◌, ℕ, ◌-◌, ◌≤◌, drop, Ok}
use Rattle.alignment.specs.Alignment.{Alignment, unlinked}
use Rattle.alignment.specs.Links.{links}
use Rattle.text.specs.Lines.{lines, line_end}
use Rattle.text.specs.Loading.{opening, loading, loaded}
use Rattle.text.specs.Written.{body_text, sheet_text}

-- The first line gives the lengths, and the lines after it, loaded into a sheet of these lengths without links
-- and with free enough, are accepted, answer how many links there are, and make just these links.
pub record ReadsBack (a : Alignment) : Type 0 where
  pub first : opening (lines (sheet_text a)) ≡ Ok (a.lefts, a.rights)
  pub rest : drop (line_end (sheet_text a)) (sheet_text a) ≡ body_text a
  pub links_again : (free : ℕ) → links a ≤ free → loading 0 (record { sheet = unlinked a.lefts a.rights; free = free }) (lines (body_text a)) ≡ loaded (Ok (links a)) (record { sheet = a; free = free - links a })
