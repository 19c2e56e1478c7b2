-- What is not written yet of a line, or of a sheet's text.
use Rattle.std.specs.Prelude.{◌≡◌, ℕ, ◌+◌, ◌≤◌, List, [], ◌∷◌, ◌++◌, length}
use Rattle.std.specs.List.{flat_map}
use Rattle.text.specs.Letters.{tab, feed}
use Rattle.text.specs.Written.{field_bytes, link_line, end_line, wrote}
use Rattle.text.specs.declared.line.Field.{Field}

-- a line from these fields on
abbrev pub line_from : List Field → List ℕ
line_from fs = flat_map (λ f. tab ∷ field_bytes f) fs ++ feed ∷ []

-- the text of a sheet from these links on
abbrev pub text_from : List (ℕ × ℕ) → List ℕ
text_from links = flat_map link_line links ++ end_line

-- x has room for `rest` from `end` on, and with it written, `all` has been written into d from `at` on
pub record Unwritten (d : List ℕ) (at : ℕ) (all x : List ℕ) (end : ℕ) (rest : List ℕ) : Type 0 where
  pub place : end + length rest ≡ at + length all
  pub room : end + length rest ≤ length x
  pub buffer : wrote x end rest ≡ wrote d at all
