-- What is left of a line after some of its fields.
use Rattle.std.specs.Prelude.{ℕ, List, [], Some, None, Option}
use Rattle.std.specs.Borrow.{Bor}
use Rattle.text.specs.Letters.{tab}
use Rattle.text.specs.Lines.{pieces}
use Rattle.loader.specs.declared.split.Fields.{Fields}

-- the fields that are still to come: none, where no tab followed
abbrev pub fields_after : Option (Bor (List ℕ)) → List (List ℕ)
fields_after None = []
fields_after (Some bytes) = pieces tab bytes.now

-- the same of a line that is read field by field
abbrev pub fields_left : Fields → List (List ℕ)
fields_left f = fields_after f.rest
