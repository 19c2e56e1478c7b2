-- What opening a text gives, as numbers.
use Rattle.std.specs.Prelude.{ℕ, Ok, Err, Result}
use Rattle.sheet.specs.declared.lengths.Lengths.{Lengths}

-- the two lengths that were read, without what follows them
abbrev pub opened : {A E : Type 0} → Result (Lengths × A) E → Result (ℕ × ℕ) E
opened (Ok p) = Ok (p.0.left, p.0.right)
opened (Err e) = Err e
