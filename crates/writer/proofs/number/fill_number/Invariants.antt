use Rattle.std.proofs.Common.{◌≡◌, ◌++◌, drop, length, decimal}
use Rattle.writer.proofs.number.fill_number.Given as goal

-- the digits of what is left go before those that stand
abbrev pub invariant-loop-place : goal.invariant-loop-place
invariant-loop-place l = (decimal l.rest ++ drop l.place l.part ≡ decimal l.number) × (length (decimal l.rest) ≡ l.place)
