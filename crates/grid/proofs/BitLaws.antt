-- Laws of single bits of a block.
use Rattle.std.proofs.Common.{◌≡◌, ℕ, ◌/◌, ◌<◌, not, cond, List, length, arith}
use Rattle.std.specs.Prelude.{◌==◌}
use Rattle.std.proofs.lemmas.Bool.Decides.{nat_tests}
use Rattle.std.proofs.lemmas.Nat.Bits.{bit_at_xor, bit_at-pow_same, bit_at-pow_other, bit_at-lt}
use Rattle.std.proofs.lemmas.List.{get_or-set_same, get_or-set_other}
use Rattle.grid.specs.Layout.{bit_at}
use Rattle.grid.specs.Blocks.{flipped}

-- bit b is turned over, and no other
pub flip_bits : (block : List ℕ) (b c : ℕ) → b / 8 < length block → bit_at (flipped block b) c ≡ cond (c == b) (not (bit_at block c)) (bit_at block c)
flip_bits block b c h = grind (arith, nat_tests, get_or-set_same, get_or-set_other, bit_at_xor, bit_at-pow_same, bit_at-pow_other, bit_at-lt)
