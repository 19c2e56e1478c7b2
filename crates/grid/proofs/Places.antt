-- The places of links in a block.
use Rattle.std.proofs.Common.{◌≡◌, ℕ, ◌-◌, ◌/◌, ◌<◌, ◌≤◌, true, arith}
use Rattle.std.specs.Prelude.{◌==◌}
use Rattle.std.proofs.lemmas.Bool.Decides.{nat_tests}
use Rattle.std.proofs.lemmas.Nat.{mul-add-lt, mul-le, same_from_place}
use Rattle.alignment.specs.Alignment.{within}
use Rattle.sheet.specs.Edits.{same_pair}
use Rattle.grid.specs.Layout.{place, block_bytes}

-- the places of a sheet's links lie in the bytes that a grid uses
pub place_byte : (n m i j : ℕ) → n ≤ 512 → m ≤ 512 → within n i ≡ true → within m j ≡ true → place m i j / 8 < block_bytes
place_byte n m i j hn hm hi hj =
    let most = mul-le m n 512 512 hm hn in
    grind (arith, nat_tests, mul-add-lt)

-- the test on places is the test on words
pub place_tells_pair : (n m a b i j : ℕ) → within n a ≡ true → within m b ≡ true → within n i ≡ true → within m j ≡ true → (place m a b == place m i j) ≡ same_pair i j a b
place_tells_pair n m a b i j ha hb hi hj =
    let same = same_from_place (a - 1) (b - 1) (i - 1) (j - 1) m in
    grind (arith, nat_tests)
