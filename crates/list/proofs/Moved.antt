-- What a row of records holds after a record was taken in or out.
use Rattle.std.proofs.Common.{◌≡◌, ℕ, ◌+◌, ◌-◌, ◌<◌, ◌≤◌, List, ◌∷◌, ◌++◌, length, take, drop, set, append_assoc, arith}
use Rattle.std.specs.List.{insert, remove, copy_within}
use Rattle.std.proofs.lemmas.Grind.{common_steps}
use Rattle.std.proofs.lemmas.List.{set_at, take_more, take-take, drop_more}
use Rattle.std.proofs.lemmas.Slice.{between_is}

module _ {X : Type 0} (xs : List X) (n k : ℕ) where
  -- those from place k on are moved up, and x stands at place k
  pub shifted_in : (x : X) → k ≤ n → n < length xs → set (copy_within xs k n (k + 1)) k x ≡ insert (take n xs) k x ++ drop (n + 1) xs
  shifted_in x low high = grind (arith, common_steps, append_assoc {A = X}, set_at {A = X}, between_is xs k n, take-take k n xs, take_more xs k x)

  -- those after place k are moved down, and y stands at the last place
  pub shifted_out : (y : X) → k < n → n ≤ length xs → set (copy_within xs (k + 1) n k) (n - 1) y ≡ remove (take n xs) k ++ (y ∷ drop n xs)
  shifted_out y low high = grind (arith, common_steps, append_assoc {A = X}, set_at {A = X}, between_is xs (k + 1) n, take-take k n xs, drop_more xs (n - 1) y)
