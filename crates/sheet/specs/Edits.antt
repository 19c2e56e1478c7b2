-- What an editable sheet adds to an alignment, and what each edit answers and leaves, in the order of its tests.
use Rattle.std.specs.Prelude.{ℕ, ◌+◌, ◌-◌, ◌≤◌, Bool, cond, not, ◌&&◌, ◌||◌, Ok, Err, Result, ◌==◌}
use Rattle.alignment.specs.Alignment.{Alignment, within, unlinked}
use Rattle.alignment.specs.Links.{links}
use Rattle.sheet.specs.declared.refusal.Refusal.{Refusal}
use Rattle.sheet.specs.declared.refusal.Refusal.TheVariants.{LeftOutside, RightOutside, AlreadyLinked, NotLinked, NothingFree}

-- an editable sheet: what it means, and how many links it can still take
pub record State : Type 0 where
  pub sheet : Alignment
  pub free : ℕ

-- n left words, m right words, no links, and some number free: where every sheet starts
abbrev pub started : ℕ → ℕ → ℕ → State
started n m free = record { sheet = unlinked n m; free = free }

-- free and links together are at most 512 times 512
abbrev pub capacity : ℕ
capacity = 262144

abbrev pub Bounded : State → Type 0
Bounded s = s.free + links s.sheet ≤ capacity

-- what a call answers, and what it leaves
pub record Outcome : Type 0 where
  pub answer : Result (Unit {0}) Refusal
  pub after : State

abbrev pub outcome : Result (Unit {0}) Refusal → State → Outcome
outcome r s = record { answer = r; after = s }

-- (a, b) is the pair (i, j)
abbrev pub same_pair : ℕ → ℕ → ℕ → ℕ → Bool
same_pair i j a b = a == i && b == j

abbrev pub with_link : Alignment → ℕ → ℕ → Alignment
with_link a i j = record { lefts = a.lefts; rights = a.rights; linked = λ x y. same_pair i j x y || a.linked x y }

abbrev pub without_link : Alignment → ℕ → ℕ → Alignment
without_link a i j = record { lefts = a.lefts; rights = a.rights; linked = λ x y. not (same_pair i j x y) && a.linked x y }

-- a refusal changes nothing
abbrev pub refused : Refusal → State → Outcome
refused e s = outcome (Err e) s

abbrev pub accepted : Alignment → ℕ → Outcome
accepted a f = outcome (Ok tt) (record { sheet = a; free = f })

-- linking adds the link, and free falls by one
abbrev pub linking : State → ℕ → ℕ → Outcome
linking s i j =
    cond (not (within s.sheet.lefts i)) (refused LeftOutside s)
    (cond (not (within s.sheet.rights j)) (refused RightOutside s)
    (cond (s.sheet.linked i j) (refused AlreadyLinked s)
    (cond (s.free == 0) (refused NothingFree s)
    (accepted (with_link s.sheet i j) (s.free - 1)))))

-- unlinking removes it, and free rises by one
abbrev pub unlinking : State → ℕ → ℕ → Outcome
unlinking s i j =
    cond (not (within s.sheet.lefts i)) (refused LeftOutside s)
    (cond (not (within s.sheet.rights j)) (refused RightOutside s)
    (cond (not (s.sheet.linked i j)) (refused NotLinked s)
    (accepted (without_link s.sheet i j) (s.free + 1))))

-- wiping removes all links, and free rises by their number
abbrev pub wiping : State → State
wiping s = record { sheet = unlinked s.sheet.lefts s.sheet.rights; free = s.free + links s.sheet }
