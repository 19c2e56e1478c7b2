-- How counts and sums change, and how large they are.
use Rattle.std.proofs.Common.{◌≡◌, ℕ, zero, suc, ◌+◌, ◌*◌, ◌≤◌, Bool, true, false, cond, sym, refl, ap, ◌∙◌, ⊎_elim, suc-mul, arith}
use Rattle.std.proofs.lemmas.Bool.{cases_eq, cases_Bool}
use Rattle.alignment.specs.Alignment.{Alignment}
use Rattle.alignment.specs.Links.{count, sum, links}

-- a test as a number
abbrev pub one : Bool → ℕ
one b = cond b 1 0

-- equal tests count the same
pub count_same : (p q : ℕ → Bool) (n : ℕ) → ((k : ℕ) → 1 ≤ k → k ≤ n → p k ≡ q k) → count p n ≡ count q n
count_same p q zero same = refl
count_same p q (suc n) same =
    omega (arith, count_same p q n (λ k l h. same k l (omega arith)), ap one (same (suc n) (omega arith) (omega arith)))

pub sum_same : (f g : ℕ → ℕ) (n : ℕ) → ((k : ℕ) → 1 ≤ k → k ≤ n → f k ≡ g k) → sum f n ≡ sum g n
sum_same f g zero same = refl
sum_same f g (suc n) same =
    omega (arith, sum_same f g n (λ k l h. same k l (omega arith)), same (suc n) (omega arith) (omega arith))

-- a sum rises by one where one term does
pub sum_one_more : (f g : ℕ → ℕ) (n i : ℕ) → 1 ≤ i → i ≤ n → g i ≡ f i + 1 → ((k : ℕ) → (k ≡ i → ⊥) → f k ≡ g k) → sum g n ≡ sum f n + 1
sum_one_more f g zero i low high more same = absurd (omega arith)
sum_one_more f g (suc n) i low high more same =
    ⊎_elim
    (λ e.
    let here : g (suc n) ≡ f (suc n) + 1 = ap g (sym e) ∙ more ∙ ap (λ k. f k + 1) e in
    let rest : sum f n ≡ sum g n = sum_same f g n (λ k l h. same k (λ s. absurd (omega arith))) in
    omega arith)
    (λ ne.
    let here : f (suc n) ≡ g (suc n) = same (suc n) (λ s. ne (sym s)) in
    let rest : sum g n ≡ sum f n + 1 = sum_one_more f g n i low (omega arith) more same in
    omega arith)
    (cases_eq i (suc n))

pub count_is_sum : (p : ℕ → Bool) (n : ℕ) → count p n ≡ sum (λ k. one (p k)) n
count_is_sum p zero = refl
count_is_sum p (suc n) = ap (λ x. one (p (suc n)) + x) (count_is_sum p n)

-- a count rises by one where one more passes
pub count_one_more : (p q : ℕ → Bool) (n j : ℕ) → 1 ≤ j → j ≤ n → p j ≡ false → q j ≡ true → ((k : ℕ) → (k ≡ j → ⊥) → p k ≡ q k) → count q n ≡ count p n + 1
count_one_more p q n j low high off on same =
    let here : one (q j) ≡ one (p j) + 1 = omega (arith, ap one off, ap one on) in
    omega (arith, count_is_sum p n, count_is_sum q n, sum_one_more (λ k. one (p k)) (λ k. one (q k)) n j low high here (λ k ne. ap one (same k ne)))

-- the links rise by one where one more pair is linked
pub links_one_more : (h k : ℕ → ℕ → Bool) (n m i j : ℕ) → 1 ≤ i → i ≤ n → 1 ≤ j → j ≤ m → h i j ≡ false → k i j ≡ true → ((a b : ℕ) → ((a ≡ i) × (b ≡ j) → ⊥) → h a b ≡ k a b) → sum (λ a. count (k a) m) n ≡ sum (λ a. count (h a) m) n + 1
links_one_more h k n m i j il ih jl jh off on same =
    sum_one_more (λ a. count (h a) m) (λ a. count (k a) m) n i il ih
    (count_one_more (h i) (k i) m j jl jh off on (λ b ne. same i b (λ s. ne s.1)))
    (λ a ne. count_same (h a) (k a) m (λ b _ _. same a b (λ s. ne s.0)))

pub count_le : (p : ℕ → Bool) (n : ℕ) → count p n ≤ n
count_le p zero = omega arith
count_le p (suc n) =
    ⊎_elim
    (λ t. let a : one (p (suc n)) ≡ 1 = ap one t in omega (arith, count_le p n))
    (λ f. let a : one (p (suc n)) ≡ 0 = ap one f in omega (arith, count_le p n))
    (cases_Bool (p (suc n)))

pub sum_le : (f : ℕ → ℕ) (m n : ℕ) → ((k : ℕ) → f k ≤ m) → sum f n ≤ n * m
sum_le f m zero low = omega arith
sum_le f m (suc n) low = omega (arith, sum_le f m n low, low (suc n), suc-mul n m)

-- there are no more links than pairs of words
pub links_le : (a : Alignment) → links a ≤ a.lefts * a.rights
links_le a = sum_le (λ i. count (a.linked i) a.rights) a.rights a.lefts (λ i. count_le (a.linked i) a.rights)

count_none : (p : ℕ → Bool) (n : ℕ) → ((k : ℕ) → p k ≡ false) → count p n ≡ 0
count_none p zero off = refl
count_none p (suc n) off = omega (arith, count_none p n off, ap one (off (suc n)))

pub sum_none : (f : ℕ → ℕ) (n : ℕ) → ((k : ℕ) → f k ≡ 0) → sum f n ≡ 0
sum_none f zero off = refl
sum_none f (suc n) off = omega (arith, sum_none f n off, off (suc n))

-- where nothing is linked there are no links
pub links_none : (a : Alignment) → ((i j : ℕ) → a.linked i j ≡ false) → links a ≡ 0
links_none a off = sum_none (λ i. count (a.linked i) a.rights) a.lefts (λ i. count_none (a.linked i) a.rights (off i))
