-- Sums over lists, and what holds of some or of each element.
use Rattle.std.proofs.Common.{◌≡◌, ℕ, ◌+◌, ◌<◌, ◌≤◌, ◌⊎◌, List, [], ◌∷◌, ◌++◌, map, refl, ap, inl, inr, arith}
use Rattle.std.specs.List.{AllByRecursion}
use Rattle.std.proofs.lemmas.Bool.{cases_lt}
use Rattle.verdict.specs.Demand.{total}
use Rattle.schedule.specs.Schedules.{Any}
pub use Rattle.verdict.proofs.Sweeping.{total-shuffled}

-- Sums.

pub total-map : {X Y : Type 0} (g : X → Y) (f : Y → ℕ) (xs : List X) → total f (map g xs) ≡ total (λ x. f (g x)) xs
total-map g f [] = refl
total-map g f (x ∷ xs) = ap (λ n. f (g x) + n) (total-map g f xs)

pub total-append : {X : Type 0} (f : X → ℕ) (xs ys : List X) → total f (xs ++ ys) ≡ total f xs + total f ys
total-append f [] ys = omega arith
total-append f (x ∷ xs) ys = omega (arith, total-append f xs ys)

pub total-le : {X : Type 0} (f g : X → ℕ) (xs : List X) → AllByRecursion (λ x. f x ≤ g x) xs → total f xs ≤ total g xs
total-le f g [] h = omega arith
total-le f g (x ∷ xs) h = omega (arith, total-le f g xs h.1)

-- where one element has k to spare
pub total-spare : {X : Type 0} (f g : X → ℕ) (k : ℕ) (xs : List X) → AllByRecursion (λ x. f x ≤ g x) xs → Any (λ x. f x + k ≤ g x) xs → total f xs + k ≤ total g xs
total-spare f g k [] h s = absurd s
total-spare f g k (x ∷ xs) h (inl s) = omega (arith, total-le f g xs h.1)
total-spare f g k (x ∷ xs) h (inr s) = omega (arith, total-spare f g k xs h.1 s)

pub total-same : {X : Type 0} (f g : X → ℕ) (xs : List X) → AllByRecursion (λ x. f x ≡ g x) xs → total f xs ≡ total g xs
total-same f g [] h = refl
total-same f g (x ∷ xs) h = omega (arith, h.0, total-same f g xs h.1)

-- a sum above 0 has an element above 0
pub total-some : {X : Type 0} (f : X → ℕ) (xs : List X) → 0 < total f xs → Any (λ x. 0 < f x) xs
total-some f [] h = absurd (omega arith)
total-some f (x ∷ xs) h = elim (cases_lt 0 (f x)) [ inl p ↦ inl p | inr z ↦ inr (total-some f xs (omega arith)) ]

pub total-none : {X : Type 0} (f : X → ℕ) (xs : List X) → AllByRecursion (λ x. f x ≡ 0) xs → total f xs ≡ 0
total-none f [] h = refl
total-none f (x ∷ xs) h = omega (arith, total-none f xs h.1)

pub none_total : {X : Type 0} (f : X → ℕ) (xs : List X) → total f xs ≡ 0 → AllByRecursion (λ x. f x ≡ 0) xs
none_total f [] e = tt
none_total f (x ∷ xs) e = (omega arith, none_total f xs (omega arith))

-- Some and each.

pub all_true : {X : Type 0} (P : X → Type 0) → ((x : X) → P x) → (xs : List X) → AllByRecursion P xs
all_true P f [] = tt
all_true P f (x ∷ xs) = (f x, all_true P f xs)

pub all_of_map : {X Y : Type 0} (g : X → Y) (P : Y → Type 0) (xs : List X) → AllByRecursion P (map g xs) → AllByRecursion (λ x. P (g x)) xs
all_of_map g P [] h = tt
all_of_map g P (x ∷ xs) h = (h.0, all_of_map g P xs h.1)

pub all_zip : {X : Type 0} (P Q R : X → Type 0) → ((x : X) → P x → Q x → R x) → (xs : List X) → AllByRecursion P xs → AllByRecursion Q xs → AllByRecursion R xs
all_zip P Q R f [] p q = tt
all_zip P Q R f (x ∷ xs) p q = (f x p.0 q.0, all_zip P Q R f xs p.1 q.1)

pub all_front : {X : Type 0} (P : X → Type 0) (xs ys : List X) → AllByRecursion P (xs ++ ys) → AllByRecursion P xs
all_front P [] ys h = tt
all_front P (x ∷ xs) ys h = (h.0, all_front P xs ys h.1)

pub all_back : {X : Type 0} (P : X → Type 0) (xs ys : List X) → AllByRecursion P (xs ++ ys) → AllByRecursion P ys
all_back P [] ys h = h
all_back P (x ∷ xs) ys h = all_back P xs ys h.1

-- what each element with a property gives, some such element gives
pub any_all : {X : Type 0} {C : Type 0} (Q : X → Type 0) (xs : List X) → Any Q xs → AllByRecursion (λ x. Q x → C) xs → C
any_all Q [] h k = absurd h
any_all Q (x ∷ xs) (inl q) k = k.0 q
any_all Q (x ∷ xs) (inr h) k = any_all Q xs h k.1

pub any_more : {X : Type 0} (P Q : X → Type 0) (xs : List X) → AllByRecursion (λ x. P x → Q x) xs → Any P xs → Any Q xs
any_more P Q [] k h = absurd h
any_more P Q (x ∷ xs) k (inl p) = inl (k.0 p)
any_more P Q (x ∷ xs) k (inr h) = inr (any_more P Q xs k.1 h)

pub any_of_map : {X Y : Type 0} (g : X → Y) (P : Y → Type 0) (xs : List X) → Any P (map g xs) → Any (λ x. P (g x)) xs
any_of_map g P [] h = h
any_of_map g P (x ∷ xs) (inl p) = inl p
any_of_map g P (x ∷ xs) (inr h) = inr (any_of_map g P xs h)

pub each_or_some : {X : Type 0} (P Q : X → Type 0) → ((x : X) → P x ⊎ Q x) → (xs : List X) → AllByRecursion P xs ⊎ Any Q xs
each_or_some P Q f [] = inl tt
each_or_some P Q f (x ∷ xs) = elim (f x) [
  | inr q ↦ inr (inl q)
  | inl p ↦ elim (each_or_some P Q f xs) [ inl ps ↦ inl (p, ps) | inr qs ↦ inr (inr qs) ]
]
