-- What a pool holds, and what each call does to it. `before x y` says that x goes first.
use Rattle.std.specs.Prelude.{◌≡◌, ℕ, ◌+◌, ◌<◌, Bool, List, ◌∷◌, length, take, drop, Option, Result, MatchOption, MatchResult}
use Rattle.std.specs.List.Sorted.{IsPermutation}
use Rattle.pool.specs.declared.Ordered.{Ghosts as OrderedGhosts}
use Rattle.pool.specs.declared.Pool.{Pool}
use Rattle.pool.specs.Elements.{First, head}

-- the elements of a pool, a bag: every clause compares it up to IsPermutation, and where an element lies means nothing
abbrev pub contents : {X : Type 0} {o : OrderedGhosts X} → Pool X o → List X
contents p = take p.count p.places.now

-- how many elements there are places for
abbrev pub capacity : {X : Type 0} {o : OrderedGhosts X} → Pool X o → ℕ
capacity p = length p.places.now

-- the element that `take` removes from this pool, if it has any
abbrev pub next : {X : Type 0} {o : OrderedGhosts X} → Pool X o → Option X
next p = head (contents p)

-- `peek` answers none where p is empty; else an element that none of the contents goes before
abbrev pub Peeked : {X : Type 0} {o : OrderedGhosts X} → (X → X → Bool) → Pool X o → Option X → Type 0
Peeked before p r = MatchOption r (p.count ≡ 0) (λ x. (0 < p.count) × First before x (contents p))

-- `put` turns p into q, which holds x as well; or all places of p are taken, x comes back and nothing has changed
abbrev pub Put : {X U : Type 0} {o : OrderedGhosts X} → X → Pool X o → Pool X o → Result U X → Type 0
Put x p q r =
    MatchResult r
    (λ _. (p.count < capacity p) × (q.count ≡ p.count + 1) × IsPermutation (x ∷ contents p) (contents q))
    (λ y. (p.count ≡ capacity p) × (y ≡ x) × (q ≡ p))

-- `take` turns p into q, which holds all but x, and none of p goes before x; or p is empty, and nothing has changed
abbrev pub Taken : {X : Type 0} {o : OrderedGhosts X} → (X → X → Bool) → Pool X o → Pool X o → Option X → Type 0
Taken before p q r =
    MatchOption r
    ((p.count ≡ 0) × (q ≡ p))
    (λ x. (q.count + 1 ≡ p.count) × IsPermutation (contents p) (x ∷ contents q) × First before x (contents p))

-- p and q have as many places, and the places past the contents of q hold what they held
abbrev pub BeyondKept : {X : Type 0} {o : OrderedGhosts X} → Pool X o → Pool X o → Type 0
BeyondKept p q =
    (capacity q ≡ capacity p) × (drop q.count q.places.now ≡ drop q.count p.places.now)
