-- Earliest deadline first is a ranking, and the jobs due by a slot are a down-set of it.
use Rattle.std.proofs.Common.{◌≡◌, ℕ, Bool, true, false, ◌&&◌, ◌||◌, eqb, ltb, refl, arith}
use Rattle.std.specs.Cmp.{IsStrictWeakOrder}
use Rattle.std.proofs.lemmas.Bool.Decides.{nat_tests}
use Rattle.schedule.specs.Jobs.{Due, never, at, until, due_by, some_day, timed}
use Rattle.schedule.specs.Orders.{sooner, same_due, earliest, DownSet}

abbrev keys : ℕ → ℕ → ℕ → ℕ → Bool
keys m c m' c' = ltb m m' || (eqb m m' && ltb c c')

one_way : (d e : Due) (m c m' c' : ℕ) → (sooner d e || (same_due d e && keys m c m' c')) ≡ true → (sooner e d || (same_due e d && keys m' c' m c)) ≡ false
one_way never never m c m' c' h = grind (arith, nat_tests)
one_way never (at e) m c m' c' h = cc
one_way (at d) never m c m' c' h = refl
one_way (at d) (at e) m c m' c' h = grind (arith, nat_tests)

chain : (d e f : Due) (m c m' c' m'' c'' : ℕ) →
    (sooner d e || (same_due d e && keys m c m' c')) ≡ false → (sooner e f || (same_due e f && keys m' c' m'' c'')) ≡ false → (sooner d f || (same_due d f && keys m c m'' c'')) ≡ false
chain never never never m c m' c' m'' c'' h k = grind (arith, nat_tests)
chain never never (at f) m c m' c' m'' c'' h k = refl
chain never (at e) never m c m' c' m'' c'' h k = cc
chain never (at e) (at f) m c m' c' m'' c'' h k = refl
chain (at d) never f m c m' c' m'' c'' h k = cc
chain (at d) (at e) never m c m' c' m'' c'' h k = k
chain (at d) (at e) (at f) m c m' c' m'' c'' h k = grind (arith, nat_tests)

pub earliest_ranks : IsStrictWeakOrder earliest
earliest_ranks = record {
  one_way = λ j k. one_way j.due k.due j.mat j.count k.mat k.count;
  chain = λ i j k. chain i.due j.due k.due i.mat i.count j.mat j.count k.mat k.count;
}

until_closed : (d : ℕ) (x y : Due) (b : Bool) → until d x ≡ true → (sooner x y || b) ≡ false → until d y ≡ true
until_closed d never y b h k = cc
until_closed d (at e) never b h k = cc
until_closed d (at e) (at f) b h k = grind (arith, nat_tests)

pub until_some_day : (d : ℕ) (x : Due) → until d x ≡ true → some_day x ≡ true
until_some_day d never h = h
until_some_day d (at e) h = refl

some_day_closed : (x y : Due) (b : Bool) → some_day x ≡ true → (sooner x y || b) ≡ false → some_day y ≡ true
some_day_closed never y b h k = cc
some_day_closed (at d) never b h k = cc
some_day_closed (at d) (at e) b h k = refl

pub due_by_down : (d : ℕ) → DownSet earliest (due_by d)
due_by_down d = record { closed = λ x y. until_closed d x.due y.due _; no_bulk = λ x. until_some_day d x.due }

pub timed_down : DownSet earliest timed
timed_down = record { closed = λ x y. some_day_closed x.due y.due _; no_bulk = λ x h. h }
