-- Any list of jobs is fed to the core machine slot by slot, and then it runs until all is begun. Its log is a schedule of the list.
use Rattle.std.proofs.Common.{◌≡◌, ℕ, zero, suc, ◌+◌, ◌<◌, ◌≤◌, Bool, true, List, [], ◌∷◌, sym, refl, inl, inr, arith}
use Rattle.std.specs.List.{AllByRecursion}
use Rattle.std.specs.List.Sorted.{IsPermutation}
use Rattle.std.specs.Cmp.{IsStrictWeakOrder}
use Rattle.std.proofs.lemmas.Bool.{cases_lt}
use Rattle.std.proofs.ByRecursion.{All-weaker}
use Rattle.std.proofs.lemmas.List.Sorted.{IsPermutation-refl}
use Rattle.verdict.specs.Demand.{total}
use Rattle.schedule.specs.Core.{State, state, opened, Arrives, arrives, Tick, goes_on, begins, idles}
use Rattle.schedule.specs.Jobs.{Job}
use Rattle.schedule.specs.Schedules.{Begun, end, jobs}
use Rattle.schedule.proofs.Bags.{pick, same_jobs}
use Rattle.schedule.proofs.Counts.{ahead, weigh, clock_tick, weigh_tick, advance}
use Rattle.schedule.proofs.Logs.{Sound, sound_opened, sound_arrives, sound_tick, waiting_positive}
use Rattle.schedule.proofs.Sums

-- a slot can always pass
pub can_tick : (before : Job → Job → Bool) → IsStrictWeakOrder before → (s : ℕ) (w : List Job) (l : List Begun) → (n : State) × Tick before (state s w l) n
can_tick before ranks s w l = elim (Sums.each_or_some (λ x. end x ≤ s) (λ x. s < end x) (λ x. elim (cases_lt s (end x)) [ inl b ↦ inr b | inr b ↦ inl b ]) l) [
  | inr h ↦ (state (s + 1) w l, goes_on h)
  | inl h ↦ free w h
]
  where
    free : (w : List Job) → AllByRecursion (λ x. end x ≤ s) l → (n : State) × Tick before (state s w l) n
    free [] h = (state (s + 1) [] l, idles h)
    free (k ∷ w) h = let (j, w', e, least) = pick before ranks k w in (state (s + 1) w' (record { job = j; start = s } ∷ l), begins j h e least)

-- a property of jobs P, and one of states, Good, that the steps keep
module _ (before : Job → Job → Bool) (ranks : IsStrictWeakOrder before) (js : List Job) (P : Job → Type 0) (each : AllByRecursion (λ j. (0 < j.slots) × P j) js) (Good : State → Type 0)
    (good-opened : Good opened)
    (good-arrives : (j : Job) → P j → (m n : State) → Arrives j m n → Good m → Good n)
    (good-tick : (m n : State) → Tick before m n → Sound m → ((f : Job → ℕ) → weigh f m ≤ total f js) → Good m → Good n) where
  -- jobs that arrive in slot s or later
  abbrev Coming : ℕ → Job → Type 0
  Coming s j = (0 < j.slots) × P j × (s ≤ j.arrival)

  -- the machine, and the jobs still to come
  record Stage (m : State) (r : List Job) : Type 0 where
    sound : Sound m
    good : Good m
    coming : AllByRecursion (Coming m.clock) r
    all : (f : Job → ℕ) → weigh f m + total f r ≡ total f js

  -- those that arrive in this slot are taken in; the others are laid by
  take_in : (s : ℕ) (w : List Job) (l : List Begun) (c r : List Job) → Sound (state s w l) → Good (state s w l) → AllByRecursion (Coming s) r → AllByRecursion (Coming (s + 1)) c →
      ((f : Job → ℕ) → weigh f (state s w l) + total f r + total f c ≡ total f js) →
      (w' : List Job) × (r' : List Job) × Sound (state s w' l) × Good (state s w' l) × AllByRecursion (Coming (s + 1)) r' × ((f : Job → ℕ) → weigh f (state s w' l) + total f r' ≡ total f js)
  take_in s w l c [] i g h k e = (w, c, i, g, k, λ f. omega (arith, e f))
  take_in s w l c (j ∷ r) i g h k e = elim (cases_lt s j.arrival) [
    | inl b ↦ take_in s w l (j ∷ c) r i g h.1 ((h.0.0, h.0.1, omega arith), k) (λ f. omega (arith, e f))
    | inr b ↦
        let a : Arrives j (state s w l) (state s (j ∷ w) l) = arrives h.0.0 (omega arith) (IsPermutation-refl _) in
        take_in s (j ∷ w) l c r (sound_arrives a i) (good-arrives j h.0.1 _ _ a g) h.1 k (λ f. omega (arith, e f))
  ]

  rounds : (k : ℕ) → (m : State) × (r : List Job) × (m.clock ≡ k) × Stage m r
  rounds zero = (opened, js, refl, record { sound = sound_opened; good = good-opened; coming = All-weaker _ _ (λ j h. (h.0, h.1, omega arith)) js each; all = λ f. omega arith })
  rounds (suc k) =
      let (m, r, e, g) = rounds k in
      let (w', r', i, g', c, same) = take_in m.clock m.waiting m.log [] r g.sound g.good g.coming tt (λ f. omega (arith, g.all f)) in
      let (n, t) = can_tick before ranks m.clock w' m.log in (
        n,
        r',
        omega (arith, clock_tick t),
        record {
          sound = sound_tick t i;
          good = good-tick _ _ t i (λ f. omega (arith, same f)) g';
          coming = All-weaker _ _ (λ j h. (h.0, h.1, omega (arith, clock_tick t))) r' c;
          all = λ f. omega (arith, weigh_tick t f, same f);
        },
      )

  -- no job comes after the sum of all arrivals
  all_in : (m : State) (r : List Job) → total (λ j. j.arrival) js < m.clock → Stage m r → (f : Job → ℕ) → weigh f m ≡ total f js
  all_in m [] h g f = omega (arith, g.all f)
  all_in m (j ∷ r) h g f = absurd (omega (arith, g.all (λ j. j.arrival), g.coming.0.2))

  -- what is left is sent
  drained : (n s : ℕ) (w : List Job) (l : List Begun) → ahead (λ j. true) (state s w l) ≤ n → Sound (state s w l) → Good (state s w l) → ((f : Job → ℕ) → weigh f (state s w l) ≡ total f js) →
      (t : ℕ) × (l' : List Begun) × Sound (state t [] l') × Good (state t [] l') × ((f : Job → ℕ) → total f (jobs l') ≡ total f js)
  drained n s [] l h i g e = (s, l, i, g, λ f. omega (arith, e f))
  drained zero s (j ∷ w) l h i g e = absurd (omega (arith, i.waiting.0.0))
  drained (suc n) s (j ∷ w) l h i g e =
      let (o, t) = can_tick before ranks s (j ∷ w) l in
      let p : 0 < j.slots = i.waiting.0.0 in
      let a = advance before (λ j. true) (λ k j y b. refl) t (waiting_positive (state s (j ∷ w) l) i) in
      drained n o.clock o.waiting o.log (omega (arith, a.falls (omega arith))) (sound_tick t i) (good-tick _ _ t i (λ f. omega (arith, e f)) g) (λ f. omega (arith, weigh_tick t f, e f))

  pub ran : (t : ℕ) × (l : List Begun) × Sound (state t [] l) × Good (state t [] l) × IsPermutation js (jobs l)
  ran =
      let (m, r, c, g) = rounds (total (λ j. j.arrival) js + 1) in
      let (t, l, i, g', e) = drained (ahead (λ j. true) m) m.clock m.waiting m.log (omega arith) g.sound g.good (all_in m r (omega arith) g) in
      (t, l, i, g', same_jobs js _ (λ f. sym (e f)))
