-- The ledger of a link: the channels that it counts, what each has offered, and the core machine that sends it. All that happens on a link keeps it.
use Rattle.std.proofs.Common.{◌≡◌, ℕ, ◌+◌, ◌-◌, ◌*◌, ◌<◌, ◌≤◌, Bool, true, false, cond, List, [], ◌∷◌, ◌++◌, map, Some, filter, refl, append_assoc, arith}
use mathlib.Core.List.{map-append}
use Rattle.std.specs.List.{AllByRecursion}
use Rattle.std.specs.List.Sorted.{IsPermutation}
use Rattle.std.proofs.ByRecursion.{All-append, All-map, All-weaker, all_kept_by}
use Rattle.traffic.specs.Arrivals.{Steps}
use Rattle.traffic.specs.Curves.{Numbers}
use Rattle.traffic.specs.Laws.{CurveLaws, Redated, TrafficLaws}
use Rattle.verdict.specs.Demand.{total, works}
use Rattle.schedule.specs.Arrivals.{Bulk, Offers, offered}
use Rattle.schedule.specs.Core.{State, state, opened, Arrives, arrives, Tick}
use Rattle.schedule.specs.Jobs.{Job, at, timed}
use Rattle.schedule.proofs.BusyWindows.{Kept, kept_opened, kept_arrives, kept_tick, kept_quiet}
use Rattle.schedule.proofs.Counts.{unsent, ahead, weigh, clock_tick, weigh_arrives, weigh_tick, advance, unsent_ahead}
use Rattle.schedule.proofs.Disciplines.{Discipline}
use Rattle.schedule.proofs.Logs.{Each, each_opened, each_arrives, each_tick, waiting_positive}
use Rattle.schedule.proofs.Offers.{Sized, offered_sized}
use Rattle.schedule.proofs.Owners.{OnlySince, Owned, owned_anew}
use Rattle.schedule.proofs.Rows.{Row, row_offered, row_fresh, row_later, row_offers, rows_offer}
use Rattle.schedule.proofs.Streaks.{Streak, streak_opened, streak_anew, streak_wider, streak_arrives, streak_tick, left_short, streak_line}
use Rattle.schedule.proofs.Sums
use Rattle.schedule.proofs.Timely.{Timely, WaitingInTime, timely_arrives, timely_tick}

-- a counted channel, the state of its steps, and the jobs that it has offered
pub record Entry (K S : Type 0) : Type 0 where
  pub kind : K
  pub now : S
  pub past : List Job

abbrev pub kinds : {K S : Type 0} → List (Entry K S) → List K
kinds es = map (λ e. e.kind) es

abbrev pub pasts : {K S : Type 0} → (Job → ℕ) → List (Entry K S) → ℕ
pasts f es = total (λ e. total f e.past) es

-- a channel of which nothing has come
abbrev pub fresh : {K S : Type 0} → (K → Steps S) → K → Entry K S
fresh steps k = record { kind = k; now = (steps k).fresh; past = [] }

module _ {K S : Type 0} (numbers : K → Numbers) (steps : K → Steps S) (p : ℕ) where
  -- its channel keeps the laws, and its jobs up to slot s are lawful
  pub record Entered (s : ℕ) (e : Entry K S) : Type 0 where
    pub shaped : CurveLaws p (numbers e.kind)
    pub laws : TrafficLaws (numbers e.kind) (steps e.kind)
    pub row : Row (numbers e.kind) (steps e.kind) e.now s e.past

  entered_later : (s s' : ℕ) → s ≤ s' → (e : Entry K S) → Entered s e → Entered s' e
  entered_later s s' l e h = record { shaped = h.shaped; laws = h.laws; row = row_later (numbers e.kind) (steps e.kind) e.now s s' e.past l h.row }

  module _ (D : Discipline numbers steps p) where
    -- q is the slot after the last quiet one
    pub record Ledger (q : ℕ) (m : State) (es : List (Entry K S)) : Type 0 where
      pub kept : Kept D.before q m
      pub short : Each (λ j. j.slots ≤ p) m
      pub timely : AllByRecursion Timely m.log
      pub entered : AllByRecursion (Entered m.clock) es
      pub serves : D.Serves (kinds es)
      -- the channels' jobs that came since q are of channels counted now
      pub owned : (f : Job → ℕ) → OnlySince q f → weigh f m ≤ pasts f es
      pub streak : Streak (p - 1) q m

    -- What it tells.

    ledger_offers : (q : ℕ) (m : State) (es : List (Entry K S)) → Ledger q m es → (o : Offers numbers steps (kinds es)) × Owned q (offered numbers steps (kinds es) o) m
    ledger_offers q m es g =
        let (o, e) = rows_offer numbers steps (λ e. e.kind) (λ e. e.past) es (All-weaker _ _ (λ e h. row_offered (numbers e.kind) (steps e.kind) e.now m.clock e.past h.row) es g.entered) in
        (o, λ f s. omega (arith, g.owned f s, e f))

    ledger_laws : (q : ℕ) (m : State) (es : List (Entry K S)) → Ledger q m es → AllByRecursion (λ k. TrafficLaws (numbers k) (steps k)) (kinds es)
    ledger_laws q m es g = All-map _ _ es (All-weaker _ _ (λ e h. h.laws) es g.entered)

    pub ledger_in_time : (q : ℕ) (m : State) (es : List (Entry K S)) → Ledger q m es → WaitingInTime m
    ledger_in_time q m es g =
        let (o, own) = ledger_offers q m es g in
        D.in_time (kinds es) (ledger_laws q m es g) g.serves o q m g.kept g.short own

    -- the slots since q, times what the works leave of a frame
    pub ledger_streak : (q : ℕ) (m : State) (es : List (Entry K S)) → Ledger q m es → q < m.clock → works numbers (kinds es) ≤ 5040 →
        (m.clock - q) * (5040 - works numbers (kinds es)) ≤ 5040 * (p - 1 + total (λ k. (numbers k).burst) (kinds es))
    ledger_streak q m es g since few =
        let (o, own) = ledger_offers q m es g in
        streak_line numbers steps (kinds es) (ledger_laws q m es g) o q (p - 1) m g.kept.sound own g.streak since p (All-map _ _ es (All-weaker _ _ (λ e h. h.shaped) es g.entered)) few

    -- Channels come and go.

    pub ledger_opened : D.Serves [] → Ledger 0 opened []
    ledger_opened serves = record { kept = kept_opened D.before; short = each_opened _; timely = tt; entered = tt; serves = serves; owned = λ f s. omega arith; streak = streak_wider 0 (p - 1) 0 opened (omega arith) streak_opened }

    -- a channel is counted, of which nothing has come yet
    pub ledger_holds : (q : ℕ) (m : State) (xs : List (Entry K S)) (k : K) (ys : List (Entry K S)) → CurveLaws p (numbers k) → TrafficLaws (numbers k) (steps k) → D.Serves (kinds (xs ++ fresh steps k ∷ ys)) →
        Ledger q m (xs ++ ys) → Ledger q m (xs ++ fresh steps k ∷ ys)
    ledger_holds q m xs k ys shaped laws serves g = record {
      kept = g.kept;
      short = g.short;
      timely = g.timely;
      entered = All-append _ xs _ (Sums.all_front _ xs ys g.entered) (record { shaped = shaped; laws = laws; row = row_fresh (numbers k) (steps k) m.clock }, Sums.all_back _ xs ys g.entered);
      serves = serves;
      owned = λ f s. omega (arith, g.owned f s, Sums.total-append (λ e. total f e.past) xs ys, Sums.total-append (λ e. total f e.past) xs (fresh steps k ∷ ys));
      streak = g.streak;
    }

    -- a channel of which nothing has come is counted no more
    pub ledger_drops : (q : ℕ) (m : State) (xs : List (Entry K S)) (e : Entry K S) (ys : List (Entry K S)) → e.past ≡ [] → Ledger q m (xs ++ e ∷ ys) → Ledger q m (xs ++ ys)
    ledger_drops q m xs e ys none g = record {
      kept = g.kept;
      short = g.short;
      timely = g.timely;
      entered = All-append _ xs ys (Sums.all_front _ xs (e ∷ ys) g.entered) (Sums.all_back _ xs (e ∷ ys) g.entered).1;
      serves = rw (map-append (λ e. e.kind) xs ys) (D.dropped (kinds xs) e.kind (kinds ys) (rw (map-append (λ e. e.kind) xs (e ∷ ys)) at g.serves));
      owned = λ f s.
          let z : total f e.past ≡ 0 = rw none refl in
          omega (arith, g.owned f s, Sums.total-append (λ e. total f e.past) xs ys, Sums.total-append (λ e. total f e.past) xs (e ∷ ys));
      streak = g.streak;
    }

    -- its allowance is raised
    pub ledger_raises : (q : ℕ) (m : State) (d : ℕ) (xs : List (Entry K S)) (k k' : K) (ys : List (Entry K S)) → CurveLaws p (numbers k') → TrafficLaws (numbers k') (steps k') → Redated (numbers k) d (numbers k') → (numbers k).allowance ≤ d →
        Ledger q m (xs ++ fresh steps k ∷ ys) → Ledger q m (xs ++ fresh steps k' ∷ ys)
    ledger_raises q m d xs k k' ys shaped laws re l g = ledger_holds q m xs k' ys shaped laws
        (rw (map-append (λ e. e.kind) xs (fresh steps k' ∷ ys)) (D.raised d (kinds xs) k k' (kinds ys) (Sums.all_back _ xs (fresh steps k ∷ ys) g.entered).0.shaped shaped re l (rw (map-append (λ e. e.kind) xs (fresh steps k ∷ ys)) at g.serves)))
        (ledger_drops q m xs (fresh steps k) ys refl g)

    -- Jobs arrive.

    ledger_arrives : (q : ℕ) (es es' : List (Entry K S)) (j : Job) (m n : State) → j.slots ≤ p → AllByRecursion (Entered n.clock) es' → D.Serves (kinds es') → ((f : Job → ℕ) → OnlySince q f → f j + pasts f es ≤ pasts f es') →
        Arrives j m n → Ledger q m es → Ledger q n es'
    ledger_arrives q es es' j m n fits entered serves more a g = record {
      kept = kept_arrives D.before q a g.kept;
      short = each_arrives _ a fits g.short;
      timely = timely_arrives a g.timely;
      entered = entered;
      serves = serves;
      owned = λ f s. omega (arith, g.owned f s, more f s, weigh_arrives a f);
      streak = streak_arrives (p - 1) q a g.kept.since g.streak;
    }

    -- a counted channel offers a job that its step takes
    pub ledger_takes : (q : ℕ) (m : State) (xs : List (Entry K S)) (e : Entry K S) (ys : List (Entry K S)) (after : S) (j : Job) (w' : List Job) → j.arrival ≡ m.clock → j.due ≡ at (j.arrival + (numbers e.kind).allowance) →
        (steps e.kind).step e.now j.arrival j.slots ≡ Some after → IsPermutation (j ∷ m.waiting) w' →
        Ledger q m (xs ++ e ∷ ys) → Ledger q (state m.clock w' m.log) (xs ++ record { kind = e.kind; now = after; past = e.past ++ j ∷ [] } ∷ ys)
    ledger_takes q m xs e ys after j w' here due takes h g =
        ledger_arrives q (xs ++ e ∷ ys) (xs ++ new ∷ ys) j m (state m.clock w' m.log) (omega (arith, sized.1, old.shaped.longest_most))
        (All-append _ xs _ (Sums.all_front _ xs (e ∷ ys) g.entered) (record { shaped = old.shaped; laws = old.laws; row = row_later (numbers e.kind) (steps e.kind) after j.arrival m.clock (e.past ++ j ∷ []) (omega arith) row }, (Sums.all_back _ xs (e ∷ ys) g.entered).1))
        (rw (map-append (λ e. e.kind) xs (new ∷ ys)) (rw (map-append (λ e. e.kind) xs (e ∷ ys)) at g.serves))
        (λ f s. omega (arith, Sums.total-append (λ e. total f e.past) xs (e ∷ ys), Sums.total-append (λ e. total f e.past) xs (new ∷ ys), Sums.total-append f e.past (j ∷ [])))
        (arrives sized.0 here h)
        g
      where
        new : Entry K S
        new = record { kind = e.kind; now = after; past = e.past ++ j ∷ [] }

        old : Entered m.clock e
        old = (Sums.all_back _ xs (e ∷ ys) g.entered).0

        row : Row (numbers e.kind) (steps e.kind) after j.arrival (e.past ++ j ∷ [])
        row = row_offers (numbers e.kind) (steps e.kind) e.now after e.past j takes due (rw here old.row)

        sized : Sized (numbers e.kind).longest j
        sized = (Sums.all_back _ e.past (j ∷ []) (offered_sized (numbers e.kind) (steps e.kind) old.laws (e.past ++ j ∷ []) (row_offered (numbers e.kind) (steps e.kind) after j.arrival (e.past ++ j ∷ []) row))).0

    -- bulk comes at will
    pub ledger_bulk : (q : ℕ) (m : State) (es : List (Entry K S)) (j : Job) (w' : List Job) → Bulk p j → j.arrival ≡ m.clock → IsPermutation (j ∷ m.waiting) w' → Ledger q m es → Ledger q (state m.clock w' m.log) es
    ledger_bulk q m es j w' b here h g =
        ledger_arrives q es es j m (state m.clock w' m.log) b.most g.entered g.serves (λ f s. omega (arith, s.bulk j (rw b.due refl))) (arrives b.least here h) g

    -- Slots pass.

    -- one that is not quiet: something is under way, or a channel's job waits
    pub ledger_tick : (q : ℕ) (m n : State) (es : List (Entry K S)) → Tick D.before m n → 0 < ahead timed m → Ledger q m es → Ledger q n es
    ledger_tick q m n es t some g = record {
      kept = kept_tick D.before q t g.kept;
      short = each_tick _ t g.short;
      timely = timely_tick t (ledger_in_time q m es g) g.timely;
      entered = All-weaker _ _ (entered_later m.clock n.clock (omega (arith, clock_tick t))) es g.entered;
      serves = g.serves;
      owned = λ f s. omega (arith, g.owned f s, weigh_tick t f);
      streak = streak_tick D.before D.bulk_last.closed (p - 1) q t g.kept.sound some g.streak;
    }

    -- a quiet one: with it channels may go, and all accounts begin anew for those that stay
    pub ledger_quiet_among : (q : ℕ) (m n : State) (es stay : List (Entry K S)) → ((P : Entry K S → Type 0) → AllByRecursion P es → AllByRecursion P stay) → D.Serves (kinds stay) → Tick D.before m n → ahead timed m ≡ 0 →
        Ledger q m es → Ledger n.clock n stay
    ledger_quiet_among q m n es stay each serves t none g =
        let kept = kept_quiet D.before q D.bulk_last t g.kept none in
        let short = each_tick (λ j. j.slots ≤ p) t g.short in
        let still : unsent timed n ≡ 0 = omega (arith, (advance D.before timed D.bulk_last.closed t (waiting_positive m g.kept.sound)).less, unsent_ahead timed m) in
        record {
          kept = kept;
          short = short;
          timely = timely_tick t (ledger_in_time q m es g) g.timely;
          entered = each _ (All-weaker _ _ (entered_later m.clock n.clock (omega (arith, clock_tick t))) es g.entered);
          serves = serves;
          owned = λ f s. omega (arith, owned_anew [] t g.kept.sound f s);
          streak = streak_wider _ (p - 1) n.clock n (left_short p n kept.sound short.begun) (streak_anew n still);
        }

    -- any channels may go with it
    stay_served : (stays : Entry K S → Bool) (ks : List K) (es : List (Entry K S)) → D.Serves (ks ++ kinds es) → D.Serves (ks ++ kinds (filter stays es))
    stay_served stays ks [] h = h
    stay_served stays ks (e ∷ es) h = one (stays e)
        (rw (append_assoc ks (e.kind ∷ []) (kinds (filter stays es))) at (stay_served stays (ks ++ e.kind ∷ []) es (rw (append_assoc ks (e.kind ∷ []) (kinds es)) h)))
        (stay_served stays ks es (D.dropped ks e.kind (kinds es) h))
      where
        one : (b : Bool) → D.Serves (ks ++ e.kind ∷ kinds (filter stays es)) → D.Serves (ks ++ kinds (filter stays es)) → D.Serves (ks ++ kinds (cond b (e ∷ filter stays es) (filter stays es)))
        one true here gone = here
        one false here gone = gone

    pub ledger_quiet : (q : ℕ) (m n : State) (es : List (Entry K S)) (stays : Entry K S → Bool) → Tick D.before m n → ahead timed m ≡ 0 → Ledger q m es → Ledger n.clock n (filter stays es)
    ledger_quiet q m n es stays t none g = ledger_quiet_among q m n es (filter stays es) (λ P h. all_kept_by stays P es h) (stay_served stays [] es g.serves) t none g
