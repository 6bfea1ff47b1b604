-- How a slot starts: what goes on the air, as a tick of the core machine.
use Rattle.std.proofs.Common.{◌≡◌, ℕ, ◌+◌, ◌<◌, ◌≤◌, true, false, cond, eqb, ◌⊎◌, List, [], ◌∷◌, map, Some, None, Option, sym, refl, ap, ◌∙◌, subst, inl, inr, append-nil, arith}
use Rattle.std.proofs.ByRecursion.{All-append, All-from_get_or, All-map, all_shuffled}
use Rattle.std.proofs.lemmas.List.Sorted.{IsPermutation-refl}
use Rattle.std.proofs.lemmas.Bool.{ne_eqb, and_left, and_right}
use Rattle.std.specs.Option.{option_map}
use Rattle.std.specs.List.{AllByRecursion}
use Rattle.std.specs.List.Sorted.{IsPermutation}
use Rattle.traffic.specs.Curves.{Numbers}
use Rattle.pool.specs.Elements.{First}
use Rattle.verdict.specs.Demand.{total}
use Rattle.schedule.specs.Core.{state, Tick, goes_on, begins, idles}
use Rattle.schedule.specs.Jobs.{Job, timed}
use Rattle.schedule.specs.Orders.{earliest}
use Rattle.schedule.specs.Schedules.{Begun, end}
use Rattle.schedule.proofs.Bags.{same_jobs}
use Rattle.schedule.proofs.Counts.{ahead, none_left}
use Rattle.schedule.proofs.Sums.{total-append, total-map, total-shuffled}
use Rattle.link.specs.declared.state.Air.{Air}
use Rattle.link.specs.declared.state.Bulk.{Bulk}
use Rattle.link.specs.declared.state.Packet.{Packet}
use Rattle.link.specs.Happenings.{Happening, is_quiet}
use Rattle.link.specs.Model.{Model}
use Rattle.link.specs.Packets.{slots, packet_before, begun_bulk, told}
use Rattle.link.specs.Ticking.{Begins, going, quiet}
use Rattle.link.proofs.Carrying.{job, bulk_job, bulk_jobs, waiting_jobs, Up, OnAir}
use Rattle.link.proofs.Lining.{Lined, lined_goes, lined_bulk}

module _ {X S : Type 0} (numbers : X → Numbers) (since : ℕ → ℕ) (bulk_since : ℕ) where
  -- a is the link n at the start of slot s, once something has gone on the air
  pub record Starts (n a : Model X S) (s : ℕ) (w : List Job) (l : List Begun) : Type 1 where
    pub jobs : List Job
    pub log : List Begun
    pub tick : Tick earliest (state s w l) (state (s + 1) jobs log)
    pub waiting : jobs ≡ waiting_jobs since bulk_since a.waiting a.bulk
    pub up : Up s a.air log
    -- a quiet slot, or one with something ahead in which no row changes
    pub rests : ((a ≡ quiet n) × (n.waiting ≡ []) × (is_quiet (option_map told a.air) ≡ true) × (ahead timed (state s w l) ≡ 0)) ⊎ ((a.rows ≡ n.rows) × (is_quiet (option_map told a.air) ≡ false) × (0 < ahead timed (state s w l)))
    pub terms : a.terms ≡ n.terms
    pub clock : a.clock ≡ n.clock
    pub offers : a.offers ≡ n.offers
    pub fewer : (P : Packet → Type 0) → AllByRecursion P n.waiting → AllByRecursion P a.waiting
    pub lined : (mat : ℕ) (hs : List (Happening X)) → 1 ≤ mat → Lined numbers mat hs n.air n.waiting l → Lined numbers mat hs a.air a.waiting log

  -- Something is on the air and stays on.
  goes : (n : Model X S) (s : ℕ) (w : List Job) (l : List Begun) (a : Air) → n.air ≡ Some a → OnAir s (Some a) l → w ≡ waiting_jobs since bulk_since n.waiting n.bulk → Starts n n s w l
  goes n s w [] a on o e = absurd o.1
  goes n s w (x ∷ l) a on o e =
      let f = o.1 in
      let some = o.0 in
      let under : s < end x = omega (arith, f.sent, f.unsent, f.size) in
      record {
        jobs = w;
        log = x ∷ l;
        tick = goes_on (inl under);
        waiting = e;
        up = subst (λ (b : Option Air). Up s b (x ∷ l)) (sym on) f;
        rests = inr (refl, subst (λ (b : Option Air). is_quiet (option_map told b) ≡ false) (sym on) (and_right (eqb a.mat 0) (eqb a.sent 0) (ne_eqb a.sent 0 (λ z. omega arith))), omega arith);
        terms = refl;
        clock = refl;
        offers = refl;
        fewer = λ P h. h;
        lined = λ mat hs o h. h;
      }

  -- Nothing is on the air, and the first waiting packet goes on.
  loads : (n : Model X S) (s : ℕ) (w : List Job) (l : List Begun) (p : Packet) (qs : List Packet) → n.air ≡ None → OnAir s None l → w ≡ waiting_jobs since bulk_since n.waiting n.bulk →
      AllByRecursion (λ j. 0 < j.slots) w → AllByRecursion (λ q. 1 ≤ q.mat) n.waiting → First packet_before p n.waiting → IsPermutation n.waiting (p ∷ qs) → Starts n (going n p qs) s w l
  loads n s w l p qs off o e pos named first sh =
      let j : Job = job since p in
      let rest : List Job = waiting_jobs since bulk_since qs n.bulk in
      let drawn : IsPermutation w (j ∷ rest) = same_jobs w (j ∷ rest) (λ f.
      omega (
        arith,
        ap (total f) e,
        total-append f (bulk_jobs bulk_since n.bulk) (map (job since) n.waiting),
        total-append f (bulk_jobs bulk_since n.bulk) (map (job since) qs),
        total-map (job since) f n.waiting,
        total-map (job since) f qs,
        total-shuffled (λ q. f (job since q)) n.waiting (p ∷ qs) sh,
      )) in
      let long : 0 < slots p.bytes = (all_shuffled (λ j. 0 < j.slots) w (j ∷ rest) drawn pos).0 in
      let own : 1 ≤ p.mat = (all_shuffled (λ q. 1 ≤ q.mat) n.waiting (p ∷ qs) sh named).0 in
      record {
        jobs = rest;
        log = record { job = j; start = s } ∷ l;
        tick = begins j o drawn (All-append _ (bulk_jobs bulk_since n.bulk) (map (job since) qs) (bulk_after n.bulk) (All-map _ (job since) qs none_before));
        waiting = refl;
        up = record { sent = omega arith; unsent = long; size = refl };
        rests = inr (refl, and_left (eqb p.mat 0) (eqb 0 0) (ne_eqb p.mat 0 (λ z. omega arith)), omega (arith, total-shuffled (λ j. cond (timed j) j.slots 0) w (j ∷ rest) drawn));
        terms = refl;
        clock = refl;
        offers = refl;
        fewer = λ P h. (all_shuffled P n.waiting (p ∷ qs) sh h).1;
        lined = λ mat hs o h. lined_goes numbers mat hs p n.waiting qs (record { job = j; start = s }) l first sh refl (subst (λ (b : Option Air). Lined numbers mat hs b n.waiting l) off h);
      }
    where
      bulk_after : (b : Option Bulk) → AllByRecursion (λ k. earliest k (job since p) ≡ false) (bulk_jobs bulk_since b)
      bulk_after None = tt
      bulk_after (Some b) = (refl, tt)

      none_before : AllByRecursion (λ q. packet_before q p ≡ false) qs
      none_before = (all_shuffled (λ q. packet_before q p ≡ false) n.waiting (p ∷ qs) sh (All-from_get_or (λ q. packet_before q p ≡ false) n.waiting p (λ k b. first k p b))).1

  -- Nothing is on the air and nothing waits: the slot is quiet, and bulk goes on if there is any.
  rests_with : (n : Model X S) (s : ℕ) (l : List Begun) (b : Option Bulk) → n.air ≡ None → OnAir s None l → n.waiting ≡ [] → n.bulk ≡ b →
      AllByRecursion (λ j. 0 < j.slots) (bulk_jobs bulk_since b) → Starts n (quiet n) s (bulk_jobs bulk_since b) l
  rests_with n s l None off o none is pos = record {
    jobs = [];
    log = l;
    tick = idles o;
    waiting = sym (ap (map (job since)) none);
    up = subst (λ b. Up s (begun_bulk b) l) (sym is) o;
    rests = inl (refl, none, subst (λ b. is_quiet (option_map told (begun_bulk b)) ≡ true) (sym is) refl, omega (arith, none_left s s l (omega arith) o));
    terms = refl;
    clock = refl;
    offers = refl;
    fewer = λ P h. h;
    lined = λ mat hs o h. subst (λ b. Lined numbers mat hs (begun_bulk b) n.waiting l) (sym is) (subst (λ (b : Option Air). Lined numbers mat hs b n.waiting l) off h);
  }
  rests_with n s l (Some b) off o none is pos = record {
    jobs = [];
    log = record { job = bulk_job bulk_since b; start = s } ∷ l;
    tick = begins (bulk_job bulk_since b) o (IsPermutation-refl _) tt;
    waiting = sym (ap (map (job since)) none);
    up = subst (λ b'. Up s (begun_bulk b') (record { job = bulk_job bulk_since b; start = s } ∷ l)) (sym is) (record { sent = omega arith; unsent = pos.0; size = refl });
    rests = inl (refl, none, subst (λ b. is_quiet (option_map told (begun_bulk b)) ≡ true) (sym is) refl, omega (arith, none_left s s l (omega arith) o));
    terms = refl;
    clock = refl;
    offers = refl;
    fewer = λ P h. h;
    lined = λ mat hs o h.
        subst (λ b'. Lined numbers mat hs (begun_bulk b') n.waiting (record { job = bulk_job bulk_since b; start = s } ∷ l)) (sym is)
        (lined_bulk numbers mat hs (record { mat = 0; place = b.place; bytes = b.bytes; sent = 0 }) n.waiting l _ (λ z. omega arith) (subst (λ (b : Option Air). Lined numbers mat hs b n.waiting l) off h));
  }

  pub starts : (n a : Model X S) (s : ℕ) (w : List Job) (l : List Begun) (air : Option Air) → n.air ≡ air → Begins air n a → OnAir s air l → w ≡ waiting_jobs since bulk_since n.waiting n.bulk →
      AllByRecursion (λ j. 0 < j.slots) w → AllByRecursion (λ q. 1 ≤ q.mat) n.waiting → Starts n a s w l
  starts n a s w l (Some x) on b o e pos named = subst (λ (c : Model X S). Starts n c s w l) (sym b) (goes n s w l x on o e)
  starts n a s w l None off (inr (p, first, sh, is)) o e pos named = subst (λ (c : Model X S). Starts n c s w l) (sym is) (loads n s w l p a.waiting off o e pos named first sh)
  starts n a s w l None off (inl (none, is)) o e pos named =
      let only : w ≡ bulk_jobs bulk_since n.bulk = e ∙ ap (λ ps. waiting_jobs since bulk_since ps n.bulk) none ∙ append-nil (bulk_jobs bulk_since n.bulk) in
      subst (λ (c : Model X S). Starts n c s w l) (sym is)
      (subst (λ v. Starts n (quiet n) s v l) (sym only) (rests_with n s l n.bulk off o none refl (subst (AllByRecursion (λ j. 0 < j.slots)) only pos)))
