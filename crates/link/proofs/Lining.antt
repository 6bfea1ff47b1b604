-- One mat's accepted packets in the order of their offers: those that have ended in time, the one on the air, and those that wait.
use Rattle.std.proofs.Common.{◌≡◌, ℕ, ◌+◌, ◌<◌, ◌≤◌, Bool, true, false, cond, ◌&&◌, eqb, ltb, leb, ◌⊎◌, List, [], ◌∷◌, ◌++◌, map, Some, None, Option, sym, refl, ap, ◌∙◌, subst, inl, inr, append_assoc, append-nil, arith}
use mathlib.Core.List.{map-append}
use Rattle.std.proofs.ByRecursion.{All-append, All-map, All-weaker}
use Rattle.std.proofs.lemmas.Bool.{and_from, and_parts, cases_eq, cond-true, cond-false, eq-eqb, ne_eqb, le-leb, leb-true, ltb-true, lt-ltb}
use Rattle.std.specs.List.{slice_get, AllByRecursion}
use Rattle.std.specs.Option.{option_map}
use Rattle.std.specs.List.Sorted.{IsPermutation}
use Rattle.traffic.specs.Curves.{Numbers}
use Rattle.pool.specs.Elements.{First}
use Rattle.schedule.specs.Jobs.{at}
use Rattle.schedule.specs.Schedules.{Begun, end}
use Rattle.schedule.proofs.Timely.{Timely}
use Rattle.link.specs.declared.state.Air.{Air}
use Rattle.link.specs.declared.state.Packet.{Packet}
use Rattle.link.specs.declared.state.Sent.{Sent}
use Rattle.link.specs.Happenings.{Happening, accepts, passes, clock_of, allowance_of, dues_of, ending, endings, of_mat, ends_of}
use Rattle.link.specs.Packets.{slots, packet_before, begun, ends, told}
use Rattle.link.specs.Ticking.{carried_on}
use Rattle.link.proofs.Carrying.{Flies, Up, OnAir}
use Rattle.link.proofs.Queues.{Waits, Ordered, InTime, ordered_push, in_time_push, read_off, waits_none, waits_joins, waits_other_joins, waits_other_goes, waits_goes, waits_each}

of_mat_append : (mat : ℕ) (xs ys : List (ℕ × ℕ)) → of_mat mat (xs ++ ys) ≡ of_mat mat xs ++ of_mat mat ys
of_mat_append mat [] ys = refl
of_mat_append mat (x ∷ xs) ys = go (eqb x.0 mat) (of_mat_append mat xs ys)
  where
    go : (b : Bool) → of_mat mat (xs ++ ys) ≡ of_mat mat xs ++ of_mat mat ys → cond b (x.1 ∷ of_mat mat (xs ++ ys)) (of_mat mat (xs ++ ys)) ≡ cond b (x.1 ∷ of_mat mat xs) (of_mat mat xs) ++ of_mat mat ys
    go true h = ap (λ zs. x.1 ∷ zs) h
    go false h = h

-- the newest job of the log is due at d
abbrev HeadDue : ℕ → List Begun → Type 0
HeadDue d [] = ⊥
HeadDue d (x ∷ l) = x.job.due ≡ at d

-- the due slot of the packet on the air, if it is the mat's
abbrev pub Flying : ℕ → Option Air → List Begun → List ℕ → Type 0
Flying mat None l ds = ds ≡ []
Flying mat (Some a) l ds = ((a.mat ≡ mat) × ((d : ℕ) × (ds ≡ d ∷ []) × HeadDue d l)) ⊎ ((a.mat ≡ mat → ⊥) × (ds ≡ []))

abbrev dues_in : List (ℕ × ℕ) → List ℕ
dues_in queue = map (λ x. x.0) queue

module _ {X : Type 0} (numbers : X → Numbers) where
  pub record Lined (mat : ℕ) (hs : List (Happening X)) (air : Option Air) (ps : List Packet) (l : List Begun) : Type 0 where
    pub done : List ℕ
    pub flying : List ℕ
    pub queue : List (ℕ × ℕ)
    pub dues : dues_of numbers mat hs ≡ done ++ (flying ++ dues_in queue)
    pub ended : InTime done (ends_of mat hs)
    pub flies : Flying mat air l flying
    pub waits : Waits mat ps queue
    pub ordered : Ordered queue

  pub lined_opening : (mat : ℕ) → Lined mat [] None [] []
  lined_opening mat = record { done = []; flying = []; queue = []; dues = refl; ended = tt; flies = refl; waits = waits_none mat; ordered = tt }

  module _ (mat : ℕ) (hs : List (Happening X)) where
    -- where nothing of the mat was accepted or ended
    pub lined_on : (hs' : List (Happening X)) (air : Option Air) (ps : List Packet) (l : List Begun) → dues_of numbers mat hs' ≡ dues_of numbers mat hs → ends_of mat hs' ≡ ends_of mat hs →
        Lined mat hs air ps l → Lined mat hs' air ps l
    lined_on hs' air ps l d e h =
        record { done = h.done; flying = h.flying; queue = h.queue; dues = d ∙ h.dues; ended = subst (InTime h.done) (sym e) h.ended; flies = h.flies; waits = h.waits; ordered = h.ordered }

    -- a packet joins: those of its mat that wait are due no later and were offered before
    pub lined_accepts : (own : ℕ) (air : Option Air) (p : Packet) (ps qs : List Packet) (l : List Begun) → p.mat ≡ own → p.due ≡ clock_of hs + allowance_of numbers own hs → IsPermutation (p ∷ ps) qs →
        AllByRecursion (λ q. (q.mat ≡ own → q.due ≤ p.due) × (q.count < p.count)) ps → Lined mat hs air ps l → Lined mat (accepts own ∷ hs) air qs l
    lined_accepts own air p ps qs l is due sh before h = elim (cases_eq own mat) [
      | inr differs ↦
          let same = cond-false (eqb own mat) (dues_of numbers mat hs ++ (clock_of hs + allowance_of numbers mat hs) ∷ []) (dues_of numbers mat hs) (ne_eqb own mat differs) in
          record { done = h.done; flying = h.flying; queue = h.queue; dues = same ∙ h.dues; ended = h.ended; flies = h.flies; waits = waits_other_joins mat p ps qs h.queue sh (λ e. differs (sym is ∙ e)) h.waits; ordered = h.ordered }
      | inl same ↦
          let more = cond-true (eqb own mat) (dues_of numbers mat hs ++ (clock_of hs + allowance_of numbers mat hs) ∷ []) (dues_of numbers mat hs) (eq-eqb own mat same) in
          let here : clock_of hs + allowance_of numbers mat hs ≡ p.due = ap (λ m. clock_of hs + allowance_of numbers m hs) (sym same) ∙ sym due in
          let each : AllByRecursion (λ x. (leb x.0 p.due && ltb x.1 p.count) ≡ true) h.queue =
          waits_each mat ps h.queue (λ d c. leb d p.due && ltb c p.count)
          (All-weaker _ (λ q. q.mat ≡ mat → (leb q.due p.due && ltb q.count p.count) ≡ true) (λ q b e. and_from _ _ (le-leb _ _ (b.0 (e ∙ sym same))) (lt-ltb _ _ b.1)) ps before) h.waits in
          record {
            done = h.done;
            flying = h.flying;
            queue = h.queue ++ (p.due, p.count) ∷ [];
            dues = more ∙ joined here;
            ended = h.ended;
            flies = h.flies;
            waits = waits_joins mat p ps qs h.queue sh (is ∙ same) h.waits;
            ordered = ordered_push h.queue p.due p.count h.ordered
                (All-weaker _ (λ x. (x.0 ≤ p.due) × (x.1 < p.count)) (λ x t. (leb-true _ _ (and_parts _ _ t).0, ltb-true _ _ (and_parts _ _ t).1)) h.queue each);
          }
    ]
      where
        joined : {d : ℕ} → d ≡ p.due → dues_of numbers mat hs ++ d ∷ [] ≡ h.done ++ (h.flying ++ dues_in (h.queue ++ (p.due, p.count) ∷ []))
        joined {d} e =
            ap (λ x. dues_of numbers mat hs ++ x ∷ []) e
            ∙ ap (λ ds. ds ++ p.due ∷ []) h.dues
            ∙ append_assoc h.done (h.flying ++ dues_in h.queue) (p.due ∷ [])
            ∙ ap (λ ds. h.done ++ ds) (append_assoc h.flying (dues_in h.queue) (p.due ∷ []))
            ∙ ap (λ ds. h.done ++ (h.flying ++ ds)) (sym (map-append (λ (x : ℕ × ℕ). x.0) h.queue ((p.due, p.count) ∷ [])))

    -- the first of all that wait goes on the air
    pub lined_goes : (p : Packet) (ps qs : List Packet) (x : Begun) (l : List Begun) → First packet_before p ps → IsPermutation ps (p ∷ qs) → x.job.due ≡ at p.due →
        Lined mat hs None ps l → Lined mat hs (Some (begun p)) qs (x ∷ l)
    lined_goes p ps qs x l first sh due h = elim (cases_eq p.mat mat) [
      | inr differs ↦ record { done = h.done; flying = h.flying; queue = h.queue; dues = h.dues; ended = h.ended; flies = inr (differs, h.flies); waits = waits_other_goes mat p ps qs h.queue sh differs h.waits; ordered = h.ordered }
      | inl same ↦
          let (rest, is, w, o) = waits_goes mat p ps qs h.queue first sh same h.waits h.ordered in
          record {
            done = h.done;
            flying = p.due ∷ [];
            queue = rest;
            dues = h.dues ∙ ap (λ fs. h.done ++ (fs ++ dues_in h.queue)) h.flies ∙ ap (λ q. h.done ++ dues_in q) is;
            ended = h.ended;
            flies = inl (same, (p.due, refl, due));
            waits = w;
            ordered = o;
          }
    ]

    -- a packet that is not the mat's goes on the air, and nothing that waits goes
    pub lined_bulk : (a : Air) (ps : List Packet) (l l' : List Begun) → (a.mat ≡ mat → ⊥) → Lined mat hs None ps l → Lined mat hs (Some a) ps l'
    lined_bulk a ps l l' differs h = record { done = h.done; flying = h.flying; queue = h.queue; dues = h.dues; ended = h.ended; flies = inr (differs, h.flies); waits = h.waits; ordered = h.ordered }

    ends_on : (s : Option Sent) (ys : List ℕ) → of_mat mat (ending s (clock_of hs + 1)) ≡ ys → ends_of mat (passes s ∷ hs) ≡ ends_of mat hs ++ ys
    ends_on s ys e = of_mat_append mat (endings hs) (ending s (clock_of hs + 1)) ∙ ap (λ zs. ends_of mat hs ++ zs) e

    -- the slot ends nothing of the mat
    none_ends : (s : Option Sent) → of_mat mat (ending s (clock_of hs + 1)) ≡ [] → ends_of mat (passes s ∷ hs) ≡ ends_of mat hs
    none_ends s e = ends_on s [] e ∙ append-nil (ends_of mat hs)

    -- the packet on the air sends a slot
    lined_sends : (a : Air) (b : Bool) (ps : List Packet) (x : Begun) (l : List Begun) → ends a ≡ b → Flies (clock_of hs) a x → Timely x → Lined mat hs (Some a) ps (x ∷ l) →
        Lined mat (passes (Some (record { mat = a.mat; piece = a.sent; ended = b })) ∷ hs) (cond b None (Some (record { mat = a.mat; place = a.place; bytes = a.bytes; sent = a.sent + 1 }))) ps (x ∷ l)
    lined_sends a false ps x l e f t h = lined_on (passes (Some (record { mat = a.mat; piece = a.sent; ended = false })) ∷ hs) _ ps (x ∷ l) refl (none_ends (Some (record { mat = a.mat; piece = a.sent; ended = false })) refl)
        (record { done = h.done; flying = h.flying; queue = h.queue; dues = h.dues; ended = h.ended; flies = h.flies; waits = h.waits; ordered = h.ordered })
    lined_sends a true ps x l e f t h = go h.flies
      where
        go : Flying mat (Some a) (x ∷ l) h.flying → Lined mat (passes (Some (record { mat = a.mat; piece = a.sent; ended = true })) ∷ hs) None ps (x ∷ l)
        go (inr (differs, none)) =
            let still = none_ends (Some (record { mat = a.mat; piece = a.sent; ended = true })) (cond-false (eqb a.mat mat) ((clock_of hs + 1) ∷ []) [] (ne_eqb a.mat mat differs)) in
            lined_on _ None ps (x ∷ l) refl still (record { done = h.done; flying = h.flying; queue = h.queue; dues = h.dues; ended = h.ended; flies = none; waits = h.waits; ordered = h.ordered })
        go (inl (same, (d, is, due))) =
            let one = ends_on (Some (record { mat = a.mat; piece = a.sent; ended = true })) ((clock_of hs + 1) ∷ []) (cond-true (eqb a.mat mat) ((clock_of hs + 1) ∷ []) [] (eq-eqb a.mat mat same)) in
            let by : end x ≤ d = t d (rw due (le-leb d d (omega arith))) in
            let last = leb-true (slots a.bytes) (a.sent + 1) e in
            let now : clock_of hs + 1 ≤ d = omega (arith, f.sent, f.unsent, f.size) in
            record {
              done = h.done ++ d ∷ [];
              flying = [];
              queue = h.queue;
              dues = h.dues ∙ ap (λ fs. h.done ++ (fs ++ dues_in h.queue)) is ∙ sym (append_assoc h.done (d ∷ []) (dues_in h.queue));
              ended = subst (InTime (h.done ++ d ∷ [])) (sym one) (in_time_push h.done (ends_of mat hs) d (clock_of hs + 1) h.ended now);
              flies = refl;
              waits = h.waits;
              ordered = h.ordered;
            }

    -- a slot passes
    pub lined_passes : (a : Option Air) (ps : List Packet) (l : List Begun) → Up (clock_of hs) a l → AllByRecursion Timely l → Lined mat hs a ps l → Lined mat (passes (option_map told a) ∷ hs) (carried_on a) ps l
    lined_passes None ps l u t h = lined_on (passes None ∷ hs) None ps l refl (none_ends None refl) h
    lined_passes (Some a) ps [] u t h = absurd u
    lined_passes (Some a) ps (x ∷ l) u t h = lined_sends a (ends a) ps x l refl u t.0 h

    flying_ahead : (a : Option Air) (l : List Begun) (ds : List ℕ) → OnAir (clock_of hs) a l → AllByRecursion Timely l → Flying mat a l ds → AllByRecursion (λ d. clock_of hs < d) ds
    flying_ahead None l ds o t none = subst (AllByRecursion (λ d. clock_of hs < d)) (sym none) tt
    flying_ahead (Some a) l ds o t (inr (differs, none)) = subst (AllByRecursion (λ d. clock_of hs < d)) (sym none) tt
    flying_ahead (Some a) [] ds o t (inl (same, (d, is, due))) = absurd due
    flying_ahead (Some a) (x ∷ l) ds o t (inl (same, (d, is, due))) =
        let f = o.1 in
        let by : end x ≤ d = t.0 d (rw due (le-leb d d (omega arith))) in
        subst (AllByRecursion (λ d. clock_of hs < d)) (sym is) (omega (arith, f.sent, f.unsent, f.size), tt)

    -- each accepted packet of the mat has ended in time, or its due slot is ahead
    pub lined_reads : (a : Option Air) (ps : List Packet) (l : List Begun) → OnAir (clock_of hs) a l → AllByRecursion Timely l → AllByRecursion (λ p. clock_of hs < p.due) ps → Lined mat hs a ps l →
        (n due : ℕ) → slice_get (dues_of numbers mat hs) n ≡ Some due → ((end : ℕ) × (slice_get (ends_of mat hs) n ≡ Some end) × (end ≤ due)) ⊎ (clock_of hs < due)
    lined_reads a ps l o t early h n due at_n =
        let queued : AllByRecursion (λ x. ltb (clock_of hs) x.0 ≡ true) h.queue =
        waits_each mat ps h.queue (λ d c. ltb (clock_of hs) d) (All-weaker _ (λ p. p.mat ≡ mat → ltb (clock_of hs) p.due ≡ true) (λ p b e. lt-ltb _ _ b) ps early) h.waits in
        let later : AllByRecursion (λ d. clock_of hs < d) (h.flying ++ dues_in h.queue) =
        All-append (λ d. clock_of hs < d) h.flying (dues_in h.queue) (flying_ahead a l h.flying o t h.flies)
        (All-map (λ d. clock_of hs < d) (λ (x : ℕ × ℕ). x.0) h.queue (All-weaker _ (λ x. clock_of hs < x.0) (λ x b. ltb-true _ _ b) h.queue queued)) in
        read_off (clock_of hs) h.done (h.flying ++ dues_in h.queue) (ends_of mat hs) h.ended later n due (subst (λ ds. slice_get ds n ≡ Some due) h.dues at_n)
