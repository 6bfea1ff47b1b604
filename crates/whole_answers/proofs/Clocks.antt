-- The clock of a link is what its calls tell of it.
use Rattle.std.proofs.Common.{◌≡◌, ℕ, ◌+◌, Bool, true, false, cond, List, Some, None, Ok, Err, Option, Result, refl, ap, ◌∙◌, inl, inr, arith}
use Rattle.std.specs.List.{slice_get}
use Rattle.traffic.specs.Arrivals.{Steps}
use Rattle.traffic.specs.Curves.{Numbers}
use Rattle.refusals.specs.Refusals.{decided}
use Rattle.refusals.specs.declared.Refusal.{Refusal}
use Rattle.link.specs.Happenings.{happenings, clock_of}
use Rattle.link.specs.History.{Call, History, opening, hold, confirm, cancel, release, offer, bulk, tick, stretch, least, piece}
use Rattle.link.specs.Holding.{HeldOr, Decided, hold_cause}
use Rattle.link.specs.Model.{FullRow, Model}
use Rattle.link.specs.Outcomes.{Answered}
use Rattle.link.specs.Sending.{Offered, offer_outcome, bulk_outcome, bulk_waits}
use Rattle.link.specs.Settling.{GivenBack, settled, settled_at, release_outcome, release_place, release_row}
use Rattle.link.specs.Ticking.{Ticked, tick_cause, Begins}
use Rattle.link.specs.declared.state.Hold.{Hold}
use Rattle.link.specs.declared.state.Sent.{Sent}

module _ {X S : Type 0} where
  -- a granted outcome that leaves the clock as it was
  Keeps : Model X S → Result (Model X S) Refusal → Type 0
  Keeps m (Ok n) = n.clock ≡ m.clock
  Keeps m (Err e) = Unit {0}

  keeps_clock : (m n : Model X S) → n.clock ≡ m.clock → Keeps m (Ok n)
  unfolding Keeps
  keeps_clock m n h = h

  keeps_refused : (m : Model X S) (e : Refusal) → Keeps m (Err e)
  unfolding Keeps
  keeps_refused m e = tt

  keeps_unless : (m : Model X S) (b : Bool) (e : Refusal) (x : Result (Model X S) Refusal) → Keeps m x → Keeps m (cond b (Err e) x)
  unfolding Keeps
  keeps_unless m true e x k = tt
  keeps_unless m false e x k = k

  keeps_else : (m : Model X S) (b : Bool) (e : Refusal) (x : Result (Model X S) Refusal) → Keeps m x → Keeps m (cond b x (Err e))
  unfolding Keeps
  keeps_else m true e x k = k
  keeps_else m false e x k = tt

  same_clock : (n o : Model X S) (s : ℕ) → o ≡ n → n.clock ≡ s → o.clock ≡ s
  same_clock n o s e h = ap (λ (y : Model X S). y.clock) e ∙ h

  answered_clock : (x : Result (Model X S) Refusal) (m : Model X S) (r : Result (Unit {0}) Refusal) (o : Model X S) → Keeps m x → Answered x m r o → o.clock ≡ m.clock
  unfolding Keeps
  answered_clock (Ok n) m r o k a = same_clock n o m.clock a.1 k
  answered_clock (Err e) m r o k a = same_clock m o m.clock a.1 refl

  given_clock : (h : Hold) (x : Result (Model X S) Refusal) (m : Model X S) (r : Result (Unit {0}) (Refusal × Hold)) (o : Model X S) → Keeps m x → GivenBack h x m r o → o.clock ≡ m.clock
  unfolding Keeps
  given_clock h (Ok n) m r o k a = same_clock n o m.clock a.1 k
  given_clock h (Err e) m r o k a = same_clock m o m.clock a.1 refl

  settled_keeps : (e : _) (m : Model X S) (o : Option ℕ) → Keeps m (settled_at e m o)
  unfolding Keeps
  settled_keeps e m None = tt
  settled_keeps e m (Some i) = refl

  settles_keeps : (e : _) (h : Hold) (m : Model X S) → Keeps m (settled e h m)
  settles_keeps e h m = search (keeps_unless, keeps_else, settled_keeps)

  begins_clock : (a : _) (m n : Model X S) → Begins a m n → n.clock ≡ m.clock
  begins_clock (Some a) m n b = same_clock m n m.clock b refl
  begins_clock None m n (inl b) = same_clock _ n m.clock b.1 refl
  begins_clock None m n (inr (p, f, sh, e)) = same_clock _ n m.clock e refl

  release_keeps : (m : Model X S) (i : ℕ) (x : Option (FullRow X S)) → Keeps m (release_row m i x)
  release_keeps m i None = keeps_refused m _
  release_keeps m i (Some r) = keeps_else m _ _ _ (keeps_clock m _ refl)

  place_keeps : (m : Model X S) (o : Option ℕ) → Keeps m (release_place m o)
  unfolding Keeps
  place_keeps m None = tt
  place_keeps m (Some i) = release_keeps m i (slice_get m.rows i)

  releases_keeps : (m : Model X S) (mat : ℕ) → Keeps m (release_outcome m mat)
  releases_keeps m mat = search (keeps_unless, keeps_else, place_keeps)

  bulk_keeps : (m : Model X S) (b : _) (o : _) → Keeps m (bulk_waits m b o)
  unfolding Keeps
  bulk_keeps m b None = refl
  bulk_keeps m b (Some c) = tt

  bulks_keeps : (m : Model X S) (place bytes : ℕ) → Keeps m (bulk_outcome m place bytes)
  bulks_keeps m place bytes = search (keeps_unless, keeps_else, bulk_keeps)

  offered_clock : (x : Result _ Refusal) (m : Model X S) (r : Result (Unit {0}) Refusal) (o : Model X S) → Offered x m r o → o.clock ≡ m.clock
  offered_clock (Err e) m r o a = same_clock m o m.clock a.1 refl
  offered_clock (Ok (i, w, p)) m r o a = same_clock _ o m.clock a.2 refl

  -- a granted tick moves the clock by one
  ticked_clock : (x : Option Refusal) (m : Model X S) (s : Option Sent) (o : Model X S) → Ticked x m (Ok s) o → o.clock ≡ m.clock + 1
  ticked_clock (Some e) m s o a = let q = a.0 in let z : ◌≡◌ {A = ℕ} 0 1 = cc in absurd (omega arith)
  ticked_clock None m s o (n, b, t, e) = same_clock _ o (m.clock + 1) e (ap (λ c. c + 1) (begins_clock m.air m n b))

  -- a refused one does not
  stopped_clock : (x : Option Refusal) (m : Model X S) (c : Refusal) (o : Model X S) → Ticked x m (Err c) o → o.clock ≡ m.clock
  stopped_clock (Some e) m c o a = same_clock m o m.clock a.1 refl
  stopped_clock None m c o (n, b, t, e) = let z : ◌≡◌ {A = ℕ} 0 1 = cc in absurd (omega arith)

  module _ (numbers : X → Numbers) (limits : X → ℕ → Bool) (steps : X → Steps S) where
    decided_clock : (x : Result ℕ Refusal) (m : Model X S) (mat : ℕ) (k : X) (r : Result (Hold × ℕ) Refusal) (o : Model X S) → Decided numbers limits steps x m mat k r o → o.clock ≡ m.clock
    decided_clock (Err e) m mat k r o d = same_clock m o m.clock d.1 refl
    decided_clock (Ok count) m mat k r o (i, vacant, q, e) = same_clock _ o m.clock e refl

    held_clock : (x : Option Refusal) (m : Model X S) (mat : ℕ) (k : X) (r : Result (Hold × ℕ) Refusal) (o : Model X S) → HeldOr numbers limits steps x m mat k r o → o.clock ≡ m.clock
    held_clock (Some e) m mat k r o a = same_clock m o m.clock a.1 refl
    held_clock None m mat k r o (v, j, d) = decided_clock (decided v) m mat k r o d

    module _ (dated : X → ℕ → X) where
      -- the clock after calls: that of the start, and the slots that passed
      pub history_clock : {m n : Model X S} {cs : List (Call X)} → History numbers limits dated steps m cs n → n.clock ≡ m.clock + clock_of (happenings cs)
      history_clock opening = omega arith
      history_clock (hold {cs} {n} {o} mat k (Ok r) h c) = held_clock (hold_cause limits n mat k) n mat k (Ok r) o c ∙ history_clock h
      history_clock (hold {cs} {n} {o} mat k (Err e) h c) = held_clock (hold_cause limits n mat k) n mat k (Err e) o c ∙ history_clock h
      history_clock (confirm {cs} {n} {o} x r h c) = given_clock x (settled _ x n) n r o (settles_keeps _ x n) c ∙ history_clock h
      history_clock (cancel {cs} {n} {o} x r h c) = answered_clock (settled _ x n) n r o (settles_keeps _ x n) c ∙ history_clock h
      history_clock (release {cs} {n} {o} mat r h c) = answered_clock (release_outcome n mat) n r o (releases_keeps n mat) c ∙ history_clock h
      history_clock (offer {cs} {n} {o} mat place bytes (Ok r) h c) = offered_clock (offer_outcome numbers limits steps n mat place bytes) n (Ok r) o c ∙ history_clock h
      history_clock (offer {cs} {n} {o} mat place bytes (Err e) h c) = offered_clock (offer_outcome numbers limits steps n mat place bytes) n (Err e) o c ∙ history_clock h
      history_clock (bulk {cs} {n} {o} place bytes r h c) = answered_clock (bulk_outcome n place bytes) n r o (bulks_keeps n place bytes) c ∙ history_clock h
      history_clock (tick {cs} {n} {o} (Ok s) h c) = let p = ticked_clock (tick_cause n) n s o c in let q = history_clock h in omega arith
      history_clock (tick {cs} {n} {o} (Err e) h c) = stopped_clock (tick_cause n) n e o c ∙ history_clock h
      history_clock (stretch r h c) = history_clock h
      history_clock (least k r h c) = history_clock h
      history_clock (piece mats files r h c) = history_clock h
