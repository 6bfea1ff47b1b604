-- What the link promises, over every history from its opening and for every kind that keeps the laws.
use Rattle.std.specs.Prelude.{◌≡◌, ℕ, ◌<◌, ◌≤◌, Bool, true, false, not, ◌⊎◌, List, [], ◌∷◌, ◌++◌, is_ok, IfOk, Some, None, Decides, Result}
use Rattle.std.specs.List.{slice_get}
use Rattle.traffic.specs.Arrivals.{Steps}
use Rattle.traffic.specs.Curves.{Numbers}
use Rattle.verdict.specs.Demand.{works, bursts}
use Rattle.verdict.specs.Least.{beside}
use Rattle.verdict.specs.Stretches.{stretch_of}
use Rattle.schedule.specs.Arrivals.{Unschedulable}
use Rattle.refusals.specs.declared.Refusal.{Refusal}
use Rattle.link.specs.declared.state.Hold.{Hold}
use Rattle.link.specs.Asking.{Leasts}
use Rattle.link.specs.Happenings.{Happening, happenings, clock_of, dues_of, ends_of, busy_slots}
use Rattle.link.specs.History.{Call, History}
use Rattle.link.specs.Holding.{Holds, hold_cause}
use Rattle.link.specs.Model.{Model, channels}
use Rattle.refusals.specs.Refusals.{answered}
use Rattle.link.specs.Standing.{Standing}

module _ {X : Type 0} (numbers : X → Numbers) where
  -- each accepted packet has ended by its due slot, or that slot is still ahead; the mat's packet number n (from 0) ends with the mat's end number n
  abbrev pub OnTime : List (Happening X) → Type 0
  OnTime es =
      (mat n due : ℕ) → slice_get (dues_of numbers mat es) n ≡ Some due →
      ((end : ℕ) × (slice_get (ends_of mat es) n ≡ Some end) × (end ≤ due)) ⊎ (clock_of es < due)

module _ {X S : Type 0} (numbers : X → Numbers) (limits : X → ℕ → Bool) (dated : X → ℕ → X) (steps : X → Steps S) where
  -- the channels, on a link with this longest packet, have lawful arrivals that make every schedule late that breaks off no packet and does not idle
  abbrev Defeated : Model X S → List X → Type 0
  Defeated m ks = Unschedulable numbers steps m.terms.longest ks

  -- what hold answers where only the verdict can refuse
  pub record HoldTells (m : Model X S) (k : X) (r : Result (Hold × ℕ) Refusal) : Type 0 where
    -- refused exactly if the counted channels with the new one are defeated
    pub refused : Decides (not (is_ok r)) (Defeated m (channels m.rows ++ k ∷ []))
    -- and then by 5 or 6
    pub number : is_ok r ≡ false → (answered r ≡ 5) ⊎ (answered r ≡ 6)

  -- so answers a hold that meets none of the causes of 1 to 4
  abbrev pub HoldExact : Model X S → Type 0
  HoldExact m =
      (mat : ℕ) (k : X) (r : Result (Hold × ℕ) Refusal) (o : Model X S) → Holds numbers limits steps m mat k r o →
      hold_cause limits m mat k ≡ None → HoldTells m k r

  -- the counted channels and the kind with the allowance d, whatever allowance it declares, are defeated
  abbrev DefeatedAt : Model X S → X → ℕ → Type 0
  DefeatedAt m k d = Defeated m (beside numbers dated m.terms.longest (channels m.rows) (dated k 40320) d)

  -- what least answers where only the verdict can refuse
  pub record LeastTells (m : Model X S) (k : X) (r : Result (ℕ × ℕ) Refusal) : Type 0 where
    -- refused exactly if even the longest allowance is defeated
    pub refused : Decides (not (is_ok r)) (DefeatedAt m k 40320)
    -- and then by 5 or 6
    pub number : is_ok r ≡ false → (answered r ≡ 5) ⊎ (answered r ≡ 6)
    -- the allowance answered is not, and every shorter one down to the longest length is
    pub carried : IfOk r (λ found. DefeatedAt m k found.0 → ⊥)
    pub shorter : IfOk r (λ found. (e : ℕ) → (numbers (dated k 40320)).longest ≤ e → e < found.0 → DefeatedAt m k e)

  -- so answers a least that meets the cause of neither 1 nor 2: the link is not shut, and the kind keeps its limits, whatever allowance it declares
  abbrev pub LeastExact : Model X S → Type 0
  LeastExact m =
      (k : X) (r : Result (ℕ × ℕ) Refusal) → Leasts numbers limits dated m k r →
      m.terms.shut ≡ false → limits (dated k 40320) m.terms.longest ≡ true → LeastTells m k r

  -- while the counted channels leave something of a frame, the slots since the last quiet one are no more than stretch tells of them
  abbrev pub QuietComes : Model X S → List (Happening X) → Type 0
  QuietComes m es =
      works numbers (channels m.rows) < 5040 →
      busy_slots es ≤ stretch_of m.terms.longest (works numbers (channels m.rows)) (bursts numbers (channels m.rows))

  -- what holds after these calls, which led to this model
  pub record Keeps (cs : List (Call X)) (n : Model X S) : Type 0 where
    pub standing : Standing numbers limits n
    pub on_time : OnTime numbers (happenings cs)
    pub no_needless_refusal : HoldExact n
    pub least_exact : LeastExact n
    pub quiet_comes : QuietComes n (happenings cs)

  -- it holds after any calls
  abbrev pub Promise : Model X S → Type 0
  Promise m = (cs : List (Call X)) (n : Model X S) → History numbers limits dated steps m cs n → Keeps cs n
