-- What hold answers, and what the link then holds.
use Rattle.std.specs.Prelude.{◌≡◌, ℕ, ◌+◌, Bool, cond, ◌&&◌, [], ◌∷◌, ◌++◌, length, is_some, Some, None, Ok, Err, Option, Result, nat_lt, slice_set}
use Rattle.std.specs.List.{slice_get}
use Rattle.traffic.specs.Arrivals.{Steps}
use Rattle.traffic.specs.Curves.{Numbers}
use Rattle.traffic.specs.declared.Row.{Row}
use Rattle.verdict.specs.Judged.{Judged}
use Rattle.verdict.specs.declared.Unfit.{Unfit}
use Rattle.refusals.specs.declared.Refusal.{Refusal}
use Rattle.refusals.specs.declared.Refusal.TheVariants.{Shut, Limits, MatCounted, NoRow}
use Rattle.link.specs.declared.state.Hold.{Hold}
use Rattle.link.specs.declared.state.Phase.TheVariants.{Free, Held}
use Rattle.link.specs.Model.{FullRow, Model, find, channels}
use Rattle.link.specs.Outcomes.{Refused}
use Rattle.link.specs.Packets.{is_mat_lem}
use Rattle.refusals.specs.Refusals.{decided}
use Rattle.link.specs.Rows.{is_free, counted_of}

module _ {X S : Type 0} where
  -- the row at this place is free
  abbrev pub Vacant : Model X S → ℕ → Type 0
  Vacant m i = (r : FullRow X S) × (slice_get m.rows i ≡ Some r) × (r.entry.phase ≡ Free)

  -- the hold that is granted next; serials count the granted holds from 1
  abbrev pub hold_of : Model X S → ℕ → Hold
  hold_of m mat = record { link = m.terms.name; mat = mat; serial = m.serials + 1 }

  -- the row at this place held by the mat, with this kind and state
  abbrev pub filled : Model X S → ℕ → ℕ → Row X S → Model X S
  filled m i mat w = record m {
    serials = m.serials + 1;
    rows = slice_set m.rows i (record { entry = record { mat = mat; serial = m.serials + 1; phase = Held }; row = w });
  }

  -- the causes that come before the verdict
  abbrev pub hold_cause : (X → ℕ → Bool) → Model X S → ℕ → X → Option Refusal
  hold_cause limits m mat k =
      cond m.terms.shut (Some Shut)
      (cond (is_mat_lem mat && limits k m.terms.longest)
      (cond (is_some (find (counted_of mat) m)) (Some MatCounted)
      (cond (is_some (find is_free m) && nat_lt m.serials 4294967295) None (Some NoRow)))
      (Some Limits))

  module _ (numbers : X → Numbers) (limits : X → ℕ → Bool) (steps : X → Steps S) where
    -- granted: a free row, whichever, is held with the kind's fresh state; the answer is the hold and the count of points
    abbrev pub Decided : Result ℕ Refusal → Model X S → ℕ → X → Result (Hold × ℕ) Refusal → Model X S → Type 0
    Decided (Err e) m mat k r o = Refused e m r o
    Decided (Ok count) m mat k r o =
        (i : ℕ) × Vacant m i × (r ≡ Ok (hold_of m mat, count))
        × (o ≡ filled m i mat (record { kind = k; state = (steps k).fresh }))

    -- the verdict judges the counted channels with the new one
    abbrev pub HeldOr : Option Refusal → Model X S → ℕ → X → Result (Hold × ℕ) Refusal → Model X S → Type 0
    HeldOr (Some e) m mat k r o = Refused e m r o
    HeldOr None m mat k r o =
        (v : Result ℕ Unfit) × Judged numbers limits m.terms.longest (length m.rows) (channels m.rows ++ k ∷ []) v
        × Decided (decided v) m mat k r o

    -- what hold answers
    abbrev pub Holds : Model X S → ℕ → X → Result (Hold × ℕ) Refusal → Model X S → Type 0
    Holds m mat k r o = HeldOr (hold_cause limits m mat k) m mat k r o
