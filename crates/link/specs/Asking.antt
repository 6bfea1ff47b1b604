-- What least and stretch answer: they ask, and leave the link as it is.
use Rattle.std.specs.Prelude.{◌≡◌, ℕ, Bool, true, false, length, Ok, Err, Result}
use Rattle.traffic.specs.Curves.{Numbers}
use Rattle.verdict.specs.Least.{Least}
use Rattle.verdict.specs.Stretches.{Stretched}
use Rattle.verdict.specs.declared.Unfit.{Unfit}
use Rattle.refusals.specs.declared.Refusal.{Refusal}
use Rattle.refusals.specs.declared.Refusal.TheVariants.{Shut}
use Rattle.link.specs.Model.{Model, channels}
use Rattle.refusals.specs.Refusals.{refusal_of}

-- the verdict's answer is the link's
abbrev pub Told : {U : Type 0} → Result U Unfit → Result U Refusal → Type 0
Told (Ok x) r = r ≡ Ok x
Told (Err unfit) r = r ≡ Err (refusal_of unfit)

module _ {X S : Type 0} (numbers : X → Numbers) (limits : X → ℕ → Bool) where
  -- a shut link refuses; else the verdict answers
  abbrev pub StretchUnless : Bool → Model X S → Result ℕ Refusal → Type 0
  StretchUnless true m r = r ≡ Err Shut
  StretchUnless false m r =
      (s : Result ℕ Unfit) × Stretched numbers limits m.terms.longest (length m.rows) (channels m.rows) s × Told s r

  -- stretch: the longest run of slots without a quiet one, over the counted channels
  abbrev pub Stretches : Model X S → Result ℕ Refusal → Type 0
  Stretches m r = StretchUnless m.terms.shut m r

  module _ (dated : X → ℕ → X) where
    -- a shut link refuses; else the verdict answers
    abbrev pub LeastUnless : Bool → Model X S → X → Result (ℕ × ℕ) Refusal → Type 0
    LeastUnless true m k r = r ≡ Err Shut
    LeastUnless false m k r =
        (s : Result (ℕ × ℕ) Unfit) × Least numbers limits dated m.terms.longest (length m.rows) (channels m.rows) k s × Told s r

    -- least: the least allowance with which the kind passes beside the counted channels, and the point that forbids one slot less
    abbrev pub Leasts : Model X S → X → Result (ℕ × ℕ) Refusal → Type 0
    Leasts m k r = LeastUnless m.terms.shut m k r
