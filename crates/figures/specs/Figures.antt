-- The worked figures of links.
use Rattle.std.specs.Prelude.{◌≡◌, ℕ, true, List, [], ◌∷◌}
use Rattle.link.specs.Packets.{slots}
use Rattle.refusals.specs.Refusals.{number}
use Rattle.refusals.specs.declared.Refusal.TheVariants.{Limits, Overloaded, Late}
use Rattle.figures.specs.Answers.{Link, Refuses, Counting, RefusedOn, GrantedOn, LeastOn, StretchOn, Reached}
use Rattle.figures.specs.Kinds.{Kind, S, B, limits}
use Rattle.figures.specs.Release.{Release}

-- channels that join one after the other, each with its least allowance on a link whose longest packet has 4 slots
abbrev pub one : List Kind
one = S 10 2 5 ∷ []

abbrev pub two : List Kind
two = S 10 2 5 ∷ S 8 4 9 ∷ []

abbrev pub three : List Kind
three = S 10 2 5 ∷ S 8 4 9 ∷ S 12 3 18 ∷ []

pub record Figures : Type 0 where
  -- longest packet 4: the least allowance, whatever the kind declares, and the hold with one slot less
  pub least_alone : (d : ℕ) → LeastOn 4 [] (S 10 2 d) 5 4
  pub late_alone : RefusedOn 4 [] (S 10 2 4) (Late 4 1)
  pub least_bucket : (d : ℕ) → LeastOn 4 [] (B 10 2 3 d) 9 8
  pub least_second : (d : ℕ) → LeastOn 4 one (S 8 4 d) 9 8
  pub least_third : (d : ℕ) → LeastOn 4 two (S 12 3 d) 18 17
  pub late_third : RefusedOn 4 two (S 12 3 17) (Late 17 4)
  pub granted_third : GrantedOn 4 two (S 12 3 18)
  pub stretch_third : StretchOn 4 three 240
  -- longest packet 2: a channel that fills every frame, and one more
  pub late_full : RefusedOn 2 [] (S 1 1 1) (Late 1 1)
  pub granted_full : GrantedOn 2 [] (S 1 1 2)
  pub overloaded : RefusedOn 2 (S 1 1 2 ∷ []) (S 5040 1 1) Overloaded
  -- a period that does not divide the frame, and the longest allowance
  pub period_11 : (ks : List Kind) (m : Link) → Counting 4 ks m → (mat : ℕ) → Refuses Limits m mat (S 11 2 5)
  pub allowance_40321 : (ks : List Kind) (m : Link) → Counting 4 ks m → (mat : ℕ) → Refuses Limits m mat (S 10 2 40321)
  pub allowance_40320 : limits (S 10 2 40320) 4 ≡ true
  -- the numbers of these refusals
  pub number_limits : number Limits ≡ 2
  pub number_overloaded : number Overloaded ≡ 5
  pub number_late : (point count : ℕ) → number (Late point count) ≡ 6
  -- the slots of packets of so many bytes
  pub slots_32 : slots 32 ≡ 1
  pub slots_33 : slots 33 ≡ 2
  -- the links spoken of are reached by calls
  pub reached_alone : Reached 4 [] (S 10 2 4)
  pub reached_one : Reached 4 one (S 8 4 9)
  pub reached_two : Reached 4 two (S 12 3 17)
  pub reached_three : Reached 4 three (S 5040 1 40320)
  pub reached_empty : Reached 2 [] (S 1 1 2)
  pub reached_full : Reached 2 (S 1 1 2 ∷ []) (S 5040 1 1)
  -- a release, call by call
  pub release : Release
