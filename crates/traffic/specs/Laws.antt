-- The laws that every kind keeps within its limits.
use Rattle.std.specs.Prelude.{◌≡◌, ℕ, ◌+◌, ◌*◌, ◌<◌, ◌≤◌, Bool, true, List, [], ◌∷◌}
use Rattle.traffic.specs.Arrivals.{Arrival, Steps, Lawful, demand, later, Lengths}
use Rattle.traffic.specs.Curves.{Numbers}

-- limits, told for each longest packet p, that hold for some p that a link may have
pub record Within (limits : ℕ → Bool) : Type 0 where
  pub under : ℕ
  pub least : 1 ≤ under
  pub most : under ≤ 255
  pub holds : limits under ≡ true

-- the laws of the numbers and the curve, on a link whose longest packet has p slots
pub record CurveLaws (p : ℕ) (n : Numbers) : Type 0 where
  -- ranges of the longest length and the allowance
  pub longest_least : 1 ≤ n.longest
  pub longest_most : n.longest ≤ p
  pub allowance_least : n.longest ≤ n.allowance
  pub allowance_most : n.allowance ≤ 40320
  -- the curve never falls, is 0 before the allowance, and there at least the longest length
  pub never_falls : (t u : ℕ) → t ≤ u → n.curve t ≤ n.curve u
  pub nothing_before : (t : ℕ) → t < n.allowance → n.curve t ≡ 0
  pub starts : n.longest ≤ n.curve n.allowance
  -- each frame asks for the work once more
  pub repeats : (t : ℕ) → n.allowance ≤ t → n.curve (t + 5040) ≡ n.curve t + n.work
  -- the curve stays under the straight line that starts at the burst and climbs by the work in each frame
  pub under_line : (m : ℕ) → 5040 * n.curve (n.allowance + m) ≤ 5040 * n.burst + m * n.work
  pub work_most : n.work ≤ 1285200
  pub burst_most : n.burst ≤ 45360

-- n' is n with the allowance e: the curve is moved, and all else is equal
pub record Redated (n : Numbers) (e : ℕ) (n' : Numbers) : Type 0 where
  pub allowance : n'.allowance ≡ e
  pub longest : n'.longest ≡ n.longest
  pub work : n'.work ≡ n.work
  pub burst : n'.burst ≡ n.burst
  pub curve : (m : ℕ) → n'.curve (e + m) ≡ n.curve (n.allowance + m)

-- the laws of the lists that a kind admits, beside its numbers
pub record TrafficLaws {S : Type 0} (n : Numbers) (m : Steps S) : Type 0 where
  -- what is offered in slot a or later and due by a + t never exceeds the curve at t
  pub bounded : (ps : List Arrival) → Lawful m ps → (a t : ℕ) → demand n.allowance a t ps ≤ n.curve t
  -- some lawful list meets the curve at every u up to t
  pub attained : (t : ℕ) → (ps : List Arrival) × Lawful m ps × ((u : ℕ) → u ≤ t → demand n.allowance 0 u ps ≡ n.curve u)
  -- a lawful list may come later as a whole
  pub movable : (x : ℕ) (ps : List Arrival) → Lawful m ps → Lawful m (later x ps)
  pub lengths : (ps : List Arrival) → Lawful m ps → Lengths n.longest ps
  -- one packet of the longest length is lawful in any slot
  pub one_longest : (a : ℕ) → Lawful m (record { slot = a; len = n.longest } ∷ [])
