-- What the calls of a history tell by their arguments and answers alone, with no look into the link. The newest stands first.
use Rattle.std.specs.Prelude.{ℕ, ◌+◌, Bool, true, cond, ◌&&◌, List, [], ◌∷◌, ◌++◌, map, Some, None, Ok, Option, ◌==◌}
use Rattle.traffic.specs.Curves.{Numbers}
use Rattle.link.specs.declared.state.Sent.{Sent}
use Rattle.link.specs.History.{Call, held, offered, ticked}

-- what happened by a call, as far as the promises speak of it
pub data Happening (X : Type 0) : Type 0 where
  -- a hold was granted to the mat for this kind
  grants : ℕ → X → Happening X
  -- a packet of the mat was accepted
  accepts : ℕ → Happening X
  -- a slot passed, and carried this
  passes : Option Sent → Happening X
  -- any other call, and any that was refused
  other : Happening X

abbrev pub happening : {X : Type 0} → Call X → Happening X
happening (held mat k (Ok r)) = grants mat k
happening (offered mat place bytes (Ok r)) = accepts mat
happening (ticked (Ok s)) = passes s
happening c = other

abbrev pub happenings : {X : Type 0} → List (Call X) → List (Happening X)
happenings cs = map happening cs

-- the clock: how many slots have passed
abbrev pub clock_of : {X : Type 0} → List (Happening X) → ℕ
clock_of [] = 0
clock_of (passes s ∷ es) = clock_of es + 1
clock_of (e ∷ es) = clock_of es

-- the allowance of the mat's last granted hold
abbrev pub allowance_of : {X : Type 0} → (X → Numbers) → ℕ → List (Happening X) → ℕ
allowance_of numbers mat [] = 0
allowance_of numbers mat (grants m k ∷ es) = cond (m == mat) (numbers k).allowance (allowance_of numbers mat es)
allowance_of numbers mat (e ∷ es) = allowance_of numbers mat es

-- the due slots of the mat's accepted packets, in the order of their offers: the clock at the offer and the allowance
abbrev pub dues_of : {X : Type 0} → (X → Numbers) → ℕ → List (Happening X) → List ℕ
dues_of numbers mat [] = []
dues_of numbers mat (accepts m ∷ es) =
    cond (m == mat) (dues_of numbers mat es ++ (clock_of es + allowance_of numbers mat es) ∷ []) (dues_of numbers mat es)
dues_of numbers mat (e ∷ es) = dues_of numbers mat es

-- the packet that ends with this slot, if one does: its mat, and the clock after the slot
abbrev pub ending : Option Sent → ℕ → List (ℕ × ℕ)
ending None s = []
ending (Some t) s = cond t.ended ((t.mat, s) ∷ []) []

-- all ends, in their order: the mat (0 for bulk) and the clock
abbrev pub endings : {X : Type 0} → List (Happening X) → List (ℕ × ℕ)
endings [] = []
endings (passes s ∷ es) = endings es ++ ending s (clock_of es + 1)
endings (e ∷ es) = endings es

-- of pairs of a mat and a clock, the clocks of one mat
abbrev pub of_mat : ℕ → List (ℕ × ℕ) → List ℕ
of_mat mat [] = []
of_mat mat (x ∷ xs) = cond (x.0 == mat) (x.1 ∷ of_mat mat xs) (of_mat mat xs)

-- the clocks at which packets of the mat ended
abbrev pub ends_of : {X : Type 0} → ℕ → List (Happening X) → List ℕ
ends_of mat es = of_mat mat (endings es)

-- a slot is quiet if it carried nothing, or the first piece of a bulk packet
abbrev pub is_quiet : Option Sent → Bool
is_quiet None = true
is_quiet (Some t) = t.mat == 0 && t.piece == 0

-- the slots since the last quiet one, or since the opening
abbrev pub busy_slots : {X : Type 0} → List (Happening X) → ℕ
busy_slots [] = 0
busy_slots (passes s ∷ es) = cond (is_quiet s) 0 (busy_slots es + 1)
busy_slots (e ∷ es) = busy_slots es
