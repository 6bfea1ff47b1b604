-- Jobs: packets as a scheduler sees them.
use Rattle.std.specs.Prelude.{ℕ, Bool, true, false, nat_le}

-- the deadline of a job: the slot by which it must have ended, or none
pub data Due : Type 0 where
  never : Due
  at : ℕ → Due

pub record Job : Type 0 where
  -- the slot in which it arrives
  pub arrival : ℕ
  -- its length: the slots that it takes on the air
  pub slots : ℕ
  -- a channel's job is due at some slot; a bulk job never is
  pub due : Due
  -- a number that names the channel that offered it
  pub owner : ℕ
  -- the keys of the waiting order beside the due slot; no rule of schedules reads them, nor the owner
  pub mat : ℕ
  pub count : ℕ

-- d or earlier
abbrev pub until : ℕ → Due → Bool
until d never = false
until d (at e) = nat_le e d

-- the job is due at d or earlier
abbrev pub due_by : ℕ → Job → Bool
due_by d j = until d j.due

abbrev pub some_day : Due → Bool
some_day never = false
some_day (at d) = true

-- a channel's job, and not bulk
abbrev pub timed : Job → Bool
timed j = some_day j.due
