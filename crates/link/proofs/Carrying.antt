-- What waits and what is on the air, as jobs of the core machine.
use Rattle.std.proofs.Common.{◌≡◌, ℕ, ◌+◌, ◌<◌, ◌≤◌, Bool, true, false, cond, List, [], ◌∷◌, ◌++◌, map, Some, None, Option, refl, arith}
use Rattle.std.proofs.ByRecursion.{All-weaker}
use Rattle.std.proofs.lemmas.Bool.{leb-true, leb-false}
use Rattle.std.specs.List.{AllByRecursion}
use Rattle.schedule.specs.Jobs.{Job, never, at}
use Rattle.schedule.specs.Schedules.{Begun, end}
use Rattle.schedule.proofs.Logs.{Queue}
use Rattle.link.specs.declared.state.Air.{Air}
use Rattle.link.specs.declared.state.Bulk.{Bulk}
use Rattle.link.specs.declared.state.Packet.{Packet}
use Rattle.link.specs.Packets.{slots, ends}
use Rattle.link.specs.Ticking.{carried_on}

-- a waiting packet as a job: `since` tells by the offer count in which slot it was offered
abbrev pub job : (ℕ → ℕ) → Packet → Job
job since p = record { arrival = since p.count; slots = slots p.bytes; due = at p.due; owner = 0; mat = p.mat; count = p.count }

-- a bulk packet, offered in slot s
abbrev pub bulk_job : ℕ → Bulk → Job
bulk_job s b = record { arrival = s; slots = slots b.bytes; due = never; owner = 0; mat = 0; count = 0 }

abbrev pub bulk_jobs : ℕ → Option Bulk → List Job
bulk_jobs s None = []
bulk_jobs s (Some b) = bulk_job s b ∷ []

-- all that waits
abbrev pub waiting_jobs : (ℕ → ℕ) → ℕ → List Packet → Option Bulk → List Job
waiting_jobs since s ps b = bulk_jobs s b ++ map (job since) ps

-- the packet on the air is this job, and at the start of slot s so many of its slots are sent
pub record Flies (s : ℕ) (a : Air) (x : Begun) : Type 0 where
  pub sent : x.start + a.sent ≡ s
  pub unsent : a.sent < slots a.bytes
  pub size : x.job.slots ≡ slots a.bytes

-- at the start of slot s, once something has gone on the air
abbrev pub Up : ℕ → Option Air → List Begun → Type 0
Up s None l = AllByRecursion (λ x. end x ≤ s) l
Up s (Some a) [] = ⊥
Up s (Some a) (x ∷ l) = Flies s a x

-- between slots: what is on the air has sent a slot at least
abbrev pub OnAir : ℕ → Option Air → List Begun → Type 0
OnAir s None l = AllByRecursion (λ x. end x ≤ s) l
OnAir s (Some a) l = (1 ≤ a.sent) × Up s (Some a) l

-- A slot passes.

passes_on : (s : ℕ) (a : Air) (x : Begun) (l : List Begun) (b : Bool) → ends a ≡ b → Flies s a x → Queue (x ∷ l) →
    OnAir (s + 1) (cond b None (Some (record { mat = a.mat; place = a.place; bytes = a.bytes; sent = a.sent + 1 }))) (x ∷ l)
passes_on s a x l true e f q =
    let last = leb-true (slots a.bytes) (a.sent + 1) e in
    let sent = f.sent in
    let size = f.size in
    let unsent = f.unsent in
    (omega arith, All-weaker _ _ (λ y h. omega arith) l q.0)
passes_on s a x l false e f q =
    let more = leb-false (slots a.bytes) (a.sent + 1) e in
    (omega arith, record { sent = omega (arith, f.sent); unsent = omega arith; size = f.size })

pub up_passes : (s : ℕ) (a : Option Air) (l : List Begun) → Up s a l → Queue l → OnAir (s + 1) (carried_on a) l
up_passes s None l h q = All-weaker _ _ (λ x e. omega arith) l h
up_passes s (Some a) [] h q = absurd h
up_passes s (Some a) (x ∷ l) h q = passes_on s a x l (ends a) refl h q
