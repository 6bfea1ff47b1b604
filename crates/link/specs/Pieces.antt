-- What piece answers: the bytes that the last granted tick carried.
use Rattle.std.specs.Prelude.{◌≡◌, ℕ, ◌+◌, ◌-◌, cond, List, length, take, drop, Some, None, Ok, Err, Option, Result, ◌==◌, nat_le}
use Rattle.std.specs.Borrow.{Bor}
use Rattle.refusals.specs.declared.Refusal.{Refusal}
use Rattle.refusals.specs.declared.Refusal.TheVariants.{Shut, NothingCarried, BeyondMemory}
use Rattle.link.specs.declared.state.Air.{Air}
use Rattle.link.specs.Model.{Model}
use Rattle.link.specs.Packets.{carried}

-- the part of a memory from one place up to another
abbrev pub part : List ℕ → ℕ → ℕ → List ℕ
part memory from to = take (to - from) (drop from memory)

-- the piece lies in the packet, which begins at its place; the whole packet must lie in the memory
abbrev pub piece_in : Air → List ℕ → Result (List ℕ) Refusal
piece_in a memory =
    cond (nat_le (a.place + a.bytes) (length memory))
    (Ok (part memory (a.place + carried a.bytes a.sent) (a.place + carried a.bytes (a.sent + 1))))
    (Err BeyondMemory)

-- the files' memory holds bulk packets, the mats' memory all others
abbrev pub piece_of : Option Air → List ℕ → List ℕ → Result (List ℕ) Refusal
piece_of None mats files = Err NothingCarried
piece_of (Some a) mats files = piece_in a (cond (a.mat == 0) files mats)

-- what piece answers
abbrev pub Pieces : {X S : Type 0} → Model X S → List ℕ → List ℕ → Result (List ℕ) Refusal → Type 0
Pieces m mats files r = r ≡ cond m.terms.shut (Err Shut) (piece_of m.last mats files)

-- an answered reference as the bytes behind it
abbrev pub seen : Result (Bor (List ℕ)) Refusal → Result (List ℕ) Refusal
seen (Ok bytes) = Ok bytes.now
seen (Err e) = Err e
