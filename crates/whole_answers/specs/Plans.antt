-- Which calls of the link a plan makes, with their answers, after those made before (cs); the newest stands first.
use Rattle.std.specs.Prelude.{◌≡◌, ℕ, ◌+◌, ◌<◌, Bool, true, false, List, [], ◌∷◌, ◌++◌, Ok, Err, Option, Result}
use Rattle.plan.specs.Format.{Script}
use Rattle.plan.specs.declared.Call.{Call}
use Rattle.plan.specs.declared.Call.TheVariants.{Offer, Bulk, Ticks, Release}
use Rattle.plan.specs.declared.Channel.{Channel}
use Rattle.link.specs.History.{held, confirmed, released, offered, bulked, ticked}
use Rattle.refusals.specs.declared.Refusal.{Refusal}
use Rattle.link.specs.declared.state.Hold.{Hold}
use Rattle.link.specs.declared.state.Sent.{Sent}
use Rattle.whole_answers.specs.Kinds.{LinkCall}

-- the calls that join a channel: it is held, and a granted hold is confirmed at once, which is never refused
abbrev pub joining : Channel → Result (Hold × ℕ) Refusal → List LinkCall → List LinkCall
joining c (Err e) cs = held c.mat c.kind (Err e) ∷ cs
joining c (Ok (h, count)) cs = confirmed h (Ok tt) ∷ held c.mat c.kind (Ok (h, count)) ∷ cs

-- a channel is joined, whatever the answer
abbrev pub Join : Channel → List LinkCall → List LinkCall → Type 0
Join c cs ds = (r : Result (Hold × ℕ) Refusal) × (ds ≡ joining c r cs)

-- so many slots pass
pub data Pass (cs : List LinkCall) : ℕ → List LinkCall → Type 0 where
  none : Pass cs 0 cs
  one_more : {n : ℕ} {ds : List LinkCall} → Pass cs n ds → (carried : Option Sent) → Pass cs (n + 1) (ticked (Ok carried) ∷ ds)

-- so many ticks: their slots pass, or fewer do and then a tick is refused, which is the last
pub data Tick (n : ℕ) (cs : List LinkCall) : List LinkCall → Type 0 where
  all : {ds : List LinkCall} → Pass cs n ds → Tick n cs ds
  stopped : {m : ℕ} {ds : List LinkCall} → m < n → Pass cs m ds → (e : Refusal) → Tick n cs (ticked (Err e) ∷ ds)

-- a call of the plan; packets stand at place 0
abbrev pub Make : Call → List LinkCall → List LinkCall → Type 0
Make (Offer mat bytes) cs ds = (r : Result (Unit {0}) Refusal) × (ds ≡ offered mat 0 bytes r ∷ cs)
Make (Bulk bytes) cs ds = (r : Result (Unit {0}) Refusal) × (ds ≡ bulked 0 bytes r ∷ cs)
Make (Release mat) cs ds = (r : Result (Unit {0}) Refusal) × (ds ≡ released mat r ∷ cs)
Make (Ticks n) cs ds = Tick n cs ds

-- a step for each of these, in turn
pub data InTurn {X : Type 0} (Step : X → List LinkCall → List LinkCall → Type 0) (cs : List LinkCall) : List X → List LinkCall → Type 0 where
  begin : InTurn Step cs [] cs
  next : {xs : List X} {ds es : List LinkCall} → InTurn Step cs xs ds → (x : X) → Step x ds es → InTurn Step cs (xs ++ x ∷ []) es

-- the calls of a plan: its channels are joined, and then its calls are made; none where the link opened shut
abbrev pub PlanCalls : Bool → Script → List LinkCall → Type 0
PlanCalls true s cs = cs ≡ []
PlanCalls false s cs = (js : List LinkCall) × InTurn Join [] s.channels js × InTurn Make js s.calls cs
