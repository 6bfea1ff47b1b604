-- What a row of a link has offered: as steps take it packet by packet, its jobs stay offers of its channel.
use Rattle.std.proofs.Common.{◌≡◌, ℕ, ◌+◌, ◌≤◌, List, [], ◌∷◌, ◌++◌, map, Some, Option, refl, arith}
use Rattle.std.specs.List.{AllByRecursion}
use Rattle.std.proofs.ByRecursion.{All-push}
use Rattle.std.proofs.lemmas.List.{map_push}
use Rattle.traffic.specs.Arrivals.{Arrival, Steps, Taken}
use Rattle.traffic.specs.Curves.{Numbers}
use Rattle.verdict.specs.Demand.{total}
use Rattle.schedule.specs.Arrivals.{packet, Offered, Offers, offered}
use Rattle.schedule.specs.Jobs.{Job, at}
use Rattle.schedule.proofs.Sums

-- from the state s, with no packet before slot a, the steps lead to the state t, with none after slot b
abbrev pub Leads : {S : Type 0} → (S → ℕ → ℕ → Option S) → S → ℕ → List Arrival → S → ℕ → Type 0
Leads step s a [] t b = (s ≡ t) × (a ≤ b)
Leads {S} step s a (p ∷ ps) t b = (u : S) × (a ≤ p.slot) × (step s p.slot p.len ≡ Some u) × Leads step u p.slot ps t b

module _ {S : Type 0} (step : S → ℕ → ℕ → Option S) where
  leads_taken : (s : S) (a : ℕ) (ps : List Arrival) (t : S) (b : ℕ) → Leads step s a ps t b → Taken step s a ps
  leads_taken s a [] t b h = tt
  leads_taken s a (p ∷ ps) t b (u, l, e, h) = (u, l, e, leads_taken u p.slot ps t b h)

  leads_later : (s : S) (a : ℕ) (ps : List Arrival) (t : S) (b c : ℕ) → b ≤ c → Leads step s a ps t b → Leads step s a ps t c
  leads_later s a [] t b c g h = (h.0, omega arith)
  leads_later s a (p ∷ ps) t b c g (u, l, e, h) = (u, l, e, leads_later u p.slot ps t b c g h)

  leads_on : (s : S) (a : ℕ) (ps : List Arrival) (t : S) (p : Arrival) (u : S) → step t p.slot p.len ≡ Some u → Leads step s a ps t p.slot → Leads step s a (ps ++ p ∷ []) u p.slot
  leads_on s a [] t p u e h = (u, h.1, rw h.0 e, (refl, omega arith))
  leads_on s a (x ∷ ps) t p u e (v, l, d, h) = (v, l, d, leads_on v x.slot ps t p u e h)

-- the row's state is now, and its jobs came up to slot s
pub record Row {S : Type 0} (n : Numbers) (m : Steps S) (now : S) (s : ℕ) (js : List Job) : Type 0 where
  pub leads : Leads m.step m.fresh 0 (map packet js) now s
  pub due : AllByRecursion (λ j. j.due ≡ at (j.arrival + n.allowance)) js

module _ {S : Type 0} (n : Numbers) (m : Steps S) where
  pub row_offered : (now : S) (s : ℕ) (js : List Job) → Row n m now s js → Offered n m js
  row_offered now s js r = record { lawful = leads_taken m.step m.fresh 0 (map packet js) now s r.leads; due = r.due }

  -- a row that has offered nothing
  pub row_fresh : (s : ℕ) → Row n m m.fresh s []
  row_fresh s = record { leads = (refl, omega arith); due = tt }

  pub row_later : (now : S) (s s' : ℕ) (js : List Job) → s ≤ s' → Row n m now s js → Row n m now s' js
  row_later now s s' js l r = record { leads = leads_later m.step m.fresh 0 (map packet js) now s s' l r.leads; due = r.due }

  -- it offers one more job, which the step takes
  pub row_offers : (now after : S) (js : List Job) (j : Job) → m.step now j.arrival j.slots ≡ Some after → j.due ≡ at (j.arrival + n.allowance) → Row n m now j.arrival js → Row n m after j.arrival (js ++ j ∷ [])
  row_offers now after js j e d r = record {
    leads = rw (map_push packet js j) (leads_on m.step m.fresh 0 (map packet js) now (packet j) after e r.leads);
    due = All-push _ js j r.due d;
  }

-- the offers of several rows together
pub rows_offer : {K S R : Type 0} (numbers : K → Numbers) (steps : K → Steps S) (kind : R → K) (past : R → List Job) (rs : List R) → AllByRecursion (λ r. Offered (numbers (kind r)) (steps (kind r)) (past r)) rs →
    (o : Offers numbers steps (map kind rs)) × ((f : Job → ℕ) → total f (offered numbers steps (map kind rs) o) ≡ total (λ r. total f (past r)) rs)
rows_offer numbers steps kind past [] h = (tt, λ f. refl)
rows_offer numbers steps kind past (r ∷ rs) h =
    let (o, e) = rows_offer numbers steps kind past rs h.1 in
    ((past r, h.0, o), λ f. omega (arith, Sums.total-append f (past r) (offered numbers steps (map kind rs) o), e f))
