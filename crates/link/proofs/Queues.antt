-- The waiting packets of one mat, as a queue in the order of their offers: one joins at its end, and its first is the first to go.
use Rattle.std.proofs.Common.{◌≡◌, ℕ, zero, suc, ◌+◌, ◌<◌, ◌≤◌, Bool, true, false, cond, ◌&&◌, ◌||◌, eqb, ltb, leb, ◌⊎◌, List, [], ◌∷◌, ◌++◌, Some, sym, refl, ◌∙◌, ap₂, inl, inr, arith}
use Rattle.std.specs.List.{slice_get, AllZip, AllByRecursion}
use Rattle.std.specs.List.Sorted.{IsPermutation}
use Rattle.std.proofs.lemmas.List.Elements.{AllZip-push}
use Rattle.std.proofs.ByRecursion.{All-from_get_or, All-push, All-weaker}
use Rattle.std.proofs.lemmas.Bool.{and_parts, cond-true, cond-false, eq-eqb, leb-true, ne_eqb}
use Rattle.std.proofs.lemmas.Bool.Decides.{nat_tests}
use Rattle.verdict.specs.Demand.{total}
use Rattle.schedule.proofs.Sums.{total-shuffled, total-append, total-none, none_total}
use Rattle.pool.specs.Elements.{First}
use Rattle.link.specs.declared.state.Packet.{Packet}
use Rattle.link.specs.Packets.{packet_before}

-- what a packet weighs for this mat: those of other mats weigh nothing
abbrev pub weight : ℕ → (ℕ → ℕ → ℕ) → Packet → ℕ
weight mat g p = cond (eqb p.mat mat) (g p.due p.count) 0

-- the waiting packets of the mat are those of the queue (due slot and offer count of each, in the order of offers), however they are weighed
abbrev pub Waits : ℕ → List Packet → List (ℕ × ℕ) → Type 0
Waits mat ps queue = (g : ℕ → ℕ → ℕ) → total (weight mat g) ps ≡ total (λ x. g x.0 x.1) queue

-- due slots do not fall, and offer counts rise
abbrev pub Ordered : List (ℕ × ℕ) → Type 0
Ordered [] = Unit {0}
Ordered (x ∷ xs) = AllByRecursion (λ y. (x.0 ≤ y.0) × (x.1 < y.1)) xs × Ordered xs

-- as many ends as due slots, each end by its due slot
abbrev pub InTime : List ℕ → List ℕ → Type 0
InTime dues ends = AllZip (λ due end. end ≤ due) dues ends

pub ordered_push : (queue : List (ℕ × ℕ)) (d c : ℕ) → Ordered queue → AllByRecursion (λ y. (y.0 ≤ d) × (y.1 < c)) queue → Ordered (queue ++ (d, c) ∷ [])
ordered_push [] d c o all = (tt, tt)
ordered_push (x ∷ xs) d c o all = (All-push (λ y. (x.0 ≤ y.0) × (x.1 < y.1)) xs (d, c) o.0 all.0, ordered_push xs d c o.1 all.1)

pub in_time_push : (ds es : List ℕ) (d e : ℕ) → InTime ds es → e ≤ d → InTime (ds ++ d ∷ []) (es ++ e ∷ [])
in_time_push ds es d e h le = AllZip-push (λ due end. end ≤ due) ds es d e h le

-- the due slots past the ends are ahead
ahead : (s : ℕ) (later : List ℕ) → AllByRecursion (λ d. s < d) later → (n due : ℕ) → slice_get later n ≡ Some due → s < due
ahead s [] all n due h = cc
ahead s (d ∷ later) all zero due h = let is : d ≡ due = cc in omega arith
ahead s (d ∷ later) all (suc n) due h = ahead s later all.1 n due h

-- each due slot has its end in time, or is ahead
pub read_off : (s : ℕ) (ds later es : List ℕ) → InTime ds es → AllByRecursion (λ d. s < d) later → (n due : ℕ) → slice_get (ds ++ later) n ≡ Some due →
    ((end : ℕ) × (slice_get es n ≡ Some end) × (end ≤ due)) ⊎ (s < due)
read_off s [] later [] t all n due h = inr (ahead s later all n due h)
read_off s [] later (e ∷ es) t all n due h = absurd t
read_off s (d ∷ ds) later [] t all n due h = absurd t
read_off s (d ∷ ds) later (e ∷ es) t all zero due h = let is : d ≡ due = cc in inl (e, refl, omega arith)
read_off s (d ∷ ds) later (e ∷ es) t all (suc n) due h = read_off s ds later es t.1 all n due h

-- what a test weighs: nothing where it passes
abbrev failing : Bool → ℕ
failing passes = cond passes 0 1

failing_none : (passes : Bool) → failing passes ≡ 0 → passes ≡ true
failing_none true e = refl
failing_none false e = absurd (omega arith)

-- a due slot and count after or at those of a packet
abbrev not_before : ℕ → ℕ → ℕ → ℕ → Bool
not_before due count d c = ltb due d || (eqb due d && leb count c)

not_before_reads : (due count d c : ℕ) → not_before due count d c ≡ true → (due ≤ d) × (due ≡ d → count ≤ c)
not_before_reads due count d c h = (grind (arith, nat_tests), λ e. grind (arith, nat_tests))

first_reads : (y p : Packet) → packet_before y p ≡ false → y.mat ≡ p.mat → not_before p.due p.count y.due y.count ≡ true
first_reads y p h e = grind (arith, nat_tests)

module _ (mat : ℕ) where
  pub waits_none : Waits mat [] []
  waits_none g = refl

  own : (p : Packet) → p.mat ≡ mat → (g : ℕ → ℕ → ℕ) → weight mat g p ≡ g p.due p.count
  own p is g = cond-true (eqb p.mat mat) _ _ (eq-eqb p.mat mat is)

  other : (p : Packet) → (p.mat ≡ mat → ⊥) → (g : ℕ → ℕ → ℕ) → weight mat g p ≡ 0
  other p differs g = cond-false (eqb p.mat mat) (g p.due p.count) 0 (ne_eqb p.mat mat differs)

  module _ (p : Packet) (ps qs : List Packet) (queue : List (ℕ × ℕ)) where
    -- a packet of the mat joins at the end
    pub waits_joins : IsPermutation (p ∷ ps) qs → p.mat ≡ mat → Waits mat ps queue → Waits mat qs (queue ++ (p.due, p.count) ∷ [])
    waits_joins same is waits g =
        omega (arith, total-shuffled (weight mat g) (p ∷ ps) qs same, own p is g, waits g, total-append (λ x. g x.0 x.1) queue ((p.due, p.count) ∷ []))

    pub waits_other_joins : IsPermutation (p ∷ ps) qs → (p.mat ≡ mat → ⊥) → Waits mat ps queue → Waits mat qs queue
    waits_other_joins same differs waits g = omega (arith, total-shuffled (weight mat g) (p ∷ ps) qs same, other p differs g, waits g)

    pub waits_other_goes : IsPermutation ps (p ∷ qs) → (p.mat ≡ mat → ⊥) → Waits mat ps queue → Waits mat qs queue
    waits_other_goes same differs waits g = omega (arith, total-shuffled (weight mat g) ps (p ∷ qs) same, other p differs g, waits g)

    -- a packet of the mat goes: the queue weighs more by what the packet weighs
    lighter : IsPermutation ps (p ∷ qs) → p.mat ≡ mat → Waits mat ps queue → (g : ℕ → ℕ → ℕ) → g p.due p.count + total (weight mat g) qs ≡ total (λ x. g x.0 x.1) queue
    lighter same is waits g = omega (arith, total-shuffled (weight mat g) ps (p ∷ qs) same, own p is g, waits g)

  -- a test that each packet of the mat passes, each of the queue passes
  pub waits_each : (ps : List Packet) (queue : List (ℕ × ℕ)) (P : ℕ → ℕ → Bool) → AllByRecursion (λ p. p.mat ≡ mat → P p.due p.count ≡ true) ps →
      Waits mat ps queue → AllByRecursion (λ x. P x.0 x.1 ≡ true) queue
  waits_each ps queue P each waits =
      let fails : ℕ → ℕ → ℕ = λ d c. failing (P d c) in
      let light = All-weaker (λ p. p.mat ≡ mat → P p.due p.count ≡ true) (λ p. weight mat fails p ≡ 0) (λ p passes. grind (arith, nat_tests)) ps each in
      let none : total (λ x. fails x.0 x.1) queue ≡ 0 = sym (waits fails) ∙ total-none (weight mat fails) ps light in
      All-weaker (λ x. fails x.0 x.1 ≡ 0) (λ x. P x.0 x.1 ≡ true) (λ x e. failing_none (P x.0 x.1) e) queue (none_total (λ x. fails x.0 x.1) queue none)

  module _ (p : Packet) (ps qs : List Packet) where
    -- the first of all that wait has neither a later due slot nor, among equal ones, a larger count than what heads the queue
    no_later : (d c : ℕ) (rest : List (ℕ × ℕ)) → First packet_before p ps → p.mat ≡ mat → Waits mat ps ((d, c) ∷ rest) → (p.due ≤ d) × (p.due ≡ d → p.count ≤ c)
    no_later d c rest first is waits =
        let none_before : AllByRecursion (λ y. packet_before y p ≡ false) ps = All-from_get_or (λ y. packet_before y p ≡ false) ps p (λ k l. first k p l) in
        let each = All-weaker (λ y. packet_before y p ≡ false) (λ y. y.mat ≡ mat → not_before p.due p.count y.due y.count ≡ true) (λ y h e. first_reads y p h (e ∙ sym is)) ps none_before in
        not_before_reads p.due p.count d c (waits_each ps ((d, c) ∷ rest) (not_before p.due p.count) each waits).0

    -- and neither a sooner due slot nor a smaller count
    no_sooner : (d c : ℕ) (rest : List (ℕ × ℕ)) → IsPermutation ps (p ∷ qs) → p.mat ≡ mat → Waits mat ps ((d, c) ∷ rest) → Ordered ((d, c) ∷ rest) → (d ≤ p.due) × (c ≤ p.count)
    no_sooner d c rest same is waits ordered =
        let fails : ℕ → ℕ → ℕ = λ e n. failing (leb d e && leb c n) in
        let each = All-weaker (λ y. (d ≤ y.0) × (c < y.1)) (λ x. fails x.0 x.1 ≡ 0) (λ x h. let low = h.0 in let less = h.1 in grind (arith, nat_tests)) rest ordered.0 in
        let none : total (λ x. fails x.0 x.1) rest ≡ 0 = total-none (λ x. fails x.0 x.1) rest each in
        let itself : fails d c ≡ 0 = grind (arith, nat_tests) in
        let passes = and_parts (leb d p.due) (leb c p.count) (failing_none _ (omega (arith, lighter p ps qs ((d, c) ∷ rest) same is waits fails))) in
        (leb-true d p.due passes.0, leb-true c p.count passes.1)

    -- the first to go of all that wait, if it is of the mat, is the first of the queue
    pub waits_goes : (queue : List (ℕ × ℕ)) → First packet_before p ps → IsPermutation ps (p ∷ qs) → p.mat ≡ mat → Waits mat ps queue → Ordered queue →
        (rest : List (ℕ × ℕ)) × (queue ≡ (p.due, p.count) ∷ rest) × Waits mat qs rest × Ordered rest
    waits_goes [] first same is waits ordered = absurd (omega (arith, lighter p ps qs [] same is waits (λ d c. 1)))
    waits_goes ((d, c) ∷ rest) first same is waits ordered =
        let low = no_later d c rest first is waits in
        let high = no_sooner d c rest same is waits ordered in
        let due : d ≡ p.due = omega arith in
        let count : c ≡ p.count = omega (arith, low.1 (sym due)) in (
          rest,
          ap₂ (λ (e n : ℕ). (e, n) ∷ rest) due count,
          λ g. omega (arith, lighter p ps qs ((d, c) ∷ rest) same is waits g, ap₂ g due count),
          ordered.1,
        )
