-- Lists of packets: which are lawful, what they ask for, and the same steps over another state.
use Rattle.std.specs.Prelude.{◌≡◌, ℕ, ◌<◌, List, [], ◌∷◌, Some, None, Option, refl}
use Rattle.std.proofs.Common.{sym, ap, subst, ◌∙◌, arith}
use Rattle.std.proofs.lemmas.Bool.Decides.{nat_tests}
use Rattle.std.specs.Option.{option_map}
use Rattle.traffic.specs.Arrivals.{Arrival, Steps, Taken, Lawful, demand, later}
use Rattle.traffic.specs.Curves.{Numbers}
use Rattle.traffic.specs.Laws.{TrafficLaws}

-- A mapped answer came from an answer.

mapped_from : {S W : Type 0} (i : S → W) (o : Option S) (x : W) → option_map i o ≡ Some x → (t : S) × (o ≡ Some t) × (i t ≡ x)
mapped_from i None x e = absurd (cc)
mapped_from i (Some t) x e = (t, refl, cc)

-- No packet is due before the allowance has passed.

pub no_demand : (d a t : ℕ) → t < d → (ps : List Arrival) → demand d a t ps ≡ 0
no_demand d a t h [] = refl
no_demand d a t h (p ∷ ps) = let rest = no_demand d a t h ps in grind (arith, nat_tests)

-- Steps that i carries into other steps take the same lists.

module _ {S W : Type 0} (i : S → W) (f : S → ℕ → ℕ → Option S) (g : W → ℕ → ℕ → Option W) (tie : (s : S) (a l : ℕ) → g (i s) a l ≡ option_map i (f s a l)) where
  taken_carried : (s : S) (a : ℕ) (ps : List Arrival) → Taken f s a ps → Taken g (i s) a ps
  taken_carried s a [] r = tt
  taken_carried s a (p ∷ ps) r = (i r.0, r.1, tie s p.slot p.len ∙ ap (option_map i) r.2, taken_carried r.0 p.slot ps r.3)

  taken_carried_back : (s : S) (a : ℕ) (ps : List Arrival) → Taken g (i s) a ps → Taken f s a ps
  taken_carried_back s a [] r = tt
  taken_carried_back s a (p ∷ ps) r =
      let x = mapped_from i (f s p.slot p.len) r.0 (sym (tie s p.slot p.len) ∙ r.2) in
      (x.0, r.1, x.1, taken_carried_back x.0 p.slot ps (subst (λ w. Taken g w p.slot ps) (sym x.2) r.3))

-- The laws of the lists speak of which lists are lawful, and of nothing else in the steps.

pub same_lawful_lists : {S W : Type 0} (n : Numbers) (m : Steps S) (m' : Steps W) → ((ps : List Arrival) → Lawful m ps → Lawful m' ps) → ((ps : List Arrival) → Lawful m' ps → Lawful m ps) → TrafficLaws n m → TrafficLaws n m'
same_lawful_lists n m m' to from laws = record {
  bounded = λ ps r. laws.bounded ps (from ps r);
  attained = λ t. let x = laws.attained t in (x.0, to x.0 x.1, x.2);
  movable = λ x ps r. to (later x ps) (laws.movable x ps (from ps r));
  lengths = λ ps r. laws.lengths ps (from ps r);
  one_longest = λ a. to (record { slot = a; len = n.longest } ∷ []) (laws.one_longest a);
}

pub laws_carried : {S W : Type 0} (n : Numbers) (i : S → W) (m : Steps S) (g : W → ℕ → ℕ → Option W) → ((s : S) (a l : ℕ) → g (i s) a l ≡ option_map i (m.step s a l)) → TrafficLaws n m → TrafficLaws n (record { fresh = i m.fresh; step = g })
laws_carried n i m g tie = same_lawful_lists n m (record { fresh = i m.fresh; step = g }) (taken_carried i m.step g tie m.fresh 0) (taken_carried_back i m.step g tie m.fresh 0)

pub laws_carried_back : {S W : Type 0} (n : Numbers) (i : S → W) (m : Steps S) (g : W → ℕ → ℕ → Option W) → ((s : S) (a l : ℕ) → g (i s) a l ≡ option_map i (m.step s a l)) → TrafficLaws n (record { fresh = i m.fresh; step = g }) → TrafficLaws n m
laws_carried_back n i m g tie = same_lawful_lists n (record { fresh = i m.fresh; step = g }) m (taken_carried_back i m.step g tie m.fresh 0) (taken_carried i m.step g tie m.fresh 0)
