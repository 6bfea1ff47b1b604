-- The worked lists, and the kind that takes nothing.
use Rattle.std.proofs.Common.{◌≡◌, ℕ, List, [], ◌∷◌, Some, None, Option, refl, subst, arith}
use Rattle.traffic.specs.Arrivals.{Arrival, Taken, demand}
use Rattle.traffic.specs.Bucket.{bucket_step}
use Rattle.traffic.specs.Examples.{packet, Examples, IdleShutOut}
use Rattle.traffic.specs.Spaced.{spaced_step}

-- A refused packet, and a taken one, in front of a list.

refused_first : {S : Type 0} (step : S → ℕ → ℕ → Option S) (s : S) (a : ℕ) (p : Arrival) (ps : List Arrival) → step s p.slot p.len ≡ None → Taken step s a (p ∷ ps) → ⊥
refused_first step s a p ps e r = let h = r.2 in cc

taken_first : {S : Type 0} (step : S → ℕ → ℕ → Option S) (s t : S) (a : ℕ) (p : Arrival) (ps : List Arrival) → step s p.slot p.len ≡ Some t → Taken step s a (p ∷ ps) → Taken step t p.slot ps
taken_first step s t a p ps e r = let h = r.2 in let same : r.0 ≡ t = cc in subst (λ x. Taken step x p.slot ps) same r.3

pub worked : Examples
worked = record {
  spaced_within = refl;
  spaced_lawful = (Some 3, omega arith, refl, (Some 13, omega arith, refl, (Some 30, omega arith, refl, tt)));
  spaced_at_5 = (refl, refl);
  spaced_at_15 = (refl, refl);
  spaced_at_32 = (refl, refl);
  spaced_refused = λ r. refused_first (spaced_step 10 2) (Some 3) 3 (packet 12 2) [] refl (taken_first (spaced_step 10 2) None (Some 3) 0 (packet 3 2) (packet 12 2 ∷ []) refl r);
  bucket_within = refl;
  bucket_lawful = (14, omega arith, refl, (24, omega arith, refl, (34, omega arith, refl, (44, omega arith, refl, tt))));
  bucket_at_8 = (refl, refl);
  bucket_at_9 = (refl, refl);
  bucket_at_19 = (refl, refl);
  bucket_refused = λ r.
      let step = bucket_step 10 2 3 in
      let one = taken_first step 0 14 0 (packet 4 2) (packet 4 2 ∷ packet 4 2 ∷ packet 13 1 ∷ []) refl r in
      let two = taken_first step 14 24 4 (packet 4 2) (packet 4 2 ∷ packet 13 1 ∷ []) refl one in
      let three = taken_first step 24 34 4 (packet 4 2) (packet 13 1 ∷ []) refl two in
      refused_first step 34 4 (packet 13 1) [] refl three;
}

-- Only the empty list would be lawful, and it asks for nothing where the curve allows a packet.

pub idle_shut_out_lem : (S : Type 0) → IdleShutOut S
idle_shut_out_lem S p n m idle shaped laws = let list = laws.attained n.allowance in meets_nothing list.0 list.1 (list.2 n.allowance (omega arith))
  where
    meets_nothing : (ps : List Arrival) → Taken m.step m.fresh 0 ps → demand n.allowance 0 n.allowance ps ≡ n.curve n.allowance → ⊥
    meets_nothing [] r e = omega (arith, shaped.longest_least, shaped.starts)
    meets_nothing (p ∷ ps) r e = refused_first m.step m.fresh 0 p ps (idle m.fresh p.slot p.len) r
