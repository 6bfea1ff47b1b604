-- The answer to a text, by the steps that read it.
use Rattle.std.proofs.Common.{◌≡◌, ℕ, ◌≤◌, List, [], ◌∷◌, ◌++◌, length, take, IsErrAnd, Ok, Err, vec_items, decimal, Result, sym, ap, ◌∙◌, subst, inr, append-nil, arith}
use Rattle.std.proofs.lemmas.List.{length-append, length-map}
use Rattle.plan.specs.Format.{section, cut, FitSection}
use Rattle.plan.specs.Lines.{line, longest_words, channel_words, channel_mats, call_words, call_mats, Number}
use Rattle.plan.specs.Reading.{Read, StopsAt}
use Rattle.plan.specs.Steps.{Fails}
use Rattle.plan.specs.declared.Fault.{Fault}
use Rattle.plan.specs.declared.Fault.TheVariants.{Malformed, NoMemory}
use Rattle.plan.specs.declared.Plan.{Plan}
use Rattle.plan.specs.declared.entries.Longest.{Longest}
use Rattle.plan.proofs.Broken.{fault_passed}
use Rattle.plan.proofs.Cuts.{length-cut_le}
use Rattle.plan.proofs.Stops.{Opened, stops_at_longest}

module _ (bytes : List ℕ) (short : length bytes ≤ 16384) where
  pub read_stopped : (sec : ℕ) {s l n : ℕ} → s ≡ sec → l ≡ n → StopsAt (cut bytes) (sec, n) → Read bytes (Err (Malformed s l))
  read_stopped sec p q h = inr (short, subst (StopsAt (cut bytes)) (sym (λ i. (p i, q i))) h)

  -- a step of this section failed
  pub read_failed : (r : Result Plan Fault) (e : Fault) → IsErrAnd r (λ y. y ≡ e) → (here sec : ℕ) (P : ℕ → Type 0) → here ≡ sec → ((l : ℕ) → P l → StopsAt (cut bytes) (sec, l)) → Fails e here P → Read bytes r
  read_failed r e passed here sec P same stops failed = subst (Read bytes) (sym (fault_passed r e passed)) (by_fault e failed)
    where
      by_fault : (e : Fault) → Fails e here P → Read bytes (Err e)
      by_fault (Malformed s l) (p, h) = inr (short, subst (λ n. StopsAt (cut bytes) (n, l)) (sym (p ∙ same)) (stops l h))
      by_fault NoMemory h = short

module _ {ls r1 : List (List ℕ)} {n : ℕ} (counted : Number n × (ls ≡ decimal n ∷ r1)) (one : n ≡ 1) where
  only_one : ls ≡ decimal 1 ∷ r1
  only_one = counted.1 ∙ ap (λ k. decimal k ∷ r1) one

  pub opened : {x : Longest} {r2 : List (List ℕ)} → ((Number x.slots × Unit {0}) × Unit {0}) × (r1 ≡ line (longest_words x.slots) ∷ r2) → Opened ls x.slots r2
  opened {x} {r2} (fit, e) = record { small = fit.0.0; split = only_one ∙ ap (λ r. decimal 1 ∷ r) e }

  pub stops_without_longest : (l : ℕ) → (l ≡ 1) × ((x : Longest) → ((Number x.slots × Unit {0}) × Unit {0}) → take 1 r1 ≡ line (longest_words x.slots) ∷ [] → ⊥) → StopsAt ls (1, l)
  stops_without_longest l (at, lacks) =
      subst (λ k. StopsAt ls (1, k)) (sym at) (stops_at_longest ls r1 only_one (λ k small. lacks (record { slots = k }) ((small, tt), tt)))

-- All sections of a text are read, and this is what follows them.
module _ (bytes : List ℕ) (short : length bytes ≤ 16384) (p : Plan) {r2 r3 : List (List ℕ)} (r4 : List (List ℕ)) (first : Opened (cut bytes) p.longest r2) (cs : FitSection channel_words channel_mats (vec_items p.channels) × (r2 ≡ section channel_words (vec_items p.channels) ++ r3)) (ks : FitSection call_words call_mats (vec_items p.calls) × (r3 ≡ section call_words (vec_items p.calls) ++ r4)) where
  all_split : cut bytes ≡ decimal 1 ∷ line (longest_words p.longest) ∷ (section channel_words (vec_items p.channels) ++ (section call_words (vec_items p.calls) ++ r4))
  all_split = first.split ∙ ap (λ r. decimal 1 ∷ line (longest_words p.longest) ∷ r) (cs.1 ∙ ap (λ r. section channel_words (vec_items p.channels) ++ r) ks.1)

  pub read_whole : r4 ≡ [] → Read bytes (Ok p)
  read_whole end = (
    short,
    record { longest = first.small; channels = cs.0; calls = ks.0 },
    all_split ∙ ap (λ r. decimal 1 ∷ line (longest_words p.longest) ∷ (section channel_words (vec_items p.channels) ++ r)) (ap (λ r. section call_words (vec_items p.calls) ++ r) end ∙ append-nil (section call_words (vec_items p.calls))),
  )

  pub calls_few : length (vec_items p.calls) ≤ 16384
  calls_few =
      let cl = section channel_words (vec_items p.channels) in
      let kl = section call_words (vec_items p.calls) in
      omega (arith, short, length-cut_le bytes, ap length all_split, length-append cl (kl ++ r4), length-append kl r4, length-map (vec_items p.calls) (λ x. line (call_words x)))
