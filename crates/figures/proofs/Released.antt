-- The release, call by call.
use Rattle.std.proofs.Common.{◌≡◌, ℕ, zero, suc, List, [], ◌∷◌, ◌++◌, Some, None, Ok, Err, Result, sym, refl, subst, inl, inr, arith}
use Rattle.std.specs.Option.{option_map}
use Rattle.std.specs.List.Sorted.{IsPermutation}
use Rattle.std.proofs.lemmas.List.Sorted.{IsPermutation-refl, IsPermutation-sym, IsPermutation-to_front}
use Rattle.traffic.specs.declared.Row.{Row}
use Rattle.pool.specs.Elements.{First}
use Rattle.verdict.specs.Judged.{Judged}
use Rattle.verdict.specs.declared.Unfit.TheVariants.{Late as Fails}
use Rattle.link.specs.History.{Call, opening, hold, confirm, release, offer, tick, offered, ticked}
use Rattle.link.specs.Model.{with_rows, on_row}
use Rattle.link.specs.Packets.{packet_before, begun, begun_bulk, told}
use Rattle.link.specs.Rows.{changed}
use Rattle.link.specs.Sending.{Offered, offer_outcome, queued}
use Rattle.link.specs.Ticking.{Ticked, Begins, tick_cause, going, quiet, passed}
use Rattle.refusals.specs.declared.Refusal.{Refusal}
use Rattle.refusals.specs.declared.Refusal.TheVariants.{Late}
use Rattle.link.specs.declared.state.Packet.{Packet}
use Rattle.figures.specs.Answers.{Link, Leads, start}
use Rattle.figures.specs.Kinds.{Kind, State, S, numbers, limits, steps}
use Rattle.figures.specs.Release.{Release, hold_for}
use Rattle.figures.proofs.Links.{granting, refusing, late_on, granted_on}
use Rattle.figures.proofs.Reached.{joins, there, counting}

-- an accepted packet waits behind the others
accepts : {s m : Link} {cs : List (Call Kind)} → Leads s cs m → (mat place bytes : ℕ) {i : ℕ} {w : Row Kind State} {p : Packet} → offer_outcome numbers limits steps m mat place bytes ≡ Ok (i, w, p) →
    Leads s (offered mat place bytes (Ok tt) ∷ cs) (with_rows (queued m (m.waiting ++ p ∷ [])) (changed (on_row w) i m.rows))
accepts {m = m} h mat place bytes {i} {w} {p} is =
    offer mat place bytes (Ok tt) h
    (subst (λ (x : Result (ℕ × Row Kind State × Packet) Refusal). Offered x m (Ok tt) (with_rows (queued m (m.waiting ++ p ∷ [])) (changed (on_row w) i m.rows))) (sym is)
    (refl, IsPermutation-sym _ _ (IsPermutation-to_front m.waiting p), refl))

-- the packet that waits before all others goes on the air
begins : {s m : Link} {cs : List (Call Kind)} → Leads s cs m → {p : Packet} {ps : List Packet} → tick_cause m ≡ None → m.air ≡ None → m.waiting ≡ p ∷ ps → First packet_before p (p ∷ ps) →
    Leads s (ticked (Ok (Some (told (begun p)))) ∷ cs) (passed (going m p ps))
begins {m = m} h {p} {ps} none idle waiting first =
    tick (Ok (Some (told (begun p)))) h
    (subst (λ x. Ticked x m (Ok (Some (told (begun p)))) (passed (going m p ps))) (sym none) (going m p ps, subst (λ x. Begins x m (going m p ps)) (sym idle) (inr (p, goes, stays, refl)), refl, refl))
  where
    goes : First packet_before p m.waiting
    goes = subst (First packet_before p) (sym waiting) first

    stays : IsPermutation m.waiting (p ∷ ps)
    stays = subst (λ qs. IsPermutation qs (p ∷ ps)) (sym waiting) (IsPermutation-refl (p ∷ ps))

-- nothing waits, so that the slot is quiet
rests : {s m : Link} {cs : List (Call Kind)} → Leads s cs m → tick_cause m ≡ None → m.air ≡ None → m.waiting ≡ [] →
    Leads s (ticked (Ok (option_map told (begun_bulk m.bulk))) ∷ cs) (passed (quiet m))
rests {m = m} h none idle empty =
    tick (Ok (option_map told (begun_bulk m.bulk))) h
    (subst (λ x. Ticked x m (Ok (option_map told (begun_bulk m.bulk))) (passed (quiet m))) (sym none) (quiet m, subst (λ x. Begins x m (quiet m)) (sym idle) (inl (empty, refl)), refl, refl))

-- the packets of mats 1 and 2
abbrev first_packet : Packet
first_packet = record { due = 9; mat = 1; count = 0; place = 0; bytes = 160 }

abbrev second_packet : Packet
second_packet = record { due = 14; mat = 2; count = 1; place = 0; bytes = 160 }

first_goes : First packet_before first_packet (first_packet ∷ second_packet ∷ [])
first_goes zero _ _ = refl
first_goes (suc zero) _ _ = refl
first_goes (suc (suc k)) _ l = absurd (omega arith)

second_goes : First packet_before second_packet (second_packet ∷ [])
second_goes zero _ _ = refl
second_goes (suc k) _ l = absurd (omega arith)

after_grants : (c d e : ℕ) → Judged numbers limits 5 4 (S 20 5 9 ∷ []) (Ok c) → Judged numbers limits 5 4 (S 20 5 9 ∷ S 20 5 14 ∷ []) (Ok d) → Judged numbers limits 5 4 (S 20 5 14 ∷ S 20 5 9 ∷ []) (Ok e) → Release
after_grants c d e first second third =
    let none : Leads (start 5) [] (start 5) = opening in
    let one = confirm (hold_for 1) (Ok tt) (joins none 1 (S 20 5 9) 0 c refl (_, refl, refl) first) (refl, refl) in
    let two = confirm (hold_for 2) (Ok tt) (joins one 2 (S 20 5 14) 1 d refl (_, refl, refl) second) (refl, refl) in
    let offers = accepts (accepts two 1 0 160 refl) 2 0 160 refl in
    let at_1 = begins offers refl refl refl first_goes in
    let at-2 = tick _ at_1 (_, refl, refl, refl) in
    let at-3 = tick _ at-2 (_, refl, refl, refl) in
    let at-4 = tick _ at-3 (_, refl, refl, refl) in
    let at_5 = release 1 (Ok tt) (tick _ at-4 (_, refl, refl, refl)) (refl, refl) in
    let refused = hold 3 (S 20 5 9) (Err (Late 9 1)) at_5 (Err (Fails 9 1), refusing 5 (S 20 5 9 ∷ S 20 5 14 ∷ []) (S 20 5 9) 4 (omega arith) 9 1 refl, (refl, refl)) in
    let at-6 = begins refused refl refl refl second_goes in
    let at_7 = tick _ at-6 (_, refl, refl, refl) in
    let at_8 = tick _ at_7 (_, refl, refl, refl) in
    let at_9 = tick _ at_8 (_, refl, refl, refl) in
    let at-10 = tick _ at_9 (_, refl, refl, refl) in
    let at_11 = rests at-10 refl refl refl in
    let again = joins at_11 1 (S 20 5 9) 0 e refl (_, refl, refl) third in
    record {
      first_count = c;
      second_count = d;
      at_5 = there at_5;
      leads_to_5 = at_5;
      clock_5 = refl;
      late_at_5 = late_on 5 (S 20 5 9 ∷ S 20 5 14 ∷ []) (S 20 5 9) 9 1 refl (there at_5) (counting 5 (there at_5) refl) 3 refl;
      at_11 = there at_11;
      leads_to_11 = at_11;
      clock_11 = refl;
      granted_at_11 = granted_on 5 (S 20 5 14 ∷ []) (S 20 5 9) 17 refl (there at_11) (counting 5 (there at_11) refl) 3 refl;
      third_count = e;
      again = there again;
      leads_again = again;
    }

pub released : Release
released =
    let (c, first) = granting 5 4 (omega arith) 9 (S 20 5 9 ∷ []) refl in
    let (d, second) = granting 5 4 (omega arith) 17 (S 20 5 9 ∷ S 20 5 14 ∷ []) refl in
    let (e, third) = granting 5 4 (omega arith) 17 (S 20 5 14 ∷ S 20 5 9 ∷ []) refl in
    after_grants c d e first second third
