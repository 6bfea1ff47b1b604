-- Links that are reached by holds.
use Rattle.std.proofs.Common.{◌≡◌, ℕ, Bool, true, not, ◌&&◌, eqb, leb, List, [], ◌∷◌, ◌++◌, length, Ok, Option, sym, refl, subst, arith}
use Rattle.std.proofs.lemmas.Bool.{not-true, and_parts, eqb-true, leb-true}
use Rattle.verdict.specs.Judged.{Judged}
use Rattle.link.specs.History.{Call, opening, hold, held}
use Rattle.link.specs.Holding.{Vacant, HeldOr, hold_of, filled}
use Rattle.link.specs.Model.{channels}
use Rattle.refusals.specs.declared.Refusal.{Refusal}
use Rattle.figures.specs.Answers.{Link, Judges, Counting, Leads, Reached, start}
use Rattle.figures.specs.Figures.{one, two, three}
use Rattle.figures.specs.Kinds.{Kind, S, numbers, limits, steps}
use Rattle.figures.proofs.Links.{granting}

-- a granted hold takes any free row
pub joins : {s m : Link} {cs : List (Call Kind)} → Leads s cs m → (mat : ℕ) (k : Kind) (i count : ℕ) → Judges m mat k → Vacant m i →
    Judged numbers limits m.terms.longest (length m.rows) (channels m.rows ++ k ∷ []) (Ok count) →
    Leads s (held mat k (Ok (hold_of m mat, count)) ∷ cs) (filled m i mat (record { kind = k; state = (steps k).fresh }))
joins {m = m} h mat k i count none vacant judged =
    hold mat k (Ok (hold_of m mat, count)) h
    (subst (λ (x : Option Refusal). HeldOr numbers limits steps x m mat k (Ok (hold_of m mat, count)) (filled m i mat (record { kind = k; state = (steps k).fresh }))) (sym none)
    (Ok count, judged, (i, vacant, refl, refl)))

-- the link that calls lead to
abbrev pub there : {s m : Link} {cs : List (Call Kind)} → Leads s cs m → Link
there {m = m} h = m

-- it is open, and has that longest packet and that few rows
abbrev open_test : ℕ → Link → Bool
open_test p m = not m.terms.shut && (eqb m.terms.longest p && leb (length m.rows) 32)

pub counting : (p : ℕ) (m : Link) → open_test p m ≡ true → Counting p (channels m.rows) m
counting p m h =
    let a = and_parts (not m.terms.shut) _ h in
    let b = and_parts (eqb m.terms.longest p) _ a.1 in
    record { unshut = not-true _ a.0; longest = eqb-true _ p b.0; few = leb-true _ 32 b.1; counted = refl }

reached : (p : ℕ) {m : Link} {cs : List (Call Kind)} → Leads (start p) cs m → open_test p m ≡ true → (mat : ℕ) (k : Kind) → Judges m mat k → Reached p (channels m.rows) k
reached p {m} {cs} h tested mat k comes = (cs, m, h, counting p m tested, (mat, comes))

pub reached_alone : Reached 4 [] (S 10 2 4)
reached_alone = reached 4 opening refl 1 (S 10 2 4) refl

-- three channels join
pub reached_joined : Reached 4 one (S 8 4 9) × Reached 4 two (S 12 3 17) × Reached 4 three (S 5040 1 40320)
reached_joined =
    let (c, first) = granting 4 4 (omega arith) 5 one refl in
    let (d, second) = granting 4 4 (omega arith) 12 two refl in
    let (e, third) = granting 4 4 (omega arith) 40 three refl in
    let after-0 : Leads (start 4) [] (start 4) = opening in
    let after-1 = joins after-0 1 (S 10 2 5) 0 c refl (_, refl, refl) first in
    let after-2 = joins after-1 2 (S 8 4 9) 1 d refl (_, refl, refl) second in
    let after-3 = joins after-2 3 (S 12 3 18) 2 e refl (_, refl, refl) third in
    (reached 4 after-1 refl 2 (S 8 4 9) refl, reached 4 after-2 refl 3 (S 12 3 17) refl, reached 4 after-3 refl 4 (S 5040 1 40320) refl)

pub reached_empty : Reached 2 [] (S 1 1 2)
reached_empty = reached 2 opening refl 1 (S 1 1 2) refl

-- a channel that fills every frame joins
pub reached_full : Reached 2 (S 1 1 2 ∷ []) (S 5040 1 1)
reached_full =
    let (c, first) = granting 2 4 (omega arith) 2 (S 1 1 2 ∷ []) refl in
    let after-0 : Leads (start 2) [] (start 2) = opening in
    reached 2 (joins after-0 1 (S 1 1 2) 0 c refl (_, refl, refl) first) refl 2 (S 5040 1 1) refl
