-- A link just opened counts no channel.
use Rattle.std.proofs.Common.{◌≡◌, ℕ, true, List, [], ◌∷◌, map, length, take, Ok, Result, sym, refl, subst, arith, MutBor}
use Rattle.std.proofs.lemmas.List.{length-map, length-take}
use Rattle.std.proofs.lemmas.Bool.{not_from_true}
use Rattle.traffic.specs.declared.Curve.{Ghosts as CurveGhosts}
use Rattle.traffic.specs.declared.Row.{Row}
use Rattle.traffic.specs.declared.Traffic.{Ghosts as TrafficGhosts}
use Rattle.link.specs.Asking.{Leasts}
use Rattle.link.specs.declared.state.Link.{Link as Lent}
use Rattle.link.specs.Model.{FullRow, model, opened, fitting, channels}
use Rattle.link.specs.Rows.{blank}
use Rattle.refusals.specs.declared.Refusal.{Refusal}
use Rattle.figures.specs.Answers.{Counting}
use Rattle.figures.specs.Kinds.{Kind, State, S, numbers, limits, dated}
use Rattle.figures.proofs.Links.{least_on}

abbrev free : Row Kind State → FullRow Kind State
free w = record { entry = blank; row = w }

none_counted : (ws : List (Row Kind State)) → channels (map free ws) ≡ []
none_counted [] = refl
none_counted (w ∷ ws) = none_counted ws

opened_counts : (name p : ℕ) (rows : List (Row Kind State)) (places : ℕ) → fitting p (length rows) places ≡ true → Counting p [] (opened name p rows places)
opened_counts name p rows places fits = record {
  unshut = not_from_true (fitting p (length rows) places) fits;
  longest = refl;
  few = omega (arith, length-map (take 32 rows) free, length-take 32 rows);
  counted = none_counted (take 32 rows);
}

-- what least answers on a link that was opened so
pub least_opened : {t : TrafficGhosts Kind State} {g : CurveGhosts Kind} (l : Lent Kind State t g) (rows : MutBor (List (Row Kind State))) (name places : ℕ) → l.rows ≡ rows → model l ≡ opened name 4 rows.now places → fitting 4 (length rows.now) places ≡ true →
    (k : Kind) → k ≡ S 10 2 0 → (r : Result (ℕ × ℕ) Refusal) → Leasts numbers limits dated (model l) k r → r ≡ Ok (5, 4)
least_opened l rows name places _ is fits k same r leasts =
    least_on 4 [] (S 10 2 0) 5 5 4 refl (model l) (subst (Counting 4 []) (sym is) (opened_counts name 4 rows.now places fits)) r (subst (λ (x : Kind). Leasts numbers limits dated (model l) x r) same leasts)
