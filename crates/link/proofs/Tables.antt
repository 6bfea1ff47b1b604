-- One record changed, and whether any row is leaving.
use Rattle.std.proofs.Common.{◌≡◌, ℕ, zero, suc, ◌≤◌, Bool, true, false, not, ◌||◌, List, [], ◌∷◌, ◌++◌, map, length, take, drop, get_or, set, refl, ap, ◌∙◌, take_all}
use Rattle.std.proofs.lemmas.List.{append-nil, drop_all}
use Rattle.std.proofs.lemmas.Bool.{and_from, and_parts}
use Rattle.link.specs.declared.state.Record.{Record}
use Rattle.link.specs.declared.state.Phase.{Phase}
use Rattle.link.specs.declared.state.Phase.TheVariants.{Held, Leaving}
use Rattle.link.specs.declared.state.Event.{Event}
use Rattle.link.specs.declared.state.Event.TheVariants.{Release, Quiet}
use Rattle.link.specs.Rows.{changed, next, moved, releases, is_leaving, none_leaving}

pub set_changed : {X : Type 0} (f : X → X) (i : ℕ) (xs : List X) (d : X) → set xs i (f (get_or xs i d)) ≡ changed f i xs
set_changed f i [] d = refl
set_changed f zero (x ∷ xs) d = refl
set_changed f (suc i) (x ∷ xs) d = ap (λ ys. x ∷ ys) (set_changed f i xs d)

-- a loop that changes each in turn has changed all at its end
pub changed_all : {X : Type 0} (f : X → X) (xs ys : List X) (i : ℕ) → length xs ≤ i → ys ≡ map f (take i xs) ++ drop i xs → ys ≡ map f xs
changed_all f xs ys i l e = e ∙ rw (take_all i xs l, drop_all i xs l) (append-nil (map f xs))

calm : (p : Phase) (e : Event) → releases e ≡ false → not (is_leaving p) ≡ true → not (is_leaving (next p e)) ≡ true
calm p Release r h = cc
calm Leaving e r h = cc
calm p e r h = refl

calm_changed : (e : Event) (i : ℕ) (rs : List Record) → releases e ≡ false → none_leaving rs ≡ true → none_leaving (changed (moved e) i rs) ≡ true
calm_changed e i [] r h = refl
calm_changed e zero (x ∷ rs) r h = and_from _ _ (calm x.phase e r (and_parts _ _ h).0) (and_parts _ _ h).1
calm_changed e (suc i) (x ∷ rs) r h = and_from _ _ (and_parts _ _ h).0 (calm_changed e i rs r (and_parts _ _ h).1)

known_cases : (b q : Bool) (rs qs : List Record) → (q ≡ false → none_leaving rs ≡ true → none_leaving qs ≡ true) → (b || none_leaving rs) ≡ true → ((b || q) || none_leaving qs) ≡ true
known_cases true q rs qs f h = refl
known_cases false true rs qs f h = refl
known_cases false false rs qs f h = f refl h

-- the mark stays right over a move
pub known_moved : (b : Bool) (e : Event) (i : ℕ) (rs : List Record) → (b || none_leaving rs) ≡ true → ((b || releases e) || none_leaving (changed (moved e) i rs)) ≡ true
known_moved b e i rs h = known_cases b (releases e) rs (changed (moved e) i rs) (calm_changed e i rs) h

calm_set : (r : Record) (i : ℕ) (rs : List Record) → not (is_leaving r.phase) ≡ true → none_leaving rs ≡ true → none_leaving (set rs i r) ≡ true
calm_set r i [] c h = refl
calm_set r zero (x ∷ rs) c h = and_from _ _ c (and_parts _ _ h).1
calm_set r (suc i) (x ∷ rs) c h = and_from _ _ (and_parts _ _ h).0 (calm_set r i rs c (and_parts _ _ h).1)

known_set_cases : (b : Bool) (r : Record) (i : ℕ) (rs : List Record) → not (is_leaving r.phase) ≡ true → (b || none_leaving rs) ≡ true → (b || none_leaving (set rs i r)) ≡ true
known_set_cases true r i rs c h = refl
known_set_cases false r i rs c h = calm_set r i rs c h

-- and over a row that is filled
pub known_set : (b : Bool) (r : Record) (i : ℕ) (rs : List Record) → r.phase ≡ Held → (b || none_leaving rs) ≡ true → (b || none_leaving (set rs i r)) ≡ true
known_set b r i rs e h = known_set_cases b r i rs (rw e) h

rests : (p : Phase) → not (is_leaving p) ≡ true → next p Quiet ≡ p
rests Leaving h = cc
rests p h = refl

quiet_phase : (p : Phase) → not (is_leaving (next p Quiet)) ≡ true
quiet_phase Leaving = refl
quiet_phase p = refl

-- a quiet slot changes nothing where no row is leaving, and after one none is
pub rest_none : (rs : List Record) → none_leaving rs ≡ true → map (moved Quiet) rs ≡ rs
rest_none [] h = refl
rest_none (r ∷ rs) h =
    let here : next r.phase Quiet ≡ r.phase = rests r.phase (and_parts _ _ h).0 in
    let there : map (moved Quiet) rs ≡ rs = rest_none rs (and_parts (not (is_leaving r.phase)) (none_leaving rs) h).1 in
    rw (here, there)

pub rest_calm : (rs : List Record) → none_leaving (map (moved Quiet) rs) ≡ true
rest_calm [] = refl
rest_calm (r ∷ rs) = and_from _ _ (quiet_phase r.phase) (rest_calm rs)
