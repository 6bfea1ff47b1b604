-- Channels decided one after the other.
use Rattle.std.proofs.Common.{◌≡◌, ℕ, ◌+◌, ◌<◌, ◌≤◌, Bool, true, false, cond, not, ◌||◌, eqb, leb, List, [], ◌∷◌, ◌++◌, length, get_or, take, Ok, Err, Result, sym, refl, ap, ◌∙◌, subst, ⊎_elim, append_assoc, append-nil, arith, take_all, le-leb, length-append}
use Rattle.std.proofs.lemmas.List.{take_more}
use Rattle.std.proofs.lemmas.Bool.{cases_lt}
use Rattle.refusals.specs.declared.Refusal.{Refusal}
use Rattle.refusals.specs.declared.Refusal.TheVariants.{Limits, MatCounted, NoRow}
use Rattle.plan.specs.Kinds.{Kind, kind_limits}
use Rattle.plan.specs.declared.Channel.{Channel}
use Rattle.lines.specs.declared.Line.{Line}
use Rattle.answers.specs.Answers.{Extended}
use Rattle.answers.specs.Decisions.{Decision, has, early, Judges, Decided, counted, Decisions, none, one_more}

-- no refusal came early, so a row is free
pub free_row : (p : ℕ) (mats : List ℕ) (n : ℕ) (c : Channel) (u : Unit {0}) → early p mats n c ≡ Ok u → n < 32
free_row p mats n c u late = ⊎_elim (λ lt. lt) (λ full. absurd (clash (eqb c.mat 0 || not (kind_limits c.kind p)) (has c.mat mats) (leb 32 n) (le-leb 32 n full) late)) (cases_lt n 32)
  where
    clash : (a b e : Bool) → e ≡ true → ◌≡◌ {A = Result (Unit {0}) Refusal} (cond a (Err Limits) (cond b (Err MatCounted) (cond e (Err NoRow) (Ok tt)))) (Ok u) → ⊥
    clash true b e is h = let z : ◌≡◌ {A = ℕ} 0 1 = cc in omega arith
    clash false true e is h = let z : ◌≡◌ {A = ℕ} 0 1 = cc in omega arith
    clash false false true is h = let z : ◌≡◌ {A = ℕ} 0 1 = cc in omega arith
    clash false false false is h = let z : ◌≡◌ {A = ℕ} 0 1 = cc in omega arith

-- a grant finds a row free
granted_row : (p : ℕ) (mats : List ℕ) (ks : List Kind) (c : Channel) (count : ℕ) (o : Result (Unit {0}) Refusal) → early p mats (length ks) c ≡ o → Judges p ks c.kind o (Ok count) → length ks < 32
granted_row p mats ks c count (Err e) is judges = let z : ◌≡◌ {A = ℕ} 0 1 = cc in absurd (omega arith)
granted_row p mats ks c count (Ok u) is judges = free_row p mats (length ks) c u is

still_few : (p : ℕ) (mats : List ℕ) (ks : List Kind) (c : Channel) (d : Decision) → length ks ≤ 32 → Decided p mats ks c d → length (counted d c.kind ks) ≤ 32
still_few p mats ks c (Err e) few decided = few
still_few p mats ks c (Ok count) few decided =
    let free = granted_row p mats ks c count _ refl decided in
    omega (arith, length-append ks (c.kind ∷ []))

module _ {Shows : ℕ → List Kind → Channel → Decision → Line → Type 0} {p : ℕ} where
  -- no more channels are granted than there are rows
  pub few_granted : {cs : List Channel} {mats : List ℕ} {ks : List Kind} {ls : List Line} → Decisions Shows p cs mats ks ls → length ks ≤ 32
  few_granted none = omega arith
  few_granted (one_more {mats} {kinds} h c d l decided shown) = still_few p mats kinds c d (few_granted h) decided

  -- what is shown of each channel is shown in other words
  pub decisions_as : (Others : ℕ → List Kind → Channel → Decision → Line → Type 0) → ((ks : List Kind) (c : Channel) (d : Decision) (l : Line) → length ks ≤ 32 → Shows p ks c d l → Others p ks c d l) →
      {cs : List Channel} {mats : List ℕ} {ks : List Kind} {ls : List Line} → Decisions Shows p cs mats ks ls → Decisions Others p cs mats ks ls
  decisions_as Others into none = none
  decisions_as Others into (one_more {kinds} h c d l decided shown) = one_more (decisions_as Others into h) c d l decided (into kinds c d l (few_granted h) shown)

-- the channels decided so far, with the lines that were there before and those shown of them
pub record Deciding (Shows : ℕ → List Kind → Channel → Decision → Line → Type 0) (p : ℕ) (cs : List Channel) (mats : List ℕ) (ks : List Kind) (first ls : List Line) : Type 0 where
  pub more : List Line
  pub so_far : Decisions Shows p cs mats ks more
  pub is : ls ≡ first ++ more

module _ (Shows : ℕ → List Kind → Channel → Decision → Line → Type 0) (p : ℕ) (first : List Line) where
  pub deciding_none : (mats : List ℕ) (ks : List Kind) → mats ≡ [] → ks ≡ [] → Deciding Shows p [] mats ks first first
  deciding_none mats ks no-mats no-kinds = record {
    more = [];
    so_far = rw (no-mats, no-kinds) none;
    is = sym (append-nil first);
  }

  pub deciding_more : (cs : List Channel) (i : ℕ) (c : Channel) (d : Decision) (l : Line) (mats mats' : List ℕ) (ks ks' : List Kind) (ls ls' : List Line) → i < length cs →
      Deciding Shows p (take i cs) mats ks first ls → Decided p mats ks (get_or cs i c) d → Shows p ks (get_or cs i c) d l →
      mats' ≡ counted d (get_or cs i c).mat mats → ks' ≡ counted d (get_or cs i c).kind ks → ls' ≡ ls ++ l ∷ [] → Deciding Shows p (take (i + 1) cs) mats' ks' first ls'
  deciding_more cs i c d l mats mats' ks ks' ls ls' inside before decided shown em ek el =
      let x = get_or cs i c in
      let step = one_more before.so_far x d l decided shown in
      record {
        more = before.more ++ l ∷ [];
        so_far = rw (em, ek) (subst (λ ys. Decisions Shows p ys (counted d x.mat mats) (counted d x.kind ks) (before.more ++ l ∷ [])) (sym (take_more cs i c inside)) step);
        is = el ∙ ap (λ a. a ++ l ∷ []) before.is ∙ append_assoc first before.more (l ∷ []);
      }

  pub deciding_all : (cs : List Channel) (i : ℕ) (mats : List ℕ) (ks : List Kind) (ls : List Line) → length cs ≤ i → Deciding Shows p (take i cs) mats ks first ls → Extended Shows p cs first ls
  deciding_all cs i mats ks ls all before =
      (mats, ks, before.more, subst (λ ys. Decisions Shows p ys mats ks before.more) (take_all i cs all) before.so_far, before.is)
