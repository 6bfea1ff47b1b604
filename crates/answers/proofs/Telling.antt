-- What is told of a plan.
use Rattle.std.proofs.Common.{◌≡◌, ℕ, ◌≤◌, Bool, true, false, List, [], ◌∷◌, length, Ok, Err, IfOk, MatchBool, Result, sym, subst}
use Rattle.plan.specs.Format.{Script}
use Rattle.plan.specs.Kinds.{Kind}
use Rattle.plan.specs.declared.Channel.{Channel}
use Rattle.lines.specs.declared.Line.{Line}
use Rattle.lines.specs.declared.Line.TheVariants.{Opened}
use Rattle.answers.specs.Answers.{opens, Extended, ToldBy}
use Rattle.answers.specs.Decisions.{Decision}
use Rattle.answers.proofs.Deciding.{decisions_as}

-- the link opened, and all channels were told of
pub told_open : (Shows : ℕ → List Kind → Channel → Decision → Line → Type 0) (s : Script) (ls first : List Line) → opens s.longest ≡ true → first ≡ Opened false ∷ [] → Extended Shows s.longest s.channels first ls → ToldBy Shows s ls
told_open Shows s ls first opened is all =
    subst (λ b. MatchBool b (Extended Shows s.longest s.channels (Opened false ∷ []) ls) (ls ≡ Opened true ∷ [])) (sym opened) (subst (λ ks. Extended Shows s.longest s.channels ks ls) is all)

either_as : (b : Bool) (P Q R : Type 0) → (P → Q) → MatchBool b P R → MatchBool b Q R
either_as true P Q R into p = into p
either_as false P Q R into r = r

module _ {Shows : ℕ → List Kind → Channel → Decision → Line → Type 0} (Others : ℕ → List Kind → Channel → Decision → Line → Type 0) (into : (p : ℕ) (ks : List Kind) (c : Channel) (d : Decision) (l : Line) → length ks ≤ 32 → Shows p ks c d l → Others p ks c d l) where
  told_as : (s : Script) (ls : List Line) → ToldBy Shows s ls → ToldBy Others s ls
  told_as s ls told = either_as (opens s.longest) (Extended Shows s.longest s.channels (Opened false ∷ []) ls) (Extended Others s.longest s.channels (Opened false ∷ []) ls) (ls ≡ Opened true ∷ [])
      (λ (mats, ks, more, so_far, is). (mats, ks, more, decisions_as Others (into s.longest) so_far, is)) told

  -- the lines of a plan, if there was memory for them, in other words
  pub plan_told : {V E : Type 0} (s : Script) (items : V → List Line) (r : Result V E) → IfOk r (λ v. ToldBy Shows s (items v)) → IfOk r (λ v. ToldBy Others s (items v))
  plan_told s items (Ok v) told = told_as s (items v) told
  plan_told s items (Err e) told = told
