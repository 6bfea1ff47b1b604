-- What is told of a text, from what is told of its plan.
use Rattle.std.proofs.Common.{◌≡◌, ℕ, List, Vec, vec_items, Ok, Err, IfOk, Result, refl, subst}
use Rattle.std.specs.Fn.{Once, FnOnceReturns}
use denote.Ref.{Bor}
use Rattle.plan.specs.Format.{Script, script}
use Rattle.plan.specs.Reading.{Read}
use Rattle.plan.specs.declared.Plan.{Plan}
use Rattle.lines.specs.Texts.{Told, TellsBy}
use Rattle.lines.specs.declared.Line.{Line}

module _ {F Z E : Type 0} (g : Once F (Bor Plan × Unit {0}) (Result (Vec Line Z) E)) (f : F) where
  -- the plan was read, and the closure was asked
  pub plan_told : (bytes : List ℕ) (plan : Bor Plan) (r : Result (Vec Line Z) E) → Read bytes (Ok plan.now) → FnOnceReturns g f (plan, tt) r → IfOk r (λ ls. Told (TellsBy g f) bytes (vec_items ls))
  plan_told bytes plan (Ok ls) read gave = (Ok plan.now, read, (plan, ls, gave, refl, refl))
  plan_told bytes plan (Err e) read gave = tt

-- what a closure tells of a text is what it says of a plan
pub text_told : {Z E : Type 0} {Says : Bor Plan → Vec Line Z → Type 0} (Tells : Script → List Line → Type 0) (bytes : List ℕ) (r : Result (Vec Line Z) E) →
    IfOk r (λ ls. Told (λ s xs. (plan : Bor Plan) × (lines : Vec Line Z) × Says plan lines × (script plan.now ≡ s) × (vec_items lines ≡ xs)) bytes (vec_items ls)) →
    ((plan : Bor Plan) (ls : Vec Line Z) → Says plan ls → Tells (script plan.now) (vec_items ls)) → IfOk r (λ ls. Told Tells bytes (vec_items ls))
text_told Tells bytes (Ok ls) (Ok plan, read, (other, v, said, same, items)) says =
    (Ok plan, read, subst (λ s. Tells s (vec_items ls)) same (subst (λ xs. Tells (script other.now) xs) items (says other v said)))
text_told Tells bytes (Ok ls) (Err e, read, refused) says = (Err e, read, refused)
text_told Tells bytes (Err e) told says = told
