-- The two laws of reading follow from its answer.
use Rattle.std.proofs.Common.{ℕ, suc, List, take, Ok, Err, Result, sym, ap, ◌∙◌, inl, inr, ⊎_elim, arith}
use Rattle.plan.specs.Format.{script, ended}
use Rattle.plan.specs.Reading.{Read, WrittenAgain, ReadBack}
use Rattle.plan.specs.declared.Fault.{Fault}
use Rattle.plan.specs.declared.Fault.TheVariants.{Malformed, NoMemory}
use Rattle.plan.specs.declared.Plan.{Plan}
use Rattle.plan.proofs.Cuts.{ended_cut}
use Rattle.plan.proofs.Same.{same_from_lines}
use Rattle.plan.proofs.Spelled.{cut_spelled}

pub written_again_from_read : (bytes : List ℕ) (r : Result Plan Fault) → Read bytes r → WrittenAgain bytes r
written_again_from_read bytes (Ok p) (small, fit, e) = ⊎_elim (λ h. inl (h ∙ ap ended e)) (λ h. inr (h ∙ ap ended e)) (ended_cut bytes)
written_again_from_read bytes (Err d) h = tt

pub read_back_from_read : (bytes : List ℕ) (r : Result Plan Fault) → Read bytes r → ReadBack bytes r
read_back_from_read bytes (Ok p) (small, fit, e) s fits short spelled = same_from_lines (script p) s fit fits (sym e ∙ cut_spelled bytes s fits spelled)
read_back_from_read bytes (Err (Malformed sec num)) h s fits short spelled =
    ⊎_elim
    (λ long. omega (arith, long.0))
    (λ stop. stop.1.stops s fits (ap (take (suc stop.1.i)) (cut_spelled bytes s fits spelled)))
    h
read_back_from_read bytes (Err NoMemory) h s fits short spelled = tt

pub ruleset laws = (written_again_from_read, read_back_from_read)
