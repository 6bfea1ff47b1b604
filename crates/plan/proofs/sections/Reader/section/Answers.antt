use Rattle.std.proofs.Common.{[], ◌∷◌, refl, ◌∙◌}
use Rattle.std.proofs.lemmas.Slice.{pushed}
use Rattle.plan.proofs.Broken.{broken_at_count, broken_at_entry, fails_so, fault_passed, one_more_entry}
use Rattle.plan.proofs.sections.Reader.section.Goals as goal

pub returns-in_err-count-clause-read : goal.returns-in_err-count-clause-read
returns-in_err-count-clause-read g c =
    rw (fault_passed c.from_residual.result c.in_err-count.field-0.0 c.from_residual.ensures.1)
    (fails_so c.in_err-count.field-0.0 _ _ _ _ refl (broken_at_count g.E.Entry.words g.E.Entry.mats) c.in_err-count.ensures.counted)

pub returns-in_err-entry-clause-read : goal.returns-in_err-entry-clause-read
returns-in_err-entry-clause-read g c =
    rw (fault_passed c.from_residual-in_err-entry.result c.in_err-entry.field-0.0 c.from_residual-in_err-entry.ensures.1)
    (fails_so c.in_err-entry.field-0.0 _ _ _ _ c.loop-read.invariant.0
    (broken_at_entry g.E.Entry.words g.E.Entry.mats c.in_ok-count.count c.loop-read.read c.in_ok-count.ensures.counted c.loop-read.invariant.1 c.loop-read-test.true)
    c.in_err-entry.ensures.read)

pub loop-read-preserved : goal.loop-read-preserved
loop-read-preserved g c = (
  c.entry.ensures.same_section ∙ c.loop-read.invariant.0,
  one_more_entry g.E.Entry.words g.E.Entry.mats c.in_ok-entry.field-0 c.loop-read.invariant.1 c.in_ok-entry.ensures.read
      (pushed (c.in_ok-entry.field-0 ∷ []) refl c.in_ok-push.was c.push.ensures.items),
)
