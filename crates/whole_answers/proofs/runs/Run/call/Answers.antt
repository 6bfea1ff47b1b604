use Rattle.std.proofs.Common.{[], ◌∷◌, ◌++◌, vec_items, ap, ◌∙◌}
use Rattle.link.specs.Model.{model}
use Rattle.plan.specs.declared.Call.TheVariants.{Offer, Bulk, Release}
use Rattle.whole_answers.proofs.Parts.{part_as, part_offered, part_bulk, part_released}
use Rattle.whole_answers.proofs.runs.Run.call.Goals as goal
use Rattle.whole_answers.proofs.runs.Run.call.Goals.{in-Offer, in-Bulk, in-Release}

pub returns : goal.returns
returns c =
    let m = model c.args.self.now.link in
    let ls = vec_items c.args.self.now.lines in
    let n = model c.match-call.self.link in
    let ks = vec_items c.push.new.self in
    let pushed = c.in_ok-push.ensures.items in
    elim c.match-call.branch [
      | in-Offer w ↦
          part_as m ls n ks c.args.call (Offer w.in-Offer.mat w.in-Offer.bytes) (model w.offer.new.self) w.in-Offer.is (ap (λ r. model r.link) w.self-is)
          (part_offered m ls (model w.offer.new.self) ks w.in-Offer.mat w.in-Offer.bytes w.offer.result w.offer.ensures.said
          (pushed ∙ ap (λ r. vec_items r.lines ++ c.match-call.line ∷ []) w.self-is ∙ ap (λ l. ls ++ l ∷ []) w.line-is))
      | in-Bulk w ↦
          part_as m ls n ks c.args.call (Bulk w.in-Bulk.bytes) (model w.bulk.new.self) w.in-Bulk.is (ap (λ r. model r.link) w.self-is)
          (part_bulk m ls (model w.bulk.new.self) ks w.in-Bulk.bytes w.bulk.result w.bulk.ensures.said
          (pushed ∙ ap (λ r. vec_items r.lines ++ c.match-call.line ∷ []) w.self-is ∙ ap (λ l. ls ++ l ∷ []) w.line-is))
      | in-Release w ↦
          part_as m ls n ks c.args.call (Release w.in-Release.mat) (model w.release.new.self) w.in-Release.is (ap (λ r. model r.link) w.self-is)
          (part_released m ls (model w.release.new.self) ks w.in-Release.mat w.release.result w.release.ensures.said
          (pushed ∙ ap (λ r. vec_items r.lines ++ c.match-call.line ∷ []) w.self-is ∙ ap (λ l. ls ++ l ∷ []) w.line-is))
    ]
