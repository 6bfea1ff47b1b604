use Rattle.std.proofs.Common.{◌≡◌, refl, rules}
use Rattle.std.proofs.lemmas.Fn.{serves_by}
use Rattle.std.proofs.lemmas.Slice.Zip.{zip_turn}
use Rattle.overview.proofs.Rowwise.{row_within}
use Rattle.overview.proofs.marks.Goals as goal

pub collect-requires-clause-can : goal.collect-requires-clause-can
collect-requires-clause-can g c = (
  (tt, tt),
  serves_by _ (λ _ q. q ≡ c.map.result.f) (λ xs q x w j r. search rules) _ _ _ _ refl
      (λ xs t q x u y e j.
      let turn = zip_turn c.args.picture.now.rows.now _ xs _ t u _ (cc) refl y x refl e in
      let w = row_within _ _ _ _ c.args.picture.now.stands _ x.0.now turn.0 (turn.2 x.0.now) in
      search (rules, w, j, c.requires)),
)
