use Rattle.std.proofs.Common.{[], ◌∷◌, Ok, OnOk, vec_items, refl, subst}
use Rattle.std.specs.Fn.{FnOnceReturnsAt}
use Rattle.std.specs.Io.KnownBytes.{Appends}
use Rattle.lines.specs.Replies.{written}
use Rattle.lines.proofs.Writing.{shown}
use Rattle.lines.proofs.replies.show.Goals as goal

pub returns : goal.returns
returns g c =
    let mid = g.W.Write.contents c.write_all.new.self in
    let new = g.W.Write.contents c.write_lines.new.output in
    shown c.write_lines.result (g.W.Write.contents c.args.output.now) mid new (45 ∷ 45 ∷ 10 ∷ []) c.in_ok-lines.lines
    (λ lines. FnOnceReturnsAt g.F.FnOnce c.args.answer c.args.text.now (Ok lines))
    (λ lines. written (vec_items lines))
    c.in_ok-write_all.ensures.bytes
    (c.args.text, c.in_ok-lines.ensures, refl)
    (subst (λ ls. OnOk c.write_lines.result (Appends mid new (written ls))) c.deref.ensures.value c.write_lines.ensures)
