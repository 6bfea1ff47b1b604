use Rattle.std.proofs.Common.{◌≡◌, ◌++◌, Ok, OnOk, IfSome, vec_items, subst}
use Rattle.std.specs.Fn.{FnOnceReturnsAt}
use Rattle.std.specs.Io.KnownBytes.{Appends}
use Rattle.lines.specs.Replies.{written}
use Rattle.lines.proofs.Writing.{replied}
use Rattle.lines.proofs.replies.reply.Goals as goal

pub returns : goal.returns
returns g c =
    let old = g.W.Write.contents c.args.output.now in
    let new = g.W.Write.contents c.write_lines.new.output in
    replied c.write_lines.result (g.R.Read.remaining c.args.input.now) (vec_items c.read_to_end.new.buf) c.in_ok-lines.lines
    (λ text lines. FnOnceReturnsAt g.F.FnOnce c.args.answer text (Ok lines))
    (λ lines. Appends old new (written (vec_items lines)))
    (subst (λ before. IfSome (g.R.Read.remaining c.args.input.now) (λ text. vec_items c.read_to_end.new.buf ≡ before ++ text)) c.new-text.ensures.items c.in_ok-read_to_end.ensures.bytes)
    (c.deref.result, c.in_ok-lines.ensures, c.deref.ensures.value)
    (subst (λ ls. OnOk c.write_lines.result (Appends old new (written ls))) c.deref-2.ensures.value c.write_lines.ensures)
