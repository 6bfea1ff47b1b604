use Rattle.std.proofs.Common.{◌∷◌, length, sym, ap, ◌∙◌, arith, ltb-false}
use Rattle.std.proofs.lemmas.Slice.{first_rest}
use Rattle.std.specs.List.{between}
use Rattle.plan.proofs.Parsed.{no_words, entry_read}
use Rattle.plan.proofs.entries.parse.Goals as goal

pub returns-in_default-2 : goal.returns-in_default-2
returns-in_default-2 g c =
    no_words g.E.Entry.words g.E.Entry.mats (first_rest c.args.text.now 0 (omega (arith, ltb-false))) (rw c.in_default-2.is at c.in_ok-items.ensures)

pub returns : goal.returns
returns g c =
    let text = c.args.text.now in
    let read = rw c.in-Some.is at c.in_ok-items.ensures in
    entry_read g.E.Entry.words g.E.Entry.mats (first_rest c.args.text.now 0 (omega (arith, ltb-false)) ∙ ap (λ l. l ∷ between 1 (length text) text) (sym c.from.ensures))
    c.deref.result.now (rw c.deref.ensures.value read) c.pick.result c.pick.ensures
