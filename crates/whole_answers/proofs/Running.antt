-- A whole run, from its parts.
use Rattle.std.proofs.Common.{◌≡◌, Bool, true, false, List, [], ◌∷◌, length, sym, refl, ap, ◌∙◌, subst}
use Rattle.plan.specs.Format.{Script}
use Rattle.link.specs.Happenings.{happenings}
use Rattle.link.specs.History as history
use Rattle.link.specs.Promise.{OnTime}
use Rattle.lines.specs.declared.Line.{Line}
use Rattle.lines.specs.declared.Line.TheVariants.{Opened}
use Rattle.whole_answers.specs.Kinds.{LinkCall, LinkModel, LinkRow, LinkHistory, kind_numbers}
use Rattle.whole_answers.specs.Parts.{Part}
use Rattle.whole_answers.specs.Plans.{Join, Make, InTurn, PlanCalls}
use Rattle.whole_answers.specs.Prints.{lines_of, ends_told}
use Rattle.whole_answers.specs.Runs.{Ran, link_of}
use Rattle.whole_answers.proofs.Ends.{ends_of_calls}

module _ (s : Script) (rows : List LinkRow) (size : length rows ≡ 32) (start : LinkModel) (first : List Line) (opens : start ≡ link_of s rows) (printed : first ≡ Opened start.terms.shut ∷ []) (timely : (cs : List LinkCall) (n : LinkModel) → LinkHistory start cs n → OnTime kind_numbers (happenings cs)) where
  -- a run that made these calls on the link as it was opened
  ran_by : (b : Bool) (cs : List LinkCall) (n : LinkModel) (ls : List Line) → start.terms.shut ≡ b → LinkHistory start cs n → PlanCalls b s cs → ls ≡ Opened b ∷ lines_of cs → Ran s ls
  ran_by b cs n ls is-shut made plan lines =
      let shut : b ≡ (link_of s rows).terms.shut = sym is-shut ∙ ap (λ (m : LinkModel). m.terms.shut) opens in
      record {
        rows = rows;
        thirty_two = size;
        calls = cs;
        last = n;
        history = subst (λ (m : LinkModel). LinkHistory m cs n) opens made;
        made = subst (λ (q : Bool). PlanCalls q s cs) shut plan;
        printed = lines ∙ ap (λ (q : Bool). Opened q ∷ lines_of cs) shut;
        ends = ap ends_told lines ∙ ends_of_calls cs;
        on_time = timely cs n made;
      }

  -- the link opened shut
  pub ran_shut : start.terms.shut ≡ true → Ran s first
  ran_shut is-shut = ran_by true [] start first is-shut history.opening refl (printed ∙ ap (λ (q : Bool). Opened q ∷ []) is-shut)

  -- the channels were joined, and then the calls made
  pub ran : (js ls : List Line) (m n : LinkModel) → start.terms.shut ≡ false → Part (λ cs ds. InTurn Join cs s.channels ds) start first m js → Part (λ cs ds. InTurn Make cs s.calls ds) m js n ls → Ran s ls
  ran js ls m n is_open joins makes =
      let line : first ≡ Opened false ∷ [] = printed ∙ ap (λ (q : Bool). Opened q ∷ []) is_open in
      let joined = joins start (Opened false ∷ []) [] (record { opened = ap (λ (m : LinkModel). m.clock) opens; history = history.opening; printed = line }) in
      let called = makes start (Opened false ∷ []) joined.0 joined.2 in
      ran_by false called.0 n ls is_open called.2.history (joined.0, joined.1, called.1) called.2.printed
