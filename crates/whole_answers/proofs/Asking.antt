-- Channels whose least allowances are asked for, one after the other.
use Rattle.std.proofs.Common.{◌≡◌, ℕ, ◌+◌, ◌<◌, ◌≤◌, Bool, true, false, List, [], ◌∷◌, ◌++◌, length, get_or, take, Ok, Err, Result, sym, refl, ap, ◌∙◌, subst, append_assoc, append-nil, take_all}
use Rattle.std.proofs.lemmas.List.{take_more}
use Rattle.plan.specs.Format.{Script}
use Rattle.plan.specs.declared.Channel.{Channel}
use Rattle.link.specs.Asking.{Leasts}
use Rattle.link.specs.History as history
use Rattle.link.specs.History.{least_asked}
use Rattle.link.specs.Joining.{Joined}
use Rattle.refusals.specs.declared.Refusal.{Refusal}
use Rattle.link.specs.declared.state.Hold.{Hold}
use Rattle.whole_answers.specs.Kinds.{LinkCall, LinkModel, LinkRow, LinkHistory, kind_numbers, kind_limits, kind_dated, kind_steps}
use Rattle.whole_answers.specs.Least.{Asks, none_asked, asked, Asking, AsksOf, LeastTold}
use Rattle.whole_answers.specs.Plans.{joining}
use Rattle.whole_answers.specs.Runs.{link_of}
use Rattle.lines.specs.Lines.{least_line_lem}
use Rattle.lines.specs.declared.Line.{Line}
use Rattle.lines.specs.declared.Line.TheVariants.{Opened}

-- a channel joined, as calls
joined_history : (start m n : LinkModel) (cs : List LinkCall) (x : Channel) (r : Result ℕ Refusal) → Joined kind_numbers kind_limits kind_steps m x.mat x.kind r n → LinkHistory start cs m →
    (a : Result (Hold × ℕ) Refusal) × LinkHistory start (joining x a cs) n
joined_history start m n cs x (Err e) said h = (Err e, history.hold x.mat x.kind (Err e) h said)
joined_history start m n cs x (Ok count) (hold, o, granted, confirms) h =
    (Ok (hold, count), history.confirm hold (Ok tt) (history.hold x.mat x.kind (Ok (hold, count)) h granted) confirms)

-- the line tells what was found, by whatever name
pub told_line : (mat : ℕ) (l : Line) (a b : Result (ℕ × ℕ) Refusal) → l ≡ least_line_lem mat b → b ≡ a → l ≡ least_line_lem mat a
told_line mat l a b told same = told ∙ ap (least_line_lem mat) same

module _ (xs : List Channel) (m : LinkModel) (ls : List Line) where
  pub asking_none : Asking (take 0 xs) m ls m ls
  asking_none = ([], [], history.opening, none_asked, sym (append-nil ls))

  -- one channel more
  pub asking_more : (i : ℕ) (d : Channel) (a : Result (ℕ × ℕ) Refusal) (r : Result ℕ Refusal) (n o : LinkModel) (ks js : List Line) → i < length xs →
      Asking (take i xs) m ls n ks → Leasts kind_numbers kind_limits kind_dated n (get_or xs i d).kind a → Joined kind_numbers kind_limits kind_steps n (get_or xs i d).mat (get_or xs i d).kind r o →
      js ≡ ks ++ least_line_lem (get_or xs i d).mat a ∷ [] → Asking (take (i + 1) xs) m ls o js
  asking_more i d a r n o ks js inside (cs, told, h, asks, is) found joined more =
      let x = get_or xs i d in
      let l = least_line_lem x.mat a in
      let here = joined_history m n o (least_asked x.kind a ∷ cs) x r joined (history.least x.kind a h found) in
      let ds = joining x here.0 (least_asked x.kind a ∷ cs) in (
        ds,
        told ++ l ∷ [],
        here.1,
        subst (λ (ys : List Channel). Asks ys ds (told ++ l ∷ [])) (sym (take_more xs i d inside)) (asked asks x a here.0),
        more ∙ (ap (λ ys. ys ++ l ∷ []) is ∙ append_assoc ls told (l ∷ [])),
      )

  pub asking_all : (i : ℕ) (n : LinkModel) (ks : List Line) → length xs ≤ i → Asking (take i xs) m ls n ks → Asking xs m ls n ks
  asking_all i n ks past (cs, told, h, asks, is) = (cs, told, h, subst (λ (ys : List Channel). Asks ys cs told) (take_all i xs past) asks, is)

module _ (s : Script) (rows : List LinkRow) (size : length rows ≡ 32) (start : LinkModel) (first : List Line) (opens : start ≡ link_of s rows) (printed : first ≡ Opened start.terms.shut ∷ []) where
  told_by : (b : Bool) (cs : List LinkCall) (told : List Line) (n : LinkModel) (ls : List Line) → start.terms.shut ≡ b → LinkHistory start cs n → AsksOf b s cs told → ls ≡ Opened b ∷ told → LeastTold s ls
  told_by b cs told n ls is-shut made asks lines =
      let shut : b ≡ (link_of s rows).terms.shut = sym is-shut ∙ ap (λ (m : LinkModel). m.terms.shut) opens in
      record {
        rows = rows;
        thirty_two = size;
        calls = cs;
        last = n;
        history = subst (λ (m : LinkModel). LinkHistory m cs n) opens made;
        told = told;
        made = subst (λ (q : Bool). AsksOf q s cs told) shut asks;
        printed = lines ∙ ap (λ (q : Bool). Opened q ∷ told) shut;
      }

  -- the link opened shut
  pub told_shut : start.terms.shut ≡ true → LeastTold s first
  told_shut is-shut = told_by true [] [] start first is-shut history.opening (refl, refl) (printed ∙ ap (λ (q : Bool). Opened q ∷ []) is-shut)

  -- all channels were asked for
  pub told_all : (ls : List Line) (n : LinkModel) → start.terms.shut ≡ false → Asking s.channels start first n ls → LeastTold s ls
  told_all ls n is_open (cs, told, h, asks, is) =
      told_by false cs told n ls is_open h asks (is ∙ ap (λ ys. ys ++ told) (printed ∙ ap (λ (q : Bool). Opened q ∷ []) is_open))
