-- Parts of a run, one after the other.
use Rattle.std.proofs.Common.{◌≡◌, ℕ, ◌+◌, ◌<◌, ◌≤◌, List, [], ◌∷◌, ◌++◌, map, length, get_or, take, Ok, Err, Option, Result, sym, refl, ap, ◌∙◌, subst, append_assoc, append-nil, arith, take_all}
use Rattle.std.proofs.lemmas.List.{take_more}
use Rattle.plan.specs.declared.Call.{Call}
use Rattle.plan.specs.declared.Call.TheVariants.{Offer, Bulk, Release}
use Rattle.plan.specs.declared.Channel.{Channel}
use Rattle.link.specs.Happenings.{happenings, clock_of, ending}
use Rattle.link.specs.History as history
use Rattle.link.specs.History.{held, released, offered, bulked, ticked}
use Rattle.link.specs.Joining.{Joined}
use Rattle.link.specs.Sending.{Offers, Bulks}
use Rattle.link.specs.Settling.{Releases}
use Rattle.link.specs.Ticking.{Ticks}
use Rattle.link.specs.declared.state.Sent.{Sent}
use Rattle.refusals.specs.declared.Refusal.{Refusal}
use Rattle.lines.specs.Lines.{channel_line_lem}
use Rattle.lines.specs.declared.Line.{Line}
use Rattle.lines.specs.declared.Line.TheVariants as shown
use Rattle.whole_answers.specs.Kinds.{LinkCall, LinkModel, LinkHistory, kind_numbers, kind_limits, kind_dated, kind_steps}
use Rattle.whole_answers.specs.Plans.{Join, joining, Pass, none, one_more, Tick, all, stopped, Make, InTurn, begin, next}
use Rattle.whole_answers.specs.Prints.{end_line, lines_at, lines_of}
use Rattle.whole_answers.specs.Parts.{Part}
use Rattle.whole_answers.proofs.Clocks.{history_clock}

-- what was printed, and what is printed now
printed_more : (first olds ls new ks : List Line) → ls ≡ first ++ olds → ks ≡ ls ++ new → ks ≡ first ++ (olds ++ new)
printed_more first olds ls new ks before now = now ∙ (ap (λ ys. ys ++ new) before ∙ append_assoc first olds new)

module _ (m : LinkModel) (ls : List Line) (n : LinkModel) (ks : List Line) where
  -- one call, which prints these lines whatever the clock
  part_call : (Adds : List LinkCall → List LinkCall → Type 0) (c : LinkCall) (new : List Line) → ((start : LinkModel) (cs : List LinkCall) → LinkHistory start cs m → LinkHistory start (c ∷ cs) n) →
      ((s : ℕ) → new ≡ lines_at s c) → ks ≡ ls ++ new → ((cs : List LinkCall) → Adds cs (c ∷ cs)) → Part Adds m ls n ks
  part_call Adds c new makes shows more adds start first cs so = (
    c ∷ cs,
    adds cs,
    record {
      opened = so.opened;
      history = makes start cs so.history;
      printed = printed_more first (lines_of cs) ls _ ks so.printed (more ∙ ap (λ ys. ls ++ ys) (shows (clock_of (happenings cs))));
    },
  )

  pub part_offered : (mat bytes : ℕ) (r : Result (Unit {0}) Refusal) → Offers kind_numbers kind_limits kind_steps m mat 0 bytes r n →
      ks ≡ ls ++ shown.Offered mat r ∷ [] → Part (Make (Offer mat bytes)) m ls n ks
  part_offered mat bytes r said more =
      part_call (Make (Offer mat bytes)) (offered mat 0 bytes r) _ (λ start cs h. history.offer mat 0 bytes r h said) (λ s. refl) more (λ cs. (r, refl))

  pub part_bulk : (bytes : ℕ) (r : Result (Unit {0}) Refusal) → Bulks m 0 bytes r n → ks ≡ ls ++ shown.Bulk r ∷ [] → Part (Make (Bulk bytes)) m ls n ks
  part_bulk bytes r said more =
      part_call (Make (Bulk bytes)) (bulked 0 bytes r) _ (λ start cs h. history.bulk 0 bytes r h said) (λ s. refl) more (λ cs. (r, refl))

  pub part_released : (mat : ℕ) (r : Result (Unit {0}) Refusal) → Releases m mat r n → ks ≡ ls ++ shown.Released mat r ∷ [] → Part (Make (Release mat)) m ls n ks
  part_released mat r said more =
      part_call (Make (Release mat)) (released mat r) _ (λ start cs h. history.release mat r h said) (λ s. refl) more (λ cs. (r, refl))

  -- the same call and the same model, under other names
  pub part_as : (x y : Call) (o : LinkModel) → x ≡ y → n ≡ o → Part (Make y) m ls o ks → Part (Make x) m ls n ks
  part_as x y o is_call is-model part =
      subst (λ (z : Call). Part (Make z) m ls n ks) (sym is_call) (subst (λ (z : LinkModel). Part (Make y) m ls z ks) (sym is-model) part)

  -- a channel joined
  pub part_joined : (x : Channel) (r : Result ℕ Refusal) → Joined kind_numbers kind_limits kind_steps m x.mat x.kind r n → ks ≡ ls ++ channel_line_lem x.kind x.mat r ∷ [] → Part (Join x) m ls n ks
  part_joined x (Err e) said more start first cs so =
      part_call (Join x) (held x.mat x.kind (Err e)) _ (λ start cs h. history.hold x.mat x.kind (Err e) h said) (λ s. refl) more (λ cs. (Err e, refl)) start first cs so
  part_joined x (Ok count) (h, o, granted, confirms) more start first cs so = (
    joining x (Ok (h, count)) cs,
    (Ok (h, count), refl),
    record {
      opened = so.opened;
      history = history.confirm h (Ok tt) (history.hold x.mat x.kind (Ok (h, count)) so.history granted) confirms;
      printed = printed_more first (lines_of cs) ls _ ks so.printed more ∙ ap (λ ys. first ++ ys) (sym (append-nil _));
    },
  )

module _ {X : Type 0} (Step : X → List LinkCall → List LinkCall → Type 0) (xs : List X) (m : LinkModel) (ls : List Line) where
  -- no step was made yet
  pub turn_none : Part (λ cs ds. InTurn Step cs (take 0 xs) ds) m ls m ls
  turn_none start first cs so = (cs, begin, so)

  -- one step more
  pub turn_more : (i : ℕ) (d : X) (n o : LinkModel) (ks js : List Line) → i < length xs → Part (λ cs ds. InTurn Step cs (take i xs) ds) m ls n ks →
      Part (Step (get_or xs i d)) n ks o js → Part (λ cs ds. InTurn Step cs (take (i + 1) xs) ds) m ls o js
  turn_more i d n o ks js inside before step start first cs so =
      let there = before start first cs so in
      let here = step start first there.0 there.2 in
      (here.0, subst (λ ys. InTurn Step cs ys here.0) (sym (take_more xs i d inside)) (next there.1 (get_or xs i d) here.1), here.2)

  -- all were made
  pub turn_all : (i : ℕ) (n : LinkModel) (ks : List Line) → length xs ≤ i → Part (λ cs ds. InTurn Step cs (take i xs) ds) m ls n ks → Part (λ cs ds. InTurn Step cs xs ds) m ls n ks
  turn_all i n ks past before start first cs so =
      let there = before start first cs so in
      (there.0, subst (λ ys. InTurn Step cs ys there.0) (take_all i xs past) there.1, there.2)

module _ (m : LinkModel) (ls : List Line) where
  pub pass_none : Part (λ cs ds. Pass cs 0 ds) m ls m ls
  pass_none start first cs so = (cs, none, so)

  -- one slot more, with a line for the packet that ended with it
  pub pass_more : (i : ℕ) (n o : LinkModel) (ks js : List Line) (carried : Option Sent) → Part (λ cs ds. Pass cs i ds) m ls n ks → Ticks n (Ok carried) o → js ≡ ks ++ map end_line (ending carried o.clock) → Part (λ cs ds. Pass cs (i + 1) ds) m ls o js
  pass_more i n o ks js carried before said more start first cs so =
      let there = before start first cs so in
      let ds = there.0 in
      let h : LinkHistory start (ticked (Ok carried) ∷ ds) o = history.tick (Ok carried) there.2.history said in
      let since = history_clock kind_numbers kind_limits kind_steps kind_dated h in
      let zero-start = so.opened in
      let clock : o.clock ≡ clock_of (happenings ds) + 1 = omega arith in (
        ticked (Ok carried) ∷ ds,
        one_more there.1 carried,
        record {
          opened = so.opened;
          history = h;
          printed = printed_more first (lines_of ds) ks _ js there.2.printed (more ∙ ap (λ s. ks ++ map end_line (ending carried s)) clock);
        },
      )

  -- a tick that was refused is the last
  pub pass_stopped : (i count : ℕ) (n o : LinkModel) (ks js : List Line) (e : Refusal) → i < count → Part (λ cs ds. Pass cs i ds) m ls n ks → Ticks n (Err e) o → js ≡ ks ++ shown.Stopped e ∷ [] → Part (Tick count) m ls o js
  pass_stopped i count n o ks js e few before said more start first cs so =
      let there = before start first cs so in (
        ticked (Err e) ∷ there.0,
        stopped few there.1 e,
        record {
          opened = so.opened;
          history = history.tick (Err e) there.2.history said;
          printed = printed_more first (lines_of there.0) ks _ js there.2.printed more;
        },
      )

  -- all slots passed
  pub pass_all : (i count : ℕ) (n : LinkModel) (ks : List Line) → i ≡ count → Part (λ cs ds. Pass cs i ds) m ls n ks → Part (Tick count) m ls n ks
  pass_all i count n ks is before start first cs so =
      let there = before start first cs so in
      (there.0, all (subst (λ k. Pass cs k there.0) is there.1), there.2)
