-- The lines of the least allowances, written one after the other.
use Rattle.std.proofs.Common.{◌≡◌, ℕ, ◌+◌, ◌<◌, ◌≤◌, true, false, List, [], ◌∷◌, ◌++◌, length, take, get_or, vec_len, Some, None, Ok, Err, OnOk, Option, Result, refl, sym, ap, subst, append-nil}
use Rattle.std.specs.Io.KnownBytes.{Appends}
use Rattle.std.proofs.lemmas.List.{flat_map_more}
use Rattle.plan.specs.Format.{Script}
use Rattle.plan.specs.Reading.{Read}
use Rattle.plan.specs.declared.Fault.{Fault}
use Rattle.plan.specs.declared.Fault.TheVariants as fault
use Rattle.plan.specs.Kinds.{Kind}
use Rattle.plan.specs.declared.Channel.{Channel}
use Rattle.lines.specs.Lines.{printed}
use Rattle.lines.specs.Replies.{written}
use Rattle.lines.specs.declared.Line.{Line}
use Rattle.lines.specs.declared.Line.TheVariants.{Malformed, Opened}
use Rattle.lines.proofs.Writing.{appends_more}
use Rattle.answers.specs.Answers.{opens, Extended, LeastShown, LeastsTold, LeastAnswered}
use Rattle.answers.specs.Decisions.{Decision, Decided, counted}
use Rattle.answers.specs.Granted.{kinds, listed, LeastTold}
use Rattle.answers.specs.declared.decisions.Granted.{Granted}
use Rattle.answers.proofs.Deciding.{Deciding, few_granted, deciding_none, deciding_more, deciding_all}
use Rattle.answers.proofs.Rows.{least_shown}
use Rattle.answers.proofs.Telling.{told_open}

-- a line is written after others
pub line_more : (old mid new : Option (List ℕ)) (ls : List Line) (l : Line) → Appends old mid (written ls) → Appends mid new (printed l ++ 10 ∷ []) → Appends old new (written (ls ++ l ∷ []))
line_more old mid new ls l before line =
    subst (Appends old new) (flat_map_more (λ x. printed x ++ 10 ∷ []) [] ls l) (appends_more old mid new (written ls) (printed l ++ 10 ∷ []) before line)

-- one line is written
pub one_line : (old new : Option (List ℕ)) (l : Line) → Appends old new (printed l ++ 10 ∷ []) → Appends old new (written (l ∷ []))
one_line old new l line = subst (Appends old new) (sym (append-nil (printed l ++ 10 ∷ []))) line

-- nothing is written
pub no_line : (old : Option (List ℕ)) → Appends old old []
no_line None = tt
no_line (Some xs) = sym (append-nil xs)

-- the channels decided so far, and the lines written of them
abbrev pub Leasts : ℕ → List Channel → List ℕ → List Kind → Option (List ℕ) → Option (List ℕ) → Type 0
Leasts p cs mats ks old new = (ls : List Line) × Deciding LeastShown p cs mats ks [] ls × Appends old new (written ls)

pub leasts_none : (p : ℕ) (mats : List ℕ) (ks : List Kind) (old : Option (List ℕ)) → mats ≡ [] → ks ≡ [] → Leasts p [] mats ks old old
leasts_none p mats ks old no-mats no-kinds = ([], deciding_none LeastShown p [] mats ks no-mats no-kinds, no_line old)

pub leasts_more : (p : ℕ) (cs : List Channel) (i : ℕ) (c : Channel) (d : Decision) (l : Line) (mats mats' : List ℕ) (g : Granted) (ks' : List Kind) (old mid new : Option (List ℕ)) → i < length cs →
    Leasts p (take i cs) mats (kinds g) old mid → LeastTold p (vec_len g.rows) (listed g) (get_or cs i c) l → Appends mid new (printed l ++ 10 ∷ []) → Decided p mats (kinds g) (get_or cs i c) d →
    mats' ≡ counted d (get_or cs i c).mat mats → ks' ≡ counted d (get_or cs i c).kind (kinds g) → Leasts p (take (i + 1) cs) mats' ks' old new
leasts_more p cs i c d l mats mats' g ks' old mid new inside (ls, before, lines) told line decided em ek =
    let x = get_or cs i c in
    let shown : LeastShown p (kinds g) x d l = least_shown p (kinds g) x x l g (few_granted before.so_far) refl refl told in
    (ls ++ l ∷ [], deciding_more LeastShown p [] cs i c d l mats mats' (kinds g) ks' ls (ls ++ l ∷ []) inside before decided shown em ek refl, line_more old mid new ls l lines line)

-- all channels were told of, after the link opened
pub leasts_all : (s : Script) (cs : List Channel) (i : ℕ) (mats : List ℕ) (ks : List Kind) (old mid new : Option (List ℕ)) → opens s.longest ≡ true → cs ≡ s.channels → length cs ≤ i →
    Appends old mid (printed (Opened false) ++ 10 ∷ []) → Leasts s.longest (take i cs) mats ks mid new → (ls : List Line) × LeastsTold s ls × Appends old new (written ls)
leasts_all s cs i mats ks old mid new opened same all first (ls, before, lines) =
    let (ms, gs, more, so_far, is) = deciding_all LeastShown s.longest [] cs i mats ks ls all before in
    let told : Extended LeastShown s.longest s.channels (Opened false ∷ []) (Opened false ∷ ls) =
    subst (λ xs. Extended LeastShown s.longest xs (Opened false ∷ []) (Opened false ∷ ls)) same (ms, gs, more, so_far, ap (λ xs. Opened false ∷ xs) is) in
    (Opened false ∷ ls, told_open LeastShown s (Opened false ∷ ls) (Opened false ∷ []) opened refl told, appends_more old mid new (printed (Opened false) ++ 10 ∷ []) (written ls) first lines)

-- a text that is not read is told of by its place
malformed_told : {T E : Type 0} (r : Result T E) (bytes : List ℕ) (sec num : ℕ) (old new : Option (List ℕ)) → Read bytes (Err (fault.Malformed sec num)) →
    OnOk r (Appends old new (printed (Malformed sec num) ++ 10 ∷ [])) → OnOk r ((ls : List Line) × LeastAnswered bytes ls × Appends old new (written ls))
malformed_told (Ok x) bytes sec num old new read line = (Malformed sec num ∷ [], (Err (fault.Malformed sec num), read, refl), one_line old new (Malformed sec num) line)
malformed_told (Err e) bytes sec num old new read line = line

pub refused_told : {T E : Type 0} (r : Result T E) (bytes : List ℕ) (f : Fault) (sec num s n : ℕ) (old new : Option (List ℕ)) → f ≡ fault.Malformed sec num → s ≡ sec → n ≡ num → Read bytes (Err f) →
    OnOk r (Appends old new (printed (Malformed s n) ++ 10 ∷ [])) → OnOk r ((ls : List Line) × LeastAnswered bytes ls × Appends old new (written ls))
refused_told r bytes f sec num s n old new is is-s is-n read line =
    malformed_told r bytes sec num old new (subst (λ e. Read bytes (Err e)) is read)
    (subst (λ a. OnOk r (Appends old new (printed (Malformed a num) ++ 10 ∷ []))) is-s (subst (λ b. OnOk r (Appends old new (printed (Malformed s b) ++ 10 ∷ []))) is-n line))
