-- The lines of calls tell of the ends that the calls tell of.
use Rattle.std.proofs.Common.{◌≡◌, ℕ, ◌+◌, Bool, true, false, cond, List, [], ◌∷◌, ◌++◌, map, Some, None, Ok, Err, Option, refl, ap, ◌∙◌, append-nil}
use Rattle.traffic.specs.declared.mixture.Mixture.TheVariants.{First, Second}
use Rattle.link.specs.Happenings.{Happening, happening, happenings, clock_of, ending, endings}
use Rattle.link.specs.History.{held, confirmed, cancelled, released, offered, bulked, ticked, stretch_asked, least_asked, pieced}
use Rattle.link.specs.declared.state.Sent.{Sent}
use Rattle.whole_answers.specs.Kinds.{Kind, LinkCall}
use Rattle.whole_answers.specs.Prints.{end_line, lines_at, lines_of, ends_told}
use Rattle.lines.specs.declared.Line.{Line}
use Rattle.lines.specs.declared.Line.TheVariants.{Malformed, Opened, Spaced, Bucket, Offered, Bulk, Released, Ended, Stopped, Least}

told_append : (ls ks : List Line) → ends_told (ls ++ ks) ≡ ends_told ls ++ ends_told ks
told_append [] ks = refl
told_append (Malformed sec num ∷ ls) ks = told_append ls ks
told_append (Opened shut ∷ ls) ks = told_append ls ks
told_append (Spaced mat r ∷ ls) ks = told_append ls ks
told_append (Bucket mat r ∷ ls) ks = told_append ls ks
told_append (Offered mat r ∷ ls) ks = told_append ls ks
told_append (Bulk r ∷ ls) ks = told_append ls ks
told_append (Released mat r ∷ ls) ks = told_append ls ks
told_append (Ended mat clock ∷ ls) ks = ap (λ xs. (mat, clock) ∷ xs) (told_append ls ks)
told_append (Stopped e ∷ ls) ks = told_append ls ks
told_append (Least mat r ∷ ls) ks = told_append ls ks

told_cond : (b : Bool) (x : ℕ × ℕ) → ends_told (map end_line (cond b (x ∷ []) [])) ≡ cond b (x ∷ []) []
told_cond true x = refl
told_cond false x = refl

told_ending : (carried : Option Sent) (s : ℕ) → ends_told (map end_line (ending carried s)) ≡ ending carried s
told_ending None s = refl
told_ending (Some t) s = told_cond t.ended (t.mat, s)

told_at : (es : List (Happening Kind)) (c : LinkCall) → endings es ++ ends_told (lines_at (clock_of es) c) ≡ endings (happening c ∷ es)
told_at es (held mat (First k) (Ok (h, count))) = append-nil (endings es)
told_at es (held mat (Second k) (Ok (h, count))) = append-nil (endings es)
told_at es (held mat (First k) (Err e)) = append-nil (endings es)
told_at es (held mat (Second k) (Err e)) = append-nil (endings es)
told_at es (confirmed h r) = append-nil (endings es)
told_at es (cancelled h r) = append-nil (endings es)
told_at es (released mat r) = append-nil (endings es)
told_at es (offered mat place bytes (Ok r)) = append-nil (endings es)
told_at es (offered mat place bytes (Err e)) = append-nil (endings es)
told_at es (bulked place bytes r) = append-nil (endings es)
told_at es (ticked (Ok carried)) = ap (λ xs. endings es ++ xs) (told_ending carried (clock_of es + 1))
told_at es (ticked (Err e)) = append-nil (endings es)
told_at es (stretch_asked r) = append-nil (endings es)
told_at es (least_asked k r) = append-nil (endings es)
told_at es (pieced mats files r) = append-nil (endings es)

pub ends_of_calls : (cs : List LinkCall) → ends_told (lines_of cs) ≡ endings (happenings cs)
ends_of_calls [] = refl
ends_of_calls (c ∷ cs) =
    told_append (lines_of cs) (lines_at (clock_of (happenings cs)) c)
    ∙ (ap (λ xs. xs ++ ends_told (lines_at (clock_of (happenings cs)) c)) (ends_of_calls cs) ∙ told_at (happenings cs) c)
