-- Two plans with the same lines are the same.
use Rattle.std.proofs.Common.{◌≡◌, ℕ, cond, eqb, List, [], ◌++◌, map, get_or, drop, sym, refl, ap, ◌∙◌}
use Rattle.std.specs.List.{AllByRecursion}
use Rattle.traffic.specs.declared.bucket.Bucket.{Bucket}
use Rattle.traffic.specs.declared.mixture.Mixture.{Mixture}
use Rattle.traffic.specs.declared.mixture.Mixture.TheVariants.{First, Second}
use Rattle.traffic.specs.declared.spaced.Spaced.{Spaced}
use Rattle.plan.specs.Format.{Script, lines, section, InRange}
use Rattle.plan.specs.Lines.{Words, line, longest_words, kind_words, channel_words, channel_mats, call_words, call_mats, Fits}
use Rattle.plan.specs.declared.Call.{Call}
use Rattle.plan.specs.declared.Call.TheVariants.{Offer, Bulk, Ticks, Release}
use Rattle.plan.specs.declared.Channel.{Channel}
use Rattle.plan.proofs.Breaks.{section_front}
use Rattle.plan.proofs.Mapped.{same_from_map}
use Rattle.plan.proofs.Parsed.{same_from_line}

-- entries whose words tell them apart are told apart by their lines
pub same_from_lines_of : {X : Type 0} (words : X → Words) (mats : X → List ℕ) → ((x y : X) → words x ≡ words y → x ≡ y) → (xs ys : List X) → AllByRecursion (Fits words mats) xs → AllByRecursion (Fits words mats) ys → map (λ x. line (words x)) xs ≡ map (λ x. line (words x)) ys → xs ≡ ys
same_from_lines_of words mats told xs ys p q e =
    same_from_map (λ x. line (words x)) (Fits words mats) (λ x y fit fits same. told x y (same_from_line (words x) (words y) fit.0 fits.0 same)) xs ys p q e

-- the channel that words say
channel_of : Words → Channel
channel_of w =
    cond (eqb w.0 83)
    (record { mat = get_or w.1 0 0; kind = First (record { period = get_or w.1 1 0; longest = get_or w.1 2 0; allowance = get_or w.1 3 0 }) })
    (record { mat = get_or w.1 0 0; kind = Second (record { period = get_or w.1 1 0; longest = get_or w.1 2 0; depth = get_or w.1 3 0; allowance = get_or w.1 4 0 }) })

channel_of_kind : (m : ℕ) (k : Mixture Spaced Bucket) → channel_of (kind_words m k) ≡ record { mat = m; kind = k }
unfolding channel_of
channel_of_kind m (First k) = refl
channel_of_kind m (Second k) = refl

same_from_channel_words : (c d : Channel) → channel_words c ≡ channel_words d → c ≡ d
same_from_channel_words c d e = sym (channel_of_kind c.mat c.kind) ∙ ap channel_of e ∙ channel_of_kind d.mat d.kind

-- the call that words say
call_of : Words → Call
call_of w =
    cond (eqb w.0 79) (Offer (get_or w.1 0 0) (get_or w.1 1 0))
    (cond (eqb w.0 75) (Bulk (get_or w.1 0 0))
    (cond (eqb w.0 84) (Ticks (get_or w.1 0 0)) (Release (get_or w.1 0 0))))

call_of_words : (c : Call) → call_of (call_words c) ≡ c
unfolding call_of
call_of_words (Offer m bytes) = refl
call_of_words (Bulk bytes) = refl
call_of_words (Ticks count) = refl
call_of_words (Release m) = refl

same_from_call_words : (c d : Call) → call_words c ≡ call_words d → c ≡ d
same_from_call_words c d e = sym (call_of_words c) ∙ ap call_of e ∙ call_of_words d

pub same_from_lines : (s q : Script) → InRange s → InRange q → lines s ≡ lines q → s ≡ q
same_from_lines s q p r e =
    let first : line (longest_words s.longest) ≡ line (longest_words q.longest) = cc in
    let longest = ap (λ w. get_or w.1 0 0) (same_from_line (longest_words s.longest) (longest_words q.longest) (p.longest, tt) (r.longest, tt) first) in
    let two = section_front channel_words channel_mats s.channels q.channels (section call_words s.calls) (section call_words q.calls) p.channels.0 r.channels.0 (ap (drop 2) e) in
    let channels = same_from_lines_of channel_words channel_mats same_from_channel_words s.channels q.channels p.channels.1 r.channels.1 two.0 in
    let three = section_front call_words call_mats s.calls q.calls [] [] p.calls.0 r.calls.0 (ap (λ l. l ++ []) two.1) in
    let calls = same_from_lines_of call_words call_mats same_from_call_words s.calls q.calls p.calls.1 r.calls.1 three.0 in
    λ i. record { longest = longest i; channels = channels i; calls = calls i }
