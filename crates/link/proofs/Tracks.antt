-- The counted rows of a link as the channels of a ledger.
use Rattle.std.proofs.Common.{◌≡◌, ℕ, zero, suc, true, false, ◌⊎◌, List, [], ◌∷◌, ◌++◌, map, set, Some, sym, refl, ap, ◌∙◌, subst, inl, inr}
use Rattle.std.proofs.lemmas.Bool.{true≢false}
use Rattle.std.specs.List.{slice_get, AllByRecursion}
use Rattle.schedule.proofs.Ledgers.{Entry, kinds}
use Rattle.link.specs.declared.state.Event.TheVariants.{Quiet}
use Rattle.link.specs.declared.state.Phase.{Phase}
use Rattle.link.specs.declared.state.Phase.TheVariants.{Free, Leaving}
use Rattle.link.specs.Model.{FullRow, channels, on_entry}
use Rattle.link.specs.Rows.{counts, counted, is_held, moved, next, changed}

-- a quiet slot frees a row or leaves it as it is
quiet_phase : (p : Phase) → (counts (next p Quiet) ≡ false) ⊎ (next p Quiet ≡ p)
quiet_phase Leaving = inl refl
quiet_phase p = inr refl

module _ {X S : Type 0} where
  -- a counted row and its channel: the same kind and state; a held row has offered nothing
  pub record Tracked (r : FullRow X S) (e : Entry X S) : Type 0 where
    pub kind : e.kind ≡ r.row.kind
    pub now : e.now ≡ r.row.state
    pub idle : is_held r.entry.phase ≡ true → e.past ≡ []

  -- the channels are those of the counted rows, in their order
  pub data Tracks : List (FullRow X S) → List (Entry X S) → Type 0 where
    no_rows : Tracks [] []
    free : {r : FullRow X S} {rs : List (FullRow X S)} {es : List (Entry X S)} → counted r.entry ≡ false → Tracks rs es → Tracks (r ∷ rs) es
    taken : {r : FullRow X S} {rs : List (FullRow X S)} {e : Entry X S} {es : List (Entry X S)} → counted r.entry ≡ true → Tracked r e → Tracks rs es → Tracks (r ∷ rs) (e ∷ es)

  pub tracks_channels : {rs : List (FullRow X S)} {es : List (Entry X S)} → Tracks rs es → kinds es ≡ channels rs
  tracks_channels no_rows = refl
  tracks_channels (free c t) = rw c (tracks_channels t)
  tracks_channels (taken {r} {rs} {e} {es} c h t) = rw c (ap (λ k. k ∷ kinds es) h.kind ∙ ap (λ ks. r.row.kind ∷ ks) (tracks_channels t))

  -- the channel of one counted row: what becomes of the channels where that row is changed
  pub record Focus (rs : List (FullRow X S)) (i : ℕ) (r : FullRow X S) (es : List (Entry X S)) : Type 0 where
    pub front : List (Entry X S)
    pub entry : Entry X S
    pub back : List (Entry X S)
    pub is : es ≡ front ++ entry ∷ back
    pub tracked : Tracked r entry
    pub put : (f : FullRow X S → FullRow X S) (e : Entry X S) → counted (f r).entry ≡ true → Tracked (f r) e → Tracks (changed f i rs) (front ++ e ∷ back)
    pub drop : (f : FullRow X S → FullRow X S) → counted (f r).entry ≡ false → Tracks (changed f i rs) (front ++ back)

  pub focus : {rs : List (FullRow X S)} {es : List (Entry X S)} → Tracks rs es → (i : ℕ) (r : FullRow X S) → slice_get rs i ≡ Some r → counted r.entry ≡ true → Focus rs i r es
  focus no_rows i r h c = cc
  focus (free {r = q} n t) zero r h c =
      let is : q ≡ r = cc in
      absurd (true≢false (sym c ∙ ap (λ (x : FullRow X S). counted x.entry) (sym is) ∙ n))
  focus (free n t) (suc i) r h c =
      let f = focus t i r h c in
      record { front = f.front; entry = f.entry; back = f.back; is = f.is; tracked = f.tracked; put = λ g e d k. free n (f.put g e d k); drop = λ g d. free n (f.drop g d) }
  focus (taken {r = q} {e} {es} n k t) zero r h c =
      let is : q ≡ r = cc in
      record {
        front = [];
        entry = e;
        back = es;
        is = refl;
        tracked = subst (λ (x : FullRow X S). Tracked x e) is k;
        put = λ f a d m. taken (ap (λ (x : FullRow X S). counted (f x).entry) is ∙ d) (subst (λ (x : FullRow X S). Tracked (f x) a) (sym is) m) t;
        drop = λ f d. free (ap (λ (x : FullRow X S). counted (f x).entry) is ∙ d) t;
      }
  focus (taken {e} n k t) (suc i) r h c =
      let f = focus t i r h c in
      record {
        front = e ∷ f.front;
        entry = f.entry;
        back = f.back;
        is = ap (λ xs. e ∷ xs) f.is;
        tracked = f.tracked;
        put = λ g a d m. taken n k (f.put g a d m);
        drop = λ g d. taken n k (f.drop g d);
      }

  -- a free row: what becomes of the channels where it is filled
  pub record Gap (rs : List (FullRow X S)) (i : ℕ) (es : List (Entry X S)) : Type 0 where
    pub front : List (Entry X S)
    pub back : List (Entry X S)
    pub is : es ≡ front ++ back
    pub put : (r : FullRow X S) (e : Entry X S) → counted r.entry ≡ true → Tracked r e → Tracks (set rs i r) (front ++ e ∷ back)

  pub gap : {rs : List (FullRow X S)} {es : List (Entry X S)} → Tracks rs es → (i : ℕ) (r : FullRow X S) → slice_get rs i ≡ Some r → r.entry.phase ≡ Free → Gap rs i es
  gap no_rows i r h c = cc
  gap (free {es} n t) zero r h c = record { front = []; back = es; is = refl; put = λ a e d k. taken d k t }
  gap (free n t) (suc i) r h c = let f = gap t i r h c in record { front = f.front; back = f.back; is = f.is; put = λ a e d k. free n (f.put a e d k) }
  gap (taken {r = q} n k t) zero r h c =
      let is : q ≡ r = cc in
      absurd (true≢false (sym n ∙ ap (λ (x : FullRow X S). counted x.entry) is ∙ ap counts c))
  gap (taken {e} n k t) (suc i) r h c =
      let f = gap t i r h c in
      record { front = e ∷ f.front; back = f.back; is = ap (λ xs. e ∷ xs) f.is; put = λ a b d m. taken n k (f.put a b d m) }

  -- what a quiet slot leaves of the channels
  pub record Rest (rs : List (FullRow X S)) (es : List (Entry X S)) : Type 1 where
    pub stay : List (Entry X S)
    pub tracks : Tracks (map (on_entry (moved Quiet)) rs) stay
    pub each : (P : Entry X S → Type 0) → AllByRecursion P es → AllByRecursion P stay

  still_free : (r : FullRow X S) → counted r.entry ≡ false → counted (moved Quiet r.entry) ≡ false
  still_free r c = elim (quiet_phase r.entry.phase) [ inl n ↦ n | inr e ↦ ap counts e ∙ c ]

  pub rests : {rs : List (FullRow X S)} {es : List (Entry X S)} → Tracks rs es → Rest rs es
  rests no_rows = record { stay = []; tracks = no_rows; each = λ P h. tt }
  rests (free {r} n t) = let q = rests t in record { stay = q.stay; tracks = free (still_free r n) q.tracks; each = q.each }
  rests (taken {r} {rs} {e} {es} n k t) = go (rests t) (quiet_phase r.entry.phase)
    where
      go : Rest rs es → (counts (next r.entry.phase Quiet) ≡ false) ⊎ (next r.entry.phase Quiet ≡ r.entry.phase) → Rest (r ∷ rs) (e ∷ es)
      go q (inl c) = record { stay = q.stay; tracks = free c q.tracks; each = λ P h. q.each P h.1 }
      go q (inr same) = record {
        stay = e ∷ q.stay;
        tracks = taken (ap counts same ∙ n) (record { kind = k.kind; now = k.now; idle = λ h. k.idle (sym (ap is_held same) ∙ h) }) q.tracks;
        each = λ P h. (h.0, q.each P h.1);
      }
