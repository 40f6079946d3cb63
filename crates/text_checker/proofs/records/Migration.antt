-- lines are migrated, one after the other
use Rattle.std.proofs.Common.{◌≡◌, ℕ, Bool, true, false, List, [], ◌∷◌, ◌++◌, map, flat_map, Option, Some, None, Ok, Err, refl, sym, ap, ◌∙◌, subst, append_assoc}
use Rattle.text_checker.proofs.Common.{Began, Stepped, Run, run_more, run_one, run_splits, Config, RenameTerms, RenameObject, IsRecent, ShowsSole, Entered, Probed, Sought, Left, Widened, Pooled, Stored, Fetched, Extended, Exchange, DeskCall, exchange_of, Renamed, Slotted, header_line, exchange_line, Firsts, pool_start, Line, Migration, terms_of, IsShown, reported_of, line_of, IsLineOf, CanFollow, after_line, Gathers, DeskObject, fresh_desk_object, AllowsCall, after_call}
use Rattle.std.specs.Prelude.{MatchOption, unwrap_or}
use Rattle.std.proofs.lemmas.List.{map-append, append-nil}
use Rattle.std.proofs.lemmas.Grind.{flat_map-append}
use Rattle.model_renaming.specs.declared.reply.Reply.TheVariants as step
use Rattle.model_pool.specs.declared.probe.Probe.TheVariants as probe
use Rattle.text_checker.specs.judges.Firsts.{IsFirstSole, NeverSole, view_at, HasFirst, HoldsFirsts}
use Rattle.text_checker.specs.Migrated.{Telling, ShowsFirst, IsTelling, after_telling, exchanges_in, record_text, proposal_of, shown_in, GoesOn, HasMigrated, PutsLine}
use Rattle.text_checker.proofs.Runs.{after_is}

-- ---- the call that a line is taken for

-- a call for a line, with the view that is shown
record Chosen (terms : RenameTerms) (o : DeskObject) (f : Firsts) (l : Line) : Type 0 where
  call : DeskCall
  telling : IsTelling terms o (record { line = l; call = call })
  shown : IsShown (exchange_of call).reply (shown_in f l.event l.reported)

-- the first view of a name that may be given
first_view : (o : RenameObject) (f : Firsts) (p n : ℕ) (view : List (ℕ × ℕ)) → HoldsFirsts f o → ShowsSole o p n view → (w : List (ℕ × ℕ)) × (view_at f p ≡ Some w) × IsFirstSole o p n w
first_view o f p n view h s = elim (view_at f p) as (λ x. view_at f p ≡ x → MatchOption x (NeverSole o p) (λ w. HasFirst o p w) → (w : List (ℕ × ℕ)) × (view_at f p ≡ Some w) × IsFirstSole o p n w) [
  | None ↦ λ e never. absurd (never s.index n s.recent s.sole)
  | Some w ↦ λ e has.
      let k : Some has.number ≡ Some n = sym has.first.shows.sole.own ∙ h.same p has.first.shows.index has.first.shows.recent ∙ sym (h.same p s.index s.recent) ∙ s.sole.own in
      let same : has.number ≡ n = cc in
      (w, e, subst (λ (m : ℕ). IsFirstSole o p m w) same has.first)
] refl (h.found p)

module _ (terms : RenameTerms) (o : DeskObject) (f : Firsts) (h : HoldsFirsts f o.names) where
  plain : (c : DeskCall) (b : Bool) → AllowsCall terms o c → ShowsFirst o.names (exchange_of c).event (exchange_of c).reply (reported_of b (exchange_of c).reply) →
      IsShown (exchange_of c).reply (shown_in f (exchange_of c).event (reported_of b (exchange_of c).reply)) → Chosen terms o f (line_of b (exchange_of c))
  plain c b a first shown = record {
    call = c;
    telling = record { allowed = a; spelled = record { shows = b; spelled = refl }; first = first };
    shown = shown;
  }

  choose_for : (c : DeskCall) (b : Bool) → AllowsCall terms o c → Chosen terms o f (line_of b (exchange_of c))
  choose_for (Renamed (Stepped p (Ok (step.Named n view)))) true a = plain (Renamed (Stepped p (Ok (step.Named n view)))) true a tt refl
  choose_for (Renamed (Stepped p (Ok (step.Named n view)))) false a =
      let k = first_view o.names f p n view h a.1.1 in
      record {
        call = Renamed (Stepped p (Ok (step.Named n k.0)));
        telling = record { allowed = (a.0, (a.1.0, k.2.shows, a.1.2)); spelled = record { shows = false; spelled = refl }; first = k.2 };
        shown = ap (λ (x : Option (List (ℕ × ℕ))). unwrap_or x []) k.1;
      }
  choose_for (Renamed (Began p (Err why))) b a = plain (Renamed (Began p (Err why))) b a tt tt
  choose_for (Slotted (Pooled (Entered p (Err why)))) b a = plain (Slotted (Pooled (Entered p (Err why)))) b a tt tt
  choose_for (Slotted (Pooled (Probed p (Ok probe.Missed)))) b a = plain (Slotted (Pooled (Probed p (Ok probe.Missed)))) b a tt tt
  choose_for (Slotted (Pooled (Sought p (Err why)))) b a = plain (Slotted (Pooled (Sought p (Err why)))) b a tt tt
  choose_for (Slotted (Pooled (Left p (Err why)))) b a = plain (Slotted (Pooled (Left p (Err why)))) b a tt tt
  choose_for (Slotted (Pooled (Widened more (Err why)))) b a = plain (Slotted (Pooled (Widened more (Err why)))) b a tt tt
  choose_for (Slotted (Stored p value (Err why))) b a = plain (Slotted (Stored p value (Err why))) b a tt tt
  choose_for (Slotted (Fetched p (Err why))) b a = plain (Slotted (Fetched p (Err why))) b a tt tt
  choose_for (Slotted (Extended more v (Err why))) b a = plain (Slotted (Extended more v (Err why))) b a tt tt
  choose_for c b a = plain c b a tt tt

  choose : (l : Line) → CanFollow terms o l → Chosen terms o f l
  choose l k = subst (Chosen terms o f) k.spelled.spelled (choose_for k.call k.spelled.shows k.allowed)

-- ---- what is kept of first moments

-- what changes no moment changes no first one
module _ (f : Firsts) (o : RenameObject) (begun : ℕ → Bool) (many : ℕ) (place name : ℕ → Option ℕ) (spent : ℕ → Bool) (count : ℕ → ℕ) where
  abbrev with_these : RenameObject
  with_these = record { begun = begun; many = many; place = place; name = name; spent = spent; last = o.last; moment = o.moment; since = o.since; count = count }

  before : (p i : ℕ) → IsRecent with_these p i → IsRecent o p i
  before p i r = record { no_earlier = r.no_earlier; no_later = r.no_later }

  elsewhere : HoldsFirsts f o → HoldsFirsts f with_these
  elsewhere h = record {
    present = h.present;
    since = h.since;
    same = (λ p i r. h.same p i (before p i r));
    found = (λ p. elim (view_at f p) as (λ x. MatchOption x (NeverSole o p) (λ w. HasFirst o p w) → MatchOption x (NeverSole with_these p) (λ w. HasFirst with_these p w)) [
      | None ↦ λ never i n r s. never i n (before p i r) s
      | Some w ↦ λ k.
          let s = k.first.shows in
          record {
            number = k.number;
            first = record {
              shows = record { index = s.index; recent = record { no_earlier = s.recent.no_earlier; no_later = s.recent.no_later }; is = s.is; sole = s.sole };
              first = (λ i r alone. k.first.first i (before p i r) alone);
            };
          }
    ] (h.found p));
  }

unchanged : (f f' : Firsts) (o : RenameObject) → f' ≡ f → HoldsFirsts f o → HoldsFirsts f' o
unchanged f f' o e h = subst (λ (x : Firsts). HoldsFirsts x o) (sym e) h

firsts_after : (f f' : Firsts) (o : DeskObject) (c : DeskCall) (b : Bool) → HoldsFirsts f o.names → GoesOn (proposal_of (exchange_of c).event (reported_of b (exchange_of c).reply)) f f' → HoldsFirsts f' (after_call o c).names
firsts_after f f' o (Renamed (Began p (Ok done))) b h g = unchanged f f' _ g (elsewhere f o.names _ _ _ _ _ _ h)
firsts_after f f' o (Renamed (Stepped p (Ok (step.Placed x)))) b h g = unchanged f f' _ g (elsewhere f o.names _ _ _ _ _ _ h)
firsts_after f f' o (Renamed (Stepped p (Ok (step.Proposed n)))) b h g = g o.names h
firsts_after f f' o (Renamed (Stepped p (Ok (step.Named n view)))) b h g = unchanged f f' _ g (elsewhere f o.names _ _ _ _ _ _ h)
firsts_after f f' o (Renamed (Stepped p (Ok step.Spent))) b h g = unchanged f f' _ g (elsewhere f o.names _ _ _ _ _ _ h)
firsts_after f f' o (Slotted (Pooled (Entered p answer))) b h g = unchanged f f' _ g h
firsts_after f f' o c b h g = unchanged f f' _ g h

pub firsts_next : (f f' : Firsts) (o : DeskObject) (c : DeskCall) (l : Line) → IsLineOf (exchange_of c) l → HoldsFirsts f o.names → GoesOn (proposal_of l.event l.reported) f f' → HoldsFirsts f' (after_call o c).names
firsts_next f f' o c l w h g = firsts_after f f' o c w.shows h (subst (λ (x : Line). GoesOn (proposal_of x.event x.reported) f f') (sym w.spelled) g)

-- ---- one more line

-- what is reported leads where its lines do
tellings_follow : (terms : RenameTerms) (o end : DeskObject) (ts : List Telling) → Run after_telling (IsTelling terms) o ts end → Run after_line (CanFollow terms) o (map (λ t. t.line) ts) end
tellings_follow terms o end [] r = r
tellings_follow terms o end (t ∷ ts) r = (
  record { call = t.call; spelled = r.0.spelled; allowed = r.0.allowed },
  subst (λ (x : DeskObject). Run after_line (CanFollow terms) x (map (λ s. s.line) ts) end) (after_is terms o t.call t.line r.0.spelled r.0.allowed) (tellings_follow terms (after_telling o t) end ts r.1),
)

-- the text has one more line
text_more : (c : Config) (ts : List Telling) (t : Telling) (text : List ℕ) → text ≡ record_text c (exchanges_in ts) → text ++ exchange_line (exchange_of t.call) ≡ record_text c (exchanges_in (ts ++ t ∷ []))
text_more c ts t text is =
    let xs = exchanges_in ts in
    let more : exchanges_in (ts ++ t ∷ []) ≡ xs ++ exchange_of t.call ∷ [] = map-append (λ (s : Telling). exchange_of s.call) ts (t ∷ []) in
    ap (λ (l : List ℕ). l ++ exchange_line (exchange_of t.call)) is
    ∙ append_assoc (header_line c) (flat_map exchange_line xs) (exchange_line (exchange_of t.call))
    ∙ ap (λ (l : List ℕ). header_line c ++ (flat_map exchange_line xs ++ l)) (sym (append-nil (exchange_line (exchange_of t.call))))
    ∙ ap (λ (l : List ℕ). header_line c ++ l) (sym (flat_map-append exchange_line xs (exchange_of t.call ∷ [])))
    ∙ ap (record_text c) (sym more)

pub gathers_more : (l : Line) (m m' : Migration) → PutsLine m.firsts l m.text m'.text → GoesOn (proposal_of l.event l.reported) m.firsts m'.firsts →
    Gathers HasMigrated l m m'
gathers_more l m m' text goes c lines o h follows =
    let s = h.so_far in
    let terms = terms_of c in
    let start = fresh_desk_object (pool_start c) in
    let parts = run_splits after_line (CanFollow terms) start lines (l ∷ []) o follows in
    let so_far : Run after_line (CanFollow terms) start lines s.object = subst (λ (x : List Line). Run after_line (CanFollow terms) start x s.object) s.lines_are (tellings_follow terms start s.object s.tellings s.run) in
    let same : parts.0 ≡ s.object = run_one after_line (CanFollow terms) start lines parts.0 s.object parts.1 so_far in
    let can : CanFollow terms s.object l = subst (λ (x : DeskObject). CanFollow terms x l) same parts.2.0 in
    let k = choose terms s.object m.firsts h.firsts l can in
    let t : Telling = record { line = l; call = k.call } in
    record {
      so_far = record {
        tellings = s.tellings ++ t ∷ [];
        lines_are = map-append (λ (x : Telling). x.line) s.tellings (t ∷ []) ∙ ap (λ (x : List Line). x ++ l ∷ []) s.lines_are;
        object = after_telling s.object t;
        run = run_more after_telling (IsTelling terms) start s.tellings s.object t s.run k.telling;
        text_is = text (exchange_of k.call) k.telling.spelled k.shown ∙ text_more c s.tellings t m.text s.text_is;
      };
      firsts = firsts_next m.firsts m'.firsts s.object k.call l k.telling.spelled h.firsts goes;
    }
