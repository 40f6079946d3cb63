-- what callers kept stands in the history, which goes on
use Rattle.std.proofs.Common.{◌≡◌, ℕ, ◌+◌, ◌<◌, ◌≤◌, Bool, true, false, cond, List, [], ◌∷◌, ◌++◌, All, length, Some, slice_get, refl, sym, ap, subst, ◌∙◌, arith, length-append, replicate}
use Rattle.service_lock.proofs.Common.{slice_get_within, Config, Event, Exchange, exchange, ShownReply, is_refusal, Kept, CallerState, hall_of, SatisfiesSpec, HallMay, HallState, kept_of, Fits, KeepsUnless, IsTaken, IsSound}
use Rattle.std.proofs.lemmas.List.{replicate_more}
use Rattle.std.proofs.lemmas.List.Elements.{All-push, All-weaker}
use mathlib.Core.List.{IsPrefix}
use Rattle.service_lock.proofs.Fronts.{prefix_trans, prefix_get, prefix_length}
use Rattle.service_lock.specs.Kepts.{IsClerk}
use Rattle.service_hall.specs.GoesOn.{GoesOn}
use Rattle.service_hall.specs.Serving.{accepted}
use Rattle.service_hall.proofs.cited.HallLaws.{goes_on, goes_by, stays_by}
use Rattle.model_steps.specs.declared.refusal.Refusal.{Refusal}
use Rattle.model_asked.specs.declared.reply.Reply.{Reply}
use Rattle.model_asked.specs.declared.reply.Reply.TheVariants.{Refused}
use Rattle.model_asked.specs.Replies.{with_view}

-- the place behind a history is above all that stands in it
pub above_all : (history : List Exchange) (ks : List Kept) → Fits history ks → All (λ k. k.place < length history) ks
above_all history ks fits = All-weaker (λ (k : Kept). slice_get history k.place ≡ Some k.exchange) (λ (k : Kept). k.place < length history) (λ k is. slice_get_within history k.place k.exchange is) ks fits

-- what stands in a prefix stands in the whole
pub fits_longer : (xs ys : List Exchange) (ks : List Kept) → IsPrefix xs ys → Fits xs ks → Fits ys ks
fits_longer xs ys ks longer fits = All-weaker (λ (k : Kept). slice_get xs k.place ≡ Some k.exchange) (λ (k : Kept). slice_get ys k.place ≡ Some k.exchange) (λ k is. prefix_get xs ys k.place k.exchange longer is) ks fits

-- one more stands behind a list that is another
pub one_more : {A : Type 0} (xs front new : List A) (x : A) → front ≡ xs → new ≡ front ++ x ∷ [] → new ≡ xs ++ x ∷ []
one_more xs front new x same more = more ∙ ap (λ l. l ++ x ∷ []) same

-- and one more mark that is clear behind so many
pub one_clear : (n m : ℕ) (marks new : List Bool) → marks ≡ replicate n false → m ≡ n + 1 → new ≡ marks ++ false ∷ [] → new ≡ replicate m false
one_clear n m marks new clear many more = one_more (replicate n false) marks new false clear more ∙ replicate_more n false ∙ ap (λ (k : ℕ). replicate k false) (sym many)

-- the entry behind a list stands at its length
stands_last : (xs : List Exchange) (x : Exchange) → slice_get (xs ++ x ∷ []) (length xs) ≡ Some x
stands_last [] x = refl
stands_last (y ∷ xs) x = stands_last xs x

-- one entry more, and one more that is kept of it
fits_more : (xs : List Exchange) (ks : List Kept) (x : Exchange) → Fits xs ks → Fits (xs ++ x ∷ []) (ks ++ kept_of (length xs) x ∷ [])
fits_more xs ks x fits =
    All-push (λ (k : Kept). slice_get (xs ++ x ∷ []) k.place ≡ Some k.exchange) ks (kept_of (length xs) x) (fits_longer xs (xs ++ x ∷ []) ks (x ∷ [], refl) fits) (stands_last xs x)

-- what was kept stands in the history of the hall that answered, with what is kept of the answer
pub stands_by : (h : HallState) (e : Event) (r : ShownReply) (u : HallState) (ks : List Kept) → SatisfiesSpec h → Fits h.history ks → HallMay h e r u → Fits u.history (cond (is_refusal r) ks (ks ++ kept_of (length h.history) (exchange e r) ∷ []))
stands_by h e r u ks lawful fits may =
    elim (is_refusal r) as (λ b. is_refusal r ≡ b → Fits u.history (cond b ks (ks ++ kept_of (length h.history) (exchange e r) ∷ []))) [
      | true ↦ λ is. rw (stays_by h e r u lawful may is) fits
      | false ↦ λ is. rw (goes_by h e r u lawful may is) (fits_more h.history ks (exchange e r) fits)
    ] refl

keeps_by : (refused : Bool) (ks : List Kept) (place : ℕ) (e : Event) (r : ShownReply) → All (λ k. k.place < place) ks → KeepsUnless refused ks e r (cond refused ks (ks ++ kept_of place (exchange e r) ∷ []))
keeps_by true ks place e r above = refl
keeps_by false ks place e r above = record { place = place; above = above; is = refl }

module _ (c : Config) (h : HallState) (e : Event) (r : ShownReply) (u : HallState) (s t : CallerState) where
  -- the hall of a lawful history, of which a caller has seen a prefix, answers it
  pub taken : h.config ≡ c → SatisfiesSpec h → IsPrefix s.seen h.history → Fits s.seen s.kept → HallMay h e r u → t.seen ≡ u.history → t.kept ≡ cond (is_refusal r) s.kept (s.kept ++ kept_of (length h.history) (exchange e r) ∷ []) → IsTaken c s e r t
  taken of lawful longer fits may seen kept =
      let stand : Fits h.history s.kept = fits_longer s.seen h.history s.kept longer fits in
      let before : hall_of c h.history ≡ h = ap (λ (d : Config). hall_of d h.history) (sym of) in
      let m : GoesOn h e r u = goes_on h u e r lawful may in
      let after : hall_of c u.history ≡ u = ap (λ (d : Config). hall_of d u.history) (sym (m.config ∙ of)) in
      record {
        answer = record {
          history = h.history;
          lawful = subst SatisfiesSpec (sym before) lawful;
          longer = longer;
          answer = subst (λ (k : HallState). HallMay k e r (hall_of c t.seen)) (sym before) (subst (λ (k : HallState). HallMay h e r k) (sym (ap (hall_of c) seen ∙ after)) may);
        };
        kept = rw kept (keeps_by (is_refusal r) s.kept (length h.history) e r (above_all h.history s.kept stand));
        stands = rw (seen, kept) (stands_by h e r u s.kept lawful stand may);
      }

  pub taken_refused : h.config ≡ c → SatisfiesSpec h → IsPrefix s.seen h.history → Fits s.seen s.kept → HallMay h e r u → is_refusal r ≡ true → t.seen ≡ u.history → t.kept ≡ s.kept → IsTaken c s e r t
  taken_refused of lawful longer fits may refused seen kept =
      taken of lawful longer fits may seen (kept ∙ ap (λ (b : Bool). cond b s.kept (s.kept ++ kept_of (length h.history) (exchange e r) ∷ [])) (sym refused))

  pub taken_accepted : h.config ≡ c → SatisfiesSpec h → IsPrefix s.seen h.history → Fits s.seen s.kept → HallMay h e r u → is_refusal r ≡ false → t.seen ≡ u.history → t.kept ≡ s.kept ++ kept_of (length h.history) (exchange e r) ∷ [] → IsTaken c s e r t
  taken_accepted of lawful longer fits may accepted seen kept =
      taken of lawful longer fits may seen (kept ∙ ap (λ (b : Bool). cond b s.kept (s.kept ++ kept_of (length h.history) (exchange e r) ∷ [])) (sym accepted))

-- a caller that was answered has seen a lawful history, which goes on from what it had seen
pub sound_after : (c : Config) (s t : CallerState) (e : Event) (r : ShownReply) → IsTaken c s e r t → IsSound c t
sound_after c s t e r one =
    let m : GoesOn (hall_of c one.answer.history) e r (hall_of c t.seen) = goes_on (hall_of c one.answer.history) (hall_of c t.seen) e r one.answer.lawful one.answer.answer in
    record { lawful = m.lawful; stands = one.stands }

pub seen_after : (c : Config) (s t : CallerState) (e : Event) (r : ShownReply) → IsTaken c s e r t → IsPrefix s.seen t.seen
seen_after c s t e r one =
    let m : GoesOn (hall_of c one.answer.history) e r (hall_of c t.seen) = goes_on (hall_of c one.answer.history) (hall_of c t.seen) e r one.answer.lawful one.answer.answer in
    prefix_trans s.seen one.answer.history t.seen one.answer.longer (accepted (exchange e r ∷ []), sym m.history)

pub lawful_of : (c : Config) (h : HallState) → h.config ≡ c → SatisfiesSpec h → SatisfiesSpec (hall_of c h.history)
lawful_of c h of lawful = subst SatisfiesSpec (ap (λ (d : Config). hall_of d h.history) of) lawful

-- what a caller's type says of what it has kept and seen
pub record Stands (c : Config) (seen : List Exchange) (ks : List Kept) (next : ℕ) : Type 0 where
  pub within : next ≤ length seen
  pub fits : Fits seen ks
  pub lawful : SatisfiesSpec (hall_of c seen)

module _ (c : Config) (h : HallState) (seen : List Exchange) (ks : List Kept) (next : ℕ) (of : h.config ≡ c) (lawful : SatisfiesSpec h) (longer : IsPrefix seen h.history) (fits : Fits seen ks) (within : next ≤ length seen) where
  -- it has seen the whole history
  pub stands_seen : Stands c h.history ks next
  stands_seen = record {
    within = omega (arith, within, prefix_length seen h.history longer);
    fits = fits_longer seen h.history ks longer fits;
    lawful = lawful_of c h of lawful;
  }

  -- and an event that was accepted, which it keeps
  pub stands_kept : (e : Event) (r : ShownReply) (u : HallState) → HallMay h e r u → is_refusal r ≡ false → Stands c (h.history ++ exchange e r ∷ []) (ks ++ kept_of (length h.history) (exchange e r) ∷ []) (length h.history + 1)
  stands_kept e r u may accepted =
      let m : GoesOn h e r u = goes_on h u e r lawful may in
      record {
        within = omega (arith, length-append h.history (exchange e r ∷ []));
        fits = fits_more h.history ks (exchange e r) (fits_longer seen h.history ks longer fits);
        lawful = subst (λ (l : List Exchange). SatisfiesSpec (hall_of c l)) (goes_by h e r u lawful may accepted) (lawful_of c u (m.config ∙ of) m.lawful);
      }

-- it has seen the front, which is the whole history
pub stands_answered : (c : Config) (h : HallState) (seen front now : List Exchange) (ks : List Kept) (next : ℕ) → h.config ≡ c → SatisfiesSpec h → front ≡ h.history → IsPrefix seen front → now ≡ front → Fits seen ks → next ≤ length seen → Stands c now ks next
stands_answered c h seen front now ks next of lawful whole longer again fits within =
    subst (λ (l : List Exchange). Stands c l ks next) (sym (again ∙ whole)) (stands_seen c h seen ks next of lawful (subst (IsPrefix seen) whole longer) fits within)

-- and it is a clerk still, which has kept what it kept
pub clerk_answered : (c : Config) (h : HallState) (seen front now : List Exchange) (parts amount : ℕ) (ks kept : List Kept) (next : ℕ) → h.config ≡ c → SatisfiesSpec h → front ≡ h.history → IsPrefix seen front → now ≡ front → kept ≡ ks →
    IsClerk c parts amount ks next seen → IsClerk c parts amount kept next now
clerk_answered c h seen front now parts amount ks kept next of lawful whole longer again same k =
    let s = stands_answered c h seen front now ks next of lawful whole longer again k.4 k.3 in
    rw same (k.0, k.1, k.2, s.within, s.fits, s.lawful)

-- a refused event leaves the hall, and what the caller has kept, as they were
pub taken_unchanged : (c : Config) (h : HallState) (e : Event) (r : ShownReply) (s t : CallerState) (front : List Exchange) → h.config ≡ c → SatisfiesSpec h → front ≡ h.history → IsPrefix s.seen front → Fits s.seen s.kept → HallMay h e r h → is_refusal r ≡ true → t.seen ≡ front → t.kept ≡ s.kept → IsTaken c s e r t
taken_unchanged c h e r s t front of lawful whole longer fits may refused seen kept =
    taken_refused c h e r h s t of lawful (subst (IsPrefix s.seen) whole longer) fits may refused (seen ∙ whole) kept

-- a short reply that is none of the refusals is accepted
pub taken_by : (r : Reply (Unit {0})) (view : List (ℕ × ℕ)) → ((why : Refusal) → r ≡ Refused why → ⊥) → is_refusal (with_view r view) ≡ false
taken_by (Refused why) view refused = absurd (refused why refl)
taken_by r view refused = refl
