-- steps that are added
use Rattle.std.proofs.Common.{◌≡◌, ℕ, ◌+◌, ◌<◌, true, false, List, [], ◌∷◌, ◌++◌, All, refl, sym, ap, subst, ◌∙◌, arith, append_assoc, length-append}
use Rattle.service_lock.proofs.Common.{append-nil, Refusal, Config, Step, exchange, ShownReply, is_refusal, with_view, CallerState, IsKept, IsTaken, kept_of}
use Rattle.std.proofs.lemmas.List.Elements.{All-nil, All-push}
use Rattle.model_asked.specs.declared.reply.Reply.{Reply}
use Rattle.model_asked.specs.declared.reply.Reply.TheVariants.{Named, Spent, Refused}
use Rattle.text_worlds.specs.desk.NamedAmong.{goes_on}
use Rattle.service_lock.specs.Renamed.{AreAbove, IsStepped, IsPlainStep}
use Rattle.service_lock.specs.declared.kept.Kept.{Kept}
use Rattle.service_lock.proofs.Fronts.{prefix_trans}
use Rattle.service_lock.specs.lemmas.ServingProofs.{prefix_self}
use Rattle.service_lock.proofs.Standing.{sound_after, seen_after}

pub stepped_not : (c : Config) (id : ℕ) (s : CallerState) → IsStepped c id 0 s s
stepped_not c id s = record { added = []; longer = sym (append-nil s.kept); counted = refl; plain = All-nil _; rising = tt; seen = prefix_self s.seen; sound = λ sound. sound }

-- who is not named, spent or refused goes on
pub plain_by : (r : Reply (Unit {0})) (view : List (ℕ × ℕ)) → ((name : ℕ) (nothing : Unit {0}) → r ≡ Named name nothing → ⊥) → (r ≡ Spent → ⊥) → ((why : Refusal) → r ≡ Refused why → ⊥) → goes_on (with_view r view) ≡ true
plain_by (Named name nothing) view named spent refused = absurd (named name nothing refl)
plain_by Spent view named spent refused = absurd (spent refl)
plain_by (Refused why) view named spent refused = absurd (refused why refl)
plain_by r view named spent refused = refl

-- one more above all
above_more : (before added : List Kept) (k : Kept) → AreAbove before added → All (λ j. j.place < k.place) (before ++ added) → AreAbove before (added ++ k ∷ [])
above_more before [] k above all = (subst (λ (l : List Kept). All (λ j. j.place < k.place) l) (append-nil before) all, tt)
above_more before (a ∷ added) k above all =
    (above.0, above_more (before ++ a ∷ []) added k above.1 (subst (λ (l : List Kept). All (λ j. j.place < k.place) l) (sym (append_assoc before (a ∷ []) added)) all))

-- one more step after which it goes on
pub stepped_more : (c : Config) (id count : ℕ) (s mid t : CallerState) (r : ShownReply) → IsStepped c id count s mid → IsTaken c mid (Step id) r t → goes_on r ≡ true → is_refusal r ≡ false → IsStepped c id (count + 1) s t
stepped_more c id count s mid t r h one plain taken =
    let kept : IsKept mid.kept (Step id) r t.kept = let keeps = one.kept in rw taken at keeps in
    let k = kept_of kept.place (exchange (Step id) r) in
    record {
      added = h.added ++ k ∷ [];
      longer = kept.is ∙ ap (λ xs. xs ++ k ∷ []) h.longer ∙ append_assoc s.kept h.added (k ∷ []);
      counted = omega (arith, length-append h.added (k ∷ []), h.counted);
      plain = All-push (IsPlainStep id) h.added k h.plain (record { event = refl; plain = plain });
      rising = above_more s.kept h.added k h.rising (subst (λ (l : List Kept). All (λ j. j.place < kept.place) l) h.longer kept.above);
      seen = prefix_trans s.seen mid.seen t.seen h.seen (seen_after c mid t (Step id) r one);
      sound = λ sound. sound_after c mid t (Step id) r one;
    }
