-- a hall that is built anew, event by event
use Rattle.std.proofs.Common.{◌≡◌, ℕ, zero, suc, ◌+◌, Bool, true, false, cond, List, [], ◌∷◌, ◌++◌, Some, None, Option, length, take, replicate, inl, inr, refl, sym, ap, subst, ◌∙◌, arith, add-one, slice_get}
use Rattle.std.proofs.lemmas.List.{take_all}
use Rattle.std.proofs.lemmas.Option.{same_Some}
use Rattle.model_steps.specs.declared.refusal.Refusal.{Refusal}
use Rattle.model_asked.specs.Config.{is_tree}
use Rattle.model_asked.specs.declared.config.Config.{Config}
use Rattle.model_asked.specs.declared.event.Event.{Event}
use Rattle.model_asked.specs.declared.exchange.Exchange.{Exchange}
use Rattle.model_asked.specs.declared.kind.WorldKind.{WorldKind}
use Rattle.model_asked.specs.Replies.{ShownReply, is_refusal}
use Rattle.model_renaming.specs.over.Grid.{fresh_grid}
use Rattle.model_renaming.specs.over.Tree.{new_tree}
use Rattle.model_pool.specs.Pool.{fresh_pool}
use Rattle.model_pool.specs.slots.SlotsState.{SlotsState}
use Rattle.text_worlds.specs.desk.Desk.{fresh_desk, fresh_in, desk_reply, desk_after, desk_refusal}
use Rattle.text_worlds.specs.desk.DeskCalls.{exchange}
use Rattle.text_worlds.specs.desk.DeskRules.{fresh_over}
use Rattle.text_worlds.specs.desk.DeskValue.{DeskValue}
use Rattle.text_worlds.specs.desk.DeskValue.DeskValue.{OverGrid, OverTree}
use Rattle.text_worlds.specs.desk.Start.{pool_start}
use Rattle.service_hall.specs.Halls.{hall_of, desk_of, SatisfiesSpec, hall_refusal, full_unless, longer, reply_unless, after_unless, HallMay}
use Rattle.service_hall.specs.HallState.{HallState}
use Rattle.service_hall.specs.Replay.{replay, AreAccepted}
use Rattle.service_hall.specs.declared.rebuilding.Rebuilding.{Rebuilding}
use Rattle.service_hall.specs.declared.slots_copy.SlotsCopy.{SlotsCopy}
use Rattle.service_hall.specs.Compactions.{renaming_of}
use Rattle.service_hall.specs.Copies.{slots_in}
use Rattle.service_hall.specs.DeskParts.{is_renaming, slots_of, NamesAlike}
use Rattle.service_hall.specs.Rebuilt.{IsCopied, after_first, HasRenaming, HasTaken, GoesOn, IsOneDesk, IsSorted}
use Rattle.service_hall.specs.Slots.{LetsIn, slots_after}
use Rattle.service_hall.proofs.DeskLemmas.{alike_self, alike_along, alike_sym, one_desk, slots_go_on, slots_stay, names_stay, alike_back, names_go_on, answered_alike, lets_in}

-- lists of exchanges, with one more
replay_more : (w : DeskValue) (xs : List Exchange) (x : Exchange) → replay w (xs ++ x ∷ []) ≡ desk_after (replay w xs) x.event
replay_more w [] x = refl
replay_more w (y ∷ ys) x = replay_more (desk_after w y.event) ys x

take_suc : (xs : List Exchange) (n : ℕ) (x : Exchange) → slice_get xs n ≡ Some x → take (suc n) xs ≡ take n xs ++ x ∷ []
take_suc [] n x h = absurd (cc)
take_suc (y ∷ ys) zero x h = ap (λ (z : Exchange). z ∷ []) (same_Some y x h)
take_suc (y ∷ ys) (suc n) x h = ap (λ (l : List Exchange). y ∷ l) (take_suc ys n x h)

pub take_next : (xs : List Exchange) (n : ℕ) (x : Exchange) → slice_get xs n ≡ Some x → take (n + 1) xs ≡ take n xs ++ x ∷ []
take_next xs n x h = ap (λ (k : ℕ). take k xs) (add-one n) ∙ take_suc xs n x h

renaming_more : (xs : List Exchange) (x : Exchange) → is_renaming x.event ≡ true → renaming_of (xs ++ x ∷ []) ≡ renaming_of xs ++ x ∷ []
renaming_more [] x is = rw is refl
renaming_more (y ∷ ys) x is = elim (is_renaming y.event) as (λ (b : Bool). is_renaming y.event ≡ b → renaming_of ((y ∷ ys) ++ x ∷ []) ≡ renaming_of (y ∷ ys) ++ x ∷ []) [
  | true ↦ λ e. rw e (ap (λ (l : List Exchange). y ∷ l) (renaming_more ys x is))
  | false ↦ λ e. rw e (renaming_more ys x is)
] refl

renaming_stays : (xs : List Exchange) (x : Exchange) → is_renaming x.event ≡ false → renaming_of (xs ++ x ∷ []) ≡ renaming_of xs
renaming_stays [] x is = rw is refl
renaming_stays (y ∷ ys) x is = elim (is_renaming y.event) as (λ (b : Bool). is_renaming y.event ≡ b → renaming_of ((y ∷ ys) ++ x ∷ []) ≡ renaming_of (y ∷ ys)) [
  | true ↦ λ e. rw e (ap (λ (l : List Exchange). y ∷ l) (renaming_stays ys x is))
  | false ↦ λ e. rw e (renaming_stays ys x is)
] refl

-- the event at a place was accepted there, with the reply that was due
record WasAccepted (w : DeskValue) (x : Exchange) : Type 0 where
  accepted : desk_refusal w x.event ≡ None
  answered : x.reply ≡ desk_reply w x.event

accepted_at : (w : DeskValue) (xs : List Exchange) (n : ℕ) (x : Exchange) → AreAccepted w xs → slice_get xs n ≡ Some x → WasAccepted (replay w (take n xs)) x
accepted_at w [] n x a h = absurd (cc)
accepted_at w (y ∷ ys) zero x a h = subst (λ (z : Exchange). WasAccepted w z) (same_Some y x h) (record { accepted = a.0; answered = a.1 })
accepted_at w (y ∷ ys) (suc n) x a h = accepted_at (desk_after w y.event) ys n x a.2 h

-- a hall with one more event
pub taken : (h : HallState) (e : Event) (r : ShownReply) (u : HallState) → HallMay h e r u → is_refusal r ≡ false → (hall_refusal h e ≡ None) × (u ≡ longer h e)
taken h e r u (inl m) ok = elim (hall_refusal h e) as (λ (o : Option Refusal). hall_refusal h e ≡ o → r ≡ reply_unless o h e → u ≡ after_unless o h e → (hall_refusal h e ≡ None) × (u ≡ longer h e)) [
  | None ↦ λ is a b. (is, b)
  | Some why ↦ λ is a b. absurd (let k : true ≡ false = ap is_refusal (sym a) ∙ ok in cc)
] refl m.0 m.1
taken h e r u (inr m) ok = absurd (let k : true ≡ false = ap is_refusal (sym m.0) ∙ ok in cc)

desk_longer : (h : HallState) (e : Event) → desk_of (longer h e) ≡ desk_after (desk_of h) e
desk_longer h e = replay_more (fresh_desk h.config) h.history (exchange e (desk_reply (desk_of h) e))

unless_none : (o : Option Refusal) (count : ℕ) → full_unless o count ≡ None → o ≡ None
unless_none None count h = refl
unless_none (Some why) count h = absurd (cc)

pub copied_on : (h : HallState) (e : Event) (c d : SlotsCopy) → hall_refusal h e ≡ None → (LetsIn (slots_in c) e → slots_in d ≡ slots_after (slots_in c) e) → IsCopied h c → IsCopied (longer h e) d
copied_on h e c d ok follow is =
    let accepted : desk_refusal (desk_of h) e ≡ None = unless_none (desk_refusal (desk_of h) e) (length h.history) ok in
    let lets : LetsIn (slots_in c) e = subst (λ (s : SlotsState ℕ). LetsIn s e) (sym is) (lets_in (desk_of h) e accepted) in
    follow lets ∙ ap (λ (s : SlotsState ℕ). slots_after s e) is ∙ sym (slots_go_on (desk_of h) e) ∙ ap slots_of (sym (desk_longer h e))

-- the hall of a config with no event
fresh_slots_in : (w : WorldKind) (c : Config) → slots_of (fresh_in w c) ≡ record { pool = fresh_pool (pool_start c); values = replicate c.k 0 }
fresh_slots_in w c =
    let new : SlotsState ℕ = record { pool = fresh_pool (pool_start c); values = replicate c.k 0 } in
    let over_grid : DeskValue = OverGrid (fresh_over (fresh_grid c.m) c.m c.limit (pool_start c)) in
    let over_tree : DeskValue = OverTree (fresh_over (new_tree c.m) c.m c.limit (pool_start c)) in
    elim (is_tree w) as (λ b. slots_of (cond b over_tree over_grid) ≡ new) [ true ↦ refl | false ↦ refl ]

pub fresh_copied : (c : Config) (s : SlotsCopy) → slots_in s ≡ record { pool = fresh_pool (pool_start c); values = replicate c.k 0 } → IsCopied (hall_of c []) s
fresh_copied c s is = is ∙ sym (fresh_slots_in c.world c)

-- by the same renaming
renaming_self : (h : HallState) → HasRenaming h h
renaming_self h = record { config = refl; names = alike_self (desk_of h); renaming = refl }

pub renaming_along : (h u v : HallState) → HasRenaming h u → HasRenaming u v → HasRenaming h v
renaming_along h u v a b = record {
  config = b.config ∙ a.config;
  names = alike_along (desk_of v) (desk_of u) (desk_of h) b.names a.names;
  renaming = b.renaming ∙ a.renaming;
}

-- an event of the pool or the slots
stays : (h : HallState) (e : Event) → is_renaming e ≡ false → HasRenaming h (longer h e)
stays h e is = record {
  config = refl;
  names = subst (λ (w : DeskValue). NamesAlike w (desk_of h)) (sym (desk_longer h e)) (names_stay (desk_of h) e is);
  renaming = renaming_stays h.history (exchange e (desk_reply (desk_of h) e)) is;
}

pub goes_on : (old new : Rebuilding) (e : Event) → HasTaken old e new → is_renaming e ≡ false → GoesOn old new
goes_on old new e t is = record { same = subst (λ (h : HallState). HasRenaming old.hall h) (sym t.hall) (stays old.hall e is); copied = t.copied }

pub goes_self : (old : Rebuilding) → GoesOn old old
goes_self old = record { same = renaming_self old.hall; copied = λ is. is }

pub goes_along : (a b c : Rebuilding) → GoesOn a b → GoesOn b c → GoesOn a c
goes_along a b c x y = record { same = renaming_along a.hall b.hall c.hall x.same y.same; copied = λ is. y.copied (x.copied is) }

-- nothing is sorted yet
pub none_sorted : (h : HallState) (new : Rebuilding) (old : SlotsCopy) → new.hall ≡ hall_of h.config [] → IsCopied new.hall new.slots →
    slots_in old ≡ record { pool = fresh_pool (pool_start h.config); values = replicate h.config.k 0 } → IsSorted h 0 new old
none_sorted h new old is copied fresh = record {
  same = subst (λ (u : HallState). HasRenaming (hall_of h.config []) u) (sym is) (renaming_self (hall_of h.config []));
  copied = copied;
  followed = fresh_copied h.config old fresh;
}

-- one more event is sorted
module _ (h : HallState) (n : ℕ) (x : Exchange) (at : slice_get h.history n ≡ Some x) (lawful : SatisfiesSpec h) where
  was : WasAccepted (desk_of (after_first n h)) x
  was = accepted_at (fresh_desk h.config) h.history n x lawful.accepted at

  next_desk : desk_of (after_first (n + 1) h) ≡ desk_after (desk_of (after_first n h)) x.event
  next_desk = ap (λ (l : List Exchange). replay (fresh_desk h.config) l) (take_next h.history n x at) ∙ replay_more (fresh_desk h.config) (take n h.history) x

  -- one of renaming is taken over
  pub one_taken_over : (new later : Rebuilding) (old : SlotsCopy) → IsSorted h n new old → HasTaken new x.event later → is_renaming x.event ≡ true → IsSorted h (n + 1) later old
  one_taken_over new later old s t is =
      let names : NamesAlike (desk_after (desk_of new.hall) x.event) (desk_after (desk_of (after_first n h)) x.event) = names_go_on (desk_of new.hall) (desk_of (after_first n h)) x.event is s.same.names in
      let reply : x.reply ≡ desk_reply (desk_of new.hall) x.event = was.answered ∙ sym (answered_alike (desk_of new.hall) (desk_of (after_first n h)) x.event is s.same.names) in
      let one : exchange x.event (desk_reply (desk_of new.hall) x.event) ≡ x = ap (λ (r : ShownReply). exchange x.event r) (sym reply) in
      let same : HasRenaming (after_first (n + 1) h) (longer new.hall x.event) = record {
        config = s.same.config;
        names = subst (λ (w : DeskValue). NamesAlike w (desk_of (after_first (n + 1) h))) (sym (desk_longer new.hall x.event))
            (subst (λ (w : DeskValue). NamesAlike (desk_after (desk_of new.hall) x.event) w) (sym next_desk) names);
        renaming =
            renaming_more new.hall.history (exchange x.event (desk_reply (desk_of new.hall) x.event)) is
            ∙ ap (λ (y : Exchange). renaming_of new.hall.history ++ y ∷ []) one
            ∙ ap (λ (l : List Exchange). l ++ x ∷ []) s.same.renaming
            ∙ sym (renaming_more (take n h.history) x is)
            ∙ ap renaming_of (sym (take_next h.history n x at));
      } in
      record {
        same = subst (λ (u : HallState). HasRenaming (after_first (n + 1) h) u) (sym t.hall) same;
        copied = t.copied s.copied;
        followed = s.followed ∙ sym (slots_stay (slots_of (desk_of (after_first n h))) x.event is) ∙ sym (slots_go_on (desk_of (after_first n h)) x.event) ∙ ap slots_of (sym next_desk);
      }

  -- one of the pool or the slots is followed
  pub one_followed : (new : Rebuilding) (old later : SlotsCopy) → IsSorted h n new old → is_renaming x.event ≡ false →
      (LetsIn (slots_in old) x.event → slots_in later ≡ slots_after (slots_in old) x.event) → IsSorted h (n + 1) new later
  one_followed new old later s is follow =
      let lets : LetsIn (slots_in old) x.event = subst (λ (k : SlotsState ℕ). LetsIn k x.event) (sym s.followed) (lets_in (desk_of (after_first n h)) x.event was.accepted) in
      let back : HasRenaming (after_first (n + 1) h) (after_first n h) = record {
        config = refl;
        names = subst (λ (w : DeskValue). NamesAlike (desk_of (after_first n h)) w) (sym next_desk) (alike_back (desk_of (after_first n h)) x.event is);
        renaming = sym (ap renaming_of (take_next h.history n x at) ∙ renaming_stays (take n h.history) x is);
      } in
      record {
        same = renaming_along (after_first (n + 1) h) (after_first n h) new.hall back s.same;
        copied = s.copied;
        followed = follow lets ∙ ap (λ (k : SlotsState ℕ). slots_after k x.event) s.followed ∙ sym (slots_go_on (desk_of (after_first n h)) x.event) ∙ ap slots_of (sym next_desk);
      }

-- all is sorted
all_first : (h : HallState) → after_first (length h.history) h ≡ h
all_first h = ap (λ (l : List Exchange). hall_of h.config l) (take_all (length h.history) h.history (omega arith))

pub all_sorted : (h : HallState) (new : Rebuilding) (old : SlotsCopy) → IsSorted h (length h.history) new old → HasRenaming h new.hall × IsCopied new.hall new.slots × IsCopied h old
all_sorted h new old s = (
  subst (λ (u : HallState). HasRenaming u new.hall) (all_first h) s.same,
  s.copied,
  subst (λ (u : HallState). IsCopied u old) (all_first h) s.followed,
)

-- the desk is the same where the renaming is and the copies are
pub same_desk : (h new : HallState) (old copy : SlotsCopy) → HasRenaming h new → IsCopied h old → IsCopied new copy → slots_in old ≡ slots_in copy → desk_of new ≡ desk_of h
same_desk h new old copy same a b is = one_desk (desk_of new) (desk_of h) same.names (sym b ∙ sym is ∙ a)

-- a hall that has all of renaming, and was led to where the old pool and slots stand, has the renaming and the desk of the old one
pub led_there : (h : HallState) (new later : Rebuilding) (old : SlotsCopy) → IsSorted h (length h.history) new old → GoesOn new later →
    HasRenaming h later.hall × (slots_in old ≡ slots_in later.slots → desk_of later.hall ≡ desk_of h)
led_there h new later old is led =
    let sorted = all_sorted h new old is in
    let renaming = renaming_along h new.hall later.hall sorted.0 led.same in
    (renaming, same_desk h later.hall old later.slots renaming sorted.2 (led.copied sorted.1))

-- two halls whose renaming makes one history, and whose pools and slots are the same, have one desk
pub one_desk_of : (h new : HallState) (a b : Rebuilding) (old copy : SlotsCopy) → IsSorted h (length h.history) a old → IsSorted new (length new.history) b copy →
    a.hall.history ≡ b.hall.history → slots_in old ≡ slots_in copy → new.config ≡ h.config → IsOneDesk h new
one_desk_of h new a b old copy is too same slots config =
    let one = all_sorted h a old is in
    let two = all_sorted new b copy too in
    let hall : b.hall ≡ a.hall = ap (λ (c : Config). hall_of c b.hall.history) (two.0.config ∙ config ∙ sym one.0.config) ∙ ap (λ (l : List Exchange). hall_of a.hall.config l) (sym same) in
    let there : NamesAlike (desk_of b.hall) (desk_of h) = subst (λ (u : HallState). NamesAlike (desk_of u) (desk_of h)) (sym hall) one.0.names in
    record {
      desk = one_desk (desk_of new) (desk_of h) (alike_along (desk_of new) (desk_of b.hall) (desk_of h) (alike_sym (desk_of b.hall) (desk_of new) two.0.names) there)
          (sym two.2 ∙ sym slots ∙ one.2);
      renaming = sym two.0.renaming ∙ ap renaming_of (sym same) ∙ one.0.renaming;
    }
