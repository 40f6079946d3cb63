-- a desk's renaming world depends on its renaming events alone, and its pool and slots on the others
use Rattle.std.proofs.Common.{◌≡◌, ℕ, true, false, None, refl, sym, ap, ◌∙◌}
use Rattle.model_asked.specs.declared.event.Event.{Event}
use Rattle.model_asked.specs.declared.event.Event.TheVariants.{Begin, Step, Enter, Probe, Seek, Leave, Put, Get, Widen}
use Rattle.model_pool.specs.slots.SlotsState.{SlotsState}
use Rattle.text_worlds.specs.desk.Desk.{desk_reply, desk_after, desk_refusal}
use Rattle.text_worlds.specs.desk.DeskValue.{DeskValue}
use Rattle.text_worlds.specs.desk.DeskValue.DeskValue.{OverGrid, OverTree}
use Rattle.service_hall.specs.DeskParts.{is_renaming, slots_of, NamesAlike}
use Rattle.service_hall.specs.Slots.{LetsIn, slots_after}

pub alike_self : (w : DeskValue) → NamesAlike w w
alike_self (OverGrid w) = refl
alike_self (OverTree w) = refl

pub alike_along : (w u v : DeskValue) → NamesAlike w u → NamesAlike u v → NamesAlike w v
alike_along (OverGrid w) (OverGrid u) (OverGrid v) a b = a ∙ b
alike_along (OverGrid w) (OverGrid u) (OverTree v) a b = absurd b
alike_along (OverGrid w) (OverTree u) v a b = absurd a
alike_along (OverTree w) (OverTree u) (OverTree v) a b = a ∙ b
alike_along (OverTree w) (OverTree u) (OverGrid v) a b = absurd b
alike_along (OverTree w) (OverGrid u) v a b = absurd a

pub alike_sym : (w u : DeskValue) → NamesAlike w u → NamesAlike u w
alike_sym (OverGrid w) (OverGrid u) a = sym a
alike_sym (OverTree w) (OverTree u) a = sym a
alike_sym (OverGrid w) (OverTree u) a = absurd a
alike_sym (OverTree w) (OverGrid u) a = absurd a

-- the two parts are the whole
pub one_desk : (w u : DeskValue) → NamesAlike w u → slots_of w ≡ slots_of u → w ≡ u
one_desk (OverGrid w) (OverGrid u) a b = ap OverGrid (rw (a, b) refl)
one_desk (OverTree w) (OverTree u) a b = ap OverTree (rw (a, b) refl)
one_desk (OverGrid w) (OverTree u) a b = absurd a
one_desk (OverTree w) (OverGrid u) a b = absurd a

pub slots_go_on : (w : DeskValue) (e : Event) → slots_of (desk_after w e) ≡ slots_after (slots_of w) e
slots_go_on (OverGrid w) (Begin p) = refl
slots_go_on (OverGrid w) (Step p) = refl
slots_go_on (OverGrid w) (Enter p) = refl
slots_go_on (OverGrid w) (Probe p) = refl
slots_go_on (OverGrid w) (Seek p) = refl
slots_go_on (OverGrid w) (Leave p) = refl
slots_go_on (OverGrid w) (Put p value) = refl
slots_go_on (OverGrid w) (Get p) = refl
slots_go_on (OverGrid w) (Widen more) = refl
slots_go_on (OverTree w) (Begin p) = refl
slots_go_on (OverTree w) (Step p) = refl
slots_go_on (OverTree w) (Enter p) = refl
slots_go_on (OverTree w) (Probe p) = refl
slots_go_on (OverTree w) (Seek p) = refl
slots_go_on (OverTree w) (Leave p) = refl
slots_go_on (OverTree w) (Put p value) = refl
slots_go_on (OverTree w) (Get p) = refl
slots_go_on (OverTree w) (Widen more) = refl

pub names_stay : (w : DeskValue) (e : Event) → is_renaming e ≡ false → NamesAlike (desk_after w e) w
names_stay w (Begin p) h = absurd (cc)
names_stay w (Step p) h = absurd (cc)
names_stay (OverGrid w) (Enter p) h = refl
names_stay (OverGrid w) (Probe p) h = refl
names_stay (OverGrid w) (Seek p) h = refl
names_stay (OverGrid w) (Leave p) h = refl
names_stay (OverGrid w) (Put p value) h = refl
names_stay (OverGrid w) (Get p) h = refl
names_stay (OverGrid w) (Widen more) h = refl
names_stay (OverTree w) (Enter p) h = refl
names_stay (OverTree w) (Probe p) h = refl
names_stay (OverTree w) (Seek p) h = refl
names_stay (OverTree w) (Leave p) h = refl
names_stay (OverTree w) (Put p value) h = refl
names_stay (OverTree w) (Get p) h = refl
names_stay (OverTree w) (Widen more) h = refl

pub alike_back : (w : DeskValue) (e : Event) → is_renaming e ≡ false → NamesAlike w (desk_after w e)
alike_back (OverGrid w) e h = sym (names_stay (OverGrid w) e h)
alike_back (OverTree w) e h = sym (names_stay (OverTree w) e h)

pub slots_stay : (s : SlotsState ℕ) (e : Event) → is_renaming e ≡ true → slots_after s e ≡ s
slots_stay s (Begin p) h = refl
slots_stay s (Step p) h = refl
slots_stay s e h = absurd (cc)

-- the same event of renaming leads two desks with one renaming world to two such again
pub names_go_on : (w u : DeskValue) (e : Event) → is_renaming e ≡ true → NamesAlike w u → NamesAlike (desk_after w e) (desk_after u e)
names_go_on (OverGrid w) (OverTree u) e h a = absurd a
names_go_on (OverTree w) (OverGrid u) e h a = absurd a
names_go_on (OverGrid w) (OverGrid u) (Begin p) h a = rw a refl
names_go_on (OverGrid w) (OverGrid u) (Step p) h a = rw a refl
names_go_on (OverGrid w) (OverGrid u) e h a = absurd (cc)
names_go_on (OverTree w) (OverTree u) (Begin p) h a = rw a refl
names_go_on (OverTree w) (OverTree u) (Step p) h a = rw a refl
names_go_on (OverTree w) (OverTree u) e h a = absurd (cc)

-- and is answered alike
pub answered_alike : (w u : DeskValue) (e : Event) → is_renaming e ≡ true → NamesAlike w u → desk_reply w e ≡ desk_reply u e
answered_alike (OverGrid w) (OverTree u) e h a = absurd a
answered_alike (OverTree w) (OverGrid u) e h a = absurd a
answered_alike (OverGrid w) (OverGrid u) (Begin p) h a = rw a refl
answered_alike (OverGrid w) (OverGrid u) (Step p) h a = rw a refl
answered_alike (OverGrid w) (OverGrid u) e h a = absurd (cc)
answered_alike (OverTree w) (OverTree u) (Begin p) h a = rw a refl
answered_alike (OverTree w) (OverTree u) (Step p) h a = rw a refl
answered_alike (OverTree w) (OverTree u) e h a = absurd (cc)

-- an event that is accepted is one that the pool lets in
pub lets_in : (w : DeskValue) (e : Event) → desk_refusal w e ≡ None → LetsIn (slots_of w) e
lets_in (OverGrid w) (Enter p) h = h
lets_in (OverTree w) (Enter p) h = h
lets_in (OverGrid w) (Widen more) h = h
lets_in (OverTree w) (Widen more) h = h
lets_in w e h = tt
