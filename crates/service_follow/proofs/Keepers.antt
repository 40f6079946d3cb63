-- a hall that a log leads, with who keeps its stays: what it comes to is determined, and a compaction leaves its desk
use Rattle.std.proofs.Common.{◌≡◌, ◌≤◌, ℕ, Bool, true, false, Option, Some, None, List, [], length, inl, inr, refl, sym, ap, subst, ◌∙◌, arith}
use Rattle.service_follow.proofs.Common.{HallState, ReplyQueueState, reply_queue_of}
use Rattle.service_hall.specs.Compactions.{renaming_of}
use Rattle.service_hall.specs.Halls.{desk_of, hall_of}
use Rattle.service_log.specs.Groups.{IsDetermined}
use Rattle.service_follow.specs.Desks.{ByDesk, LeavesDesk}
use Rattle.service_follow.specs.Kept.{kept_behind, token_of}
use Rattle.service_follow.specs.Marks.{mark_of, next_in}
use Rattle.service_follow.specs.Stays.{AppliesBy, EndsFrom, Gathers, GoesOnFrom, IsRetold, LetsGo, ReadsLast, ReadsPart, StayApplies, TakesIfKnown, TakesLines, told_by}
use Rattle.service_follow.specs.StayState.{StayState}
use Rattle.service_follow.specs.declared.gathering.Gathering.{Gathering}
use Rattle.service_follow.specs.declared.marks.Mark.{Mark}
use Rattle.service_follow.specs.declared.marks.Mark.TheVariants.{Ordinary, Begins, GoesOn, Ends}
use Rattle.service_follow.proofs.Agrees.{determined}

same_state : (n k : StayState) → n.hall ≡ k.hall → n.kept ≡ k.kept → n.entries ≡ k.entries → n.compacted ≡ k.compacted → n.gathered ≡ k.gathered → n.blind ≡ k.blind → n ≡ k
same_state n k hall kept entries compacted gathered blind = λ i. record {
  hall = hall i;
  kept = kept i;
  entries = entries i;
  compacted = compacted i;
  gathered = gathered i;
  blind = blind i;
}

same_gathering : (g k : Gathering) → g.halls ≡ k.halls → g.head ≡ k.head → g ≡ k
same_gathering g k halls head =
    ap (λ (h : HallState). let s : Gathering = record { halls = h; head = g.head } in s) halls ∙
    ap (λ (l : List ℕ). let s : Gathering = record { halls = k.halls; head = l } in s) head

-- one entry leads one hall to one part of a compaction
pub same_part : (from : HallState) (entry : List ℕ) (g k : Gathering) → Gathers from entry g → Gathers from entry k → g ≡ k
same_part from entry g k a b =
    same_gathering g k (determined from entry a.said b.said g.halls k.halls a.hall b.hall).1 (a.head ∙ sym b.head)

lines_same : (w : StayState) (entry : List ℕ) (said other : ReplyQueueState) (n k : StayState) → TakesLines w entry said n → TakesLines w entry other k → (said ≡ other) × (n ≡ k)
lines_same w entry said other n k a b =
    let one = determined w.hall entry said other n.hall k.hall a.hall b.hall in
    let kept_of = λ (q : ReplyQueueState). kept_behind (token_of entry) w.entries w.kept q.left in
    (one.0, same_state n k one.1 (a.kept ∙ (ap kept_of one.0 ∙ sym b.kept)) (a.entries ∙ sym b.entries) (a.compacted ∙ sym b.compacted) (a.gathered ∙ sym b.gathered) (a.blind ∙ sym b.blind))

gone_same : (w : StayState) (said other : ReplyQueueState) (n k : StayState) → LetsGo w said n → LetsGo w other k → (said ≡ other) × (n ≡ k)
gone_same w said other n k a b = (a.silent ∙ sym b.silent, a.state ∙ sym b.state)

part_same : (from : HallState) (w : StayState) (entry : List ℕ) (said other : ReplyQueueState) (n k : StayState) → ReadsPart from w entry said n → ReadsPart from w entry other k → (said ≡ other) × (n ≡ k)
part_same from w entry said other n k a b =
    let one = same_part from entry a.part b.part a.gathers b.gathers in
    (a.silent ∙ sym b.silent, a.state ∙ (ap (λ (g : Gathering). let s : StayState = record w { gathered = Some g } in s) one ∙ sym b.state))

last_same : (from : HallState) (w : StayState) (entry : List ℕ) (said other : ReplyQueueState) (n k : StayState) → ReadsLast from w entry said n → ReadsLast from w entry other k → (said ≡ other) × (n ≡ k)
last_same from w entry said other n k a b =
    let one = same_part from entry a.part b.part a.gathers b.gathers in
    (a.silent ∙ sym b.silent, a.state ∙ (ap (λ (g : Gathering). told_by g entry) one ∙ sym b.state))

known_same : (blind : Bool) (w : StayState) (entry : List ℕ) (said other : ReplyQueueState) (n k : StayState) → TakesIfKnown blind w entry said n → TakesIfKnown blind w entry other k → (said ≡ other) × (n ≡ k)
known_same false w entry said other n k a b = lines_same w entry said other n k a b
known_same true w entry said other n k a b = gone_same w said other n k a b

on_same : (o : Option Gathering) (w : StayState) (entry : List ℕ) (said other : ReplyQueueState) (n k : StayState) → GoesOnFrom o w entry said n → GoesOnFrom o w entry other k → (said ≡ other) × (n ≡ k)
on_same None w entry said other n k a b = gone_same w said other n k a b
on_same (Some part) w entry said other n k a b = part_same part.halls w entry said other n k a b

end_same : (o : Option Gathering) (w : StayState) (entry : List ℕ) (said other : ReplyQueueState) (n k : StayState) → EndsFrom o w entry said n → EndsFrom o w entry other k → (said ≡ other) × (n ≡ k)
end_same None w entry said other n k a b = gone_same w said other n k a b
end_same (Some part) w entry said other n k a b = last_same part.halls w entry said other n k a b

mark_same : (mark : Mark) (w : StayState) (entry : List ℕ) (said other : ReplyQueueState) (n k : StayState) → AppliesBy mark w entry said n → AppliesBy mark w entry other k → (said ≡ other) × (n ≡ k)
mark_same Ordinary w entry said other n k a b = known_same w.blind w entry said other n k a b
mark_same Begins w entry said other n k a b = part_same (hall_of w.hall.config []) w entry said other n k a b
mark_same GoesOn w entry said other n k a b = on_same (next_in w.gathered entry) w entry said other n k a b
mark_same Ends w entry said other n k a b = end_same (next_in w.gathered entry) w entry said other n k a b

pub stays_determined : IsDetermined StayApplies
stays_determined w entry said other n k a b = mark_same (mark_of entry) w entry said other n k a b

-- ---- a compaction leaves the desk

-- where only what is gathered changes
stays_there : (w : StayState) (said : ReplyQueueState) (o : Option Gathering) → said ≡ reply_queue_of [] → LeavesDesk w said (record w { gathered = o })
stays_there w said o silent = record {
  silent = silent;
  same = record { config = refl; desk = refl; renaming = refl; room = omega arith; kept = refl; entries = refl; blind = refl };
}

gone_leaves : (w : StayState) (said : ReplyQueueState) (u : StayState) → LetsGo w said u → LeavesDesk w said u
gone_leaves w said u a = subst (LeavesDesk w said) (sym a.state) (stays_there w said None a.silent)

part_leaves : (from : HallState) (w : StayState) (entry : List ℕ) (said : ReplyQueueState) (u : StayState) → ReadsPart from w entry said u → LeavesDesk w said u
part_leaves from w entry said u a = subst (LeavesDesk w said) (sym a.state) (stays_there w said (Some a.part) a.silent)

-- a hall that is told by no more events has the same desk
record HasDesk (h new : HallState) : Type 0 where
  config : new.config ≡ h.config
  desk : desk_of new ≡ desk_of h
  renaming : renaming_of new.history ≡ renaming_of h.history
  room : length new.history ≤ length h.history

retold_desk : (h new : HallState) → IsRetold h new → HasDesk h new
retold_desk h new (inl so) = record { config = so.config; desk = so.desk; renaming = so.renaming; room = (let fewer = so.fewer in omega (arith, fewer)) }
retold_desk h new (inr same) = subst (HasDesk h) (sym same) (record { config = refl; desk = refl; renaming = refl; room = omega arith })

pub retold_config : (h new : HallState) → IsRetold h new → new.config ≡ h.config
retold_config h new so = (retold_desk h new so).config

last_leaves : (from : HallState) (w : StayState) (entry : List ℕ) (said : ReplyQueueState) (u : StayState) → w.blind ≡ false → ReadsLast from w entry said u → LeavesDesk w said u
last_leaves from w entry said u known a =
    let same = a.same known in
    let hall = retold_desk w.hall u.hall same.hall in
    record {
      silent = a.silent;
      same = record {
        config = hall.config;
        desk = hall.desk;
        renaming = hall.renaming;
        room = hall.room;
        kept = same.kept;
        entries = same.entries;
        blind = ap (λ (s : StayState). s.blind) a.state ∙ sym known;
      };
    }

on_leaves : (o : Option Gathering) (w : StayState) (entry : List ℕ) (said : ReplyQueueState) (u : StayState) → GoesOnFrom o w entry said u → LeavesDesk w said u
on_leaves None w entry said u a = gone_leaves w said u a
on_leaves (Some part) w entry said u a = part_leaves part.halls w entry said u a

end_leaves : (o : Option Gathering) (w : StayState) (entry : List ℕ) (said : ReplyQueueState) (u : StayState) → w.blind ≡ false → EndsFrom o w entry said u → LeavesDesk w said u
end_leaves None w entry said u known a = gone_leaves w said u a
end_leaves (Some part) w entry said u known a = last_leaves part.halls w entry said u known a

mark_leaves : (mark : Mark) (w : StayState) (entry : List ℕ) (said : ReplyQueueState) (u : StayState) → w.blind ≡ false → AppliesBy mark w entry said u → ByDesk mark w entry said u
mark_leaves Ordinary w entry said u known a = subst (λ (b : Bool). TakesIfKnown b w entry said u) known a
mark_leaves Begins w entry said u known a = part_leaves (hall_of w.hall.config []) w entry said u a
mark_leaves GoesOn w entry said u known a = on_leaves (next_in w.gathered entry) w entry said u a
mark_leaves Ends w entry said u known a = end_leaves (next_in w.gathered entry) w entry said u known a

pub by_desk : (w u : StayState) (entry : List ℕ) (said : ReplyQueueState) → w.blind ≡ false → StayApplies w entry said u → ByDesk (mark_of entry) w entry said u
by_desk w u entry said known a = mark_leaves (mark_of entry) w entry said u known a
