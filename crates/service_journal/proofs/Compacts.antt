-- the record of another hall in place of all that was written
use Rattle.std.proofs.Common.{◌≡◌, Bool, true, false, ℕ, zero, suc, ◌+◌, ◌≤◌, List, [], ◌∷◌, ◌++◌, Some, inl, inr, length, take, flat_map, refl, ap, sym, ◌∙◌, subst, append_assoc, arith, add-one, slice_get}
use Rattle.service_journal.proofs.Common.{append-nil, flat_map-append, same_Some, Exchange, IsCutOnce, exchange_line, header_line, HallState, DiskState, WriteAheadState, record_of_hall, hall_after_first, write_ahead_of, IsCompacted, HasSynced, LeavesHall}
use Rattle.service_journal.specs.Disks.{MayLeaveEither, replaced_by}
use Rattle.service_journal.specs.Compactings.{LeavesEither, TakesHall, HasCompacted, MayCompact}
use Rattle.service_journal.proofs.Commits.{reported_all}
use Rattle.service_journal.proofs.Crashes.{cut_record}
use Rattle.service_journal.proofs.Restarts.{stays}

take_suc : (xs : List Exchange) (n : ℕ) (x : Exchange) → slice_get xs n ≡ Some x → take (suc n) xs ≡ take n xs ++ x ∷ []
take_suc [] n x h = absurd (cc)
take_suc (y ∷ ys) zero x h = ap (λ (z : Exchange). z ∷ []) (same_Some y x h)
take_suc (y ∷ ys) (suc n) x h = ap (λ (l : List Exchange). y ∷ l) (take_suc ys n x h)

-- the record of a hall as it was after one more event has one more line
pub one_line : (h : HallState) (n : ℕ) (x : Exchange) → slice_get h.history n ≡ Some x → record_of_hall (hall_after_first n h) ++ exchange_line x ≡ record_of_hall (hall_after_first (n + 1) h)
one_line h n x at =
    let first = flat_map exchange_line (take n h.history) in
    append_assoc (header_line h.config) first (exchange_line x)
    ∙ ap (λ (l : List ℕ). header_line h.config ++ (first ++ l)) (sym (append-nil (exchange_line x)))
    ∙ ap (λ (l : List ℕ). header_line h.config ++ l) (sym (flat_map-append exchange_line (take n h.history) (x ∷ [])))
    ∙ ap (λ (xs : List Exchange). header_line h.config ++ flat_map exchange_line xs) (sym (ap (λ (k : ℕ). take k h.history) (add-one n) ∙ take_suc h.history n x at))

pub all_lines : (h : HallState) → record_of_hall (hall_after_first (length h.history) h) ≡ record_of_hall h
all_lines h = reported_all h

module _ (once : (bytes : List ℕ) → IsCutOnce bytes) where
  whole_record : (h : HallState) → LeavesHall h (length h.history) (record_of_hall h)
  whole_record h = record {
    count = length h.history;
    many = omega arith;
    few = omega arith;
    is = cut_record h (record_of_hall h) [] once (sym (append-nil (record_of_hall h))) refl ∙ sym (all_lines h);
  }

  -- what a crash leaves in the midst of it
  pub leaves_either : (c : WriteAheadState) (new : HallState) (s : DiskState) → HasSynced c s → c.reported ≤ length c.hall.history →
      (left : List ℕ) → MayLeaveEither s (record_of_hall new) left → LeavesEither c new left
  leaves_either c new s stands few left (inl m) = inl ((stays once c s stands few).leaves left m)
  leaves_either c new s stands few left (inr is) = inr (subst (λ (l : List ℕ). LeavesHall new (length new.history) l) (sym is) (whole_record new))

-- it is written, and durable
pub replaced_synced : (new : HallState) (s t : DiskState) → t ≡ replaced_by s (record_of_hall new) → HasSynced (write_ahead_of new (length new.history)) t
replaced_synced new s t is = subst (λ (x : DiskState). HasSynced (write_ahead_of new (length new.history)) x) (sym is) (record { contents = sym (reported_all new); synced = refl })

-- what became of the write-ahead hall
pub may_compact : (done : Bool) (new : HallState) (c u : WriteAheadState) → IsCompacted c.hall new → TakesHall done new c u → MayCompact c u
may_compact true new c u k is = inr (subst (λ (x : WriteAheadState). HasCompacted c x) (sym is) (record { compacted = k; reported = refl }))
may_compact false new c u k is = inl is
