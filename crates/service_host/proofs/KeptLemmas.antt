-- what is kept of a turn
use Rattle.std.proofs.Common.{◌≡◌, ◌≤◌, length, Option, Result, Ok, Err, OnOk, inl, inr, refl, ap, sym, subst}
use Rattle.service_journal.specs.DiskState.{DiskState}
use Rattle.service_journal.specs.declared.journal.Journal.{Journal}
use Rattle.service_journal.specs.WriteAheadState.{WriteAheadState}
use Rattle.service_journal.specs.WriteAheads.{write_ahead_of}
use Rattle.service_journal.specs.Compactings.{KeepsWhenCompacted, MayCompact}
use Rattle.service_journal.specs.Journals.{HasSynced, KeepsAtAnyMoment, KeepsHandedOn, Stands}
use Rattle.service_host.specs.Kept.{IsKept, all_reported}

-- where no line waits all is kept
pub none_waits : {D : Type 0} (state : D → Option DiskState) → ((c : WriteAheadState) (s : DiskState) → HasSynced c s → c.reported ≤ length c.hall.history → KeepsHandedOn c s s) →
    (j : Journal D) (c : WriteAheadState) → c.reported ≡ length c.hall.history → c.reported ≤ length c.hall.history → IsKept state j c j c
none_waits state between j c all few =
    let same : c ≡ all_reported c = ap (write_ahead_of c.hall) all in
    record {
      committed = j;
      stands = λ stands. subst (Stands state j) same stands;
      any_moment = λ stands. (λ s is. (s, is, between c s (stands.known s is) few), λ none. none);
      compacted = inl same;
      stands_then = λ stands. subst (Stands state j) (sym same) stands;
      any_moment_then = λ stands. inr refl;
    }

-- what was committed may be compacted behind that
pub then_compacted : {D : Type 0} (state : D → Option DiskState) (j k l : Journal D) (c mid u : WriteAheadState) → mid ≡ all_reported c →
    (Stands state j c → Stands state k mid) → (Stands state j c → KeepsAtAnyMoment state j k c) →
    MayCompact mid u → (Stands state k mid → Stands state l u) → (Stands state k mid → KeepsWhenCompacted state k l mid) → IsKept state j c l u
then_compacted state j k l c mid u is stands any_moment compacted stands_then any_moment_then = record {
  committed = k;
  stands = λ h. subst (Stands state k) is (stands h);
  any_moment = any_moment;
  compacted = subst (λ (m : WriteAheadState). MayCompact m u) is compacted;
  stands_then = λ h. stands_then (subst (Stands state k) (sym is) h);
  any_moment_then = λ h. subst (KeepsWhenCompacted state k l) is (any_moment_then (subst (Stands state k) (sym is) h));
}

-- what holds of an answer by two facts of it
pub on_ok_two : {T E : Type 0} {A B C : Type 0} (r : Result T E) → (A → B → C) → OnOk r A → OnOk r B → OnOk r C
on_ok_two (Ok x) f a b = f a b
on_ok_two (Err e) f a b = tt
