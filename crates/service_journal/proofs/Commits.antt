-- what a commit writes
use Rattle.std.proofs.Common.{◌≡◌, ℕ, ◌≤◌, List, [], ◌++◌, length, take, drop, flat_map, Some, None, Option, refl, ap, sym, ◌∙◌, subst, append_assoc, arith}
use Rattle.service_journal.proofs.Common.{flat_map-append, same_Some, DiskState, IsCutOnce, exchange_line, header_line, HallState, WriteAheadState, HasSynced, KeepsHandedOn}
use Rattle.std.proofs.lemmas.List.{append-nil, take-append-drop, take_all}
use mathlib.Core.List.{IsPrefix}
use Rattle.service_journal.specs.Disks.{Changes, longer_by, synced_all}
use Rattle.service_journal.specs.WriteAheads.{record_of_hall, reported_record, waiting_of, write_ahead_of}
use Rattle.service_journal.proofs.Crashes.{leaves}

whole : {A : Type 0} (xs : List A) → take (length xs) xs ≡ xs
whole xs = take_all (length xs) xs (omega arith)

prefix_self : (xs : List ℕ) → IsPrefix xs xs
prefix_self xs = ([], append-nil xs)

-- what was committed and what waits are the record
pub reported_and_waiting : (c : WriteAheadState) → reported_record c ++ waiting_of c ≡ record_of_hall c.hall
reported_and_waiting c =
    append_assoc (header_line c.hall.config) (flat_map exchange_line (take c.reported c.hall.history)) (flat_map exchange_line (drop c.reported c.hall.history))
    ∙ ap (λ (l : List ℕ). header_line c.hall.config ++ l) (sym (flat_map-append exchange_line (take c.reported c.hall.history) (drop c.reported c.hall.history)) ∙ ap (flat_map exchange_line) (take-append-drop c.reported c.hall.history))

-- of a hall all of whose events were committed the whole record was
pub reported_all : (h : HallState) → reported_record (write_ahead_of h (length h.history)) ≡ record_of_hall h
reported_all h = ap (λ xs. header_line h.config ++ flat_map exchange_line xs) (whole h.history)

-- what is known after a call was known before it
pub known_before : {Step : DiskState → DiskState → Type 0} (old new : Option DiskState) (t : DiskState) → Changes Step old new → new ≡ Some t → (s : DiskState) × (old ≡ Some s) × Step s t
known_before {Step = Step} None new t changes is = absurd (let no : None ≡ Some t = sym (changes.1 refl) ∙ is in cc)
known_before {Step = Step} (Some s) new t changes is =
    let after = changes.0 s refl in
    (s, refl, subst (λ (x : DiskState). Step s x) (same_Some after.0 t (sym after.1 ∙ is)) after.2)

module _ (once : (bytes : List ℕ) → IsCutOnce bytes) (c : WriteAheadState) (s : DiskState) (stands : HasSynced c s) (few : c.reported ≤ length c.hall.history) where
  all_synced : take s.synced s.contents ≡ reported_record c
  all_synced = ap (λ (n : ℕ). take n s.contents) stands.synced ∙ whole s.contents ∙ stands.contents

  -- what waits is written in part, and a crash comes
  pub keeps : (part : List ℕ) (t : DiskState) → IsPrefix part (waiting_of c) → t.contents ≡ s.contents ++ part → t.cuts ≡ s.cuts → KeepsHandedOn c s t
  keeps part t front is same =
      let all : t.contents ++ front.0 ≡ record_of_hall c.hall =
      ap (λ (l : List ℕ). l ++ front.0) is ∙ append_assoc s.contents part front.0 ∙ ap (λ (l : List ℕ). s.contents ++ l) front.1
      ∙ ap (λ (l : List ℕ). l ++ waiting_of c) stands.contents ∙ reported_and_waiting c in
      record {
        grows = record { front = (part, sym is); none_cut = same };
        leaves = λ left m.
            let most : left ++ (m.front.0 ++ front.0) ≡ record_of_hall c.hall = sym (append_assoc left m.front.0 front.0) ∙ ap (λ (l : List ℕ). l ++ front.0) m.front.1 ∙ all in
            leaves once c.hall c.reported left few (subst (λ (l : List ℕ). IsPrefix l left) all_synced m.kept) (m.front.0 ++ front.0, most);
      }

  -- all that waits is written, and is durable
  pub all_written : (t : DiskState) → t ≡ synced_all (longer_by s (waiting_of c)) → HasSynced (write_ahead_of c.hall (length c.hall.history)) t
  all_written t is = subst (λ (x : DiskState). HasSynced (write_ahead_of c.hall (length c.hall.history)) x) (sym is) (record {
    contents = ap (λ (l : List ℕ). l ++ waiting_of c) stands.contents ∙ reported_and_waiting c ∙ sym (reported_all c.hall);
    synced = refl;
  })

  -- the same of a call that came to its end, and of one that failed
  pub keeps_all : (t : DiskState) → t ≡ synced_all (longer_by s (waiting_of c)) → KeepsHandedOn c s t
  keeps_all t is = keeps (waiting_of c) t (prefix_self (waiting_of c)) (ap (λ (x : DiskState). x.contents) is) (ap (λ (x : DiskState). x.cuts) is)

  pub keeps_part : (t : DiskState) → (part : List ℕ) × IsPrefix part (waiting_of c) × (t ≡ longer_by s part) → KeepsHandedOn c s t
  keeps_part t w = keeps w.0 t w.1 (ap (λ (x : DiskState). x.contents) w.2) (ap (λ (x : DiskState). x.cuts) w.2)
