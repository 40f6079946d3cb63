-- a disk whose lines are sealed, over another
use Rattle.std.proofs.Common.{◌≡◌, ◌≤◌, ◌⊎◌, ℕ, true, false, List, [], ◌++◌, length, take, drop, map, Option, Some, None, Result, Ok, Err, IfErr, inl, inr, refl, ap, sym, subst, ◌∙◌, arith, length-append}
use Rattle.std.proofs.lemmas.List.{append-nil, take-append-drop, take-append-le, take_all}
use Rattle.std.proofs.Math.Seq.{take-append_seam, take-length}
use mathlib.Core.List.{IsPrefix}
use Rattle.text_lines.specs.Lines.{IsCutInto, IsCutOnce, rest_of, whole_lines, with_ends}
use Rattle.text_records.specs.Seals.{in_form, lines_in}
use Rattle.text_records.specs.declared.seals.LineForm.TheVariants.{Plain, Sealed}
use Rattle.service_journal.specs.DiskState.{DiskState}
use Rattle.service_journal.specs.Disks.{Changes, MayLeave, MayLeaveEither, longer_by, replaced_by, state_of, synced_all}
use Rattle.service_journal.specs.Journals.{KeepsLines, without_torn}
use Rattle.service_journal.proofs.OpeningLemmas.{IsRead, chain}
use Rattle.service_journal.specs.SealedDisks.{HasKeptLines, HasOpened, HasWholeLines, opened_state, seen}

-- ---- calls of the disk below, as they are seen

pub changes_seen : {Step Seen : DiskState → DiskState → Type 0} (old new : Option DiskState) → Changes Step old new →
    ((s t : DiskState) → old ≡ Some s → Step s t → Seen (opened_state s) (opened_state t)) → Changes Seen (seen old) (seen new)
changes_seen None new h on = (λ s is. absurd (cc is), λ none. ap seen (h.1 refl))
changes_seen {Seen = Seen} (Some s) new h on =
    let a = h.0 s refl in (
      λ x is.
          let same : opened_state s ≡ x = cc is in
          (opened_state a.0, ap seen a.1, subst (λ (y : DiskState). Seen y (opened_state a.0)) same (on s a.0 refl a.2)),
      λ none. absurd (cc none),
    )

-- ---- what is durable

same_state : (contents contents' : List ℕ) (synced synced' cuts : ℕ) → contents ≡ contents' → synced ≡ synced' → state_of contents synced cuts ≡ state_of contents' synced' cuts
same_state contents contents' synced synced' cuts a b = λ i. state_of (a i) (b i) cuts

pub seen_synced : (s : DiskState) → opened_state (synced_all s) ≡ synced_all (opened_state s)
seen_synced s = ap (λ (l : List ℕ). state_of (lines_in Plain s.contents) (length (lines_in Plain l)) s.cuts) (take-length s.contents)

pub whole_synced : (s : DiskState) → HasWholeLines s → HasWholeLines (synced_all s)
whole_synced s h = record { whole = h.whole; below = omega arith }

module _ (text : (l : List ℕ) → rest_of l ≡ [] → lines_in Plain (lines_in Sealed l) ≡ l) where
  pub seen_replaced : (s : DiskState) (lines : List ℕ) → rest_of lines ≡ [] → opened_state (replaced_by s (lines_in Sealed lines)) ≡ replaced_by (opened_state s) lines
  seen_replaced s lines none =
      let all : lines_in Plain (take (length (lines_in Sealed lines)) (lines_in Sealed lines)) ≡ lines = ap (lines_in Plain) (take-length (lines_in Sealed lines)) ∙ text lines none in
      same_state (lines_in Plain (lines_in Sealed lines)) lines _ (length lines) _ (text lines none) (ap length all)

  module _ (behind : (a d : List ℕ) → rest_of a ≡ [] → lines_in Plain (a ++ d) ≡ lines_in Plain a ++ lines_in Plain d) where
    -- more stands behind whole lines
    pub seen_longer : (s : DiskState) (more : List ℕ) → HasWholeLines s → opened_state (longer_by s more) ≡ longer_by (opened_state s) (lines_in Plain more)
    seen_longer s more h =
        same_state (lines_in Plain (s.contents ++ more)) (lines_in Plain s.contents ++ lines_in Plain more) _ _ s.cuts (behind s.contents more h.whole)
        (ap (λ (l : List ℕ). length (lines_in Plain l)) (take-append-le s.synced s.contents more h.below))

    pub seen_appended : (s t : DiskState) (lines : List ℕ) → HasWholeLines s → rest_of lines ≡ [] → t ≡ longer_by s (lines_in Sealed lines) → opened_state t ≡ longer_by (opened_state s) lines
    seen_appended s t lines h none is = ap opened_state is ∙ seen_longer s (lines_in Sealed lines) h ∙ ap (longer_by (opened_state s)) (text lines none)

    pub seen_part : ((a b : List ℕ) → IsPrefix a b → IsPrefix (lines_in Plain a) (lines_in Plain b)) → (s t : DiskState) (lines part : List ℕ) → HasWholeLines s → rest_of lines ≡ [] →
        IsPrefix part (lines_in Sealed lines) → t ≡ longer_by s part → (front : List ℕ) × IsPrefix front lines × (opened_state t ≡ longer_by (opened_state s) front)
    seen_part prefix s t lines part h none p is = (
      lines_in Plain part,
      subst (IsPrefix (lines_in Plain part)) (text lines none) (prefix part (lines_in Sealed lines) p),
      ap opened_state is ∙ seen_longer s part h,
    )

-- ---- what stands there has whole lines

module _ (whole : (l : List ℕ) → rest_of (lines_in Sealed l) ≡ []) where
  pub whole_replaced : (s : DiskState) (lines : List ℕ) → HasWholeLines (replaced_by s (lines_in Sealed lines))
  whole_replaced s lines = record { whole = whole lines; below = omega arith }

  pub whole_longer : ((a d : List ℕ) → rest_of a ≡ [] → rest_of (a ++ d) ≡ rest_of d) → (s : DiskState) (lines : List ℕ) → HasWholeLines s → HasWholeLines (longer_by s (lines_in Sealed lines))
  whole_longer behind s lines h = record {
    whole = behind s.contents (lines_in Sealed lines) h.whole ∙ whole lines;
    below = omega (arith, h.below, length-append s.contents (lines_in Sealed lines));
  }

-- ---- what is cut

-- a call that failed has changed nothing, or what is known of it is so whether it failed or not
pub if_err : {T E : Type 0} (r : Result T E) (P : Type 0) → P → IfErr r (λ why. P)
if_err (Ok done) P is = tt
if_err (Err why) P is = is

-- the bytes were read, and so many of them are left
abbrev pub IsLeft : List ℕ → ℕ → DiskState → DiskState → Type 0
IsLeft bytes whole s t = (bytes ≡ s.contents) × (t.contents ≡ take whole bytes)

pub left_cut : (bytes : List ℕ) (whole : ℕ) (old mid new : Option DiskState) → Changes (IsRead bytes) old mid → Changes (λ s t. t.contents ≡ take whole s.contents) mid new → Changes (IsLeft bytes whole) old new
left_cut bytes whole old mid new read shorter =
    chain old mid new read shorter (λ s m t a b. (a.1, b ∙ ap (λ (x : DiskState). take whole x.contents) a.0 ∙ ap (take whole) (sym a.1)))

pub left_all : (bytes : List ℕ) (whole : ℕ) (old new : Option DiskState) → length bytes ≤ whole → Changes (IsRead bytes) old new → Changes (IsLeft bytes whole) old new
left_all bytes whole old new all read = (
  λ s is. let a = read.0 s is in (a.0, a.1, (a.2.1, ap (λ (x : DiskState). x.contents) a.2.0 ∙ sym a.2.1 ∙ sym (take_all whole bytes all))),
  read.1,
)

-- and that is durable
pub kept_lines : (bytes : List ℕ) (whole : ℕ) → take whole bytes ≡ without_torn bytes → (old mid new : Option DiskState) → Changes (IsLeft bytes whole) old mid → Changes (λ s t. t ≡ synced_all s) mid new →
    Changes HasKeptLines old new
kept_lines bytes whole is old mid new left synced = chain old mid new left synced (λ s m t a b. record {
  lines = ap (λ (x : DiskState). x.contents) b ∙ a.1 ∙ is ∙ ap without_torn a.0;
  synced = ap (λ (x : DiskState). x.synced) b ∙ sym (ap (λ (x : DiskState). length x.contents) b);
})

module _ (cut : (bytes : List ℕ) → IsCutInto bytes (whole_lines bytes) (rest_of bytes)) where
  pub lines_same : (old new : Option DiskState) → Changes (λ s t. t ≡ s) old new → Changes KeepsLines old new
  lines_same old new h = (λ s is. let a = h.0 s is in (a.0, a.1, subst (KeepsLines s) (sym a.2) (rest_of s.contents, (cut s.contents).joined)), h.1)

-- ---- what is opened

module _ (cut : (bytes : List ℕ) → IsCutInto bytes (whole_lines bytes) (rest_of bytes)) (once : (bytes : List ℕ) → IsCutOnce bytes) where
  cut_of : (bytes : List ℕ) → IsCutInto (without_torn bytes) (whole_lines bytes) []
  cut_of bytes = record { joined = append-nil (without_torn bytes); lines_are = (cut bytes).lines_are; rest_is = refl }

  pub whole_left : (bytes : List ℕ) → rest_of (without_torn bytes) ≡ []
  whole_left bytes = sym (once (without_torn bytes) (whole_lines bytes) [] (cut_of bytes)).1

  lines_left : (bytes : List ℕ) → lines_in Plain (without_torn bytes) ≡ lines_in Plain bytes
  lines_left bytes = ap (λ (ls : List (List ℕ)). with_ends (map (in_form Plain) ls)) (sym (once (without_torn bytes) (whole_lines bytes) [] (cut_of bytes)).0)

  pub has_opened : (s t : DiskState) → HasKeptLines s t → HasOpened s (opened_state t)
  has_opened s t k = record {
    lines = ap (lines_in Plain) k.lines ∙ lines_left s.contents;
    synced = ap (λ (n : ℕ). length (lines_in Plain (take n t.contents))) k.synced ∙ ap (λ (l : List ℕ). length (lines_in Plain l)) (take-length t.contents);
  }

  pub whole_kept : (s t : DiskState) → HasKeptLines s t → HasWholeLines t
  whole_kept s t k = record { whole = ap rest_of k.lines ∙ whole_left s.contents; below = omega (arith, k.synced) }

  pub opened_kept : (old new : Option DiskState) → Changes HasKeptLines old new → Changes HasOpened old (seen new)
  opened_kept old new h = (λ s is. let a = h.0 s is in (opened_state a.0, ap seen a.1, has_opened s a.0 a.2), λ none. ap seen (h.1 none))

  pub whole_after : (old new : Option DiskState) → Changes HasKeptLines old new → (t : DiskState) → new ≡ Some t → HasWholeLines t
  whole_after None new h t is = absurd (let none = h.1 refl in cc)
  whole_after (Some s) new h t is =
      let a = h.0 s refl in
      let same : a.0 ≡ t = let known = a.1 in cc in
      subst HasWholeLines same (whole_kept s a.0 a.2)

-- ---- what a crash leaves

module _ (prefix : (a b : List ℕ) → IsPrefix a b → IsPrefix (lines_in Plain a) (lines_in Plain b)) where
  durable : (s : DiskState) → take (length (lines_in Plain (take s.synced s.contents))) (lines_in Plain s.contents) ≡ lines_in Plain (take s.synced s.contents)
  durable s =
      let front = lines_in Plain (take s.synced s.contents) in
      let p = prefix (take s.synced s.contents) s.contents (drop s.synced s.contents, take-append-drop s.synced s.contents) in
      ap (take (length front)) (sym p.1) ∙ take-append_seam front p.0

  pub leaves_lines : (s t : DiskState) (left : List ℕ) → MayLeave s t left → MayLeave (opened_state s) (opened_state t) (lines_in Plain left)
  leaves_lines s t left m = record {
    front = prefix left t.contents m.front;
    kept = subst (λ (l : List ℕ). IsPrefix l (lines_in Plain left)) (sym (durable s)) (prefix (take s.synced s.contents) left m.kept);
  }

  pub leaves_either_lines : ((l : List ℕ) → rest_of l ≡ [] → lines_in Plain (lines_in Sealed l) ≡ l) → (s : DiskState) (lines left : List ℕ) → rest_of lines ≡ [] →
      MayLeaveEither s (lines_in Sealed lines) left → MayLeaveEither (opened_state s) lines (lines_in Plain left)
  leaves_either_lines text s lines left none (inl m) = inl (leaves_lines s s left m)
  leaves_either_lines text s lines left none (inr is) = inr (ap (lines_in Plain) is ∙ text lines none)
