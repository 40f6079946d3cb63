-- what stands on a disk whose journal was opened
use Rattle.std.proofs.Common.{◌≡◌, ◌≤◌, ◌⊎◌, ℕ, List, [], ◌++◌, length, take, drop, Option, Result, Ok, Err, IfErr, OnErr, inl, inr, refl, ap, sym, ◌∙◌, subst, arith, append_assoc}
use Rattle.service_journal.proofs.Common.{append-nil, take-append-drop, Config, IsCutOnce, header_line, HallState, DiskState, record_of_hall, write_ahead_of, HasSynced, IsHallOf, IsMended, missing_in, IsRecovered}
use Rattle.std.proofs.lemmas.Bool.{cases_lt}
use Rattle.std.proofs.lemmas.Bool.Decides.{eqb_tells}
use Rattle.std.proofs.lemmas.List.{length-take-le}
use mathlib.Core.List.{IsPrefix}
use Rattle.text_lines.specs.Lines.{IsCutInto, rest_of, whole_lines}
use Rattle.service_journal.proofs.Commits.{reported_all}
use Rattle.service_journal.proofs.Crashes.{cut_record}
use Rattle.service_journal.proofs.FaultLemmas.{is_whole}
use Rattle.service_journal.specs.Disks.{Changes, IsShortened, OnlyGrows, longer_by}
use Rattle.service_journal.specs.Journals.{GrowsFrom, GrowsUnlessTorn, KeepsFront, KeepsLines, without_torn}
use Rattle.service_journal.specs.OpenFaults.{IsSpared}
use Rattle.service_journal.specs.declared.opening.OpenFault.{OpenFault}
use Rattle.service_journal.specs.declared.opening.OpenFault.TheVariants.{Disk, NoMemory, Judged, OtherConfig, OtherLine, NoNames}

no_record : (h : HallState) → [] ≡ record_of_hall h → ⊥
no_record h is = cc

-- what was whole, with what was missing, is the record
mended : (c : Config) (bytes : List ℕ) (h : HallState) (whole : ℕ) → IsRecovered c bytes h whole → take whole bytes ++ missing_in whole (header_line c) ≡ record_of_hall h
mended c bytes h whole (inl r) = elim (eqb_tells whole 0) [
  | inl e ↦ absurd (no_record h (ap (λ (n : ℕ). take n bytes) (sym e.1) ∙ r.front))
  | inr e ↦ rw e.0 (append-nil (take whole bytes) ∙ r.front)
]
mended c bytes h whole (inr f) =
    let P : ℕ → Type 0 = λ n. take n bytes ++ missing_in n (header_line c) ≡ record_of_hall h in
    subst P (sym f.zero) (sym (append-nil (header_line c)) ∙ ap record_of_hall (sym f.none))

-- and the hall is that of the bytes
pub hall_of_bytes : ((bytes : List ℕ) → IsCutOnce bytes) → (c : Config) (bytes : List ℕ) (h : HallState) (whole : ℕ) → IsRecovered c bytes h whole → IsHallOf h bytes
hall_of_bytes once c bytes h whole (inl r) = inl (cut_record h bytes (drop whole bytes) once (sym (take-append-drop whole bytes) ∙ ap (λ (l : List ℕ). l ++ drop whole bytes) r.front) r.torn)
hall_of_bytes once c bytes h whole (inr f) = inr (
  subst (λ (u : HallState). IsPrefix bytes (header_line u.config)) (sym f.none) f.header,
  ap (λ (u : HallState). u.history) f.none,
)

-- after that was put right all of it is durable
pub synced_record : (c : Config) (bytes header : List ℕ) (h : HallState) (whole total : ℕ) (s t : DiskState) → IsRecovered c bytes h whole → header ≡ header_line c → bytes ≡ s.contents → length bytes ≡ total →
    IsMended total whole (missing_in whole header) s t → HasSynced (write_ahead_of h (length h.history)) t
synced_record c bytes header h whole total s t r head same many m =
    let done = m (ap length (sym same) ∙ many) in
    record {
      contents = done.0 ∙ ap (λ (l : List ℕ). take whole l ++ missing_in whole header) (sym same) ∙ ap (λ (l : List ℕ). take whole bytes ++ missing_in whole l) head ∙ mended c bytes h whole r ∙ sym (reported_all h);
      synced = done.1;
    }

-- ---- a disk that is put right, or whose journal is refused

-- two calls, one after the other
pub chain : {A B C : DiskState → DiskState → Type 0} (old mid new : Option DiskState) → Changes A old mid → Changes B mid new → ((s m t : DiskState) → A s m → B m t → C s t) → Changes C old new
chain old mid new h k both = (
  λ s is. let a = h.0 s is in let b = k.0 a.0 a.1 in (b.0, b.1, both s a.0 b.0 a.2 b.2),
  λ none. k.1 (h.1 none),
)

-- what is so is so where a call failed
pub always_err : {T E : Type 0} (r : Result T E) (P : Type 0) → P → OnErr r P
always_err (Ok done) P is = tt
always_err (Err why) P is = is

-- the first bytes stand there still, once others behind them were cut off, or none were
pub front_same : (whole : ℕ) (old : Option DiskState) → Changes (KeepsFront whole) old old
front_same whole old = (λ s is. (s, is, (drop whole s.contents, take-append-drop whole s.contents)), λ none. none)

pub front_cut : (whole : ℕ) (old new : Option DiskState) → Changes (λ s t. IsShortened whole s t ⊎ (t ≡ s)) old new → Changes (KeepsFront whole) old new
front_cut whole old new h = (
  λ s is.
      let a = h.0 s is in
      (a.0, a.1, elim a.2 [ inl short ↦ short.kept | inr same ↦ rw same (drop whole s.contents, take-append-drop whole s.contents) ]),
  h.1,
)

-- and once more were written behind them
front_more : (whole : ℕ) (old mid new : Option DiskState) → Changes (KeepsFront whole) old mid → Changes (λ s t. IsPrefix s.contents t.contents) mid new → Changes (KeepsFront whole) old new
front_more whole old mid new h k = chain old mid new h k (λ s m t a b. (a.0 ++ b.0, sym (append_assoc (take whole s.contents) a.0 b.0) ∙ ap (λ (l : List ℕ). l ++ b.0) a.1 ∙ b.1))

pub front_written : {missing : List ℕ} (whole : ℕ) (old mid new : Option DiskState) → Changes (KeepsFront whole) old mid →
    Changes (λ s t. (part : List ℕ) × IsPrefix part missing × (t ≡ longer_by s part)) mid new → Changes (KeepsFront whole) old new
front_written whole old mid new h k = front_more whole old mid new h (
  λ s is. let a = k.0 s is in (a.0, a.1, (a.2.0, sym (ap (λ (x : DiskState). x.contents) a.2.2))),
  k.1,
)

pub front_unsynced : {missing : List ℕ} (whole : ℕ) (old mid then new : Option DiskState) → Changes (KeepsFront whole) old mid →
    Changes (λ s t. t ≡ longer_by s missing) mid then → Changes (λ s t. t ≡ s) then new → Changes (KeepsFront whole) old new
front_unsynced {missing = missing} whole old mid then new h k l = front_more whole old mid new h (chain mid then new k l (λ s m t a b. (missing, sym (ap (λ (x : DiskState). x.contents) (b ∙ a)))))

-- the first call has read the bytes
abbrev pub IsRead : List ℕ → DiskState → DiskState → Type 0
IsRead bytes s t = (t ≡ s) × (bytes ≡ s.contents)

module _ (cut : (bytes : List ℕ) → IsCutInto bytes (whole_lines bytes) (rest_of bytes)) where
  -- a disk that is as it was is spared
  spared_same : (why : OpenFault) (s t : DiskState) → t ≡ s → IsSpared why s t
  spared_same (Disk why) s t is = subst (λ (x : DiskState). KeepsLines s x) (sym is) (rest_of s.contents, (cut s.contents).joined)
  spared_same NoMemory s t is = is
  spared_same (Judged v) s t is = is
  spared_same OtherConfig s t is = is
  spared_same (OtherLine number) s t is = is
  spared_same NoNames s t is = is

  pub spared : {T : Type 0} (r : Result T OpenFault) (old new : Option DiskState) → Changes (λ s t. t ≡ s) old new → IfErr r (λ why. Changes (IsSpared why) old new)
  spared (Ok done) old new h = tt
  spared (Err why) old new h = (λ s is. let a = h.0 s is in (a.0, a.1, spared_same why s a.0 a.2), h.1)

  module _ (once : (bytes : List ℕ) → IsCutOnce bytes) (c : Config) (bytes : List ℕ) (h : HallState) (whole : ℕ) where
    -- what is whole are the whole lines
    whole_is : IsRecovered c bytes h whole → take whole bytes ≡ without_torn bytes
    whole_is (inl r) = r.front ∙ sym (cut_record h bytes (drop whole bytes) once (sym (take-append-drop whole bytes) ∙ ap (λ (l : List ℕ). l ++ drop whole bytes) r.front) r.torn)
    whole_is (inr f) = ap (λ (n : ℕ). take n bytes) f.zero ∙ is_whole cut once bytes 0 f.torn refl

    -- which are all, where no line was torn
    all_whole : IsRecovered c bytes h whole → without_torn bytes ≡ bytes → length bytes ≤ whole
    all_whole r none = elim (cases_lt whole (length bytes)) [
      | inl fewer ↦ absurd (let a = ap length (whole_is r ∙ none) in let b = length-take-le whole bytes (omega (arith, fewer)) in omega (arith, a, b, fewer))
      | inr all ↦ all
    ]

    pub grown : IsRecovered c bytes h whole → (old mid new : Option DiskState) → Changes (IsRead bytes) old mid → Changes (GrowsFrom (length bytes) whole) mid new → Changes GrowsUnlessTorn old new
    grown r old mid new read put = chain old mid new read put (λ s m t a b none.
        let whole_lines_are : without_torn bytes ≡ bytes = subst (λ (l : List ℕ). without_torn l ≡ l) (sym a.1) none in
        subst (λ (x : DiskState). OnlyGrows x t) a.0 (b (all_whole r whole_lines_are)))

    pub lines_kept : IsRecovered c bytes h whole → (old mid new : Option DiskState) → Changes (IsRead bytes) old mid → Changes (KeepsFront whole) mid new → Changes KeepsLines old new
    lines_kept r old mid new read put = chain old mid new read put (λ s m t a b.
        let front : take whole m.contents ≡ without_torn s.contents = ap (λ (x : DiskState). take whole x.contents) a.0 ∙ ap (take whole) (sym a.1) ∙ whole_is r ∙ ap without_torn a.1 in
        subst (λ (l : List ℕ). IsPrefix l t.contents) front b)
