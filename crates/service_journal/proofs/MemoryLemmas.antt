-- what the calls of a disk in memory do to it
use Rattle.std.proofs.Common.{◌≡◌, ℕ, ◌+◌, ◌-◌, ◌≤◌, min, List, [], ◌++◌, length, take, drop, Some, refl, ap, sym, ◌∙◌, subst, arith}
use Rattle.std.proofs.lemmas.List.{append-nil, take-append-drop}
use Rattle.std.proofs.Math.Seq.{take-add}
use Rattle.std.proofs.lemmas.Option.{same_Some}
use mathlib.Core.List.{IsPrefix}
use Rattle.service_journal.specs.DiskState.{DiskState}
use Rattle.service_journal.specs.Disks.{state_of, longer_by, IsShortened, MayLeave}

prefix_self : (xs : List ℕ) → IsPrefix xs xs
prefix_self xs = ([], append-nil xs)

-- a write that fails leaves a prefix of its bytes
pub part_appended : (bytes : List ℕ) (n : ℕ) (old new : DiskState) → new ≡ longer_by old (take n bytes) →
    (s : DiskState) → Some old ≡ Some s → (t : DiskState) × (Some new ≡ Some t) × ((part : List ℕ) × IsPrefix part bytes × (t ≡ longer_by s part))
part_appended bytes n old new is s known =
    (new, refl, (take n bytes, (drop n bytes, take-append-drop n bytes), is ∙ ap (λ (x : DiskState). longer_by x (take n bytes)) (same_Some old s known)))

-- a cut leaves the first so many
pub shortened : (len : ℕ) (contents left : List ℕ) (synced cuts : ℕ) → left ≡ take len contents →
    (s : DiskState) → Some (state_of contents synced cuts) ≡ Some s →
    (t : DiskState) × (Some (state_of left (min synced (length left)) (cuts + 1)) ≡ Some t) × (IsShortened len s t × (t.contents ≡ take len s.contents))
shortened len contents left synced cuts is s known =
    let old = state_of contents synced cuts in
    let new = state_of left (min synced (length left)) (cuts + 1) in
    let P : DiskState → Type 0 = λ x. IsShortened len x new × (left ≡ take len x.contents) in (
      new,
      refl,
      subst P (same_Some old s known) (
        record {
          front = (drop len contents, ap (λ (l : List ℕ). l ++ drop len contents) is ∙ take-append-drop len contents);
          kept = subst (λ (l : List ℕ). IsPrefix l left) is (prefix_self left);
          below = omega arith;
          counted = refl;
        },
        is,
      ),
    )

-- a prefix with all that was durable is what a crash may leave
pub crash_leaves : (s : DiskState) (kept : ℕ) (left : List ℕ) → left ≡ take kept s.contents → s.synced ≤ kept → MayLeave s s left
crash_leaves s kept left is enough =
    let more = kept - s.synced in
    let all : kept ≡ s.synced + more = omega arith in
    record {
      front = (drop kept s.contents, ap (λ (l : List ℕ). l ++ drop kept s.contents) is ∙ take-append-drop kept s.contents);
      kept = (take more (drop s.synced s.contents), sym (take-add s.synced more s.contents) ∙ ap (λ (n : ℕ). take n s.contents) (sym all) ∙ sym is);
    }
