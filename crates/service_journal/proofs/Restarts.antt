-- the hall that is opened of what a crash left
use Rattle.std.proofs.Common.{◌≡◌, ℕ, ◌≤◌, List, [], ◌∷◌, ◌++◌, length, take, flat_map, inl, inr, refl, ap, sym, ◌∙◌, arith, length-append}
use Rattle.service_journal.proofs.Common.{append-nil, exchange_line, header_line, HallState, DiskState, WriteAheadState}
use Rattle.text_lines.specs.Lines.{IsCutInto, IsCutOnce, rest_of, whole_lines}
use Rattle.service_journal.specs.Journals.{HasSynced, IsHallOf, KeepsHandedOn, LeavesHall, RecordsHallAfter}
use Rattle.service_journal.proofs.Commits.{keeps}

-- between two calls nothing more is written
pub stays : ((bytes : List ℕ) → IsCutOnce bytes) → (c : WriteAheadState) (s : DiskState) → HasSynced c s → c.reported ≤ length c.hall.history → KeepsHandedOn c s s
stays once c s stands few = keeps once c s stands few [] s (_, refl) (sym (append-nil s.contents)) refl

none_of_length : (xs : List ℕ) → length xs ≤ 0 → xs ≡ []
none_of_length [] h = refl
none_of_length (x ∷ xs) h = absurd (omega arith)

-- what is in front of a prefix, and no shorter than the whole, is the whole
nothing_more : (header rows rest left more : List ℕ) → (header ++ rows) ++ rest ≡ left → left ++ more ≡ header → rows ≡ []
nothing_more header rows rest left more cut front =
    let a = sym (ap length cut) ∙ length-append (header ++ rows) rest in
    let b = length-append header rows in
    let d = sym (ap length front) ∙ length-append left more in
    none_of_length rows (omega arith)

pub opened : ((bytes : List ℕ) → IsCutInto bytes (whole_lines bytes) (rest_of bytes)) → (h u : HallState) (least : ℕ) (left : List ℕ) →
    LeavesHall h least left → IsHallOf u left → u.config ≡ h.config → RecordsHallAfter h least u
opened cut h u least left l (inl r) same = record { count = l.count; many = l.many; few = l.few; is = sym r ∙ l.is }
opened cut h u least left l (inr fresh) same =
    let rows = flat_map exchange_line (take l.count h.history) in
    let header : header_line u.config ≡ header_line h.config = ap header_line same in
    let whole : (header_line h.config ++ rows) ++ rest_of left ≡ left = ap (λ (w : List ℕ). w ++ rest_of left) (sym l.is) ∙ (cut left).joined in
    let none : rows ≡ [] = nothing_more (header_line h.config) rows (rest_of left) left fresh.0.0 whole (fresh.0.1 ∙ header) in
    record {
      count = l.count;
      many = l.many;
      few = l.few;
      is = ap (λ xs. header_line u.config ++ flat_map exchange_line xs) fresh.1 ∙ ap (λ (w : List ℕ). w ++ []) header ∙ ap (λ (w : List ℕ). header_line h.config ++ w) (sym none);
    }
