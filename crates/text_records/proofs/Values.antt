-- what a line says is one thing
use Rattle.std.proofs.Common.{◌≡◌, ℕ, ◌≤◌, List, length, Option, Some, None, Result, Ok, Err, sym, subst, ◌∙◌, MatchOption}
use Rattle.text_records.proofs.Common.{IfOk, AllocError, Data, Value, view, WorldKind, Header, Version, Line}
use Rattle.text_records.specs.Json.{IsHeader}
use Rattle.text_records.specs.RecordLine.{IsJson, SaysLine, IsEventLine, IsHeaderLine}

-- bytes are read as one value alone
pub one_value : (bytes : List ℕ) (d e : Data) → IsJson bytes d → IsJson bytes e → d ≡ e
one_value bytes d e x y = let k : Some d ≡ Some e = sym x.reads ∙ y.reads in cc

pub json_some : (bytes : List ℕ) (o : Option Value) (v : Value) → o ≡ Some v → MatchOption o ((d : Data) → IsJson bytes d → ⊥) (λ w. IsJson bytes (view w)) → IsJson bytes (view v)
json_some bytes None v e h = absurd (cc)
json_some bytes (Some w) v e h = let f : w ≡ v = cc in subst (λ (x : Value). IsJson bytes (view x)) f h

pub json_none : (bytes : List ℕ) (o : Option Value) → o ≡ None → MatchOption o ((d : Data) → IsJson bytes d → ⊥) (λ w. IsJson bytes (view w)) → (d : Data) → IsJson bytes d → ⊥
json_none bytes None e h = h
json_none bytes (Some w) e h = absurd (cc)

-- a line says what its value does
pub line_said : (kind : WorldKind) (version : Version) (bytes : List ℕ) (d : Data) (r : Result (Option Line) AllocError) → length bytes ≤ 8192 → IsJson bytes d →
    IfOk r (λ x. MatchOption x ((l : Line) → SaysLine kind version d l → ⊥) (λ l. SaysLine kind version d l)) → IfOk r (λ x. MatchOption x ((l : Line) → IsEventLine kind version bytes l → ⊥) (λ l. IsEventLine kind version bytes l))
line_said kind version bytes d (Ok None) short json h = λ l e. h l (subst (λ (x : Data). SaysLine kind version x l) (one_value bytes e.value d e.json json) e.says)
line_said kind version bytes d (Ok (Some l)) short json h = record { short = short; value = d; json = json; says = h }
line_said kind version bytes d (Err e) short json h = tt

pub header_said : (bytes : List ℕ) (d : Data) (o : Option Header) → length bytes ≤ 8192 → IsJson bytes d →
    MatchOption o ((h : Header) → IsHeader d h → ⊥) (λ h. IsHeader d h) → MatchOption o ((h : Header) → IsHeaderLine bytes h → ⊥) (λ h. IsHeaderLine bytes h)
header_said bytes d None short json h = λ k e. h k (subst (λ (x : Data). IsHeader x k) (one_value bytes e.value d e.json json) e.says)
header_said bytes d (Some c) short json h = record { short = short; value = d; json = json; says = h }
