-- Entries of an answer, one after another.
use Rattle.std.proofs.Common.{◌≡◌, ◌≢◌, ℕ, zero, suc, ◌+◌, ◌-◌, List, [], ◌∷◌, ◌++◌, Some, None, Result, Ok, Err, OnOk, refl, ap, sym, inl, inr, Option, subst, ◌∙◌, arith, append_assoc}
use Rattle.std.specs.declared.vec.Vec.{Vec}
use Rattle.std.specs.declared.alloc.Global.{Global}
use Rattle.json.specs.Json.{Json}
use Rattle.base64.specs.Engines.{standard}
use Rattle.base64.specs.GeneralPurpose.{decode_of}
use Rattle.service_log.specs.etcd.Answers.{get_said}
use Rattle.service_log.specs.declared.store_fault.StoreFault.{StoreFault}
use Rattle.service_log.specs.etcd.Found.{HasUnread, IsUnread, SaysAt, SaysFound, SaysFrom}

-- none behind this one
pub says_none : (most : ℕ) (answer : Json) (index : ℕ) (prefix : List ℕ) (place : ℕ) → most ≢ 0 → SaysFound answer index prefix place None → SaysFrom most answer index prefix place []
says_none zero answer index prefix place some said = absurd (some refl)
says_none (suc most) answer index prefix place some said = said

-- one more
pub says_more : (most : ℕ) (answer : Json) (index : ℕ) (prefix : List ℕ) (place : ℕ) (e : Vec ℕ Global) (es : List (Vec ℕ Global)) → most ≢ 0 →
    SaysFound answer index prefix place (Some e) → SaysFrom (most - 1) answer (index + 1) prefix (place + 1) es → SaysFrom most answer index prefix place (e ∷ es)
says_more zero answer index prefix place e es some said rest = absurd (some refl)
says_more (suc most) answer index prefix place e es some said rest =
    let same : suc most - 1 ≡ most = omega arith in
    (said, subst (λ (k : ℕ). SaysFrom k answer (index + 1) prefix (place + 1) es) same rest)

-- where the rest was read behind it
pub read_more : {X : Type 0} (r : Result X StoreFault) (most : ℕ) (answer : Json) (index : ℕ) (prefix : List ℕ) (place next : ℕ) (e : Vec ℕ Global) (old pushed new : List (Vec ℕ Global)) → most ≢ 0 →
    next ≡ place + 1 → SaysFound answer index prefix place (Some e) → pushed ≡ old ++ e ∷ [] →
    OnOk r ((more : List (Vec ℕ Global)) × (new ≡ pushed ++ more) × SaysFrom (most - 1) answer (index + 1) prefix next more) →
    OnOk r ((more : List (Vec ℕ Global)) × (new ≡ old ++ more) × SaysFrom most answer index prefix place more)
read_more (Ok x) most answer index prefix place next e old pushed new some one said is rest =
    let behind = subst (λ (k : ℕ). SaysFrom (most - 1) answer (index + 1) prefix k rest.0) one rest.2 in
    (e ∷ rest.0, rest.1 ∙ (ap (λ front. front ++ rest.0) is ∙ append_assoc old (e ∷ []) rest.0), says_more most answer index prefix place e rest.0 some said behind)
read_more (Err fault) most answer index prefix place next e old pushed new some one said is rest = tt

-- no entry is read where the answer says none of this key
pub unread_none : (answer : Json) (index : ℕ) (key : List ℕ) → get_said index key answer ≡ None → (found : Option (Vec ℕ Global)) → SaysAt answer index key found → ⊥
unread_none answer index key none None said = let bad : None ≡ Some None = sym none ∙ said in cc bad
unread_none answer index key none (Some found) said = let bad : None ≡ Some (Some said.0) = sym none ∙ said.1 in cc bad

-- nor where its value is no base64
pub unread_text : (answer : Json) (index : ℕ) (key text : List ℕ) → get_said index key answer ≡ Some (Some text) → ((bytes : List ℕ) → decode_of standard text ≢ Ok bytes) →
    (found : Option (Vec ℕ Global)) → SaysAt answer index key found → ⊥
unread_text answer index key text some bad None said = let other : Some (Some text) ≡ Some None = sym some ∙ said in cc other
unread_text answer index key text some bad (Some found) said =
    let both : Some (Some text) ≡ Some (Some said.0) = sym some ∙ said.1 in
    let same : text ≡ said.0 = cc both in
    bad found.items (subst (λ (t : List ℕ). decode_of standard t ≡ Ok found.items) (sym same) said.2)

-- the first can't be read, or one behind it
pub unread_first : (most : ℕ) (answer : Json) (index : ℕ) (prefix : List ℕ) (place : ℕ) → most ≢ 0 → IsUnread answer index prefix place → HasUnread most answer index prefix place
unread_first zero answer index prefix place some bad = absurd (some refl)
unread_first (suc most) answer index prefix place some bad = inl bad

pub unread_rest : (most : ℕ) (answer : Json) (index : ℕ) (prefix : List ℕ) (place next : ℕ) → most ≢ 0 → next ≡ place + 1 → HasUnread (most - 1) answer (index + 1) prefix next → HasUnread most answer index prefix place
unread_rest zero answer index prefix place next some one bad = absurd (some refl)
unread_rest (suc most) answer index prefix place next some one bad =
    let same : suc most - 1 ≡ most = omega arith in
    inr (subst (λ (k : ℕ). HasUnread most answer (index + 1) prefix k) one (subst (λ (k : ℕ). HasUnread k answer (index + 1) prefix next) same bad))
