-- bytes with no LF among them ask for nothing
use Rattle.std.proofs.Common.{◌≡◌, ℕ, ◌==◌, if◌then◌else◌, Bool, true, false, not, List, [], ◌∷◌, ◌++◌, length, map, refl, sym, ap, ◌∙◌, arith, length-append}
use Rattle.std.proofs.lemmas.Bool.{and_parts, not-true}
use Rattle.std.proofs.lemmas.List.{length-map}
use Rattle.service_loop.proofs.Common.{WorldKind, Turn}
use Rattle.text_lines.specs.Lines.{has_no_lf}
use Rattle.text_player.specs.Progress.{Progress, after_byte, after_bytes}
use Rattle.text_player.specs.Turns.{asked}
use Rattle.service_loop.specs.ConnectionBuffers.{NeedsLf}

-- one byte that is none
byte_asks : (kind : WorldKind) (p : Progress) (b : ℕ) → (b == 10) ≡ false → (after_byte kind p b).asked ≡ p.asked
byte_asks kind p b other =
    let longer : Progress = record { line = p.line ++ b ∷ []; asked = p.asked; over = p.over } in
    rw other (elim p.over as (λ (over : Bool). (if over then p else longer).asked ≡ p.asked) [ true ↦ refl | false ↦ refl ])

bytes_ask : (kind : WorldKind) (p : Progress) (bs : List ℕ) → has_no_lf bs ≡ true → (after_bytes kind p bs).asked ≡ p.asked
bytes_ask kind p [] none = refl
bytes_ask kind p (b ∷ bs) none =
    let parts = and_parts (not (b == 10)) (has_no_lf bs) none in
    bytes_ask kind (after_byte kind p b) bs parts.1 ∙ byte_asks kind p b (not-true (b == 10) parts.0)

no_turn : (turns : List Turn) → length turns ≡ 0 → turns ≡ []
no_turn [] none = refl
no_turn (t ∷ ts) none = absurd (omega (arith, none))

pub needs_lf : NeedsLf
needs_lf turns before came ends s s' p t spoke none =
    let all : map asked (before ++ turns) ≡ map asked before = (t.goes_on before p spoke).asked_is ∙ bytes_ask s.responder.kind p t.taken none ∙ sym spoke.asked_is in
    let many : length (map asked (before ++ turns)) ≡ length (map asked before) = ap (λ l. length l) all in
    no_turn turns (omega (arith, many, length-map (before ++ turns) asked, length-map before asked, length-append before turns))
