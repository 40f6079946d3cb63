use Rattle.std.proofs.Common.{◌≡◌, ◌+◌, ◌++◌, ◌∷◌, [], ℕ, List, Ok, Some, true, arith, append_assoc, codes, drop, length, length-append, refl, sym, ◌∙◌}
use Rattle.text_lines.proofs.Common.{list_all, Event, command_of, number_in}
use Rattle.model_asked.specs.declared.event.Event.TheVariants.{Begin, Enter, Probe, Leave}
use Rattle.model_asked.specs.declared.command.Command.TheVariants as command
use Rattle.text_lines.specs.Quick.{IsCommandBefore, word_of_four, is_of_words}
use Rattle.text_lines.proofs.QuickLemmas.{is_letter, begins_with, then_with, first_of_one, rest_of-slice}
use Rattle.text_lines.proofs.quick.quick_five.Goals as goal
use Rattle.text_lines.proofs.quick.quick_five.Goals.{in-1768383842, in-1651470960, in-1702129253, in-1986094444}

pub returns : goal.returns
returns c = elim c.match-word.branch [
  | in-1768383842 w ↦
      let is = w.in-1768383842.is in
      rw w.event-is (five (codes "begi") 110 Begin refl refl refl (omega (arith, c.requires.word, is)) (c.requires.begin is) (λ digits number. rw number refl))
  | in-1651470960 w ↦
      let is = w.in-1651470960.is in
      let desk = c.requires.names (λ e. absurd (omega (arith, is, e))) in
      rw w.event-is (five (codes "prob") 101 Probe refl refl refl (omega (arith, c.requires.word, is)) (c.requires.probe is) (λ digits number. rw (desk, number) refl))
  | in-1702129253 w ↦
      let is = w.in-1702129253.is in
      let desk = c.requires.names (λ e. absurd (omega (arith, is, e))) in
      rw w.event-is (five (codes "ente") 114 Enter refl refl refl (omega (arith, c.requires.word, is)) (c.requires.enter is) (λ digits number. rw (desk, number) refl))
  | in-1986094444 w ↦
      let is = w.in-1986094444.is in
      let desk = c.requires.names (λ e. absurd (omega (arith, is, e))) in
      rw w.event-is (five (codes "leav") 101 Leave refl refl refl (omega (arith, c.requires.word, is)) (c.requires.leave is) (λ digits number. rw (desk, number) refl))
]
  where
    -- a word by its first four letters and its last
    five : (four : List ℕ) (last : ℕ) (event : ℕ → Event) → length four ≡ 4 → list_all is_of_words four ≡ true → list_all is_letter (four ++ last ∷ []) ≡ true → word_of_four c.args.bytes.now ≡ word_of_four four →
        c.args.last ≡ last → ((digits : List ℕ) → number_in digits ≡ Some c.in_ok-id.id → command_of c.args.world (four ++ last ∷ []) (digits ∷ []) ≡ Ok (command.Event (event c.in_ok-id.id))) →
        IsCommandBefore c.args.end c.args.world c.args.bytes.now (command.Event (event c.in_ok-id.id)) (c.in_ok-id.count + 6)
    five four last event long words letters same ends means =
        let bytes = c.args.bytes.now in
        let word : List ℕ = four ++ last ∷ [] in
        let begins = begins_with bytes four (omega (arith, c.if-bytes-lt6.false)) long (λ i. (c.type_inv.bytes i).fits) words same in
        let fifth = then_with bytes four 4 last begins (omega (arith, c.if-bytes-lt6.false)) (omega (arith, c.if-bytes-last.false, ends)) ∙ sym (append_assoc four (last ∷ []) (drop 5 bytes)) in
        let spaced = then_with bytes word 5 32 fifth (omega (arith, c.if-bytes-lt6.false)) c.if-bytes-ne-SPACE.false in
        first_of_one c.args.end c.args.world word bytes (drop 6 bytes) (λ id. command.Event (event id)) c.in_ok-id.id c.in_ok-id.count (c.in_ok-id.count + 6)
        spaced (omega (arith, length-append four (last ∷ []))) (omega (arith, length-append four (last ∷ []))) letters means (rw rest_of-slice at c.in_ok-id.ensures)
