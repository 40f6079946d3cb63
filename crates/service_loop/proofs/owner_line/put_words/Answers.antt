use Rattle.std.proofs.Common.{◌++◌, ◌∷◌, [], ap, sym, ◌∙◌}
use Rattle.std.specs.Option.{option_copied}
use Rattle.text_lines.specs.Lines.{pieces_left}
use Rattle.service_loop.specs.OwnerLines.{behind}
use Rattle.service_loop.proofs.OwnerLemmas.{appended, behind_rest}
use Rattle.service_loop.proofs.owner_line.put_words.Goals as goal

pub returns-in_ok-extend_from_slice-3 : goal.returns-in_ok-extend_from_slice-3
returns-in_ok-extend_from_slice-3 c =
    let args = c.args in
    let rest = c.in-Some.rest.now in
    c.in_ok-extend_from_slice-3.ensures.items
    ∙ ap (λ l. l ++ rest) (c.in_ok-push-2.ensures.items ∙ ap (λ l. l ++ 32 ∷ []) (c.in_ok-extend_from_slice-2.ensures.items
    ∙ ap (λ l. l ++ args.word.now) (c.in_ok-push.ensures.items ∙ ap (λ l. l ++ 32 ∷ []) c.in_ok-extend_from_slice.ensures.items)))
    ∙ appended args.out.now.items args.command.now args.word.now rest
    ∙ ap (λ l. args.out.now.items ++ (args.command.now ++ 32 ∷ args.word.now ++ l)) (sym (behind_rest rest) ∙ ap (λ r. behind (pieces_left 32 (option_copied r))) (sym c.in-Some.is))
