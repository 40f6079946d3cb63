use Rattle.std.proofs.Common.{◌≡◌, ◌∙◌, ◌++◌, ◌∷◌, [], ap, append_assoc, sym}
use Rattle.service_loop.proofs.Common.{append-nil}
use Rattle.service_loop.proofs.peek.add_line.Goals as goal

pub returns-in_err-extend_from_slice-clause-kept : goal.returns-in_err-extend_from_slice-clause-kept
returns-in_err-extend_from_slice-clause-kept g c = ([], c.in_err-extend_from_slice.ensures.items ∙ sym (append-nil c.args.batch.now.items))

pub returns-in_err-push-clause-kept : goal.returns-in_err-push-clause-kept
returns-in_err-push-clause-kept g c = (c.args.line.now, c.in_err-push.ensures.items ∙ c.in_ok-extend_from_slice.ensures.items)

pub returns : goal.returns
returns g c =
    let all : c.push.new.self.items ≡ c.args.batch.now.items ++ (c.args.line.now ++ 10 ∷ []) =
    c.in_ok-push.ensures.items ∙ ap (λ l. l ++ 10 ∷ []) c.in_ok-extend_from_slice.ensures.items ∙ append_assoc c.args.batch.now.items c.args.line.now (10 ∷ []) in
    record { added = all; kept = (c.args.line.now ++ 10 ∷ [], all) }
