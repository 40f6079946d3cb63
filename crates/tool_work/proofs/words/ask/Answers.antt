use Rattle.std.proofs.Common.{map, subst, true, [], ◌≡◌}
use Rattle.tool_work.proofs.Common.{Ask, slotctl_app}
use Rattle.clap.specs.Words.{App, HasMatchesOf, kind_of}
use Rattle.clap.specs.Kinds.{HasKind}
use Rattle.clap.specs.Faults.{fault_of, is_simple_and_free}
use Rattle.tool_work.specs.Asked.{IsAsked}
use Rattle.tool_work.proofs.AskLemmas.{app_is_free, app_is_simple, refused, reported}
use Rattle.tool_work.proofs.words.ask.Goals as goal

pub returns-in-Err : goal.returns-in-Err
returns-in-Err g c =
    let words = map g.S.AsStr.text c.args.words.now in
    let fails = subst (λ (a : App). is_simple_and_free a ≡ true → HasKind (fault_of a words) c.in-Err.error) c.in_ok-command.ensures c.in-Err.ensures.kinds app_is_free in
    reported words (fault_of slotctl_app words) (kind_of c.in-Err.error) c.misuse_of.result fails c.misuse_of.ensures

pub returns-in-Some : goal.returns-in-Some
returns-in-Some g c =
    let words = map g.S.AsStr.text c.args.words.now in
    let fits = subst (λ (a : App). is_simple_and_free a ≡ true → fault_of a words ≡ []) c.in_ok-command.ensures c.in-Ok.ensures.kinds app_is_free in
    let met = subst (λ (a : App). HasMatchesOf a words c.in-Ok.matches) c.in_ok-command.ensures c.in-Ok.ensures.matches app_is_simple in
    (fits, subst (λ s. IsAsked s c.in-Some.asked) met.1 c.in-Some.ensures)

pub returns : goal.returns
returns g c =
    let words = map g.S.AsStr.text c.args.words.now in
    let fits = subst (λ (a : App). is_simple_and_free a ≡ true → fault_of a words ≡ []) c.in_ok-command.ensures c.in-Ok.ensures.kinds app_is_free in
    let met = subst (λ (a : App). HasMatchesOf a words c.in-Ok.matches) c.in_ok-command.ensures c.in-Ok.ensures.matches app_is_simple in
    refused words (fault_of slotctl_app words) c.refused.result c.refused.ensures fits (subst (λ s. (a : Ask) → IsAsked s a → ⊥) met.1 c.in-None.ensures)
