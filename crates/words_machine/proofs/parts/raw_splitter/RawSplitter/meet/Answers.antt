use Rattle.std.proofs.Common.{ap, sym, ◌∙◌, [], ◌∷◌}
use Rattle.words_machine.proofs.parts_lemmas.Common.{view_of, IsUnderRule}
use Rattle.words_machine.specs.parts.Seats.{gone_at}
use Rattle.words_machine.proofs.parts_lemmas.Visiting.{badge_view, apart, right_after, down_before, one_stops, split_of_two}
use Rattle.words_machine.proofs.parts.raw_splitter.RawSplitter.meet.Given.{Over}
use Rattle.words_machine.proofs.parts.raw_splitter.RawSplitter.meet.Goals.{After-drop-other-inside}
use Rattle.words_machine.proofs.parts.raw_splitter.RawSplitter.meet.Goals as goal

pub look_together-left-requires-clause-left : goal.look_together-left-requires-clause-left
look_together-left-requires-clause-left g c =
    let view = badge_view _ _ _ _ c.args.one.now _ c.into_seat-left.result.me.0 c.one.invariant c.one.view_is (c.requires.one ∙ sym c.self.view_is)
    (ap (λ b. b.views) (sym c.replace.ensures.value) ∙ c.into_seat-left.ensures.2) in
    (gone_at c.args.one.now, λ i. (view i, c.into_seat-left.ensures.3 i))

pub look_together-left-requires-clause-right : goal.look_together-left-requires-clause-right
look_together-left-requires-clause-right g c =
    let view = badge_view _ _ _ _ c.args.other.now _ c.into_seat-right.result.me.0 c.other.invariant c.other.view_is (c.requires.other ∙ sym c.self.view_is)
    (ap (λ b. b.views) (sym c.replace-2.ensures.value) ∙ c.into_seat-right.ensures.2) in
    (gone_at c.args.other.now, λ i. (view i, c.into_seat-right.ensures.3 i))

met : (g : Over) (c : After-drop-other-inside g)
    → IsUnderRule (view_of c.self.inside.table.shared.key (gone_at c.args.one.now ∷ gone_at c.args.other.now ∷ []))
met g c =
    let left = badge_view _ _ _ _ c.args.one.now _ c.into_seat-left.result.me.0 c.one.invariant c.one.view_is (c.requires.one ∙ sym c.self.view_is)
    (ap (λ b. b.views) (sym c.replace.ensures.value) ∙ c.into_seat-left.ensures.2) in
    let right = badge_view _ _ _ _ c.args.other.now _ c.into_seat-right.result.me.0 c.other.invariant c.other.view_is (c.requires.other ∙ sym c.self.view_is)
    (ap (λ b. b.views) (sym c.replace-2.ensures.value) ∙ c.into_seat-right.ensures.2) in
    rw (left, right) at c.look_together-left.ensures.met

pub returns-clause-apart : goal.returns-clause-apart
returns-clause-apart g c = apart c.self.inside.table.shared.key c.args.one.now c.args.other.now (met g c)

pub returns-clause-one_stops : goal.returns-clause-one_stops
returns-clause-one_stops g c = one_stops c.self.inside.table.shared.key c.args.one.now c.args.other.now (met g c)

pub returns-clause-split : goal.returns-clause-split
returns-clause-split g c = λ two. split_of_two c.self.inside.table.shared.key c.args.one.now c.args.other.now (met g c) (ap (λ w. w.seats) c.self.view_is ∙ two)

pub returns-clause-right : goal.returns-clause-right
returns-clause-right g c = right_after c.self.inside.table.shared.key c.args.one.now c.args.other.now (met g c)

pub returns-clause-down : goal.returns-clause-down
returns-clause-down g c = down_before c.self.inside.table.shared.key c.args.one.now c.args.other.now (met g c)
