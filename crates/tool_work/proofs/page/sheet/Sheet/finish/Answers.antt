use Rattle.std.proofs.Common.{◌≡◌, ℕ, ◌-◌, nat_le, Bool, if◌then◌else◌, List, [], ◌++◌, ap, ◌∙◌}
use Rattle.tool_work.proofs.page_lemmas.Common.{Data, ending, whole_before, state}
use Rattle.tool_work.proofs.page_lemmas.PageLemmas.{same_stretch}
use Rattle.tool_work.proofs.page.sheet.Sheet.finish.Goals as goal

pub returns : goal.returns
returns c =
    let s = c.args.self.now in
    let reported = c.put_state_where_asked.new.out in
    let before_is : reported ≡ whole_before s =
    c.in_ok-put_state_where_asked.ensures
    ∙ ap (λ (b : Bool). s.before ++ (if b then state Data s.desk c.deref.result.now c.deref-2.result.now else [])) c.is_past-is_past.ensures
    ∙ ap (λ (ids : List ℕ). s.before ++ (if nat_le s.seen (s.stretch.from - 1) then state Data s.desk ids c.deref-2.result.now else [])) c.deref.ensures.value
    ∙ ap (λ (places : List ℕ). s.before ++ (if nat_le s.seen (s.stretch.from - 1) then state Data s.desk s.begun.items places else [])) c.deref-2.ensures.value in
    record {
      same = same_stretch s.stretch c.args.stretch c.if-self-stretch.false c.if-self-stretch-2.false;
      text_is =
          c.in_ok-put_ending.ensures
          ∙ ap (λ (ids : List ℕ). s.text ++ ending reported s.desk ids c.deref-4.result.now s.seen s.listed) c.deref-3.ensures.value
          ∙ ap (λ (places : List ℕ). s.text ++ ending reported s.desk s.begun.items places s.seen s.listed) c.deref-4.ensures.value
          ∙ ap (λ (t : List ℕ). s.text ++ ending t s.desk s.begun.items s.reached.items s.seen s.listed) before_is;
    }
