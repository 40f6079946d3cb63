-- what is said to one side of a transcript, one turn after another
use Rattle.std.proofs.Common.{◌≡◌, ℕ, ◌+◌, true, false, cond, List, [], ◌∷◌, ◌++◌, flat_map, Ok, Err, Result, refl, sym, ap, subst, ◌∙◌, append_assoc, arith, length-append}
use Rattle.text_player.proofs.Common.{append-nil, map-append, flat_map-append, Bad, WorldKind, Summary, Answered, Reported, Ended, Misread, CountsAnswers, held, ResponderState, Progress, ends, after_meaning, after_line, after_rest, after_end, with_line, Request, Runs, runs-append}
use Rattle.model_asked.specs.Replies.{ShownReply, is_refusal}
use Rattle.text_player.specs.Turns.{Turn, asked, answer_of, answers_of}
use Rattle.text_player.specs.Says.{Spoke, IsTurnOf, IsHeld, SaysFrom, Says, Afresh}
use Rattle.text_player.specs.Summary.{total, one_if_accepted, one_if_refused, one_if_bad}

total-push : (one : Result ShownReply Bad → ℕ) (given : List (Result ShownReply Bad)) (a : Result ShownReply Bad) → total one (given ++ a ∷ []) ≡ total one given + one a
total-push one [] a = omega arith
total-push one (b ∷ given) a = omega (arith, total-push one given a)

one_each : (a : Result ShownReply Bad) → 1 ≡ one_if_accepted a + one_if_refused a + one_if_bad a
one_each (Ok r) = elim (is_refusal r) as (λ b. 1 ≡ cond b 0 1 + cond b 1 0 + 0) [ true ↦ refl | false ↦ refl ]
one_each (Err bad) = refl

-- one more answer is counted
counts_more : (given : List (Result ShownReply Bad)) (a : Result ShownReply Bad) (s s' : Summary) → CountsAnswers given s →
    s'.lines ≡ s.lines + 1 → s'.accepted ≡ s.accepted + one_if_accepted a → s'.refused ≡ s.refused + one_if_refused a → s'.bad ≡ s.bad + one_if_bad a →
    CountsAnswers (given ++ a ∷ []) s'
counts_more given a s s' c l x r b = record {
  lines = omega (arith, l, c.lines, length-append given (a ∷ []));
  accepted = omega (arith, x, c.accepted, total-push one_if_accepted given a);
  refused = omega (arith, r, c.refused, total-push one_if_refused given a);
  bad = omega (arith, b, c.bad, total-push one_if_bad given a);
  all = omega (arith, l, x, r, b, c.all, one_each a);
}

-- the line so far is another
pub spoke_with_line : (turns : List Turn) (s s' : ResponderState) (p : Progress) (new : List ℕ) → Spoke turns s p → s' ≡ record s { line = held new } → Spoke turns s' (with_line p new)
spoke_with_line turns s s' p new t e = record {
  asked_is = t.asked_is;
  line_is = ap (λ (q : ResponderState). q.line) e;
  over_is = ap (λ (q : ResponderState). q.over) e ∙ t.over_is;
  counts = subst (λ (q : Summary). CountsAnswers (answers_of turns) q) (sym (ap (λ (q : ResponderState). q.summary) e)) t.counts;
}

module _ {T : Type 0} (may : T → Request → ShownReply → T → Type 0) where
  -- one turn is a run, and leaves the counts and the line
  turn_taken : (w u : T) (s s' : ResponderState) (turn : Turn) → IsTurnOf may w s turn u s' → Runs may w (turn ∷ []) u × (s'.summary ≡ s.summary) × (s'.line ≡ s.line) × (s.over ≡ false → s'.over ≡ ends (asked turn))
  turn_taken w u s s' (Answered x) t = ((u, t.0, refl), ap (λ (q : ResponderState). q.summary) t.1, ap (λ (q : ResponderState). q.line) t.1, λ o. ap (λ (q : ResponderState). q.over) t.1 ∙ o)
  turn_taken w u s s' (Reported n r) t = ((u, t.0, refl), ap (λ (q : ResponderState). q.summary) t.1, ap (λ (q : ResponderState). q.line) t.1, λ o. ap (λ (q : ResponderState). q.over) t.1 ∙ o)
  turn_taken w u s s' Ended t = (sym t.0, ap (λ (q : ResponderState). q.summary) t.1, ap (λ (q : ResponderState). q.line) t.1, λ o. ap (λ (q : ResponderState). q.over) t.1)
  turn_taken w u s s' (Misread bad) t = (sym t.0, ap (λ (q : ResponderState). q.summary) t.1, ap (λ (q : ResponderState). q.line) t.1, λ o. ap (λ (q : ResponderState). q.over) t.1 ∙ o)

  -- where this is written of each turn
  module _ (text : Turn → List ℕ) where
    -- one more turn is taken, and its text is added
    pub says_one : (w u : T) (s s' s'' : ResponderState) (out out'' : List ℕ) (turn : Turn) → IsTurnOf may w s turn u s' → IsHeld text s' out turn s'' out'' →
        SaysFrom may text Afresh w s out u s'' out'' (λ p. after_meaning p (asked turn))
    says_one w u s s' s'' out out'' turn took hold =
        let taken = turn_taken w u s s' turn took in
        let kept = hold.kept in (
          turn ∷ [],
          record {
            run = taken.0;
            text_is = hold.added ∙ ap (λ l. out ++ l) (sym (append-nil (text turn)));
            goes_on = λ turns p t was.
                let counted : CountsAnswers (answers_of turns) s'.summary = subst (λ (q : Summary). CountsAnswers (answers_of turns) q) (sym taken.1) t.counts in
                record {
                  asked_is = map-append asked turns (turn ∷ []) ∙ ap (λ l. l ++ asked turn ∷ []) t.asked_is;
                  line_is = ap (λ (q : ResponderState). q.line) kept ∙ taken.2 ∙ t.line_is ∙ ap held was.1;
                  over_is = ap (λ (q : ResponderState). q.over) kept ∙ taken.3 (t.over_is ∙ was.0);
                  counts = subst (λ (l : List (Result ShownReply Bad)). CountsAnswers l s''.summary) (sym (map-append answer_of turns (turn ∷ [])))
                      (counts_more (answers_of turns) (answer_of turn) s'.summary s''.summary counted hold.lines hold.accepted hold.refused hold.bad);
                };
          },
        )

    -- nothing is said
    pub says_nothing : (w : T) (s s' : ResponderState) (out : List ℕ) (Was : Progress → Type 0) (next : Progress → Progress) →
        ((turns : List Turn) (p : Progress) → Spoke turns s p → Was p → Spoke turns s' (next p)) → SaysFrom may text Was w s out w s' out next
    says_nothing w s s' out Was next on = (
      [],
      record {
        run = refl;
        text_is = sym (append-nil out);
        goes_on = λ turns p spoke was. rw (append-nil turns) (on turns p spoke was);
      },
    )

    -- what is said after a silent change
    pub says_after : (w u : T) (s s1 s' : ResponderState) (out out' : List ℕ) (Was Was1 : Progress → Type 0) (next1 next q : Progress → Progress) →
        SaysFrom may text Was1 w s1 out u s' out' next1 →
        ((turns : List Turn) (p : Progress) → Spoke turns s p → Was p → Spoke turns s1 (q p) × Was1 (q p) × (next1 (q p) ≡ next p)) →
        SaysFrom may text Was w s out u s' out' next
    says_after w u s s1 s' out out' Was Was1 next1 next q said on = (
      said.0,
      record {
        run = said.1.run;
        text_is = said.1.text_is;
        goes_on = λ turns p spoke was.
            let b = on turns p spoke was in
            subst (λ (r : Progress). Spoke (turns ++ said.0) s' r) b.2 (said.1.goes_on turns (q p) b.0 b.1);
      },
    )

    -- what is said, and then more
    pub says_then : (w v u : T) (s s1 s' : ResponderState) (out out1 out' : List ℕ) (next1 next2 next : Progress → Progress) →
        Says may text w s out v s1 out1 next1 → Says may text v s1 out1 u s' out' next2 → ((p : Progress) → next2 (next1 p) ≡ next p) → Says may text w s out u s' out' next
    says_then w v u s s1 s' out out1 out' next1 next2 next a b same = (
      a.0 ++ b.0,
      record {
        run = runs-append may w v u a.0 b.0 a.1.run b.1.run;
        text_is = b.1.text_is ∙ ap (λ l. l ++ flat_map text b.0) a.1.text_is ∙ append_assoc out (flat_map text a.0) (flat_map text b.0) ∙ ap (λ l. out ++ l) (sym (flat_map-append text a.0 b.0));
        goes_on = λ turns p spoke was. subst (λ (q : Progress). Spoke (turns ++ (a.0 ++ b.0)) s' q) (same p)
            (subst (λ (l : List Turn). Spoke l s' (next2 (next1 p))) (append_assoc turns a.0 b.0) (b.1.goes_on (turns ++ a.0) (next1 p) (a.1.goes_on turns p spoke tt) tt));
      },
    )

-- what the end of the input makes of a line that has begun, of none, and after `quit`
after_rest-some : (kind : WorldKind) (p : Progress) (line : List ℕ) → (line ≡ [] → ⊥) → after_rest kind p line ≡ after_line kind p
after_rest-some kind p [] some = absurd (some refl)
after_rest-some kind p (b ∷ bs) some = refl

pub after_end-some : (kind : WorldKind) (p : Progress) → p.over ≡ false → (p.line ≡ [] → ⊥) → after_end kind p ≡ after_line kind p
after_end-some kind p over some = elim p.over as (λ b. b ≡ false → cond b p (after_rest kind p p.line) ≡ after_line kind p) [ true ↦ λ e. absurd cc | false ↦ λ e. after_rest-some kind p p.line some ] over

pub after_end-over : (kind : WorldKind) (p : Progress) → p.over ≡ true → after_end kind p ≡ p
after_end-over kind p over = elim p.over as (λ b. b ≡ true → cond b p (after_rest kind p p.line) ≡ p) [ true ↦ λ e. refl | false ↦ λ e. absurd cc ] over

pub after_end-none : (kind : WorldKind) (p : Progress) → p.line ≡ [] → after_end kind p ≡ p
after_end-none kind p none = elim p.over as (λ b. cond b p (after_rest kind p p.line) ≡ p) [ true ↦ refl | false ↦ ap (after_rest kind p) none ]
