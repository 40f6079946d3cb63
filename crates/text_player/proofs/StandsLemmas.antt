-- where a player stands, one call after another
use Rattle.std.proofs.Common.{◌≡◌, ℕ, List, [], ◌++◌, flat_map, Result, Option, refl, sym, ap, subst, ◌∙◌, append_assoc}
use Rattle.text_lines.specs.lemmas.WrittenProofs.{appends_more, part_after}
use Rattle.text_player.proofs.Common.{append-nil, flat_map-append, Appends, Bad, Command, WorldKind, ShownReply, Summary, Turn, answers_of, CountsAnswers, ResponderState, Progress, at_start, Request, runs-append, Says, HasPartOf}
use Rattle.std.proofs.KnownBytes.{Appends-nil}
use Rattle.text_player.specs.PlayerState.{PlayerState, player_of}
use Rattle.text_player.specs.Stands.{IsFresh, IsSent, Stands, StandsPart}

module _ {T : Type 0} (may : T → Request → ShownReply → T → Type 0) where
  -- where this is written of each turn
  module _ (text : Turn → List ℕ) where
    -- what is said to its talker is said to the player
    pub stands_said : (start w u : T) (s s' : ResponderState) (out out' : List ℕ) (next : Progress → Progress) (p : Progress) (before now : Option (List ℕ)) →
        Says may text w s out u s' out' next → Stands may text start w (player_of s out) p before now → Stands may text start u (player_of s' out') (next p) before now
    stands_said start w u s s' out out' next p before now said t =
        let more = said.0 in
        let on = said.1.goes_on t.turns p (record { asked_is = t.asked_is; line_is = t.line_is; over_is = t.over_is; counts = t.counts }) tt in
        record {
          turns = t.turns ++ more;
          asked_is = on.asked_is;
          run = runs-append may start w u t.turns more t.run said.1.run;
          line_is = on.line_is;
          over_is = on.over_is;
          counts = on.counts;
          written = t.written;
          gained = t.gained;
          text_is = flat_map-append text t.turns more ∙ ap (λ l. l ++ flat_map text more) t.text_is ∙ append_assoc t.written out (flat_map text more) ∙ ap (λ l. t.written ++ l) (sym said.1.text_is);
        }

    -- some of the replies that were held are written
    pub stands_sent : (start w : T) (s s' : PlayerState) (p : Progress) (before old now : Option (List ℕ)) → Stands may text start w s p before old → IsSent s old s' now → Stands may text start w s' p before now
    stands_sent start w s s' p before old now t a = record {
      turns = t.turns;
      asked_is = t.asked_is;
      run = t.run;
      line_is = ap (λ (q : PlayerState). q.line) a.kept ∙ t.line_is;
      over_is = ap (λ (q : PlayerState). q.over) a.kept ∙ t.over_is;
      counts = subst (λ (q : Summary). CountsAnswers (answers_of t.turns) q) (sym (ap (λ (q : PlayerState). q.summary) a.kept)) t.counts;
      written = t.written ++ a.sent;
      gained = appends_more before old now t.written a.sent (t.written ++ a.sent) t.gained a.gained refl;
      text_is = t.text_is ∙ ap (λ l. t.written ++ l) a.parts ∙ sym (append_assoc t.written a.sent s'.replies);
    }

    -- a part of them is written, where as much was asked for and maybe more
    pub stands_part : (start w : T) (s : PlayerState) (p q : Progress) (before old now : Option (List ℕ)) (more : List (Result Command Bad)) → q.asked ≡ p.asked ++ more → Stands may text start w s p before old → HasPartOf old now s.replies → StandsPart may text start w q before now
    stands_part start w s p q before old now more e t part = record {
      turns = t.turns;
      others = more;
      asked_is = e ∙ ap (λ l. l ++ more) (sym t.asked_is);
      run = t.run;
      part = part_after before old now t.written s.replies (flat_map text t.turns) t.gained t.text_is part;
    }

    -- a run that has read nothing
    pub stands_start : (start : T) (kind : WorldKind) (s : PlayerState) (before : Option (List ℕ)) → IsFresh kind s → Stands may text start start s at_start before before
    stands_start start kind s before f = record {
      turns = [];
      asked_is = refl;
      run = refl;
      line_is = f.line;
      over_is = f.over;
      counts = f.counts;
      written = [];
      gained = Appends-nil before;
      text_is = sym f.replies;
    }

pub sent_all : (s s' : PlayerState) (old now : Option (List ℕ)) → Appends old now s.replies → s' ≡ record s { replies = [] } → IsSent s old s' now
sent_all s s' old now a e = record {
  sent = s.replies;
  parts = sym (append-nil s.replies) ∙ ap (λ l. s.replies ++ l) (sym (ap (λ (q : PlayerState). q.replies) e));
  gained = a;
  kept = e ∙ ap (λ (l : List ℕ). let q : PlayerState = record s { replies = l } in q) (sym (ap (λ (q : PlayerState). q.replies) e));
}
