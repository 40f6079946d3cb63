-- lines that are taken one after another, over a hall of which each answer is noted
use Rattle.std.proofs.Common.{◌≡◌, ℕ, ◌+◌, ◌-◌, false, List, [], ◌∷◌, ◌++◌, length, take, drop, refl, sym, ap, subst, ◌∙◌, append_assoc, arith, length-drop}
use Rattle.service_follow.proofs.Common.{append-nil, take_all, WorldKind, ShownReply, Request, Take, OwnerOf, NoneRefusedGrowth, Runs, Turn, Answered, Reported, Ended, Misread, HallState, HallApplies, TakesBytes, behind_first_line, NotingState}
use Rattle.std.proofs.Math.Seq.{take-add}
use Rattle.text_player.specs.Progress.{Progress, after_byte, after_bytes, at_start}
use Rattle.text_player.specs.lemmas.RunProofs.{runs-append}
use Rattle.text_player.specs.Says.{IsSilent, Says, Spoke}
use Rattle.text_player.specs.ResponderState.{ResponderState}
use Rattle.service_hall.specs.Reading.{Serves}
use Rattle.service_hall.specs.declared.rules.Rules.{Rules}
use Rattle.service_follow.specs.Entries.{rules_of}
use Rattle.service_follow.specs.Said.{IsNoted, NotingSays, said, reply_queue_of}

-- bytes after bytes
after_bytes-append : (kind : WorldKind) (p : Progress) (xs ys : List ℕ) → after_bytes kind p (xs ++ ys) ≡ after_bytes kind (after_bytes kind p xs) ys
after_bytes-append kind p [] ys = refl
after_bytes-append kind p (x ∷ xs) ys = after_bytes-append kind (after_byte kind p x) xs ys

module _ {T : Type 0} (may : T → Request → ShownReply → T → Type 0) where
  -- no byte was taken
  pub takes_none : (w : T) (s : ResponderState) → TakesBytes may w s [] w s
  takes_none w s = record {
    more = [];
    run = refl;
    goes_on = λ turns p spoke. subst (λ (ts : List Turn). Spoke ts s p) (sym (append-nil turns)) spoke;
  }

  -- more bytes are taken
  pub takes_then : (text : Turn → List ℕ) (w v u : T) (s t s' : ResponderState) (out out' : List ℕ) (xs ys : List ℕ) → t.kind ≡ s.kind → TakesBytes may w s xs v t →
      Says may text v t out u s' out' (λ p. after_bytes t.kind p ys) → TakesBytes may w s (xs ++ ys) u s'
  takes_then text w v u s t s' out out' xs ys kind one two = record {
    more = one.more ++ two.0;
    run = runs-append may w v u one.more two.0 one.run two.1.run;
    goes_on = λ turns p spoke.
        let there = two.1.goes_on (turns ++ one.more) (after_bytes s.kind p xs) (one.goes_on turns p spoke) tt in
        let by_kind = subst (λ (k : WorldKind). Spoke ((turns ++ one.more) ++ two.0) s' (after_bytes k (after_bytes s.kind p xs) ys)) kind there in
        let whole = subst (λ (q : Progress). Spoke ((turns ++ one.more) ++ two.0) s' q) (sym (after_bytes-append s.kind p xs ys)) by_kind in
        subst (λ (ts : List Turn). Spoke ts s' (after_bytes s.kind p (xs ++ ys))) (append_assoc turns one.more two.0) whole;
  }

-- the next bytes of a list, and those that were taken before
pub take_pieces : (bs : List ℕ) (i n : ℕ) → take i bs ++ take n (take (length bs - i) (drop i bs)) ≡ take (i + n) bs
take_pieces bs i n =
    let whole : take (length bs - i) (drop i bs) ≡ drop i bs = take_all (length bs - i) (drop i bs) (omega (arith, length-drop i bs)) in
    ap (λ l. take i bs ++ take n l) whole ∙ sym (take-add i n bs)

-- what a run with notes is
pub record Ran (w : NotingState) (ts : List Turn) (u : NotingState) : Type 0 where
  pub was_well : w.lost ≡ false
  pub run : Runs (Serves w.rules) w.hall ts u.hall
  pub granted : NoneRefusedGrowth ts
  pub said_is : u.said ≡ w.said ++ said ts

-- one more turn before a run
ran_behind : (w v u : NotingState) (q : Request) (r : ShownReply) (ts : List Turn) → IsNoted w q r v → Ran v ts u → u.said ≡ w.said ++ (q, r) ∷ said ts
ran_behind w v u q r ts one rest = rest.said_is ∙ (ap (λ s. s ++ said ts) one.noted ∙ append_assoc w.said ((q, r) ∷ []) (said ts))

pub ran : (w u : NotingState) (ts : List Turn) → Runs NotingSays w ts u → u.lost ≡ false → Ran w ts u
ran w u [] run well = record {
  was_well = ap (λ (s : NotingState). s.lost) run ∙ well;
  run = ap (λ (s : NotingState). s.hall) run;
  granted = tt;
  said_is = ap (λ (s : NotingState). s.said) (sym run) ∙ sym (append-nil w.said);
}
ran w u (Answered x ∷ ts) run well =
    let rest = ran run.0 u ts run.2 well in
    let one = run.1 rest.was_well in
    record {
      was_well = one.was_well;
      run = (run.0.hall, one.serves, subst (λ (k : Rules). Runs (Serves k) run.0.hall ts u.hall) one.rules rest.run);
      granted = (one.granted, rest.granted);
      said_is = ran_behind w run.0 u (Take x.event) x.reply ts one rest;
    }
ran w u (Reported n r ∷ ts) run well =
    let rest = ran run.0 u ts run.2 well in
    let one = run.1 rest.was_well in
    record {
      was_well = one.was_well;
      run = (run.0.hall, one.serves, subst (λ (k : Rules). Runs (Serves k) run.0.hall ts u.hall) one.rules rest.run);
      granted = (one.granted, rest.granted);
      said_is = ran_behind w run.0 u (OwnerOf n) r ts one rest;
    }
ran w u (Ended ∷ ts) run well = let rest = ran w u ts run well in
    record { was_well = rest.was_well; run = rest.run; granted = rest.granted; said_is = rest.said_is }
ran w u (Misread bad ∷ ts) run well = let rest = ran w u ts run well in
    record { was_well = rest.was_well; run = rest.run; granted = rest.granted; said_is = rest.said_is }

-- so the lines of an entry are applied
pub applied : (h : HallState) (entry : List ℕ) (s s' : ResponderState) (w u : NotingState) → w ≡ record { hall = h; said = []; lost = false; rules = rules_of entry } → IsSilent h.config.world s →
    TakesBytes NotingSays w s (behind_first_line entry) u s' → u.lost ≡ false → HallApplies h entry (reply_queue_of u.said) u.hall
applied h entry s s' w u is silent takes well =
    let all = ran w u takes.more takes.run well in
    let spoke = takes.goes_on [] at_start silent.1 in
    record {
      turns = takes.more;
      asked_is = spoke.asked_is ∙ ap (λ (k : WorldKind). (after_bytes k at_start (behind_first_line entry)).asked) silent.0;
      run = subst (λ (n : NotingState). Runs (Serves n.rules) n.hall takes.more u.hall) is all.run;
      granted = all.granted;
      reply_queue_is = ap reply_queue_of (all.said_is ∙ ap (λ (n : NotingState). n.said ++ said takes.more) is);
    }
