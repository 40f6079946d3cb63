-- what the buffers of a connection take
use Rattle.std.proofs.Common.{◌≡◌, ◌⊎◌, inl, inr, ◌≤◌, ◌<◌, ◌+◌, ℕ, length, true, false, Bool, List, [], ◌∷◌, ◌++◌, ◌||◌, take, drop, Option, Some, None, Result, Ok, Err, refl, sym, ap, subst, ◌∙◌, arith}
use Rattle.service_loop.proofs.Common.{Consumes-nil, ShownReply, Request, Runs, Turn, BuffersState, bytes_of, Peek}
use Rattle.std.proofs.lemmas.List.{append-nil, take-append-drop, take-append-le, length-append}
use Rattle.std.specs.Io.KnownBytes.{Consumes, IsAtEnd, Keeps, ReadConsumes}
use Rattle.std.specs.Io.{ReadsAtMost}
use Rattle.text_player.specs.Progress.{after_bytes}
use Rattle.text_player.specs.Says.{Says, Spoke}
use Rattle.text_player.specs.Texts.{turn_reply, replies_of}
use Rattle.text_player.specs.ResponderState.{ResponderState}
use Rattle.text_player.specs.declared.form.TheConstants.{TURN_ROOM}
use Rattle.service_loop.specs.Asking.{MayAsk}
use Rattle.service_loop.specs.declared.buffers.TheConstants.{UNSENT_ROOM}
use Rattle.service_loop.specs.ConnectionBuffers.{goes_on_in_line, IsFull, Takes, TakesEnd, TakesFirst, TakesNoOwn, TakesPeeked, TakesOf}

-- there is no room for a reply, or what waits may ask who holds numbers
pub full_or_asks : (s : BuffersState) → (UNSENT_ROOM < length s.outbox + TURN_ROOM) ⊎ MayAsk s.inbox → IsFull s ⊎ MayAsk s.inbox
full_or_asks s (inl full) = inl (inl full)
full_or_asks s (inr asks) = inr asks

pub or_false : (b : Bool) → b ≡ (b || false)
or_false true = refl
or_false false = refl

pub or_true : (b : Bool) → true ≡ (b || true)
or_true true = refl
or_true false = refl

pub consumes_kept : (left left' : Option (List ℕ)) → Keeps left left' → Consumes left left' []
consumes_kept None left' k = tt
consumes_kept (Some xs) None k = k
consumes_kept (Some xs) (Some ys) k = sym k

-- what was read into a part is read into the whole
pub reads_more : {E : Type 0} (result : Result ℕ E) (part rest : List ℕ) → ReadsAtMost result part → ReadsAtMost result (part ++ rest)
reads_more (Ok n) part rest fits = (omega (arith, fits.0, length-append part rest), fits.1 ∙ ap (λ (l : List ℕ). length l) (sym (take-append-le n part rest fits.0)))
reads_more (Err why) part rest fits = tt

pub consumes_more : {E : Type 0} (left left' : Option (List ℕ)) (result : Result ℕ E) (part rest : List ℕ) → 1 ≤ length part → ReadsAtMost result part
    → ReadConsumes left left' result part → ReadConsumes left left' result (part ++ rest)
consumes_more left left' (Ok n) part rest some fits consumes = (subst (λ (l : List ℕ). Consumes left left' l) (sym (take-append-le n part rest fits.0)) consumes.0, λ none room. consumes.1 none some)
consumes_more left left' (Err why) part rest some fits consumes = consumes

-- nothing is taken
abbrev nothing_taken : (came : List ℕ) (s s' : BuffersState) → s'.responder ≡ s.responder → s'.ended ≡ s.ended → s'.in_line ≡ s.in_line → (s'.broken ≡ false → (s'.inbox ≡ s.inbox ++ came) × (s'.outbox ≡ s.outbox) × (s.broken ≡ false)) → Takes [] came false s s'
nothing_taken came s s' responder ended in_line kept = record {
  taken = [];
  rest = s.inbox ++ came;
  parts = refl;
  goes_on = λ before p spoke. rw (append-nil before) (subst (λ (t : ResponderState). Spoke before t p) (sym responder) spoke);
  kind_is = ap (λ (t : ResponderState). t.kind) responder;
  ended_is = ended ∙ or_false s.ended;
  in_line_is = in_line;
  kept = λ h. let k = kept h in (k.0, k.1 ∙ sym (append-nil s.outbox), k.2);
}

-- and nothing came
abbrev pub takes_none : (left left' : Option (List ℕ)) (s s' : BuffersState) → Consumes left left' [] → s'.responder ≡ s.responder → s'.ended ≡ s.ended → s'.in_line ≡ s.in_line → (s'.broken ≡ false → (s'.inbox ≡ s.inbox) × (s'.outbox ≡ s.outbox) × (s.broken ≡ false)) → TakesOf [] left s left' s'
takes_none left left' s s' none responder ended in_line kept = record {
  came = [];
  ends = false;
  few = omega arith;
  gave = none;
  at_end = λ h. absurd cc;
  takes = nothing_taken [] s s' responder ended in_line (λ h. let k = kept h in (k.0 ∙ sym (append-nil s.inbox), k.1, k.2));
}

abbrev pub takes_idle : (left left' : Option (List ℕ)) (s : BuffersState) → Consumes left left' [] → TakesOf [] left s left' s
takes_idle left left' s none = takes_none left left' s s none refl refl refl (λ h. (refl, refl, h))

-- these bytes came
abbrev pub takes_some : (turns : List Turn) (left left' : Option (List ℕ)) (came : List ℕ) (s s' : BuffersState) → length came ≤ 65536 → Consumes left left' came → Takes turns came false s s' → TakesOf turns left s left' s'
takes_some turns left left' came s s' few gave t = record { came = came; ends = false; few = few; gave = gave; at_end = λ h. absurd cc; takes = t }

-- the end came
abbrev pub takes_at_end : (turns : List Turn) (left left' : Option (List ℕ)) (s s' : BuffersState) → Consumes left left' [] → IsAtEnd left' → Takes turns [] true s s' → TakesOf turns left s left' s'
takes_at_end turns left left' s s' gave end t = record { came = []; ends = true; few = omega arith; gave = gave; at_end = λ h. end; takes = t }

-- and what waited was taken before it, where anything did
pub takes_last : (turns : List Turn) (left left' : Option (List ℕ)) (s s' : BuffersState) → Consumes left left' [] → IsAtEnd left' → Takes turns [] true s s' ⊎ Takes turns [] false s s' → TakesOf turns left s left' s'
takes_last turns left left' s s' gave end (inl t) = takes_at_end turns left left' s s' gave end t
takes_last turns left left' s s' gave end (inr t) = takes_some turns left left' [] s s' (omega arith) gave t

-- where what came cannot wait it is at fault
abbrev pub takes_refused : (came : List ℕ) (s s' : BuffersState) → s' ≡ record s { broken = true } → Takes [] came false s s'
takes_refused came s s' is = nothing_taken came s s' (ap (λ (q : BuffersState). q.responder) is) (ap (λ (q : BuffersState). q.ended) is) (ap (λ (q : BuffersState). q.in_line) is) (λ h. let t : true ≡ false = sym (ap (λ (q : BuffersState). q.broken) is) ∙ h in absurd cc)

-- of the first bytes some
pub cut_first : (n k : ℕ) (xs : List ℕ) → n ≤ length (take k xs) → take n (take k xs) ≡ take n xs
cut_first n k xs le = sym (ap (λ l. take n l) (sym (take-append-drop k xs)) ∙ take-append-le n (take k xs) (drop k xs) le)

module _ {T : Type 0} (may : T → Request → ShownReply → T → Type 0) (w u : T) (s s' : BuffersState) (t t' : ResponderState) (out out' : List ℕ) (t_is : t ≡ s.responder) (t'_is : t' ≡ s'.responder) (none : out ≡ []) where
  -- what its talker, once t and now t', took of what waited then
  abbrev took : (came taken rest : List ℕ) (ends : Bool) → Says may turn_reply w t out u t' out' (λ p. after_bytes t.kind p taken) → t'.kind ≡ t.kind → s.inbox ++ came ≡ taken ++ rest → s'.inbox ≡ rest → s'.ended ≡ (s.ended || ends) → s'.in_line ≡ goes_on_in_line s.in_line taken →
      (s'.broken ≡ false → (s'.outbox ≡ s.outbox ++ out') × (s.broken ≡ false)) → (turns : List Turn) × Runs may w turns u × Takes turns came ends s s'
  took came taken rest ends says kind parts inbox ended in_line kept =
      let said : Says may turn_reply w s.responder out u s'.responder out' (λ p. after_bytes s.responder.kind p taken) =
      subst (λ (x : ResponderState). Says may turn_reply w s.responder out u x out' (λ p. after_bytes s.responder.kind p taken)) t'_is
      (subst (λ (x : ResponderState). Says may turn_reply w x out u t' out' (λ p. after_bytes x.kind p taken)) t_is says) in (
        said.0,
        said.1.run,
        record {
          taken = taken;
          rest = rest;
          parts = parts;
          goes_on = λ before p spoke. said.1.goes_on before p spoke tt;
          kind_is = sym (ap (λ (x : ResponderState). x.kind) t'_is) ∙ kind ∙ ap (λ (x : ResponderState). x.kind) t_is;
          ended_is = ended;
          in_line_is = in_line;
          kept = λ h. let k = kept h in (inbox, k.0 ∙ ap (λ l. s.outbox ++ l) (said.1.text_is ∙ ap (λ l. l ++ replies_of said.0) none), k.1);
        },
      )

  -- of all that waited
  pub takes_said : (came all : List ℕ) (n : ℕ) → all ≡ s.inbox ++ came → Says may turn_reply w t out u t' out' (λ p. after_bytes t.kind p (take n all)) →
      t'.kind ≡ t.kind → s'.inbox ≡ drop n all → s'.ended ≡ s.ended → s'.in_line ≡ goes_on_in_line s.in_line (take n all) → (s'.broken ≡ false → (s'.outbox ≡ s.outbox ++ out') × (s.broken ≡ false)) → (last : Bool) → (last ≡ false → TakesNoOwn s (take n all)) →
      (turns : List Turn) × Runs may w turns u × (takes : Takes turns came false s s') × (last ≡ false → TakesNoOwn s takes.taken)
  takes_said came all n all_is says kind inbox ended in_line kept last own =
      let t = took came (take n all) (drop n all) false says kind (sym all_is ∙ sym (take-append-drop n all)) inbox (ended ∙ or_false s.ended) in_line kept in
      (t.0, t.1, t.2, own)

  -- of the first of that
  pub takes_first : (count few n : ℕ) → Says may turn_reply w t out u t' out' (λ p. after_bytes t.kind p (take n s.inbox)) → n ≤ length (take few s.inbox) → take few s.inbox ≡ take count s.inbox →
      t'.kind ≡ t.kind → s'.inbox ≡ drop n s.inbox → s'.ended ≡ s.ended → s'.in_line ≡ goes_on_in_line s.in_line (take n s.inbox) → (s'.broken ≡ false → (s'.outbox ≡ s.outbox ++ out') × (s.broken ≡ false)) → (turns : List Turn) × Runs may w turns u × TakesFirst turns count s s'
  takes_first count few n says le same kind inbox ended in_line kept =
      let all = took [] (take n s.inbox) (drop n s.inbox) false says kind (append-nil s.inbox ∙ sym (take-append-drop n s.inbox)) inbox (ended ∙ or_false s.ended) in_line kept in (
        all.0,
        all.1,
        record { takes = all.2; rest = drop n (take few s.inbox); within = ap (λ l. l ++ drop n (take few s.inbox)) (sym (cut_first n few s.inbox le)) ∙ take-append-drop n (take few s.inbox) ∙ same },
      )

nothing_in : (xs ys zs : List ℕ) → xs ≡ [] → xs ++ [] ≡ ys ++ zs → ys ≡ []
nothing_in xs [] zs none is = refl
nothing_in xs (y ∷ ys) zs none is = (let e : [] ≡ y ∷ (ys ++ zs) = sym (append-nil xs ∙ none) ∙ is in absurd cc)

-- the end is taken, before which nothing waited
pub takes_end : (s : BuffersState) → s.inbox ≡ [] → Takes [] [] true s (record s { ended = true })
takes_end s empty = record {
  taken = [];
  rest = s.inbox;
  parts = append-nil s.inbox;
  goes_on = λ before p spoke. rw (append-nil before) spoke;
  kind_is = refl;
  ended_is = or_true s.ended;
  in_line_is = refl;
  kept = λ whole. (refl, sym (append-nil s.outbox), whole);
}

-- the end comes, and nothing before it
pub takes_the_end : (left left' : Option (List ℕ)) (s s' : BuffersState) → Consumes left left' [] → IsAtEnd left' → s.inbox ≡ [] → Takes [] [] true s s' → TakesEnd left s left' s'
takes_the_end left left' s s' gave end empty t = record {
  takes = record { came = []; ends = true; few = omega arith; gave = gave; at_end = λ h. end; takes = t };
  none = nothing_in s.inbox t.taken t.rest empty t.parts;
}

-- nothing comes
pub takes_no_end : (left left' : Option (List ℕ)) (s s' : BuffersState) → Consumes left left' [] → s' ≡ record s { broken = s'.broken } → (s'.broken ≡ false → s.broken ≡ false) → TakesEnd left s left' s'
takes_no_end left left' s s' gave is whole = record {
  takes = takes_none left left' s s' gave (ap (λ (q : BuffersState). q.responder) is) (ap (λ (q : BuffersState). q.ended) is) (ap (λ (q : BuffersState). q.in_line) is) (λ h. (ap (λ (q : BuffersState). q.inbox) is, ap (λ (q : BuffersState). q.outbox) is, whole h));
  none = refl;
}

-- what comes is not taken, and it is at fault
pub takes_fault : (left left' : Option (List ℕ)) (came : List ℕ) (s s' : BuffersState) → length came ≤ 65536 → Consumes left left' came → s' ≡ record s { broken = true } → TakesEnd left s left' s'
takes_fault left left' came s s' few gave is = record {
  takes = record { came = came; ends = false; few = few; gave = gave; at_end = λ h. absurd cc; takes = takes_refused came s s' is };
  none = refl;
}

-- of what was looked at nothing is taken
pub peeked_nothing : (peek : Option Peek) (left : Option (List ℕ)) (s : BuffersState) → TakesPeeked [] peek left s left s
peeked_nothing peek left s = record { takes = takes_idle left left s (Consumes-nil left); rest = take (bytes_of peek) s.inbox; within = refl; at_end = λ h. absurd cc }

-- its bytes are
pub peeked_first : (turns : List Turn) (peek : Peek) (left : Option (List ℕ)) (s s' : BuffersState) → TakesFirst turns peek.bytes s s' → TakesPeeked turns (Some peek) left s left s'
peeked_first turns peek left s s' first = record {
  takes = record { came = []; ends = false; few = omega arith; gave = Consumes-nil left; at_end = λ h. absurd cc; takes = first.takes };
  rest = first.rest;
  within = first.within;
  at_end = λ h. absurd cc;
}

-- and then the end, where it was looked at
pub peeked_end : (peek : Peek) (left left' : Option (List ℕ)) (s m s' : BuffersState) (ts : List Turn) → peek.ends ≡ true → TakesFirst ts peek.bytes s m → m.broken ≡ false → m.inbox ≡ [] → TakesEnd left m left' s' →
    TakesPeeked ts (Some peek) left s left' s'
peeked_end peek left left' s m s' ts ends first whole empty end =
    let a = first.takes in
    let k = a.kept whole in
    let none : a.rest ≡ [] = sym k.0 ∙ empty in
    let all : s.inbox ≡ a.taken = sym (append-nil s.inbox) ∙ a.parts ∙ ap (λ l. a.taken ++ l) none ∙ append-nil a.taken in
    let t = end.takes.takes in
    let came : end.takes.came ≡ t.rest = ap (λ l. l ++ end.takes.came) (sym empty) ∙ t.parts ∙ ap (λ l. l ++ t.rest) end.none in
    record {
      takes = record {
        came = end.takes.came;
        ends = end.takes.ends;
        few = end.takes.few;
        gave = end.takes.gave;
        at_end = end.takes.at_end;
        takes = record {
          taken = a.taken;
          rest = t.rest;
          parts = ap (λ l. l ++ end.takes.came) all ∙ ap (λ l. a.taken ++ l) came;
          goes_on = λ before p spoke. subst (λ (x : List Turn). Spoke x s'.responder (after_bytes s.responder.kind p a.taken)) (append-nil (before ++ ts))
              (subst (λ (l : List ℕ). Spoke ((before ++ ts) ++ []) s'.responder (after_bytes m.responder.kind (after_bytes s.responder.kind p a.taken) l)) end.none
              (t.goes_on (before ++ ts) (after_bytes s.responder.kind p a.taken) (a.goes_on before p spoke)));
          kind_is = t.kind_is ∙ a.kind_is;
          ended_is = t.ended_is ∙ ap (λ e. e || end.takes.ends) (a.ended_is ∙ sym (or_false s.ended));
          in_line_is = t.in_line_is ∙ ap (λ l. goes_on_in_line m.in_line l) end.none ∙ a.in_line_is;
          kept = λ h.
              let l = t.kept h in
              (l.0, l.1 ∙ append-nil m.outbox ∙ k.1, k.2);
        };
      };
      rest = first.rest;
      within = first.within;
      at_end = λ h. (ends, sym all);
    }
