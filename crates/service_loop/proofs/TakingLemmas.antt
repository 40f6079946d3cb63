-- numbers that are taken, one connection after another
use Rattle.std.proofs.Common.{◌≡◌, ◌⊎◌, ◌≤◌, ◌<◌, ◌+◌, ◌-◌, ◌&&◌, ◌||◌, ◌∙◌, inl, inr, arith, ℕ, Bool, true, false, set, List, [], ◌∷◌, ◌++◌, length, length-append, map, replicate, take, append_assoc, get_or, Option, Some, None, Result, Ok, Err, IfOk, is_err, refl, sym, ap, subst}
use Rattle.std.proofs.lemmas.List.{replicate_more, take_more}
use Rattle.model_asked.specs.declared.event.Event.{Event}
use Rattle.model_asked.specs.declared.event.Event.TheVariants as event
use Rattle.text_lines.specs.Events.{event_lines, event_words}
use Rattle.model_asked.specs.declared.reply.Reply.{Reply}
use Rattle.model_asked.specs.Replies.{with_view}
use Rattle.model_asked.specs.Requests.Request.{Take}
use Rattle.service_loop.proofs.Common.{append-nil, get_or-set_same, get_or-set_other, length-set, cases_eq, eq-eqb, ne_eqb, ShownReply, Request, Runs, runs-append, all-append, all-tagged, of-append, of-same, of-other, Turn}
use Rattle.text_player.specs.Shared.{TurnLog, turns_of, all_turns, tagged}
use Rattle.service_loop.specs.Seats.{NoneSent, Seating}
use Rattle.service_loop.proofs.AttendedLemmas.{Tells, shown}
use Rattle.service_loop.specs.Searching.{most_said, searched, searching}
use Rattle.service_loop.specs.Taking.{IsTaking, LeadTo, MayTakeNumber, NumbersTaken, SaysTaking, SeatTakesNumber, SeatTook, TakesWith, entered, events_for, events_of, search_events, seat_taken_for, wants_search}
use Rattle.service_loop.specs.Tokens.{AsksToken, is_got, raised, token_events}
use Rattle.service_loop.specs.declared.manner.Manner.{Manner}

-- whether a number is searched for behind a reply is the same whatever view it shows
pub wants_shown : {V W : Type 0} (r : Reply V) (v : W) → wants_search (with_view r v) ≡ wants_search r
wants_shown r v = ap (λ (t : Tells). t.wants) (shown r v)

pub got_shown : {V W : Type 0} (r : Reply V) (v : W) → is_got (with_view r v) ≡ is_got r
got_shown r v = ap (λ (t : Tells). t.got) (shown r v)

-- one reply more
lead_more : (first : ShownReply) (more : List ShownReply) (last r : ShownReply) → LeadTo first more last → wants_search last ≡ true → LeadTo first (more ++ r ∷ []) r
lead_more first [] last r same wants = (subst (λ (x : ShownReply). wants_search x ≡ true) same wants, refl)
lead_more first (p ∷ ps) last r lead wants = (lead.0, lead_more p ps last r lead.1 wants)

searched_more : (wide : Bool) (id : ℕ) (more : List ShownReply) (r : ShownReply) → map (searched wide id) (more ++ r ∷ []) ≡ map (searched wide id) more ++ searched wide id r ∷ []
searched_more wide id [] r = refl
searched_more wide id (p ∷ ps) r = ap (λ (l : List Turn). searched wide id p ∷ l) (searched_more wide id ps r)

module _ {T : Type 0} (may : T → Request → ShownReply → T → Type 0) (wide : Bool) (id : ℕ) where
  -- so far: `enter` was said, and `seek` or `probe` so many times
  pub record Searching (w u : T) (answer : ShownReply) (said : ℕ) : Type 0 where
    pub first : ShownReply
    pub more : List ShownReply
    pub run : Runs may w (entered id first ∷ map (searched wide id) more) u
    pub lead : LeadTo first more answer
    pub many : length more ≡ said

  pub searching_none : (w u : T) (r : ShownReply) → may w (Take (event.Enter id)) r u → Searching w u r 0
  searching_none w u r m = record { first = r; more = []; run = (u, m, refl); lead = refl; many = refl }

  pub searching_more : (w u v : T) (answer r : ShownReply) (said : ℕ) (e : Event) → e ≡ searching wide id → Searching w u answer said → wants_search answer ≡ true → may u (Take e) r v → Searching w v r (said + 1)
  searching_more w u v answer r said e is so wants m = record {
    first = so.first;
    more = so.more ++ r ∷ [];
    run = subst (λ (l : List Turn). Runs may w (entered id so.first ∷ l) v) (sym (searched_more wide id so.more r))
        (runs-append may w u v (entered id so.first ∷ map (searched wide id) so.more) (searched wide id r ∷ []) so.run (v, subst (λ (x : Event). may u (Take x) r v) is m, refl));
    lead = lead_more so.first so.more answer r so.lead wants;
    many = length-append so.more (r ∷ []) ∙ ap (λ (n : ℕ). n + 1) so.many;
  }

  -- what was said in all, and how often `seek` or `probe` was
  abbrev pub TookOne : T → T → ShownReply → ℕ → Type 0
  TookOne w u answer said = (turns : List Turn) × Runs may w turns u × (taking : IsTaking wide id turns answer) × (length taking.more ≡ said) × (said ≤ most_said wide)

  pub took_one : (w u : T) (answer : ShownReply) (said : ℕ) → Searching w u answer said → (wants_search answer ≡ false) ⊎ (said ≡ most_said wide) → said ≤ most_said wide → TookOne w u answer said
  took_one w u answer said so enough few = (
    entered id so.first ∷ map (searched wide id) so.more,
    so.run,
    record {
      first = so.first;
      more = so.more;
      turns_are = refl;
      lead = so.lead;
      enough = elim enough as (λ _. (wants_search answer ≡ false) ⊎ (length so.more ≡ most_said wide)) [ inl e ↦ inl e | inr e ↦ inr (so.many ∙ e) ];
    },
    so.many,
    few,
  )

  -- `seek` or `probe` alone, so many times
  abbrev pub SearchedOn : T → T → ℕ → Type 0
  SearchedOn w u said = (rest : List ShownReply) × Runs may w (map (searched wide id) rest) u × (length rest ≡ said)

  pub searched_none : (w : T) → SearchedOn w w 0
  searched_none w = ([], refl, refl)

  pub searched_on : (w u v : T) (r : ShownReply) (said : ℕ) (e : Event) → e ≡ searching wide id → SearchedOn w u said → may u (Take e) r v → SearchedOn w v (said + 1)
  searched_on w u v r said e is so m = (
    so.0 ++ r ∷ [],
    subst (λ (l : List Turn). Runs may w l v) (sym (searched_more wide id so.0 r))
        (runs-append may w u v (map (searched wide id) so.0) (searched wide id r ∷ []) so.1 (v, subst (λ (x : Event). may u (Take x) r v) is m, refl)),
    length-append so.0 (r ∷ []) ∙ ap (λ (n : ℕ). n + 1) so.2,
  )

  -- what is answered, by whether the answers were prefetched
  pub says_alone : (ahead : Bool) (w u : T) (answer : ShownReply) (said : ℕ) → ahead ≡ false → TookOne w u answer said → (turns : List Turn) × Runs may w turns u × SaysTaking wide ahead id turns answer
  says_alone ahead w u answer said is took = subst (λ (b : Bool). (turns : List Turn) × Runs may w turns u × SaysTaking wide b id turns answer) (sym is) (took.0, took.1, took.2)

  pub says_ahead : (ahead : Bool) (w u v : T) (answer : ShownReply) (said most : ℕ) → ahead ≡ true → most ≡ most_said wide → TookOne w u answer said → SearchedOn u v (most - said) → (turns : List Turn) × Runs may w turns v × SaysTaking wide ahead id turns answer
  says_ahead ahead w u v answer said most is all took on = subst (λ (b : Bool). (turns : List Turn) × Runs may w turns v × SaysTaking wide b id turns answer) (sym is) (
    took.0 ++ map (searched wide id) on.0,
    runs-append may w u v took.0 (map (searched wide id) on.0) took.1 on.1,
    record { own = took.0; taking = took.2; rest = on.0; turns_are = refl; many = (let a = took.3 in let b = on.2 in let few = took.4 in omega (arith, a, b, few, all)) },
  )

some_same : {C : Type 0} (c d : C) → Some c ≡ Some d → c ≡ d
some_same c d e = cc

-- whether a token is asked for, and what comes of it
pub asks_none : (asks got : Bool) (id : ℕ) → asks ≡ false → AsksToken asks got id [] None
asks_none true got id is = absurd (cc)
asks_none false got id is = (refl, refl)

pub asks_some : (asks got : Bool) (id : ℕ) (r : ShownReply) → asks ≡ true → got ≡ true → AsksToken asks got id (raised id r ∷ []) (Some r)
asks_some false got id r is has = absurd (cc)
asks_some true false id r is has = absurd (cc)
asks_some true true id r is has = (r, refl, refl)

pub asks_other : (asks got : Bool) (id : ℕ) (r : ShownReply) → asks ≡ true → got ≡ false → AsksToken asks got id (raised id r ∷ []) None
asks_other false got id r is has = absurd (cc)
asks_other true true id r is has = absurd (cc)
asks_other true false id r is has = (r, refl, refl)

-- the turns that ask for a token behind those that search
pub asks_behind : {T : Type 0} (may : T → Request → ShownReply → T → Type 0) (manner : Manner) (ahead : Bool) (id : ℕ) (w u v : T) (answer : ShownReply) (token : Option ShownReply) (asks got : Bool) (raises : List Turn) →
    got ≡ is_got answer → asks ≡ (manner.tokens && (ahead || got)) → ((turns : List Turn) × Runs may w turns u × SaysTaking manner.wide ahead id turns answer) → Runs may u raises v → AsksToken asks got id raises token →
    (turns : List Turn) × Runs may w turns v × TakesWith manner ahead id turns answer token
asks_behind may manner ahead id w u v answer token asks got raises got_is asks_is said on asked = (
  said.0 ++ raises,
  runs-append may w u v said.0 raises said.1 on,
  record {
    searches = said.0;
    says = said.2;
    raises = raises;
    asks = subst (λ (b : Bool). AsksToken (manner.tokens && (ahead || b)) b id raises token) got_is (subst (λ (a : Bool). AsksToken a got id raises token) asks_is asked);
    turns_are = refl;
  },
)

module _ {C : Type 0} (on : Seating C) (manner : Manner) (ahead patient : Bool) where
  pub seat_waits : (x : Option C) → SeatTakesNumber on manner ahead patient [] x x
  seat_waits None = refl
  seat_waits (Some c) = (inl (refl, refl), refl, refl)

  gone_kept : (turns : List Turn) (x y : Option C) (c d : C) → SeatTakesNumber on manner ahead patient turns x y → x ≡ Some c → y ≡ Some d → on.gone d ≡ on.gone c
  gone_kept turns (Some a) (Some b) c d t was is = ap on.gone (sym (some_same b d is)) ∙ (t.2 ∙ ap on.gone (some_same a c was))
  gone_kept turns (Some a) None c d t was is = absurd t
  gone_kept turns None y c d t was is = absurd (cc was)

  -- nothing is sent where numbers are taken
  pub numbers_unsent : {T : Type 0} (may : T → Request → ShownReply → T → Type 0) (w u : T) (seats seats' : List (Option C)) (log : TurnLog) → NumbersTaken on manner ahead patient may w seats log u seats' → NoneSent on seats seats'
  numbers_unsent may w u seats seats' log taken = λ i c d was is. gone_kept (turns_of i log) (get_or seats i None) (get_or seats' i None) c d (taken.each i) was is

  -- one connection takes a number where it sits
  abbrev pub seat_took_number : {T : Type 0} (may : T → Request → ShownReply → T → Type 0) (Due : C → Type 0) (key : ℕ) (w : T) (seats : List (Option C)) (u : T) (was is : C) → key < length seats → get_or seats key None ≡ Some was → Due was → (Due is → ⊥) →
      (turns : List Turn) → Runs may w turns u → MayTakeNumber manner ahead patient turns (on.buffers was) (on.buffers is) → on.left is ≡ on.left was → on.gone is ≡ on.gone was → SeatTook on manner ahead patient may Due key w seats u (set seats key (Some is))
  seat_took_number may Due key w seats u was is below there due done turns run takes unread unsent = record {
    turns = turns;
    run = run;
    was = was;
    is = is;
    was_there = there;
    is_there = get_or-set_same seats key (Some is) None below;
    due = due;
    done = done;
    takes = (takes, unread, unsent);
    others = λ i other. get_or-set_other seats key i (Some is) None other;
    many = length-set seats key (Some is);
  }

  module _ {T : Type 0} (may : T → Request → ShownReply → T → Type 0) (Due : C → Type 0) (w : T) (seats : List (Option C)) where
    -- so far, where whoever is still due has taken none
    pub record Taking (log : TurnLog) (u : T) (seats' : List (Option C)) : Type 0 where
      pub taken : NumbersTaken on manner ahead patient may w seats log u seats'
      pub waiting : (i : ℕ) (c : C) → get_or seats' i None ≡ Some c → Due c → (get_or seats i None ≡ Some c) × (turns_of i log ≡ [])

    pub taking_none : Taking [] w seats
    taking_none = record {
      taken = record { run = refl; each = λ i. seat_waits (get_or seats i None); many = refl };
      waiting = λ i c is due. (is, refl);
    }

    pub taking_on : (log : TurnLog) (u v : T) (seats' seats'' : List (Option C)) (key : ℕ) → Taking log u seats' → (turn : SeatTook on manner ahead patient may Due key u seats' v seats'') → Taking (log ++ tagged key turn.turns) v seats''
    taking_on log u v seats' seats'' key so turn =
        let turns = turn.turns in
        let was = so.waiting key turn.was turn.was_there turn.due in
        record {
          taken = record {
            run = rw (all-append log (tagged key turns), all-tagged key turns) (runs-append may w u v (all_turns log) turns so.taken.run turn.run);
            each = λ i. rw (of-append i log (tagged key turns)) (elim (cases_eq i key) as (λ _. SeatTakesNumber on manner ahead patient (turns_of i log ++ turns_of i (tagged key turns)) (get_or seats i None) (get_or seats'' i None)) [
              | inl same ↦ subst (λ (k : ℕ). SeatTakesNumber on manner ahead patient (turns_of k log ++ turns_of k (tagged key turns)) (get_or seats k None) (get_or seats'' k None)) (sym same)
                  (rw (was.1, of-same key key turns (eq-eqb key key refl), was.0, turn.is_there) turn.takes)
              | inr other ↦ rw (of-other key i turns (ne_eqb key i (λ e. other (sym e))), append-nil (turns_of i log), turn.others i other) (so.taken.each i)
            ]);
            many = turn.many ∙ so.taken.many;
          };
          waiting = λ i c is due. elim (cases_eq i key) as (λ _. (get_or seats i None ≡ Some c) × (turns_of i (log ++ tagged key turns) ≡ [])) [
            | inl same ↦ absurd (turn.done (subst Due (some_same c turn.is (sym is ∙ ap (λ (k : ℕ). get_or seats'' k None) same ∙ turn.is_there)) due))
            | inr other ↦ (let before = so.waiting i c (sym (turn.others i other) ∙ is) due in
                (before.0, of-append i log (tagged key turns) ∙ rw (of-other key i turns (ne_eqb key i (λ e. other (sym e))), append-nil (turns_of i log)) before.1))
          ];
        }

-- lines of events, one after another
pub lines_append : (xs ys : List Event) → event_lines (xs ++ ys) ≡ event_lines xs ++ event_lines ys
lines_append [] ys = refl
lines_append (x ∷ xs) ys = ap (λ l. (event_words x ++ 10 ∷ []) ++ l) (lines_append xs ys) ∙ sym (append_assoc (event_words x ++ 10 ∷ []) (event_lines xs) (event_lines ys))

-- and behind those that search, the one that asks for a token, or none
pub lines_asked : (lines more : List ℕ) (wide : Bool) (id : ℕ) → more ≡ lines ++ event_lines (search_events wide id) →
    more ++ (event_words (event.Put id 0) ++ 10 ∷ []) ≡ lines ++ event_lines (search_events wide id ++ token_events true id)
lines_asked lines more wide id is =
    let last : event_lines (event.Put id 0 ∷ []) ≡ event_words (event.Put id 0) ++ 10 ∷ [] = append-nil (event_words (event.Put id 0) ++ 10 ∷ []) in
    ap (λ l. l ++ (event_words (event.Put id 0) ++ 10 ∷ [])) is ∙ append_assoc lines (event_lines (search_events wide id)) (event_words (event.Put id 0) ++ 10 ∷ [])
    ∙ ap (λ l. lines ++ l) (sym (lines_append (search_events wide id) (event.Put id 0 ∷ []) ∙ ap (λ l. event_lines (search_events wide id) ++ l) last))

pub lines_unasked : (lines : List ℕ) (wide : Bool) (id : ℕ) → lines ++ event_lines (search_events wide id) ≡ lines ++ event_lines (search_events wide id ++ token_events false id)
lines_unasked lines wide id = ap (λ (es : List Event). lines ++ event_lines es) (sym (append-nil (search_events wide id)))

-- the same event once more
pub lines_searched : (lines : List ℕ) (id n : ℕ) (e : Event) → lines ++ event_lines (event.Enter id ∷ replicate (n + 1) e) ≡ (lines ++ event_lines (event.Enter id ∷ replicate n e)) ++ (event_words e ++ 10 ∷ [])
lines_searched lines id n e =
    let more : event.Enter id ∷ replicate (n + 1) e ≡ (event.Enter id ∷ replicate n e) ++ e ∷ [] = ap (λ l. event.Enter id ∷ l) (sym (replicate_more n e)) in
    let last : event_lines (e ∷ []) ≡ event_words e ++ 10 ∷ [] = append-nil (event_words e ++ 10 ∷ []) in
    ap (λ l. lines ++ event_lines l) more ∙ ap (λ l. lines ++ l) (lines_append (event.Enter id ∷ replicate n e) (e ∷ []) ∙ ap (λ l. event_lines (event.Enter id ∷ replicate n e) ++ l) last)
    ∙ sym (append_assoc lines (event_lines (event.Enter id ∷ replicate n e)) (event_words e ++ 10 ∷ []))

pub lines_entered : (lines : List ℕ) (id : ℕ) (e : Event) → lines ++ (event_words (event.Enter id) ++ 10 ∷ []) ≡ lines ++ event_lines (event.Enter id ∷ replicate 0 e)
lines_entered lines id e = ap (λ l. lines ++ l) (sym (append-nil (event_words (event.Enter id) ++ 10 ∷ [])))

module _ {C : Type 0} (on : Seating C) (manner : Manner) (seats : List (Option C)) where
  events_append : (xs ys : List ℕ) → events_of on manner seats (xs ++ ys) ≡ events_of on manner seats xs ++ events_of on manner seats ys
  events_append [] ys = refl
  events_append (x ∷ xs) ys = ap (λ l. events_for manner (seat_taken_for on (get_or seats x None)) ++ l) (events_append xs ys) ∙ sym (append_assoc (events_for manner (seat_taken_for on (get_or seats x None))) (events_of on manner seats xs) (events_of on manner seats ys))

  -- one seat more
  pub events_more : (keys : List ℕ) (n key : ℕ) → n < length keys → key ≡ get_or keys n 0 → event_lines (events_of on manner seats (take (n + 1) keys)) ≡ event_lines (events_of on manner seats (take n keys)) ++ event_lines (events_for manner (seat_taken_for on (get_or seats key None)))
  events_more keys n key below is =
      ap (λ l. event_lines (events_of on manner seats l)) (take_more keys n 0 below) ∙ ap event_lines (events_append (take n keys) (get_or keys n 0 ∷ []))
      ∙ lines_append (events_of on manner seats (take n keys)) (events_for manner (seat_taken_for on (get_or seats (get_or keys n 0) None)) ++ [])
      ∙ ap (λ l. event_lines (events_of on manner seats (take n keys)) ++ event_lines l) (append-nil (events_for manner (seat_taken_for on (get_or seats (get_or keys n 0) None))))
      ∙ ap (λ (k : ℕ). event_lines (events_of on manner seats (take n keys)) ++ event_lines (events_for manner (seat_taken_for on (get_or seats k None)))) (sym is)

-- what holds where all went well
pub ok_of : {A E : Type 0} (r : Result A E) (P : Type 0) → is_err r ≡ false → IfOk r (λ done. P) → P
ok_of (Ok done) P fine h = h
ok_of (Err why) P fine h = absurd cc
