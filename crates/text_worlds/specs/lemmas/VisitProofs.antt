-- runs of worlds whose participants only begin and step
use Rattle.std.proofs.Common.{◌≡◌, ◌≢◌, inl, inr, ℕ, zero, suc, arith, Bool, true, false, not, cond, nat_lt, List, [], ◌∷◌, ◌++◌, length, codes, map, Some, None, Result, Ok, Err, refl, sym, ap, subst, ◌∙◌, append_assoc}
use Rattle.std.proofs.lemmas.List.{append-nil}
use Rattle.std.specs.List.{list_all}
use Rattle.model_steps.specs.declared.refusal.Refusal.TheVariants as refusal
use Rattle.model_steps.specs.Calls.{Call}
use Rattle.model_steps.specs.Calls.Call.{Began, Stepped}
use Rattle.model_asked.specs.declared.kind.WorldKind.{WorldKind}
use Rattle.model_asked.specs.declared.event.Event.{Event}
use Rattle.model_asked.specs.declared.event.Event.TheVariants.{Begin, Step, Enter, Probe, Seek, Leave, Put, Get, Widen}
use Rattle.model_asked.specs.declared.exchange.Exchange.{Exchange}
use Rattle.model_asked.specs.declared.reply.Reply.TheVariants as reply
use Rattle.text_worlds.specs.desk.Names.{IsOwnerReply}
use Rattle.model_asked.specs.Replies.{ShownReply, done_reply}
use Rattle.model_asked.specs.Config.{gives_names, is_kind}
use Rattle.model_asked.specs.lemmas.KindProofs.{one_kind}
use Rattle.model_asked.specs.declared.bad.Bad.{Bad}
use Rattle.model_asked.specs.declared.bad.Bad.TheVariants.{TooLong, NotPrintable, UnknownWord}
use Rattle.model_asked.specs.declared.command.Command.{Command}
use Rattle.model_asked.specs.declared.command.Command.TheVariants as command
use Rattle.text_lines.specs.Meaning.{meaning, command_in, command_of_one, command_if, quit_of, number_in, same_bytes, desk_command_of, is_printable, words}
use Rattle.text_player.specs.Knows.{Knows}
use Rattle.text_worlds.specs.Transcripts.{AreOwnersReported}
use Rattle.model_asked.specs.Requests.{Request, as_command}
use Rattle.model_asked.specs.Requests.Request.{Take, OwnerOf}
use Rattle.text_player.specs.Runs.{Runs}
use Rattle.text_player.specs.lemmas.RunProofs.{runs-cut}
use Rattle.text_player.specs.Turns.{Turn, exchanges}
use Rattle.text_player.specs.Turns.Turn.{Answered, Reported, Ended, Misread}
use Rattle.text_worlds.specs.Visits.{VisitRules, NoName, visit_may, step_may, said_reply, knows_visits, exchange_of, IsCallRun}

-- a line of a kind without a desk means a visit, `quit`, or nothing
abbrev IsVisit : Result Command Bad → Type 0
IsVisit (Err bad) = Unit {0}
IsVisit (Ok (command.Event e)) = knows_visits (Take e) ≡ true
IsVisit (Ok (command.Owner n)) = ⊥
IsVisit (Ok command.Quit) = Unit {0}

visit_of_one : (event : ℕ → Event) → ((n : ℕ) → knows_visits (Take (event n)) ≡ true) → (others : List (List ℕ)) → IsVisit (command_of_one (λ n. command.Event (event n)) others)
visit_of_one event known [] = tt
visit_of_one event known (word ∷ []) = elim (number_in word) as (λ o. IsVisit (command_if (λ n. command.Event (event n)) o)) [ None ↦ tt | Some n ↦ known n ]
visit_of_one event known (word ∷ other ∷ more) = tt

quit_is_visit : (others : List (List ℕ)) → IsVisit (quit_of others)
quit_is_visit [] = tt
quit_is_visit (word ∷ more) = tt

visit_if : (b : Bool) (x y : Result Command Bad) → IsVisit x → IsVisit y → IsVisit (cond b x y)
visit_if true x y p q = p
visit_if false x y p q = q

visit_of_words : (kind : WorldKind) → gives_names kind ≡ false → (ws : List (List ℕ)) → IsVisit (command_in kind ws)
visit_of_words kind none [] = tt
visit_of_words kind none (word ∷ others) =
    let begin : Result Command Bad = command_of_one (λ n. command.Event (Begin n)) others in
    let step : Result Command Bad = command_of_one (λ n. command.Event (Step n)) others in
    let rest : Result Command Bad = cond (gives_names kind) (desk_command_of kind word others) (Err UnknownWord) in
    let unknown : IsVisit rest = subst (λ b. IsVisit (cond b (desk_command_of kind word others) (Err UnknownWord))) (sym none) tt in
    let quit : Result Command Bad = cond (same_bytes word (codes "quit")) (quit_of others) rest in
    visit_if (same_bytes word (codes "begin")) begin (cond (same_bytes word (codes "step")) step quit) (visit_of_one Begin (λ n. refl) others)
    (visit_if (same_bytes word (codes "step")) step quit (visit_of_one Step (λ n. refl) others)
    (visit_if (same_bytes word (codes "quit")) (quit_of others) rest (quit_is_visit others) unknown))

visit_of_line : (kind : WorldKind) → gives_names kind ≡ false → (line : List ℕ) → IsVisit (meaning kind line)
visit_of_line kind none line =
    let all : Result Command Bad = command_in kind (words line) in
    let printable : Result Command Bad = cond (not (list_all is_printable line)) (Err NotPrintable) all in
    visit_if (nat_lt 100 (length line)) (Err TooLong) printable tt
    (visit_if (not (list_all is_printable line)) (Err NotPrintable) all tt (visit_of_words kind none (words line)))

visit_known : (q : Request) → IsVisit (Ok (as_command q)) → knows_visits q ≡ true
visit_known (Take e) visit = visit
visit_known (OwnerOf n) visit = absurd visit

-- what lines of such a kind mean is known
pub visits_meant : (kind : WorldKind) → gives_names kind ≡ false → Knows knows_visits kind
visits_meant kind none line q is = visit_known q (subst IsVisit is (visit_of_line kind none line))

-- and so where one such kind is served
pub kind_meant : (own : WorldKind) → gives_names own ≡ false → (kind : WorldKind) → is_kind kind own ≡ true → Knows knows_visits kind
kind_meant own none kind is = visits_meant kind (ap gives_names (one_kind kind own is) ∙ none)

-- a name that is asked for where none are given is answered so
pub no_name : {T : Type 0} (w : T) (n : ℕ) → knows_visits (OwnerOf n) ≡ true → NoName w n (reply.Refused refusal.OutOfRange) w
no_name w zero known = (refl, refl)
no_name w (suc n) known = absurd cc

-- and only so
pub one_no_name : {T : Type 0} (w u v : T) (n : ℕ) (a b : ShownReply) → NoName w n a u → NoName w n b v → (a ≡ b) × (u ≡ v)
one_no_name w u v zero a b x y = (x.0 ∙ sym y.0, x.1 ∙ sym y.1)
one_no_name w u v (suc n) a b x y = absurd x

-- nothing changes
pub no_name_kept : {T : Type 0} (w u : T) (n : ℕ) (a : ShownReply) → NoName w n a u → u ≡ w
no_name_kept w u zero a x = x.1
no_name_kept w u (suc n) a x = absurd x

-- that is right after any exchanges
pub no_name_right : {T : Type 0} (most : ℕ) (r : List Exchange) (w u : T) (n : ℕ) (a : ShownReply) → NoName w n a u → IsOwnerReply most r n a
no_name_right most r w u zero a x = record {
  out_of_range = λ never. x.0;
  in_range = λ number. absurd (omega (arith, number.some));
}
no_name_right most r w u (suc n) a x = absurd x

module _ {T X : Type 0} (rules : VisitRules T X) where
  -- there is a reply to what is known
  pub visit_answers : (w : T) (q : Request) → knows_visits q ≡ true → (r : ShownReply) × (u : T) × visit_may rules w q r u
  visit_answers w (Take (Begin p)) known = (done_reply (rules.begins w p), rules.begun w p, (refl, refl))
  visit_answers w (Take (Step p)) known = (said_reply rules.shown (rules.steps w p), rules.stepped w p, inl (refl, refl))
  visit_answers w (OwnerOf n) known = (reply.Refused refusal.OutOfRange, w, no_name w n known)
  visit_answers w q known = absurd cc

  one_step : (w u v : T) (p : ℕ) (a b : ShownReply) → step_may rules w p a u → step_may rules w p b v →
      a ≢ reply.Refused refusal.NoMemory → b ≢ reply.Refused refusal.NoMemory → (a ≡ b) × (u ≡ v)
  one_step w u v p a b (inl x) (inl y) na nb = (x.0 ∙ sym y.0, x.1 ∙ sym y.1)
  one_step w u v p a b (inl x) (inr y) na nb = absurd (nb y.0)
  one_step w u v p a b (inr x) y na nb = absurd (na x.0)

  -- and only one, where no growth is refused
  pub one_visit : (w u v : T) (q : Request) (a b : ShownReply) → visit_may rules w q a u → visit_may rules w q b v →
      a ≢ reply.Refused refusal.NoMemory → b ≢ reply.Refused refusal.NoMemory → (a ≡ b) × (u ≡ v)
  one_visit w u v (Take (Begin p)) a b x y na nb = (x.0 ∙ sym y.0, x.1 ∙ sym y.1)
  one_visit w u v (Take (Step p)) a b x y na nb = one_step w u v p a b x y na nb
  one_visit w u v (Take (Enter p)) a b x y na nb = absurd x
  one_visit w u v (Take (Probe p)) a b x y na nb = absurd x
  one_visit w u v (Take (Seek p)) a b x y na nb = absurd x
  one_visit w u v (Take (Leave p)) a b x y na nb = absurd x
  one_visit w u v (Take (Put p value)) a b x y na nb = absurd x
  one_visit w u v (Take (Get p)) a b x y na nb = absurd x
  one_visit w u v (Take (Widen more)) a b x y na nb = absurd x
  one_visit w u v (OwnerOf n) a b x y na nb = one_no_name w u v n a b x y

  -- who asks for a name learns rightly
  pub visits_tell : (most : ℕ) (w u : T) (ts : List Turn) → Runs (visit_may rules) w ts u → AreOwnersReported most ts
  visits_tell most w u ts run = λ front back n r is.
      let cut = runs-cut (visit_may rules) w u front (Reported n r ∷ back) (subst (λ (l : List Turn). Runs (visit_may rules) w l u) is run) in
      no_name_right most (exchanges front) cut.0 cut.2.0 n r cut.2.1

  module _ (Reaches : T → List (Call X) → Type 0)
      (begun : (t : T) (r : List (Call X)) (p : ℕ) → Reaches t r → Reaches (rules.begun t p) (r ++ Began p (rules.begins t p) ∷ []))
      (stepped : (t : T) (r : List (Call X)) (p : ℕ) → Reaches t r → Reaches (rules.stepped t p) (r ++ Stepped p (rules.steps t p) ∷ []))
      (lacked : (t : T) (r : List (Call X)) (p : ℕ) → Reaches t r → rules.lacks t p ≡ true → Reaches t (r ++ Stepped p (Err refusal.NoMemory) ∷ [])) where
    one_step_call : (w u : T) (before : List (Call X)) (p : ℕ) (a : ShownReply) → Reaches w before → step_may rules w p a u →
        (call : Call X) × (let x : Exchange = record { event = Step p; reply = a } in exchange_of rules.shown call ≡ x) × Reaches u (before ++ call ∷ [])
    one_step_call w u before p a after (inl m) = (
      Stepped p (rules.steps w p),
      ap (λ (r : ShownReply). let x : Exchange = record { event = Step p; reply = r } in x) (sym m.0),
      subst (λ (t : T). Reaches t (before ++ Stepped p (rules.steps w p) ∷ [])) (sym m.1) (stepped w before p after),
    )
    one_step_call w u before p a after (inr m) = (
      Stepped p (Err refusal.NoMemory),
      ap (λ (r : ShownReply). let x : Exchange = record { event = Step p; reply = r } in x) (sym m.0),
      subst (λ (t : T). Reaches t (before ++ Stepped p (Err refusal.NoMemory) ∷ [])) (sym m.1) (lacked w before p after m.2),
    )

    -- one exchange is one call
    one_call : (w u : T) (before : List (Call X)) (e : Event) (a : ShownReply) → Reaches w before → visit_may rules w (Take e) a u →
        (call : Call X) × (let x : Exchange = record { event = e; reply = a } in exchange_of rules.shown call ≡ x) × Reaches u (before ++ call ∷ [])
    one_call w u before (Begin p) a after m = (
      Began p (rules.begins w p),
      ap (λ (r : ShownReply). let x : Exchange = record { event = Begin p; reply = r } in x) (sym m.0),
      subst (λ (t : T). Reaches t (before ++ Began p (rules.begins w p) ∷ [])) (sym m.1) (begun w before p after),
    )
    one_call w u before (Step p) a after m = one_step_call w u before p a after m
    one_call w u before (Enter p) a after m = absurd m
    one_call w u before (Probe p) a after m = absurd m
    one_call w u before (Seek p) a after m = absurd m
    one_call w u before (Leave p) a after m = absurd m
    one_call w u before (Put p value) a after m = absurd m
    one_call w u before (Get p) a after m = absurd m
    one_call w u before (Widen more) a after m = absurd m

    -- the exchanges of a run are calls
    calls_of_run : (w u : T) (before : List (Call X)) (ts : List Turn) → Reaches w before → Runs (visit_may rules) w ts u →
        (calls : List (Call X)) × (map (exchange_of rules.shown) calls ≡ exchanges ts) × Reaches u (before ++ calls)
    calls_of_run w u before [] after run = ([], refl, subst (λ (l : List (Call X)). Reaches u l) (sym (append-nil before)) (subst (λ (t : T). Reaches t before) run after))
    calls_of_run w u before (Answered x ∷ ts) after run =
        let one = one_call w run.0 before x.event x.reply after run.1 in
        let rest = calls_of_run run.0 u (before ++ one.0 ∷ []) ts one.2 run.2 in (
          one.0 ∷ rest.0,
          ap (λ (y : Exchange). y ∷ map (exchange_of rules.shown) rest.0) one.1 ∙ ap (λ (l : List Exchange). x ∷ l) rest.1,
          subst (λ (l : List (Call X)). Reaches u l) (append_assoc before (one.0 ∷ []) rest.0) rest.2,
        )
    calls_of_run w u before (Reported n r ∷ ts) after run = calls_of_run run.0 u before ts (subst (λ (t : T). Reaches t before) (sym (no_name_kept w run.0 n r run.1)) after) run.2
    calls_of_run w u before (Ended ∷ ts) after run = calls_of_run w u before ts after run
    calls_of_run w u before (Misread bad ∷ ts) after run = calls_of_run w u before ts after run

    pub call_run : (Spec : List (Call X) → Type 0) → ((t : T) (r : List (Call X)) → Reaches t r → Spec r) → (w u : T) → Reaches w [] → (ts : List Turn) → Runs (visit_may rules) w ts u →
        IsCallRun rules.shown Spec (exchanges ts)
    call_run Spec law w u first ts run =
        let calls = calls_of_run w u [] ts first run in
        record { calls = calls.0; spelled = calls.1; law = law u calls.0 calls.2 }
