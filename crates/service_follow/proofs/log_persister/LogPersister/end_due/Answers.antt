-- What is offered are the lines that were decided on.
use Rattle.std.proofs.Common.{◌≡◌, ◌∙◌, ℕ, List, inr, refl, sym, ap, subst}
use Rattle.service_follow.specs.Decided.{AddsBatch, release_lines}
use Rattle.service_follow.specs.FollowState.{FollowState}
use Rattle.service_follow.specs.StayState.{StayState}
use Rattle.service_follow.specs.declared.watches.Watch.{Watch}
use Rattle.service_follow.proofs.log_persister.LogPersister.end_due.Goals.{else-is_empty-via-then-is_empty+else-not-wants_heartbeat, else-is_empty-via-else-is_empty}
use Rattle.service_follow.proofs.log_persister.LogPersister.end_due.Goals as goal

same_lines : (token left : List ℕ) (grace r r' : ℕ) (watches : List Watch) (w w' : StayState) → r' ≡ r → w' ≡ w → release_lines token left grace r' watches w' ≡ release_lines token left grace r watches w
same_lines token left grace r r' watches w w' p q =
    ap (λ (n : ℕ). release_lines token left grace n watches w') p ∙ ap (λ (v : StayState). release_lines token left grace r watches v) q

added : {S : Type 0} (stands : S → ℕ → List ℕ → Type 0) (a b c : FollowState S) (token token' lines lines' : List ℕ) (count : ℕ) → b ≡ a → token' ≡ token → lines' ≡ lines →
    AddsBatch stands b token' count lines' c → AddsBatch stands a token count lines c
added {S} stands a b c token token' lines lines' count p q r adds =
    subst (λ (x : FollowState S). AddsBatch stands x token count lines c) p
    (subst (λ (t : List ℕ). AddsBatch stands b t count lines c) q (subst (λ (l : List ℕ). AddsBatch stands b token' count l c) r adds))

pub returns-clause-released : goal.returns-clause-released
returns-clause-released g c =
    let now = c.args.self.now in
    let before = c.else-is_empty.self in
    let decided = c.decide.new.self in
    let offered = c.offer-offered.new.self in
    let log : before.log ≡ now.log = elim c.else-is_empty.branch [
      | else-is_empty-via-then-is_empty+else-not-wants_heartbeat w ↦ rw w.self-is c.decide.ensures.same.0
      | else-is_empty-via-else-is_empty w ↦ rw w.self-is c.decide.ensures.same.0
    ] in
    let token : before.token ≡ now.token = elim c.else-is_empty.branch [
      | else-is_empty-via-then-is_empty+else-not-wants_heartbeat w ↦ rw w.self-is c.decide.ensures.same.2
      | else-is_empty-via-else-is_empty w ↦ rw w.self-is c.decide.ensures.same.2
    ] in
    let kept : before.sessions.reads ≡ decided.sessions.reads = elim c.else-is_empty.branch [
      | else-is_empty-via-then-is_empty+else-not-wants_heartbeat w ↦ rw w.self-is refl
      | else-is_empty-via-else-is_empty w ↦ rw w.self-is refl
    ] in
    let machine : decided.log.stays.machine ≡ now.log.stays.machine = rw c.decide.ensures.same.0 refl in
    let reads : decided.sessions.reads ≡ offered.sessions.reads = sym (c.offer-offered.ensures.looked.1 ∙ kept) in
    let lines : c.deref.result.now ≡ release_lines now.token c.args.left.now now.sessions.grace offered.sessions.reads now.sessions.watches.watches.items now.log.stays.machine =
    c.deref.ensures.value ∙ c.in-Ok.ensures.lines ∙ same_lines now.token c.args.left.now now.sessions.grace offered.sessions.reads decided.sessions.reads
    now.sessions.watches.watches.items now.log.stays.machine decided.log.stays.machine reads machine in
    inr (added g.S.Store.stands now.log before.log offered.log now.token before.token _ c.deref.result.now offered.count log token lines c.offer-offered.ensures.adds)
