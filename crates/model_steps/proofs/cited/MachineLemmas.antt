-- what follows for every machine
use Rattle.std.proofs.Common.{List, [], ◌∷◌, ◌++◌, refl}
use Rattle.model_steps.specs.Machine.{Machine, Reaches, CallExtends, SatisfiesSpec, RefusesWhereDue, IsProved}
use Rattle.model_steps.specs.Runs.{Run}
use Rattle.model_steps.proofs.cited.RunLemmas.{run_more, run_keeps, run_splits, run_one, run_replays}

module _ {Start State Call : Type 0} (machine : Machine Start State Call) where
  pub after_none : (start : Start) → machine.MayStart start → Reaches machine start (machine.first start) []
  after_none start may = record { started = may; run = refl }

  pub call_leads_on : (w new : State) (h : Call) → CallExtends machine w new h
  call_leads_on w new h e is start r a = rw e (record { started = a.started; run = run_more machine.next machine.IsReply (machine.first start) r w h a.run is })

  pub after_splits : (start : Start) (w : State) (r t : List Call) → Reaches machine start w (r ++ t) → (mid : State) × Reaches machine start mid r × Run machine.next machine.IsReply mid t w
  after_splits start w r t a =
      let cut = run_splits machine.next machine.IsReply (machine.first start) r t w a.run in
      (cut.0, record { started = a.started; run = cut.1 }, cut.2)

  -- an invariant: what holds at the start, and what each call keeps, holds after every list of calls
  pub always_by : (Holds : State → List Call → Type 0) → ((w : State) (past : List Call) (h : Call) → Holds w past → machine.IsReply w h → Holds (machine.next w h) (past ++ h ∷ [])) →
      (start : Start) → Holds (machine.first start) [] → (w : State) (r : List Call) → Reaches machine start w r → Holds w r
  always_by Holds keeps start new w r a = run_keeps machine.next machine.IsReply Holds keeps (machine.first start) [] r w new a.run

  -- so it is enough to prove the law, and where refusals are due
  pub machine_proved : ((w : State) → SatisfiesSpec machine w) → ((w : State) → RefusesWhereDue machine w) → IsProved machine
  machine_proved law due = record {
    fresh = after_none;
    call = call_leads_on;
    law = law;
    due = due;
    prefix = λ start w r t a. let mid = after_splits start w r t a in law mid.0 start r mid.1;
    between = after_splits;
    one = λ start w other r a b. run_one machine.next machine.IsReply (machine.first start) r w other a.run b.run;
    replays = λ w start r a. run_replays machine.next machine.IsReply (machine.first start) r w a.run;
  }
