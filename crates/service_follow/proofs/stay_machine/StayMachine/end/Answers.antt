-- The last part of a compaction was read.
use Rattle.std.proofs.Common.{◌≡◌, Option, Result, Ok, Err, OnOk, ap, subst, sym, ◌∙◌}
use Rattle.service_follow.specs.Stays.{EndsFrom, TellsTheSame}
use Rattle.service_follow.specs.StayState.{StayState}
use Rattle.service_follow.specs.declared.gathering.Gathering.{Gathering}
use Rattle.service_follow.proofs.stay_machine.StayMachine.end.Goals as goal

on_ok_both : {T E : Type 0} (result : Result T E) {A B C : Type 0} → (A → B → C) → OnOk result A → OnOk result B → OnOk result C
on_ok_both (Ok done) both a b = both a b
on_ok_both (Err why) both a b = tt

told_from : (w v u : StayState) → v ≡ record w { gathered = v.gathered } → TellsTheSame v u → TellsTheSame w u
told_from w v u is told =
    let there : TellsTheSame (record w { gathered = v.gathered }) u = subst (λ (s : StayState). TellsTheSame s u) is told in
    record { hall = there.hall; kept = there.kept; entries = there.entries }

pub returns : goal.returns
returns c =
    let now = c.args.self.now in
    let taken = c.take_part.new.self in
    let new = c.end_with.new.self in
    let gone : taken ≡ record now { gathered = taken.gathered } = c.in-Some.ensures.state ∙ ap (λ (o : Option Gathering). let s : StayState = record now { gathered = o } in s) (ap (λ (s : StayState). s.gathered) (sym c.in-Some.ensures.state)) in
    on_ok_both c.end_with.result (λ state same.
    subst (λ (o : Option Gathering). EndsFrom o now c.args.entry.now c.take.new.reply_queue new) c.in-Some.ensures.part (record {
      part = c.take.new.self;
      gathers = c.in_ok-take.ensures.gathers;
      silent = c.in_ok-take.ensures.silent;
      state = state;
      same = λ known. told_from now taken new gone (same (ap (λ (s : StayState). s.blind) gone ∙ known));
    })) c.end_with.ensures.state c.end_with.ensures.same
