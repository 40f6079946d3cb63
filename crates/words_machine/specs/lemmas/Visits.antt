-- a splitter's world as a local machine, whose two registers are words
use Rattle.std.specs.Prelude.{◌≡◌, ◌≢◌, ℕ, ◌<◌}
use Rattle.std.proofs.Common.{false, sym, subst, ◌∙◌, arith}
use Rattle.model_steps.specs.declared.access.Access.TheVariants.{TestAndSet}
use Rattle.model_steps.specs.LocalMachine.{LocalMachine, ChangesOnly, IsWithin}
use Rattle.words_machine.specs.Locals.{words_law, words_sound}
use Rattle.words_machine.specs.WordLaw.{WordLaw, IsSound}
use Rattle.model_steps.specs.LocalWorlds.{LocalParts, local_world}
use Rattle.model_steps.specs.Steps.{ReadsOrWrites}
use Rattle.model_steps.proofs.cited.LocalWorldLemmas.{world_fresh, world_takes}
use Rattle.model_steps.proofs.cited.ParticipantLemmas.{identity_of}
use Rattle.model_splitter.specs.declared.way.Way.{Way}
use Rattle.model_splitter.specs.declared.visitor.Visitor.{Visitor}
use Rattle.model_splitter.specs.declared.stage.VisitStage.{VisitStage}
use Rattle.model_splitter.specs.declared.stage.VisitStage.TheVariants.{Outside, WroteX, SawClear, WroteY, Gone}
use Rattle.model_splitter.specs.Law.{SplitterSpec}
use Rattle.model_splitter.specs.Machine.{visit_of}
use Rattle.model_splitter.specs.Stage.{is_gone}
use Rattle.model_splitter.specs.Visitor.{visitor_steps, access_at, access_of}
use Rattle.model_splitter.proofs.cited.SplitterTied.{splitter_proved, visits_always}
use Rattle.model_splitter.proofs.cited.VisitorAccess.{own_access}

-- two words for any number of participants, each of which makes at most four accesses
abbrev pub visit_parts : LocalParts (Visitor ℕ) ℕ Way
visit_parts = record { MayStart = λ most. Unit {0}; registers = λ most. 2; first = 0; start = visit_of; bound = λ most. 4; Spec = SplitterSpec }

abbrev pub visit_local : LocalMachine (Visitor ℕ) ℕ Way
visit_local = local_world visitor_steps visit_parts

-- a visit sets no bit
tests_none : (v : Visitor ℕ) (r : ℕ) → access_of v ≢ TestAndSet r
tests_none v r is = subst ReadsOrWrites is (own_access v.identity v.x v.y v.stage)

-- one that is not gone reads or writes X or Y
reaches : (n p x y : ℕ) (s : VisitStage) → x < n → y < n → is_gone s ≡ false → IsWithin n (access_at p x y s)
reaches n p x y Outside a b on = a
reaches n p x y WroteX a b on = b
reaches n p x y SawClear a b on = b
reaches n p x y WroteY a b on = a
reaches n p x y (Gone way) a b on = absurd (cc)

pub visit_sound : ChangesOnly visitor_steps 0 visit_local
visit_sound = record {
  fresh = world_fresh visitor_steps visit_parts splitter_proved;
  takes = world_takes visitor_steps visit_parts tests_none;
  some = λ most some. omega arith;
  few = λ most w r a p. (splitter_proved.law w most r a).at_most_four p;
  begins = λ most p some may. omega arith;
  own = λ most w r a p v there goes.
      let visit = visits_always most w r a p v there in
      let x_is = visit.x in
      let y_is = visit.y in
      reaches 2 v.program.identity v.program.x v.program.y v.program.stage (omega arith) (omega arith) (sym visit.ended ∙ goes);
}

abbrev pub visit_law : WordLaw (Visitor ℕ) ℕ Way
visit_law = words_law visit_local

pub visit_words_sound : IsSound visitor_steps visit_law
visit_words_sound = words_sound visitor_steps visit_local visit_sound (λ w p v h. identity_of p w.participants v h) (λ most may. omega arith) (λ most may. omega arith)
