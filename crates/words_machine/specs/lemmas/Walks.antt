-- a grid's world as a local machine: two words for each door
use Rattle.std.specs.Prelude.{◌≡◌, ◌≢◌, ℕ, ◌+◌, ◌*◌, ◌^◌, ◌<◌, ◌≤◌}
use Rattle.std.proofs.Common.{false, option_map, is_some, sym, ap, subst, ◌∙◌, arith}
use Rattle.std.proofs.lemmas.Nat.{mul-le}
use Rattle.model_steps.specs.declared.access.Access.TheVariants.{TestAndSet}
use Rattle.model_steps.specs.LocalMachine.{LocalMachine, ChangesOnly, IsWithin}
use Rattle.words_machine.specs.Locals.{words_law, words_sound}
use Rattle.words_machine.specs.WordLaw.{WordLaw, IsSound}
use Rattle.model_steps.specs.LocalWorlds.{LocalParts, local_world}
use Rattle.model_steps.specs.Steps.{ReadsOrWrites}
use Rattle.model_steps.proofs.cited.LocalWorldLemmas.{world_fresh, world_takes}
use Rattle.model_steps.proofs.cited.ParticipantLemmas.{identity_of}
use Rattle.model_steps.proofs.cited.WorldKeeps.{run_most}
use Rattle.model_splitter.specs.declared.stage.VisitStage.{VisitStage}
use Rattle.model_splitter.specs.declared.stage.VisitStage.TheVariants.{Outside, WroteX, SawClear, WroteY, Gone}
use Rattle.model_splitter.specs.declared.way.Way.TheVariants.{Stop, Right, Down}
use Rattle.model_splitter.specs.Stage.{went_right, went_down}
use Rattle.model_splitter.specs.Visitor.{access_at}
use Rattle.model_splitter.specs.Walk.{place_at_door}
use Rattle.model_splitter.proofs.cited.VisitorAccess.{own_access}
use Rattle.model_splitter.specs.grid.Door.{number_of}
use Rattle.model_splitter.specs.grid.Law.{GridSpec}
use Rattle.model_splitter.specs.grid.Machine.{grid, grid_parts}
use Rattle.model_splitter.specs.grid.Walk.{walk_of, walker_steps, next_access}
use Rattle.model_splitter.specs.declared.grid.walker.Walker.{Walker}
use Rattle.model_splitter.proofs.cited.grid.GridTied.{grid_proved, tied_always}
use Rattle.model_splitter.proofs.cited.grid.Numbers.{number_below}

-- for at most 64 participants, each of which makes at most four accesses at each of as many doors
abbrev pub walk_parts : LocalParts Walker ℕ ℕ
walk_parts = record { MayStart = λ most. most ≤ 64; registers = λ most. most * (most + 1); first = 0; start = walk_of; bound = λ most. 4 * most; Spec = GridSpec }

abbrev pub walk_local : LocalMachine Walker ℕ ℕ
walk_local = local_world walker_steps walk_parts

-- a walk sets no bit
tests_none : (u : Walker) (r : ℕ) → next_access u ≢ TestAndSet r
tests_none u r is = subst ReadsOrWrites is (own_access u.visitor.identity u.visitor.x u.visitor.y u.visitor.stage)

-- a visit that has not stopped, and has not left its door, reads or writes X or Y
reaches : (n p x y k : ℕ) (s : VisitStage) → x < n → y < n → went_right s ≡ false → went_down s ≡ false → is_some (place_at_door k s) ≡ false → IsWithin n (access_at p x y s)
reaches n p x y k Outside a b right down still = a
reaches n p x y k WroteX a b right down still = b
reaches n p x y k SawClear a b right down still = b
reaches n p x y k WroteY a b right down still = a
reaches n p x y k (Gone Stop) a b right down still = absurd (cc)
reaches n p x y k (Gone Right) a b right down still = absurd (cc)
reaches n p x y k (Gone Down) a b right down still = absurd (cc)

some_words : (most : ℕ) → 1 ≤ most → 0 < most * (most + 1)
some_words most some = let low = number_below 0 0 most (omega arith) some in omega arith

pub walk_sound : ChangesOnly walker_steps 0 walk_local
walk_sound = record {
  fresh = world_fresh walker_steps walk_parts grid_proved;
  takes = world_takes walker_steps walk_parts tests_none;
  some = some_words;
  few = λ most w r a p.
      let t = tied_always w most r a in
      let room = t.consistent.room in
      let begun = t.begun_is in
      let many : w.most ≡ most = run_most walker_steps grid_parts.memory grid_parts.shown walk_of (grid.first most) r w a.run in
      let law = (grid_proved.law w most r a).at_most p in
      omega arith;
  begins = λ most p some may. some_words most some;
  own = λ most w r a p v there goes.
      let t = tied_always w most r a in
      let many : w.most ≡ most = run_most walker_steps grid_parts.memory grid_parts.shown walk_of (grid.first most) r w a.run in
      let walk = t.consistent.agree.walks p v.program (ap (option_map (λ u. u.program)) there) in
      let within = t.consistent.agree.within v.program.door.depth v.program.door.column walk.arrived in
      let room = t.consistent.room in
      let low = number_below v.program.door.depth v.program.door.column most walk.inside (omega arith) in
      let x_is = walk.x in
      let y_is = walk.y in
      reaches (most * (most + 1)) v.program.visitor.identity v.program.visitor.x v.program.visitor.y (number_of v.program.door) v.program.visitor.stage (omega arith) (omega arith) walk.not_right walk.not_down
      (sym (t.known p v there).ended ∙ goes);
}

abbrev pub walk_law : WordLaw Walker ℕ ℕ
walk_law = words_law walk_local

few_doors : (most : ℕ) → most ≤ 64 → most * (most + 1) < 2 ^ 32
few_doors most few = let doors = mul-le most (most + 1) 64 65 few (omega arith) in omega arith

pub walk_words_sound : IsSound walker_steps walk_law
walk_words_sound = words_sound walker_steps walk_local walk_sound (λ w p v h. identity_of p w.participants v h) few_doors (λ most few. omega arith)
