-- what each kind of step tells the seat that makes it
use Rattle.std.specs.Prelude.{◌≡◌, ◌==◌, ℕ, suc, List, [], map, length, if◌then◌else◌}
use mathlib.Core.Option.{some}
use lib.ListN.{get_elem?}
use Rattle.atomic_table.specs.Table.{Me, Step}
use Rattle.model_splitter.specs.declared.way.Way.{Way}
use Rattle.model_splitter.specs.declared.way.Way.TheVariants.{Stop, Right, Down}
use Rattle.model_splitter.specs.declared.stage.VisitStage.{VisitStage}
use Rattle.model_splitter.specs.declared.stage.VisitStage.TheVariants.{Outside, WroteX, WroteY, Gone}
use Rattle.model_splitter.specs.Stage.{stage_after}
use Rattle.words_machine.specs.declared.parts.splitter_view.Visit.{Visit}
use Rattle.words_machine.specs.declared.parts.splitter_view.SplitterView.{SplitterView}
use Rattle.words_machine.specs.parts.SplitterView.{own_word, visit_at, view_of, lone_view}
use Rattle.words_machine.specs.parts.SplitterRule.{IsKept}

-- the turn of a visit after an access: it gets one by its first
abbrev pub turn_after : VisitStage → ℕ → ℕ → ℕ
turn_after Outside turn old = turn
turn_after s turn old = old

-- whom a visit with this word met after an access that found this: where it finds Y set, one who has set it; where X has
-- another's word, that one
abbrev pub met_after : ℕ → VisitStage → ℕ → ℕ → ℕ → ℕ
met_after word WroteX found setter old = if found == 0 then old else setter
met_after word WroteY found setter old = if found == word then old else found
met_after word s found setter old = old

-- a visit after an access to a word in which `found` stood: one access reads X or Y, so the number stands for both
abbrev pub after_access : ℕ → ℕ → ℕ → Visit → Visit
after_access turn setter found v =
    visit_at v.number (stage_after (own_word v.number) v.stage found found) (suc v.accesses) (turn_after v.stage turn v.turn)
    (met_after (own_word v.number) v.stage found setter v.met)

-- the view after it
abbrev pub moved_on : ℕ → ℕ → ℕ → SplitterView → SplitterView
moved_on turn setter found v = view_of v.seats (map (after_access turn setter found) v.visits)

-- the view is a seat's in a table that keeps the rule
pub record IsUnderRule (v : SplitterView) : Type 0 where
  pub words : List ℕ
  pub views : List SplitterView
  pub seat : ℕ
  pub kept : IsKept v.seats words views
  pub there : get_elem? views seat ≡ some v

-- an access of a visit: the seat's view is one access further
abbrev pub MovesOn : {S : Type 0} → Step S → Me S SplitterView → ℕ → Me S SplitterView → Type 0
MovesOn s before found after = (turn : ℕ) × (setter : ℕ) × (after ≡ (moved_on turn setter found before.0, before.1)) × IsUnderRule after.0

-- a look at a word by a seat with two visits changes nothing; a seat with one has no such step, so it makes no access that is
-- not counted
abbrev pub Looks : {S : Type 0} → Step S → Me S SplitterView → ℕ → Me S SplitterView → Type 0
Looks s before found after = (after ≡ before) × IsUnderRule after.0 × (length before.0.visits ≡ 2)

-- how many accesses a visit makes that ends by this way
abbrev pub accesses_by : Way → ℕ
accesses_by Stop = 4
accesses_by Right = 2
accesses_by Down = 4

-- a seat has one visit, of this number, which ended by this way after as many accesses as that takes, under the rule of a
-- splitter with so many seats
pub record HasEnded {S : Type 0} (seats number : ℕ) (way : Way) (me : Me S SplitterView) : Type 0 where
  pub turn : ℕ
  pub met : ℕ
  pub me_is : me ≡ (lone_view seats (visit_at number (Gone way) (accesses_by way) turn met), [])
  pub under : IsUnderRule (lone_view seats (visit_at number (Gone way) (accesses_by way) turn met))
