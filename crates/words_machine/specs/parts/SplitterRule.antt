-- The rule of a splitter over shared atomic words: how its two words and the views of all its seats agree between any two steps.
-- What agrees is what `DoorSatisfiesSpec` says of any splitter (Moir and Anderson 1995). At most one stopped, and then no other
-- that is between its reading of Y and its end stands in X. Where Y is clear no one has set it and no one went right, else
-- someone has set it. X names one who has not gone down, once anyone has begun. That the words of a table and the views
-- of its seats keep this is this project's profile, and so is that a view names whom its visit met.
use Rattle.std.specs.Prelude.{◌≡◌, ◌≢◌, ◌⊎◌, ℕ, ◌<◌, ◌≤◌, true, List, [], ◌∷◌}
use mathlib.Core.Option.{some}
use lib.ListN.{get_elem?}
use Rattle.atomic_table.specs.Table.{State}
use Rattle.model_splitter.specs.declared.way.Way.TheVariants.{Right, Down}
use Rattle.model_splitter.specs.declared.stage.VisitStage.{VisitStage}
use Rattle.model_splitter.specs.declared.stage.VisitStage.TheVariants.{Gone}
use Rattle.model_splitter.specs.Stage.{has_entered, has_set}
use Rattle.model_splitter.specs.Invariant.{DoorSatisfiesSpec}
use Rattle.words_machine.specs.declared.parts.splitter_view.Visit.{Visit}
use Rattle.words_machine.specs.declared.parts.splitter_view.SplitterView.{SplitterView}
use Rattle.words_machine.specs.parts.Numbered.{Each, NoneTwice}
use Rattle.words_machine.specs.parts.SplitterView.{own_word, view_of}

-- what stands in X and in Y agrees with how far the visit of each seat has come
pub record SatisfiesSpec (seats x y : ℕ) (stage : ℕ → VisitStage) : Type 0 where
  pub door : DoorSatisfiesSpec x y stage
  -- only what seats write into X enters, so 0 does not
  pub seated : (word : ℕ) → has_entered (stage word) ≡ true → (0 < word) × (word ≤ seats)
  -- where X is not 0, it names one who has begun
  pub begun : x ≢ 0 → has_entered (stage x) ≡ true

-- whom a visit met is another of the splitter's seats
abbrev pub IsAnother : ℕ → Visit → Type 0
IsAnother seats v = (0 < v.met) × (v.met ≤ seats) × (v.met ≢ own_word v.number)

-- a visit went right only where another had set Y, and down only where another had written X after it, whose turn is greater;
-- it met none while it goes on, and where it stopped
abbrev pub Meets : ℕ → (ℕ → VisitStage) → (ℕ → ℕ) → Visit → VisitStage → Type 0
Meets seats stage turn v (Gone Right) = IsAnother seats v × (has_set (stage v.met) ≡ true)
Meets seats stage turn v (Gone Down) = IsAnother seats v × (has_entered (stage v.met) ≡ true) × (v.turn < turn v.met)
Meets seats stage turn v s = v.met ≡ 0

-- of all that have begun, who stands in X was the last to write there
abbrev pub IsLast : ℕ → (ℕ → VisitStage) → (ℕ → ℕ) → Type 0
IsLast x stage turn = (word : ℕ) → has_entered (stage word) ≡ true → word ≢ x → turn word < turn x

-- what a view of a seat says of a visit is so
pub record IsShown (seats : ℕ) (seat_of : ℕ → ℕ) (stage : ℕ → VisitStage) (turn : ℕ → ℕ) (seat : ℕ) (view : SplitterView) (v : Visit) : Type 0 where
  pub seats_are : view.seats ≡ seats
  pub in_range : v.number < seats
  pub own : seat_of v.number ≡ seat
  pub stage_is : stage (own_word v.number) ≡ v.stage
  pub turn_is : turn (own_word v.number) ≡ v.turn
  pub meets : Meets seats stage turn v v.stage

-- what a view says is so
abbrev pub Shows : ℕ → (ℕ → ℕ) → (ℕ → VisitStage) → (ℕ → ℕ) → ℕ → SplitterView → Type 0
Shows seats seat_of stage turn seat view = Each (IsShown seats seat_of stage turn seat view) view.visits × NoneTwice (λ (w : Visit). w.number) view.visits

-- the visit of this number is one of these
abbrev pub IsAmong : ℕ → List Visit → Type 0
IsAmong number [] = ⊥
IsAmong number (v ∷ vs) = (v.number ≡ number) ⊎ IsAmong number vs

-- the visit of this number stands in the view of this seat
abbrev pub IsHeld : List SplitterView → ℕ → ℕ → Type 0
IsHeld views seat number = (v : SplitterView) × (get_elem? views seat ≡ some v) × IsAmong number v.visits

-- The rule. The words are X and Y, and the visits are so far that they are lawful with these words; each visit is one
-- seat's to make, stands in the view of that seat, is as far as that view says, and met whom it names. A view with no
-- visit, as a join leaves it, says nothing
pub record IsKept (seats : ℕ) (words : List ℕ) (views : List SplitterView) : Type 0 where
  pub x : ℕ
  pub y : ℕ
  pub words_are : words ≡ x ∷ y ∷ []
  pub stage : ℕ → VisitStage
  pub lawful : SatisfiesSpec seats x y stage
  pub turn : ℕ → ℕ
  pub last : IsLast x stage turn
  pub seat_of : ℕ → ℕ
  pub held : (number : ℕ) → number < seats → IsHeld views (seat_of number) number
  pub shown : (seat : ℕ) (v : SplitterView) → get_elem? views seat ≡ some v → Shows seats seat_of stage turn seat v

abbrev pub KeepsRule : {S : Type 0} → ℕ → State S SplitterView → Type 0
KeepsRule seats s = IsKept seats s.words s.views

-- where the rule is kept, each visit that a seat's view has is as far as that says, and met whom it names there
abbrev pub MeetsWhomItNames : Type 0
MeetsWhomItNames =
    (seats : ℕ) (words : List ℕ) (views : List SplitterView) (kept : IsKept seats words views) (seat : ℕ) (v : Visit) (vs : List Visit) →
    get_elem? views seat ≡ some (view_of seats (v ∷ vs)) →
    (kept.stage (own_word v.number) ≡ v.stage) × (kept.turn (own_word v.number) ≡ v.turn) × Meets seats kept.stage kept.turn v v.stage
