-- the accesses of a participant
use Rattle.std.proofs.Common.{◌≡◌, ℕ, Bool, true, false, cond, Option, Some, None, refl, sym, ap, ◌∙◌}
use Rattle.model_splitter.proofs.tree_lemmas.WorldCommon.{Write, Participant, Record, participant_of, VisitStage, Outside, TreeRegister, Mark, X, Y, Contents, TreeValue, Word, Walker, Client, Task, Placing, Storing, access_for, write_at, record_of, TreeWorldState, tree, tree_steps}
use Rattle.model_steps.specs.Steps.{ReadsOrWrites}
use Rattle.model_splitter.specs.Visitor.{access_at, access_of}
use Rattle.model_splitter.specs.tree.Walk.{in_words, place_of, StandsAtNode}
use Rattle.model_steps.specs.Machine.{OnEveryHistory}
use Rattle.model_splitter.proofs.tree_lemmas.TreeProved.{tied}

own_words : (id : ℕ) (x y : TreeRegister) (s : VisitStage) → ReadsOrWrites (in_words (access_at id x y s))
own_words id x y Outside = tt
own_words id x y s = tt

own_next : (u : Walker) (b : Bool) → ReadsOrWrites (cond b (Write (Mark u.place) (Word 1)) (in_words (access_of u.visitor)))
own_next u true = tt
own_next u false = own_words u.visitor.identity u.visitor.x u.visitor.y u.visitor.stage

own_write : (o : Option ℕ) (x : Record) → ReadsOrWrites (write_at o x)
own_write None x = tt
own_write (Some place) x = tt

-- a participant reads or writes a register, or reaches none
pub own_access : (c : Client) (t : Task) → ReadsOrWrites (access_for c t)
own_access c Placing = own_next c.walker c.walker.is_marking
own_access c (Storing value) = own_write (place_of c.walker) (record_of c value)
own_access c t = tt

-- on the way no segment is written
no_segment : (id k place : ℕ) (value : TreeValue) (s : VisitStage) → in_words (access_at id (X k) (Y k) s) ≡ Write (Contents place) value → ⊥
no_segment id k place value Outside h = cc
no_segment id k place value s h = cc

not_on_the_way : (u : Walker) (b : Bool) (place : ℕ) (value : TreeValue) → StandsAtNode u → cond b (Write (Mark u.place) (Word 1)) (in_words (access_of u.visitor)) ≡ Write (Contents place) value → ⊥
not_on_the_way u true place value stands h = cc
not_on_the_way u false place value stands h =
    no_segment u.visitor.identity u.place place value u.visitor.stage
    (ap (λ (x : TreeRegister). in_words (access_at u.visitor.identity (X u.place) x u.visitor.stage)) (sym stands.y)
    ∙ ap (λ (x : TreeRegister). in_words (access_at u.visitor.identity x u.visitor.y u.visitor.stage)) (sym stands.x) ∙ h)

at_its_place : (o : Option ℕ) (x : Record) (place : ℕ) (value : TreeValue) → write_at o x ≡ Write (Contents place) value → o ≡ Some place
at_its_place None x place value h = absurd (cc)
at_its_place (Some k) x place value h = let same : k ≡ place = cc in ap Some same

-- a segment is written by the one whose place is there
pub own_segment : (c : Client) (t : Task) (place : ℕ) (value : TreeValue) → StandsAtNode c.walker → access_for c t ≡ Write (Contents place) value → place_of c.walker ≡ Some place
own_segment c Placing place value stands h = absurd (not_on_the_way c.walker c.walker.is_marking place value stands h)
own_segment c (Storing x) place value stands h = at_its_place (place_of c.walker) (record_of c x) place value h
own_segment c t place value stands h = absurd (cc)

pub all_stand : (w : TreeWorldState) (p : ℕ) (v : Participant Client) → participant_of p w.participants ≡ Some v → OnEveryHistory tree (λ first r. StandsAtNode v.program.walker) w
all_stand w p v here first r a =
    let walk = (tied tree_steps w first r a).consistent.agree.walks p v.program.walker (rw here refl) in
    record { x = walk.x; y = walk.y }
