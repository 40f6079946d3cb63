-- a desk of either world keeps its laws
use Rattle.std.proofs.Common.{◌≡◌, ℕ, ◌-◌, ◌*◌, ◌≤◌, Bool, true, false, inl, inr, List, [], map, replicate, Option, refl, sym, ap, subst, ◌∙◌, arith}
use Rattle.text_worlds.specs.lemmas.desk.Common.{SnapBounds, WorldKind, Exchange, DeskCall, rename_calls, exchange_of, ReachesDesk, DeskState}
use Rattle.std.proofs.Math.ListN.{length-replicate}
use Rattle.std.proofs.lemmas.Bool.Decides.{eqb_tells, leb_tells}
use Rattle.model_snapshot.specs.Places.{KnownPlaces, PlacesLaws}
use Rattle.model_renaming.specs.over.Bounds.{grid_bounds, tree_bounds}
use Rattle.model_renaming.specs.over.Grid.{fresh_grid}
use Rattle.model_renaming.specs.lemmas.over.GridProofs.{grid_laws}
use Rattle.model_renaming.specs.over.GridTies.{grid_places}
use Rattle.model_renaming.specs.over.Tree.{new_tree}
use Rattle.model_renaming.specs.lemmas.over.TreeProofs.{tree_laws}
use Rattle.model_renaming.specs.over.TreeTies.{tree_places}
use Rattle.model_renaming.specs.lemmas.Ample.{grid_ample}
use Rattle.model_asked.specs.Config.{facts_of, is_tree, gives_names, most_in}
use Rattle.model_asked.specs.lemmas.ConfigProofs.{grid_most}
use Rattle.model_asked.specs.lemmas.KindProofs.{where_named}
use Rattle.model_renaming.specs.lemmas.EmptyPlaces.{AreEmptyFor, grid_empty, tree_empty}
use Rattle.model_asked.specs.declared.config.Config.{Config}
use Rattle.model_asked.specs.declared.kind.WorldKind.TheVariants.{Rename, Tree}
use Rattle.model_renaming.specs.NamedPlaces.{PlacesAtOnce, GrowsAsTree}
use Rattle.model_renaming.specs.Machine.{SatisfiesSpecWithin, fresh_over as fresh_names}
use Rattle.model_renaming.proofs.cited.Sizes.{most_after}
use Rattle.model_pool.proofs.cited.slots.SlotsKeep.{slots_proved}
use Rattle.model_renaming.specs.RenameWorld.{fresh_world, owner_by}
use Rattle.model_renaming.proofs.cited.NamedPlaces.{owner_is, answers_unrefused}
use Rattle.model_renaming.proofs.cited.PlacesLaw.{grid_lawful, tree_lawful}
use Rattle.text_worlds.specs.desk.Desk.{fresh_in, desk_rules, owner_reported, owner_over, IsFreshDesk, LeadsDesk}
use Rattle.text_worlds.specs.desk.DeskRules.{fresh_over, after_over}
use Rattle.text_worlds.specs.desk.DeskRun.{IsDeskRun, IsDeskRunOf, desk_terms, desk_bounds}
use Rattle.text_worlds.specs.desk.DeskValue.{DeskValue}
use Rattle.text_worlds.specs.desk.DeskValue.DeskValue.{OverGrid, OverTree}
use Rattle.text_worlds.specs.desk.Laws.{IsThisDesk, BeginsDesk, HasFreshDesk, IsOneFreshDesk, DeskGoesOn, DeskKeepsRuns, DeskTellsOwners, DeskRefusesAsSaid, IsDeskDetermined}
use Rattle.text_worlds.specs.desk.Names.{IsOwnerIn, IsOwnerReply}
use Rattle.text_worlds.specs.desk.Rules.{one_by_rules}
use Rattle.text_worlds.specs.lemmas.desk.DeskKeeps as over
use Rattle.text_worlds.specs.lemmas.desk.NamesGiven as given
use Rattle.text_worlds.specs.lemmas.desk.Refusing.{refuses_as_said}
use Rattle.model_pool.specs.PoolState.{PoolStart}
use Rattle.text_worlds.specs.desk.Start.{pool_start}

-- what is reported of a number is right, where this is who was given it
reported_right : (most n : ℕ) (r : List Exchange) (owner : Option ℕ) → IsOwnerIn r n owner → IsOwnerReply most r n (owner_reported most n owner)
reported_right most n r owner is = elim (eqb_tells n 0) [
  | inl none ↦ rw none.0 (record { out_of_range = λ out. refl; in_range = λ within. absurd (let some = within.some in let zero = none.1 in omega arith) })
  | inr some ↦ elim (leb_tells (2 * most) n) [
    | inl large ↦ rw (some.0, large.0) (record { out_of_range = λ out. refl; in_range = λ within. absurd (let small = within.small in let l = large.1 in let one = within.some in omega arith) })
    | inr small ↦
        let one : 1 ≤ n = (let not_zero = some.1 in omega arith) in
        let fits : n ≤ 2 * most - 1 = (let below = small.1 in omega arith) in
        rw (some.0, small.0) (record {
          out_of_range = λ out. absurd (out (record { some = one; small = fits }));
          in_range = λ within. record { owner = owner; is = refl; given = is };
        })
  ]
]

-- over places of one kind
module _ {S R V U K : Type 0} (W : KnownPlaces S R V U K) where
  fresh_places : (kind : WorldKind) (made : ℕ → S) → AreEmptyFor W kind made → (c : Config) → most_in c.world ≡ most_in kind →
      ReachesDesk W kind c.m c.limit (pool_start c) (fresh_over (made c.m) c.m c.limit (pool_start c)) []
  fresh_places kind made empty c serves =
      let e = empty c.m (subst (λ (n : ℕ). c.m ≤ n) serves c.in_range.1) in
      record {
        first = made c.m;
        room = e.1;
        names = record { started = record { new = e.0; low = c.in_range.4; high = c.in_range.5 }; run = ap (λ (n : ℕ). fresh_world (made c.m) n c.limit) (sym e.1) };
        slots = slots_proved.fresh (pool_start c, replicate c.k 0) (c.in_range.2, c.in_range.3, (facts_of c.world).numbers.1, length-replicate c.k 0);
        new_slots = tt;
      }

  -- the owner of a name was given it, among these exchanges
  owner_given : (kind : WorldKind) (bounds : ℕ → SnapBounds) (laws : PlacesLaws W) (may_grow : GrowsAsTree W kind) (at_once : PlacesAtOnce W) (most limit : ℕ) (start : PoolStart) (w : DeskState S U K) (calls : List DeskCall) →
      SatisfiesSpecWithin W kind bounds w.names → ReachesDesk W kind most limit start w calls → (n : ℕ) → IsOwnerReply most (map exchange_of calls) n (owner_over w n)
  unfolding over.is_run
  owner_given kind bounds laws may_grow at_once most limit start w calls lawful a n =
      let own : ReachesDesk W kind (W.most_of a.first) limit start w calls = record { first = a.first; room = refl; names = a.names; slots = a.slots; new_slots = a.new_slots } in
      let run = over.is_run W kind bounds (W.most_of a.first) limit start w calls lawful own in
      let owns = owner_is W laws kind may_grow at_once w.names n (a.first, limit) (rename_calls calls) a.names run.names.object run.names.run in
      let is = given.owner_is (desk_terms (W.most_of a.first) limit (is_tree kind)) (bounds (W.most_of a.first)) start (map exchange_of calls) run n (owner_by n w.names.rounds) owns in
      let room : w.names.snap.most ≡ most = most_after W (fresh_names W (a.first, limit)) (rename_calls calls) w.names a.names.run ∙ a.room in
      subst (λ (m : ℕ). IsOwnerReply m (map exchange_of calls) n (owner_over w n)) room (reported_right w.names.snap.most n (map exchange_of calls) (owner_by n w.names.rounds) is)

pub fresh : BeginsDesk
fresh c (OverGrid w) is = (is.0, subst (λ (x : _). ReachesDesk grid_places Rename c.m c.limit (pool_start c) x []) (sym is.1) (fresh_places grid_places Rename fresh_grid grid_empty c (grid_most c.world is.0)))
fresh c (OverTree w) is = (is.0, subst (λ (x : _). ReachesDesk tree_places Tree c.m c.limit (pool_start c) x []) (sym is.1) (fresh_places tree_places Tree new_tree tree_empty c (ap most_in is.0)))

-- the fresh desk of a world in which names are given
fresh_of : (c : Config) (kind : WorldKind) → c.world ≡ kind → gives_names kind ≡ true → IsFreshDesk c (fresh_in kind c)
fresh_of c kind is named = where_named (λ (k : WorldKind). c.world ≡ k → IsFreshDesk c (fresh_in k c)) kind named (λ rename. ((ap gives_names rename, ap is_tree rename), refl)) (λ tree. (tree, refl)) (λ wide. ((ap gives_names wide, ap is_tree wide), refl)) is

this_fresh : (c : Config) (w : DeskValue) → IsFreshDesk c w → IsThisDesk c w
this_fresh c (OverGrid w) is = record { named = is.0.0; is = rw is.0.1 (ap OverGrid is.1) }
this_fresh c (OverTree w) is = record { named = ap gives_names is.0; is = ap OverTree is.1 ∙ ap (λ (k : WorldKind). fresh_in k c) (sym is.0) }

pub fresh_is : HasFreshDesk
fresh_is c w = (this_fresh c w, λ this. subst (λ (x : DeskValue). IsFreshDesk c x) (sym this.is) (fresh_of c c.world refl this.named))

pub one_fresh : IsOneFreshDesk
one_fresh c (OverGrid w) (OverGrid u) is that = ap OverGrid (is.1 ∙ sym that.1)
one_fresh c (OverGrid w) (OverTree u) is that = absurd (let both : true ≡ false = sym (ap is_tree that.0) ∙ is.0.1 in cc)
one_fresh c (OverTree w) (OverGrid u) is that = absurd (let both : true ≡ false = sym (ap is_tree is.0) ∙ that.0.1 in cc)
one_fresh c (OverTree w) (OverTree u) is that = ap OverTree (is.1 ∙ sym that.1)

pub goes_on : DeskGoesOn
goes_on c (OverGrid w) calls a e r u (inl m) =
    let l = over.goes_on grid_places Rename c.m c.limit (pool_start c) w calls a.1 e r (after_over grid_places w e) (inl (m.0, refl)) in
    subst (λ (x : DeskValue). LeadsDesk c calls e r x) (sym m.1) (record { call = l.call; spelled = l.spelled; after = (a.0, l.after) })
goes_on c (OverGrid w) calls a e r u (inr m) = absurd (let no = m.2 in cc)
goes_on c (OverTree w) calls a e r u (inl m) =
    let l = over.goes_on tree_places Tree c.m c.limit (pool_start c) w calls a.1 e r (after_over tree_places w e) (inl (m.0, refl)) in
    subst (λ (x : DeskValue). LeadsDesk c calls e r x) (sym m.1) (record { call = l.call; spelled = l.spelled; after = (a.0, l.after) })
goes_on c (OverTree w) calls a e r u (inr m) =
    let l = over.goes_on tree_places Tree c.m c.limit (pool_start c) w calls a.1 e r w (inr (m.0, refl, m.2)) in
    subst (λ (x : DeskValue). LeadsDesk c calls e r x) (sym m.1) (record { call = l.call; spelled = l.spelled; after = (a.0, l.after) })

-- the run's numbers are those of the config's world
run_in : (c : Config) (kind : WorldKind) (r : List Exchange) → is_tree c.world ≡ is_tree kind → IsDeskRun (desk_terms c.m c.limit (is_tree kind)) (desk_bounds (is_tree kind) c.m) (pool_start c) r → IsDeskRunOf c r
run_in c kind r is run = subst (λ (b : Bool). IsDeskRun (desk_terms c.m c.limit b) (desk_bounds b c.m) (pool_start c) r) (sym is) run

pub law : DeskKeepsRuns
law c (OverGrid w) calls a = run_in c Rename (map exchange_of calls) a.0.1 (over.is_run grid_places Rename grid_bounds c.m c.limit (pool_start c) w calls (grid_lawful w.names) a.1)
law c (OverTree w) calls a = run_in c Tree (map exchange_of calls) (ap is_tree a.0) (over.is_run tree_places Tree tree_bounds c.m c.limit (pool_start c) w calls (tree_lawful w.names) a.1)

grid_grows : GrowsAsTree grid_places Rename
grid_grows = grid_ample

tree_grows : GrowsAsTree tree_places Tree
tree_grows s p h = refl

pub owner : DeskTellsOwners
owner (OverGrid w) n c calls a = owner_given grid_places Rename grid_bounds grid_laws grid_grows (λ b q. refl) c.m c.limit (pool_start c) w calls (grid_lawful w.names) a.1 n
owner (OverTree w) n c calls a = owner_given tree_places Tree tree_bounds tree_laws tree_grows (λ b q. refl) c.m c.limit (pool_start c) w calls (tree_lawful w.names) a.1 n

pub refusal : DeskRefusesAsSaid
refusal (OverGrid w) e c calls a = refuses_as_said grid_places w (λ p. answers_unrefused grid_places grid_laws Rename grid_grows (λ b q. refl) w.names p (a.1.first, c.limit) (rename_calls calls) a.1.names) e
refusal (OverTree w) e c calls a = refuses_as_said tree_places w (λ p. answers_unrefused tree_places tree_laws Tree tree_grows (λ b q. refl) w.names p (a.1.first, c.limit) (rename_calls calls) a.1.names) e

pub determined : IsDeskDetermined
determined = one_by_rules desk_rules
