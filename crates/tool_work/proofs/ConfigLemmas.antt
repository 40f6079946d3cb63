-- when no config, run or drawing has the matched options
use Rattle.std.proofs.Common.{ap, sym, subst, ◌≡◌, ◌∙◌, ◌<◌, ◌^◌, ℕ, List, Option, Some, None, Result, Ok, Err, IfOk, IsOk, ◌↔◌, Bool, MatchOption, IfSome, IsSome, codes, refl, true, false, arith, IfNone}
use Rattle.tool_work.proofs.Common.{result_ok, same_Some, Config, Drawing, Playing, Racing, Serving, Showing}
use Rattle.std.specs.Str.Parse.{ParsesUnsigned, digits_value, without_leading_plus}
use Rattle.clap.specs.Words.{ReadsOne, Row, first_of, one_of}
use Rattle.model_asked.specs.Config.{is_wide, world_name}
use Rattle.model_asked.specs.Ranges.{IsConfigRange}
use Rattle.model_asked.specs.lemmas.ConfigProofs.{few_numbers, few_take_part}
use Rattle.model_steps.specs.declared.refusal.Refusal.{Refusal}
use Rattle.model_asked.specs.declared.kind.WorldKind.{WorldKind}
use Rattle.tool_work.specs.Asked.{HasNumber, HasWorld, IsConfigOf, IsDrawingOf, IsPlayingOf, IsRacingOf, IsServingOf, IsShowingOf, asks_flag}
use Rattle.model_asked.specs.lemmas.KindProofs.{named_apart}
use Rattle.tool_work.specs.Ranges.{CanBeWritten, IsDrawingRange, IsRacingRange, IsServingRange, IsShowingRange}

pub unless_some : {T : Type 0} (o : Option T) (P : Type 0) (Q : T → Type 0) → o ≡ None → P → MatchOption o P Q
unless_some o P Q e p = subst (λ w. MatchOption w P Q) (sym e) p

-- no name is matched, so no world's is
pub no_world : (rows : List Row) → None ≡ first_of (codes "world") rows → (w : WorldKind) → HasWorld rows w → ⊥
no_world rows none w h = let bad : None ≡ Some (world_name w) = none ∙ h.0 in cc

-- what the matched name gives is the world, if there is one
pub world_reported : (rows : List Row) (word : List ℕ) (r : Option WorldKind) → Some word ≡ first_of (codes "world") rows
    → IfSome r (λ w. (world_name w ≡ word) × (is_wide w ≡ false)) → IfNone r ((w : WorldKind) → world_name w ≡ word → is_wide w ≡ false → ⊥)
    → MatchOption r ((w : WorldKind) → HasWorld rows w → ⊥) (HasWorld rows)
world_reported rows word None matched some none = λ w h. none w (sym (same_Some word (world_name w) (matched ∙ h.0))) h.1
world_reported rows word (Some w) matched some none = (sym matched ∙ ap Some (sym some.0), some.1)

-- what `get_one` reads as a `u64`
abbrev pub Reads : {E : Type 0} → (List ℕ → Result ℕ E → Type 0) → Type 0
Reads {E} gives = (t : List ℕ) (r : Result ℕ E) → gives t r → ParsesUnsigned 64 10 t r

-- no number is written there that fits
no_number : {E : Type 0} (gives : List ℕ → Result ℕ E → Type 0) → Reads gives → (rows : List Row) (id : List ℕ)
    → ((t : List ℕ) → one_of id rows ≡ Some t → ReadsOne gives t None)
    → (n : ℕ) → n < 2 ^ 64 → HasNumber rows id n → ⊥
no_number gives reads rows id value n small h =
    let bad = value h.0 h.1 in
    let fits : digits_value 10 (without_leading_plus h.0) < 2 ^ 64 = rw h.2.1 small in
    reads h.0 (Err bad.0) bad.1 (h.2.0, fits)

-- a number that was read is written there
number_read : {E : Type 0} (gives : List ℕ → Result ℕ E → Type 0) → Reads gives → (rows : List Row) (id : List ℕ) (n : ℕ)
    → (one_of id rows ≡ None → Some n ≡ None)
    → ((t : List ℕ) → one_of id rows ≡ Some t → ReadsOne gives t (Some n))
    → HasNumber rows id n
number_read gives reads rows id n none value = go (one_of id rows) refl
  where
    go : (o : Option (List ℕ)) → one_of id rows ≡ o → HasNumber rows id n
    go None e =
        let bad : Some n ≡ None = none e in
        cc
    go (Some t) e =
        let read = reads t (Ok n) (value t e) in
        (t, e, (read.0.0, sym read.1))

-- what was read is the number that is written there, if one is that fits
pub number_reported : {E : Type 0} (gives : List ℕ → Result ℕ E → Type 0) → Reads gives → (rows : List Row) (id : List ℕ) (r : Option ℕ)
    → (one_of id rows ≡ None → r ≡ None) → ((t : List ℕ) → one_of id rows ≡ Some t → ReadsOne gives t r)
    → MatchOption r ((n : ℕ) → n < 2 ^ 64 → HasNumber rows id n → ⊥) (HasNumber rows id)
number_reported gives reads rows id None none value = no_number gives reads rows id value
number_reported gives reads rows id (Some n) none value = number_read gives reads rows id n none value

-- two numbers that are written there are one
pub same_number : (rows : List Row) (id : List ℕ) (m n : ℕ) → HasNumber rows id m → HasNumber rows id n → m ≡ n
same_number rows id m n h g =
    let same : h.0 ≡ g.0 = same_Some h.0 g.0 (sym h.1 ∙ g.1) in
    sym h.2.1 ∙ ap (λ t. digits_value 10 (without_leading_plus t)) same ∙ g.2.1

-- two worlds that are matched there are one
pub same_world : (rows : List Row) (w u : WorldKind) → HasWorld rows w → HasWorld rows u → w ≡ u
same_world rows w u h g = named_apart w u (same_Some (world_name w) (world_name u) (sym h.0 ∙ g.0))

-- a config's most participants are a number that is read
pub most_fits : (c : Config) → c.m < 2 ^ 64
most_fits c = let few = few_take_part c in omega arith

-- and so is the size of its pool
pub size_fits : (c : Config) → c.k < 2 ^ 64
size_fits c = let few = few_numbers c in omega arith

-- what is made of the matched world and numbers is the config, where there is one
pub made : (rows : List Row) (w : WorldKind) (m k limit : ℕ) (r : Result Config Refusal)
    → HasWorld rows w → HasNumber rows (codes "m") m → HasNumber rows (codes "k") k → HasNumber rows (codes "limit") limit
    → IfOk r (λ c. (c.world ≡ w) × (c.m ≡ m) × (c.k ≡ k) × (c.limit ≡ limit)) → (IsOk r ↔ IsConfigRange w m k limit)
    → MatchOption (result_ok r) ((c : Config) → IsConfigOf rows c → ⊥) (IsConfigOf rows)
made rows w m k limit (Ok c) world has_m has_k has_limit values range = record {
  world = subst (λ (x : WorldKind). HasWorld rows x) (sym values.0) world;
  m = subst (λ x. HasNumber rows (codes "m") x) (sym values.1) has_m;
  k = subst (λ x. HasNumber rows (codes "k") x) (sym values.2) has_k;
  limit = subst (λ x. HasNumber rows (codes "limit") x) (sym values.3) has_limit;
}
made rows w m k limit (Err e) world has_m has_k has_limit values range = λ c h.
    let same_m : c.m ≡ m = same_number rows (codes "m") c.m m h.m has_m in
    let same_k : c.k ≡ k = same_number rows (codes "k") c.k k h.k has_k in
    let same_limit : c.limit ≡ limit = same_number rows (codes "limit") c.limit limit h.limit has_limit in
    let fits = c.in_range in
    let bad : false ≡ true = range.1 (rw (same_world rows c.world w h.world world, same_m, same_k, same_limit) at fits) in
    cc

-- what is made of the matched config and flag is the run, where there is one
pub played : (rows : List Row) (config : Config) (recorded : Bool) (o : Option Playing) → IsConfigOf rows config → recorded ≡ asks_flag (codes "record") rows
    → IfSome o (λ p. (p.config ≡ config) × (p.recorded ≡ recorded)) → (IsSome o ↔ CanBeWritten recorded config.world)
    → MatchOption o ((p : Playing) → IsPlayingOf rows p → ⊥) (IsPlayingOf rows)
played rows config recorded (Some p) has asks values written = record { config = subst (IsConfigOf rows) (sym values.0) has; recorded = values.1 ∙ asks }
played rows config recorded None has asks values written = λ p h.
    let fits = p.written in
    let same : p.recorded ≡ recorded = h.recorded ∙ sym asks in
    let bad : false ≡ true = written.1 (rw (same, same_world rows p.config.world config.world h.config.world has.world) at fits) in
    cc

-- a config in its range is made
pub config_made : (rows : List Row) (w : WorldKind) (m limit : ℕ) (r : Result Config Refusal) → HasWorld rows w → HasNumber rows (codes "m") m → HasNumber rows (codes "limit") limit → (IsOk r ↔ IsConfigRange w m 4 limit) →
    result_ok r ≡ None → (d : Drawing) → IsDrawingOf rows d → ⊥
config_made rows w m limit (Ok c) world has_m has_limit range none d h = absurd cc
config_made rows w m limit (Err e) world has_m has_limit range none d h =
    let same_m : d.config.m ≡ m = same_number rows (codes "m") d.config.m m h.m has_m in
    let same_limit : d.config.limit ≡ limit = same_number rows (codes "limit") d.config.limit limit h.limit has_limit in
    let fits = d.config.in_range in
    let bad : false ≡ true = range.1 (rw (same_world rows d.config.world w h.world world, same_m, h.k, same_limit) at fits) in
    cc

-- what is made of the matched numbers and the config is the drawing, where there is one
pub drawn : (rows : List Row) (seed ids steps runs jobs m limit : ℕ) (w : WorldKind) (c : Config) (o : Option Drawing)
    → HasNumber rows (codes "seed") seed → HasNumber rows (codes "ids") ids → HasNumber rows (codes "steps") steps → HasNumber rows (codes "runs") runs → HasNumber rows (codes "jobs") jobs
    → HasWorld rows w → HasNumber rows (codes "m") m → HasNumber rows (codes "limit") limit
    → (c.world ≡ w) × (c.m ≡ m) × (c.k ≡ 4) × (c.limit ≡ limit)
    → IfSome o (λ d. (d.seed ≡ seed) × (d.ids ≡ ids) × (d.steps ≡ steps) × (d.runs ≡ runs) × (d.jobs ≡ jobs) × (d.config ≡ c)) → (IsSome o ↔ IsDrawingRange seed ids steps runs jobs c.world)
    → MatchOption o ((d : Drawing) → IsDrawingOf rows d → ⊥) (IsDrawingOf rows)
drawn rows seed ids steps runs jobs m limit w c (Some d) has_seed has_ids has_steps has_runs has_jobs world has_m has_limit sizes values range = record {
  seed = subst (λ x. HasNumber rows (codes "seed") x) (sym values.0) has_seed;
  ids = subst (λ x. HasNumber rows (codes "ids") x) (sym values.1) has_ids;
  steps = subst (λ x. HasNumber rows (codes "steps") x) (sym values.2) has_steps;
  runs = subst (λ x. HasNumber rows (codes "runs") x) (sym values.3) has_runs;
  jobs = subst (λ x. HasNumber rows (codes "jobs") x) (sym values.4) has_jobs;
  world = subst (λ (x : WorldKind). HasWorld rows x) (sym (ap (λ (x : Config). x.world) values.5 ∙ sizes.0)) world;
  m = subst (λ x. HasNumber rows (codes "m") x) (sym (ap (λ (x : Config). x.m) values.5 ∙ sizes.1)) has_m;
  limit = subst (λ x. HasNumber rows (codes "limit") x) (sym (ap (λ (x : Config). x.limit) values.5 ∙ sizes.3)) has_limit;
  k = ap (λ (x : Config). x.k) values.5 ∙ sizes.2;
}
drawn rows seed ids steps runs jobs m limit w c None has_seed has_ids has_steps has_runs has_jobs world has_m has_limit sizes values range = λ d h.
    let same_seed : d.seed ≡ seed = same_number rows (codes "seed") d.seed seed h.seed has_seed in
    let same_ids : d.ids ≡ ids = same_number rows (codes "ids") d.ids ids h.ids has_ids in
    let same_steps : d.steps ≡ steps = same_number rows (codes "steps") d.steps steps h.steps has_steps in
    let same_runs : d.runs ≡ runs = same_number rows (codes "runs") d.runs runs h.runs has_runs in
    let same_jobs : d.jobs ≡ jobs = same_number rows (codes "jobs") d.jobs jobs h.jobs has_jobs in
    let same_kind : d.config.world ≡ c.world = same_world rows d.config.world w h.world world ∙ sym sizes.0 in
    let fits = d.in_range in
    let bad : false ≡ true = range.1 (rw (same_seed, same_ids, same_steps, same_runs, same_jobs, same_kind) at fits) in
    cc

-- what holds of a result's value
pub value_is : {T E : Type 0} (r : Result T E) (x : T) (P : T → Type 0) → result_ok r ≡ Some x → IfOk r P → P x
value_is (Ok y) x P is p = subst P (same_Some y x is) p
value_is (Err e) x P is p = absurd cc

-- what is made of the matched config and numbers is the serving, where there is one
pub served : (rows : List Row) (c : Config) (port workers count : ℕ) (o : Option Serving)
    → IsConfigOf rows c → HasNumber rows (codes "port") port → HasNumber rows (codes "workers") workers → HasNumber rows (codes "count") count
    → IfSome o (λ s. (s.config ≡ c) × (s.port ≡ port) × (s.workers ≡ workers) × (s.count ≡ count)) → (IsSome o ↔ IsServingRange c.world port workers count)
    → MatchOption o ((s : Serving) → IsServingOf rows s → ⊥) (IsServingOf rows)
served rows c port workers count (Some s) config has_port has_workers has_count values range = record {
  config = subst (λ (x : Config). IsConfigOf rows x) (sym values.0) config;
  port = subst (λ x. HasNumber rows (codes "port") x) (sym values.1) has_port;
  workers = subst (λ x. HasNumber rows (codes "workers") x) (sym values.2) has_workers;
  count = subst (λ x. HasNumber rows (codes "count") x) (sym values.3) has_count;
}
served rows c port workers count None config has_port has_workers has_count values range = λ s h.
    let same_port : s.port ≡ port = same_number rows (codes "port") s.port port h.port has_port in
    let same_workers : s.workers ≡ workers = same_number rows (codes "workers") s.workers workers h.workers has_workers in
    let same_count : s.count ≡ count = same_number rows (codes "count") s.count count h.count has_count in
    let same_kind : s.config.world ≡ c.world = same_world rows s.config.world c.world h.config.world config.world in
    let fits = s.in_range in
    let bad : false ≡ true = range.1 (rw (same_port, same_workers, same_count, same_kind) at fits) in
    cc

-- what is made of the matched numbers is the race, where there is one
pub raced : (rows : List Row) (threads rounds seed : ℕ) (o : Option Racing) → HasNumber rows (codes "threads") threads → HasNumber rows (codes "rounds") rounds → HasNumber rows (codes "seed") seed
    → IfSome o (λ r. (r.threads ≡ threads) × (r.rounds ≡ rounds) × (r.seed ≡ seed)) → (IsSome o ↔ IsRacingRange threads rounds seed)
    → MatchOption o ((r : Racing) → IsRacingOf rows r → ⊥) (IsRacingOf rows)
raced rows threads rounds seed (Some r) has_threads has_rounds has_seed values range = record {
  threads = subst (λ x. HasNumber rows (codes "threads") x) (sym values.0) has_threads;
  rounds = subst (λ x. HasNumber rows (codes "rounds") x) (sym values.1) has_rounds;
  seed = subst (λ x. HasNumber rows (codes "seed") x) (sym values.2) has_seed;
}
raced rows threads rounds seed None has_threads has_rounds has_seed values range = λ r h.
    let same_threads : r.threads ≡ threads = same_number rows (codes "threads") r.threads threads h.threads has_threads in
    let same_rounds : r.rounds ≡ rounds = same_number rows (codes "rounds") r.rounds rounds h.rounds has_rounds in
    let same_seed : r.seed ≡ seed = same_number rows (codes "seed") r.seed seed h.seed has_seed in
    let fits = r.in_range in
    let bad : false ≡ true = range.1 (rw (same_threads, same_rounds, same_seed) at fits) in
    cc

-- what is made of the matched numbers is the showing, where there is one
pub shown : (rows : List Row) (from count : ℕ) (o : Option Showing) → HasNumber rows (codes "from") from → HasNumber rows (codes "count") count
    → IfSome o (λ s. (s.from ≡ from) × (s.count ≡ count)) → (IsSome o ↔ IsShowingRange from count) → MatchOption o ((s : Showing) → IsShowingOf rows s → ⊥) (IsShowingOf rows)
shown rows from count (Some s) has_from has_count values range = record {
  from = subst (λ x. HasNumber rows (codes "from") x) (sym values.0) has_from;
  count = subst (λ x. HasNumber rows (codes "count") x) (sym values.1) has_count;
}
shown rows from count None has_from has_count values range = λ s h.
    let same_from : s.from ≡ from = same_number rows (codes "from") s.from from h.from has_from in
    let same_count : s.count ≡ count = same_number rows (codes "count") s.count count h.count has_count in
    let fits = s.in_range in
    let bad : false ≡ true = range.1 (rw (same_from, same_count) at fits) in
    cc
