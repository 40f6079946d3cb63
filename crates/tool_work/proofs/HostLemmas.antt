-- when no hosting has the matched options
use Rattle.std.proofs.Common.{ap, arith, inl, inr, refl, sym, subst, ◌≡◌, ◌∙◌, ◌<◌, ◌≤◌, ◌^◌, ℕ, List, Option, Some, None, Result, Ok, Err, ◌↔◌, Bool, MatchOption, IfOk, IfSome, IfNone, IsOk, IsSome, codes, true, false}
use Rattle.tool_work.proofs.Common.{result_ok, same_Some, Row, first_of, Config, Hosting}
use Rattle.std.specs.Borrow.{Bor}
use Rattle.std.specs.Net.Grammar.{IsIpText, Parses}
use Rattle.std.specs.Str.Parse.{IsNumeral, ParsesUnsigned, digits_value, without_leading_plus}
use Rattle.std.specs.declared.net.ip_addr.IpAddr.{IpAddr}
use Rattle.tool_work.specs.Asked.{AreEndpointsOf, HasAddress, HasMode, HasNumber, HasText, MayHavePort, AreAdmitted, HasHallWorld, IsHallOf, IsGraceOf, IsHoldingOf, IsHostingOf, IsIdleOf, IsKeepingOf, IsLogOf, StoreReads, asks_flag, asks_log, idle_of}
use Rattle.tool_work.specs.Ranges.{IsHostingRange, IsModeRange}
use Rattle.tool_work.specs.declared.asked.Admissions.{Admissions}
use Rattle.tool_work.specs.declared.asked.Endpoints.{Endpoints}
use Rattle.tool_work.specs.declared.asked.Keeping.{Keeping}
use Rattle.tool_work.specs.declared.asked.Holding.{Holding}
use Rattle.tool_work.specs.declared.asked.Holding.TheVariants.{Forever, Connection}
use Rattle.tool_work.specs.declared.asked.Keeping.TheVariants.{Nothing, Journal, NewJournal, Log}
use Rattle.tool_work.specs.declared.asked.LogWords.{LogWords}
use Rattle.model_asked.specs.Config.{is_wide, world_name}
use Rattle.model_asked.specs.Ranges.{IsConfigRange}
use Rattle.std.specs.Option.{unwrap_or}
use Rattle.model_asked.specs.declared.kind.WorldKind.{WorldKind}
use Rattle.model_asked.specs.declared.kind.WorldKind.TheVariants.{Rename}
use Rattle.model_asked.specs.lemmas.KindProofs.{named_apart}
use Rattle.model_steps.specs.declared.refusal.Refusal.{Refusal}
use Rattle.tool_work.specs.Asked.{hall_world, world_word}
use Rattle.tool_work.proofs.ConfigLemmas.{same_number}

-- no text is matched there, so no address is
pub no_address : (rows : List Row) (id : List ℕ) → None ≡ first_of id rows → (a : IpAddr) → HasAddress rows id a → ⊥
no_address rows id none a h = let bad : None ≡ Some h.0 = none ∙ h.1 in cc

-- what the matched text spells is the address, if it spells one
pub address_reported : {E : Type 0} (rows : List Row) (id text : List ℕ) (r : Result IpAddr E) → Some text ≡ first_of id rows → Parses IsIpText text r
    → MatchOption (result_ok r) ((a : IpAddr) → HasAddress rows id a → ⊥) (HasAddress rows id)
address_reported rows id text (Ok a) matched parses = (text, sym matched, parses)
address_reported rows id text (Err e) matched parses = λ a h. parses a (subst (λ (t : List ℕ). IsIpText t a) (sym (same_Some text h.0 (matched ∙ h.1))) h.2)

-- no text is matched, so no mode is
pub no_mode : (rows : List Row) → None ≡ first_of (codes "mode") rows → (m : ℕ) → m < 2 ^ 64 → HasMode rows m → ⊥
no_mode rows none m small h = let bad : None ≡ Some h.0 = none ∙ h.1 in cc

-- what the matched digits say is the mode, if they say one
pub mode_reported : {E : Type 0} (rows : List Row) (text : List ℕ) (r : Result ℕ E) → Some text ≡ first_of (codes "mode") rows → ParsesUnsigned 64 8 text r
    → MatchOption (result_ok r) ((m : ℕ) → m < 2 ^ 64 → HasMode rows m → ⊥) (HasMode rows)
mode_reported rows text (Ok m) matched parses = (text, sym matched, (parses.0.0, sym parses.1))
mode_reported rows text (Err e) matched parses = λ m small h.
    let same : h.0 ≡ text = same_Some h.0 text (sym h.1 ∙ sym matched) in
    let fits : digits_value 8 (without_leading_plus h.0) < 2 ^ 64 = rw h.2.1 small in
    parses (subst (λ (t : List ℕ). IsNumeral 8 (without_leading_plus t) × (digits_value 8 (without_leading_plus t) < 2 ^ 64)) same (h.2.0, fits))

-- two modes that are matched are one
same_mode : (rows : List Row) (m n : ℕ) → HasMode rows m → HasMode rows n → m ≡ n
same_mode rows m n h g =
    let same : h.0 ≡ g.0 = same_Some h.0 g.0 (sym h.1 ∙ g.1) in
    sym h.2.1 ∙ ap (λ t. digits_value 8 (without_leading_plus t)) same ∙ g.2.1

-- a number that is matched is the port, if it is one
pub port_reported : (rows : List Row) (id : List ℕ) (number : ℕ) (o : Option ℕ) → HasNumber rows id number → MatchOption o (65535 < number) (λ port. port ≡ number)
    → MatchOption o ((n : ℕ) → n < 2 ^ 16 → HasNumber rows id n → ⊥) (HasNumber rows id)
port_reported rows id number None has big = λ n small h.
    let same : n ≡ number = same_number rows id n number h has in
    let few : n ≤ 65535 = omega (arith, small) in
    let fits : number ≤ 65535 = rw same at few in
    absurd (omega (arith, big, fits))
port_reported rows id number (Some port) has is = subst (λ x. HasNumber rows id x) (sym is) has

-- what is made of the matched values are the endpoints, where there are any
pub reached : (rows : List Row) (address metrics_address : IpAddr) (port metrics : Option ℕ) (path : Option (Bor (List ℕ))) (mode : ℕ) (admin : Option (Bor (List ℕ))) (owners : Bool) (o : Option Endpoints)
    → HasAddress rows (codes "address") address → MayHavePort rows (codes "port") port → HasText rows (codes "unix") path → HasMode rows mode
    → HasText rows (codes "admin") admin → owners ≡ asks_flag (codes "owners") rows → HasAddress rows (codes "metrics-address") metrics_address → MayHavePort rows (codes "metrics") metrics
    → IfSome o (λ e. (e.address ≡ address) × (e.port ≡ port) × (e.unix ≡ path) × (e.mode ≡ mode)) → IfSome o (λ e. (e.admin ≡ admin) × (e.owners ≡ owners))
    → IfSome o (λ e. (e.metrics_address ≡ metrics_address) × (e.metrics ≡ metrics))
    → (IsSome o ↔ IsModeRange mode)
    → MatchOption o ((e : Endpoints) → AreEndpointsOf rows e → ⊥) (AreEndpointsOf rows)
reached rows address metrics_address port metrics path mode admin owners (Some e) has_address has_port has_path has_mode has_admin has_owners has_other has_metrics clients owns watchers range = record {
  address = subst (λ (x : IpAddr). HasAddress rows (codes "address") x) (sym clients.0) has_address;
  port = subst (λ (x : Option ℕ). MayHavePort rows (codes "port") x) (sym clients.1) has_port;
  unix = subst (λ (x : Option (Bor (List ℕ))). HasText rows (codes "unix") x) (sym clients.2) has_path;
  mode = subst (λ (x : ℕ). HasMode rows x) (sym clients.3) has_mode;
  admin = subst (λ (x : Option (Bor (List ℕ))). HasText rows (codes "admin") x) (sym owns.0) has_admin;
  owners = owns.1 ∙ has_owners;
  metrics_address = subst (λ (x : IpAddr). HasAddress rows (codes "metrics-address") x) (sym watchers.0) has_other;
  metrics = subst (λ (x : Option ℕ). MayHavePort rows (codes "metrics") x) (sym watchers.1) has_metrics;
}
reached rows address metrics_address port metrics path mode admin owners None has_address has_port has_path has_mode has_admin has_owners has_other has_metrics clients owns watchers range = λ e is.
    let fits = e.in_range in
    let alike : e.mode ≡ mode = same_mode rows e.mode mode is.mode has_mode in
    let bad : false ≡ true = range.1 (rw alike at fits) in
    cc

-- two holdings that are matched have one idle time
same_idle_of : (rows : List Row) (a b : Holding) → IsHoldingOf rows a → IsHoldingOf rows b → idle_of a ≡ idle_of b
same_idle_of rows Forever Forever h k = refl
same_idle_of rows Forever (Connection g) h k = let bad : codes "forever" ≡ codes "connection" = same_Some (codes "forever") (codes "connection") (sym h.0 ∙ k.0) in absurd cc
same_idle_of rows (Connection g) Forever h k = let bad : codes "connection" ≡ codes "forever" = same_Some (codes "connection") (codes "forever") (sym h.0 ∙ k.0) in absurd cc
same_idle_of rows (Connection f) (Connection g) h k = refl

same_idle_by : (rows : List Row) (a b : Holding) (m n : ℕ) → IsHoldingOf rows a → IsHoldingOf rows b → m < 2 ^ 64 → n < 2 ^ 64 → IsIdleOf rows a m → IsIdleOf rows b n → m ≡ n
same_idle_by rows a b m n held held' small small' (inl h) (inl k) = same_number rows (codes "idle") m n h k
same_idle_by rows a b m n held held' small small' (inl h) (inr k) = absurd (k.0 m small h)
same_idle_by rows a b m n held held' small small' (inr h) (inl k) = absurd (h.0 n small' k)
same_idle_by rows a b m n held held' small small' (inr h) (inr k) = h.1 ∙ same_idle_of rows a b held held' ∙ sym k.1

-- what the word of the world names is the world of the hall, if there is one
hall_world_reported : (rows : List Row) (word : List ℕ) (r : Option WorldKind) → word ≡ world_word rows
    → IfSome r (λ w. (world_name w ≡ word) × (is_wide w ≡ false)) → IfNone r ((w : WorldKind) → world_name w ≡ word → is_wide w ≡ false → ⊥)
    → MatchOption r ((w : WorldKind) → HasHallWorld rows w → ⊥) (HasHallWorld rows)
hall_world_reported rows word None matched some none = λ w h. none w (sym (matched ∙ h.0)) h.1
hall_world_reported rows word (Some w) matched some none = (sym matched ∙ sym some.0, some.1)

pub hall_world_named : (rows : List Row) (word : List ℕ) (r : Option WorldKind) → Some word ≡ first_of (codes "world") rows
    → IfSome r (λ w. (world_name w ≡ word) × (is_wide w ≡ false)) → IfNone r ((w : WorldKind) → world_name w ≡ word → is_wide w ≡ false → ⊥)
    → MatchOption r ((w : WorldKind) → HasHallWorld rows w → ⊥) (HasHallWorld rows)
hall_world_named rows word r matched some none = hall_world_reported rows word r (ap (λ (o : Option (List ℕ)). unwrap_or o (codes "rename")) matched) some none

-- where no world is named it is `rename`
pub hall_world_absent : (rows : List Row) → None ≡ first_of (codes "world") rows → HasHallWorld rows Rename
hall_world_absent rows none = (sym (ap (λ (o : Option (List ℕ)). unwrap_or o (codes "rename")) none), refl)

-- two worlds that are asked for are one
same_hall_world : (rows : List Row) (w u : WorldKind) → HasHallWorld rows w → HasHallWorld rows u → w ≡ u
same_hall_world rows w u h g = named_apart w u (sym h.0 ∙ g.0)

-- and so are those of two halls
same_hall : (rows : List Row) (c d : Config) → IsHallOf rows c → IsHallOf rows d → c.world ≡ d.world
same_hall rows c d h g =
    let same_k : c.k ≡ d.k = same_number rows (codes "k") c.k d.k h.k g.k in
    h.world ∙ ap (λ w. hall_world w c.k) (same_hall_world rows h.asked g.asked h.names g.names) ∙ ap (hall_world g.asked) same_k ∙ sym g.world

-- what is made of the world of the hall and the matched numbers is its config, where there is one
pub hall_made : (rows : List Row) (asked w : WorldKind) (m k limit : ℕ) (r : Result Config Refusal)
    → HasHallWorld rows asked → w ≡ hall_world asked k → HasNumber rows (codes "m") m → HasNumber rows (codes "k") k → HasNumber rows (codes "limit") limit
    → IfOk r (λ c. (c.world ≡ w) × (c.m ≡ m) × (c.k ≡ k) × (c.limit ≡ limit)) → (IsOk r ↔ IsConfigRange w m k limit)
    → MatchOption (result_ok r) ((c : Config) → IsHallOf rows c → ⊥) (IsHallOf rows)
hall_made rows asked w m k limit (Ok c) names by_size has_m has_k has_limit values range = record {
  asked = asked;
  names = names;
  world = values.0 ∙ by_size ∙ ap (hall_world asked) (sym values.2);
  m = subst (λ x. HasNumber rows (codes "m") x) (sym values.1) has_m;
  k = subst (λ x. HasNumber rows (codes "k") x) (sym values.2) has_k;
  limit = subst (λ x. HasNumber rows (codes "limit") x) (sym values.3) has_limit;
}
hall_made rows asked w m k limit (Err e) names by_size has_m has_k has_limit values range = λ c h.
    let same_m : c.m ≡ m = same_number rows (codes "m") c.m m h.m has_m in
    let same_k : c.k ≡ k = same_number rows (codes "k") c.k k h.k has_k in
    let same_limit : c.limit ≡ limit = same_number rows (codes "limit") c.limit limit h.limit has_limit in
    let fits = c.in_range in
    let same_kind : c.world ≡ w = h.world ∙ ap (λ a. hall_world a c.k) (same_hall_world rows h.asked asked h.names names) ∙ ap (hall_world asked) same_k ∙ sym by_size in
    let bad : false ≡ true = range.1 (rw (same_kind, same_m, same_k, same_limit) at fits) in
    cc

-- what is made of the matched values is the hosting, where there is one
pub hosted : (rows : List Row) (c : Config) (admissions : Admissions) (endpoints : Endpoints) (clients idle : ℕ) (holding : Holding) (stores : Bool) (keeping : Keeping) (verbose : Bool) (log pools : Option (Bor (List ℕ))) (o : Option Hosting)
    → IsHallOf rows c → AreAdmitted rows admissions → AreEndpointsOf rows endpoints → HasNumber rows (codes "clients") clients → IsIdleOf rows holding idle
    → IsHoldingOf rows holding → StoreReads rows stores → IsKeepingOf rows keeping → verbose ≡ asks_flag (codes "verbose") rows → HasText rows (codes "log") log → HasText rows (codes "pools") pools
    → IfSome o (λ h. (h.config ≡ c) × (h.clients ≡ clients) × (h.idle ≡ idle)) → IfSome o (λ h. (h.endpoints ≡ endpoints) × (h.keeping ≡ keeping) × (h.verbose ≡ verbose) × (h.holding ≡ holding) × (h.stores_reads ≡ stores)) → IfSome o (λ h. (h.log ≡ log) × (h.pools ≡ pools)) → IfSome o (λ h. h.admissions ≡ admissions)
    → (IsSome o ↔ IsHostingRange c.world clients idle) → idle < 2 ^ 64
    → MatchOption o ((h : Hosting) → IsHostingOf rows h → ⊥) (IsHostingOf rows)
hosted rows c admissions endpoints clients idle holding stores keeping verbose log pools (Some h) config has_admissions has_endpoints has_clients has_idle has_holding has_reads has_keeping asks has_log has_pools sizes others logs admits range small = record {
  config = subst (λ (x : Config). IsHallOf rows x) (sym sizes.0) config;
  admissions = subst (λ (x : Admissions). AreAdmitted rows x) (sym admits) has_admissions;
  endpoints = subst (λ (x : Endpoints). AreEndpointsOf rows x) (sym others.0) has_endpoints;
  clients = subst (λ x. HasNumber rows (codes "clients") x) (sym sizes.1) has_clients;
  idle = subst (λ (x : Holding). IsIdleOf rows x h.idle) (sym others.3) (subst (λ (x : ℕ). IsIdleOf rows holding x) (sym sizes.2) has_idle);
  keeping = subst (λ (x : Keeping). IsKeepingOf rows x) (sym others.1) has_keeping;
  verbose = others.2 ∙ asks;
  log = subst (λ (x : Option (Bor (List ℕ))). HasText rows (codes "log") x) (sym logs.0) has_log;
  pools = subst (λ (x : Option (Bor (List ℕ))). HasText rows (codes "pools") x) (sym logs.1) has_pools;
  holding = subst (λ (x : Holding). IsHoldingOf rows x) (sym others.3) has_holding;
  reads = subst (λ (x : Bool). StoreReads rows x) (sym others.4) has_reads;
}
hosted rows c admissions endpoints clients idle holding stores keeping verbose log pools None config has_admissions has_endpoints has_clients has_idle has_holding has_reads has_keeping asks has_log has_pools sizes others logs admits range small = λ h is.
    let same_clients : h.clients ≡ clients = same_number rows (codes "clients") h.clients clients is.clients has_clients in
    let same_idle : h.idle ≡ idle = same_idle_by rows h.holding holding h.idle idle is.holding has_holding (let fits = h.in_range in omega arith) small is.idle has_idle in
    let same_kind : h.config.world ≡ c.world = same_hall rows h.config c is.config config in
    let fits = h.in_range in
    let bad : false ≡ true = range.1 (rw (same_clients, same_idle, same_kind) at fits) in
    cc

-- no text is matched there, so no log has it
pub no_members : (rows : List Row) → None ≡ first_of (codes "etcd") rows → (l : LogWords) → IsLogOf rows l → ⊥
no_members rows none l h = let bad : None ≡ Some l.members.now = none ∙ h.members in cc

-- a journal and a log together are neither
pub not_both : (rows : List Row) (path : List ℕ) → Some path ≡ first_of (codes "journal") rows → asks_log rows ≡ true → (k : Keeping) → IsKeepingOf rows k → ⊥
not_both rows path has asks Nothing h = let bad : Some path ≡ None = has ∙ h.0 in cc
not_both rows path has asks (Journal other) h = let bad : true ≡ false = sym asks ∙ h.2 in cc
not_both rows path has asks (NewJournal other) h = let bad : true ≡ false = sym asks ∙ h.2 in cc
not_both rows path has asks (Log l) h = let bad : Some path ≡ None = has ∙ h.0 in cc

-- `--new` with no journal is nothing
pub not_new : (rows : List Row) → None ≡ first_of (codes "journal") rows → asks_flag (codes "new") rows ≡ true → (k : Keeping) → IsKeepingOf rows k → ⊥
not_new rows none new Nothing h = let bad : true ≡ false = sym new ∙ h.1 in cc
not_new rows none new (Journal path) h = let bad : None ≡ Some path.now = none ∙ h.0 in cc
not_new rows none new (NewJournal path) h = let bad : None ≡ Some path.now = none ∙ h.0 in cc
not_new rows none new (Log l) h = let bad : true ≡ false = sym new ∙ h.1 in cc

-- a number outside its range is no grace time
pub no_grace : (rows : List Row) (n : ℕ) → n < 2 ^ 64 → HasNumber rows (codes "grace") n → 86400 < n → (g : ℕ) → IsGraceOf rows g → ⊥
no_grace rows n small has over g (inl h) = let same : g ≡ n = same_number rows (codes "grace") g n h.0 has in omega (arith, over, same, h.2)
no_grace rows n small has over g (inr h) = h.0 n small has

-- a grace time, where stays are held for ever, is none
pub no_forever : (rows : List Row) (text : List ℕ) → Some text ≡ first_of (codes "hold") rows → text ≡ codes "forever" → (n : ℕ) → n < 2 ^ 64 → HasNumber rows (codes "grace") n → (h : Holding) → IsHoldingOf rows h → ⊥
no_forever rows text matched word n small has Forever h = h.1 n small has
no_forever rows text matched word n small has (Connection g) h = let bad : codes "forever" ≡ codes "connection" = sym word ∙ same_Some text (codes "connection") (matched ∙ h.0) in cc

-- stays are held by connections with no other grace time than the one that is given
pub no_connection : (rows : List Row) (text : List ℕ) → Some text ≡ first_of (codes "hold") rows → text ≡ codes "connection" → ((g : ℕ) → IsGraceOf rows g → ⊥) → (h : Holding) → IsHoldingOf rows h → ⊥
no_connection rows text matched word none Forever h = let bad : codes "connection" ≡ codes "forever" = sym word ∙ same_Some text (codes "forever") (matched ∙ h.0) in cc
no_connection rows text matched word none (Connection g) h = none g h.1
