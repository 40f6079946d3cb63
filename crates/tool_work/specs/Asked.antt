-- what words ask for
use Rattle.std.specs.Prelude.{◌≡◌, ◌⊎◌, ◌||◌, ◌<◌, ◌≤◌, ◌^◌, MatchOption, ℕ, nat_le, if◌then◌else◌, Bool, true, false, not, ⊤, List, [], Option, Some, None, is_some, codes, Result, Ok, Err}
use Rattle.std.specs.Str.{bytes_eq}
use Rattle.std.specs.Str.Parse.{IsNumeral, digits_value, without_leading_plus}
use Rattle.std.specs.List.{list_any}
use Rattle.std.specs.Borrow.{Bor}
use Rattle.std.specs.Option.{option_map, option_map_or, unwrap_or}
use Rattle.std.specs.Net.Grammar.{IsIpText}
use Rattle.std.specs.declared.net.ip_addr.IpAddr.{IpAddr}
use Rattle.clap.specs.Faults.{fault_of}
use Rattle.clap.specs.Words.{Kinds, Row, first_of, one_of, subcommand_of}
use Rattle.clap.specs.declared.error.kind.ErrorKind.{ErrorKind}
use Rattle.clap.specs.declared.error.kind.ErrorKind.TheVariants.{DisplayHelp, DisplayHelpOnMissingArgumentOrSubcommand, DisplayVersion, OutOfMemory}
use Rattle.model_asked.specs.Config.{is_wide, world_name}
use Rattle.model_asked.specs.declared.config.Config.{Config}
use Rattle.model_asked.specs.declared.kind.WorldKind.{WorldKind}
use Rattle.model_asked.specs.declared.kind.WorldKind.TheVariants.{Rename, Wide}
use Rattle.tool_work.specs.CommandLine.{slotctl_app}
use Rattle.tool_work.specs.declared.asked.Ask.{Ask}
use Rattle.tool_work.specs.declared.asked.Ask.TheVariants.{Play, Check, Migrate, Show, Draw, Race, Serve, Host, Held}
use Rattle.tool_work.specs.declared.asked.Admissions.{Admissions}
use Rattle.tool_work.specs.declared.asked.Drawing.{Drawing}
use Rattle.tool_work.specs.declared.asked.Endpoints.{Endpoints}
use Rattle.tool_work.specs.declared.asked.Hosting.{Hosting}
use Rattle.tool_work.specs.declared.asked.Keeping.{Keeping}
use Rattle.tool_work.specs.declared.asked.Keeping.TheVariants.{Nothing, Journal, NewJournal, Log}
use Rattle.tool_work.specs.declared.asked.Holding.{Holding}
use Rattle.tool_work.specs.declared.asked.Holding.TheVariants.{Forever, Connection}
use Rattle.tool_work.specs.declared.asked.LogWords.{LogWords}
use Rattle.tool_work.specs.declared.asked.Racing.{Racing}
use Rattle.tool_work.specs.declared.asked.Serving.{Serving}
use Rattle.tool_work.specs.declared.asked.Playing.{Playing}
use Rattle.tool_work.specs.declared.asked.Showing.{Showing}
use Rattle.tool_work.specs.declared.misuse.Misuse.{Misuse}
use Rattle.tool_work.specs.declared.misuse.Misuse.TheVariants.{Help, Words, Memory}

-- the text is decimal digits of this number, and a plus may stand first
abbrev pub WritesNumber : List ℕ → ℕ → Type 0
WritesNumber text n = IsNumeral 10 (without_leading_plus text) × (digits_value 10 (without_leading_plus text) ≡ n)

-- an option's value among what clap matched is a text of this number
abbrev pub HasNumber : List Row → List ℕ → ℕ → Type 0
HasNumber rows id n = (text : List ℕ) × (one_of id rows ≡ Some text) × WritesNumber text n

-- what is given is this by what clap matched, and nothing is given where nothing is this
abbrev pub IsGiven : {T : Type 0} → (List Row → T → Type 0) → List Row → Option T → Type 0
IsGiven {T = T} IsIt rows given = MatchOption given ((x : T) → IsIt rows x → ⊥) (IsIt rows)

-- the world's name is among what clap matched; `wide` is no world for anybody who types it
abbrev pub HasWorld : List Row → WorldKind → Type 0
HasWorld rows world = (first_of (codes "world") rows ≡ Some (world_name world)) × (is_wide world ≡ false)

-- the config that the options of `play` and of `serve` give: the world's name and the numbers as clap matched them, each number in its
-- range
pub record IsConfigOf (rows : List Row) (c : Config) : Type 0 where
  pub world : HasWorld rows c.world
  pub m : HasNumber rows (codes "m") c.m
  pub k : HasNumber rows (codes "k") c.k
  pub limit : HasNumber rows (codes "limit") c.limit

-- whether a flag is among what clap matched, which gives the text `true` to one that is
abbrev pub asks_flag : List ℕ → List Row → Bool
asks_flag name rows = option_map_or (λ text. bytes_eq text (codes "true")) (first_of name rows) false

-- the run that the options of `play` give
pub record IsPlayingOf (rows : List Row) (p : Playing) : Type 0 where
  pub config : IsConfigOf rows p.config
  pub recorded : p.recorded ≡ asks_flag (codes "record") rows

-- the drawing that the options of `draw` give, as clap matched them, each number in its range; the pool, which no drawn
-- event uses, has four numbers
pub record IsDrawingOf (rows : List Row) (d : Drawing) : Type 0 where
  pub seed : HasNumber rows (codes "seed") d.seed
  pub ids : HasNumber rows (codes "ids") d.ids
  pub steps : HasNumber rows (codes "steps") d.steps
  pub runs : HasNumber rows (codes "runs") d.runs
  pub jobs : HasNumber rows (codes "jobs") d.jobs
  pub world : HasWorld rows d.config.world
  pub m : HasNumber rows (codes "m") d.config.m
  pub limit : HasNumber rows (codes "limit") d.config.limit
  pub k : d.config.k ≡ 4

-- the showing that the options of `show` give, as clap matched them, each number in its range
pub record IsShowingOf (rows : List Row) (s : Showing) : Type 0 where
  pub from : HasNumber rows (codes "from") s.from
  pub count : HasNumber rows (codes "count") s.count

-- the race that the options of `race` give, as clap matched them, each number in its range
pub record IsRacingOf (rows : List Row) (r : Racing) : Type 0 where
  pub threads : HasNumber rows (codes "threads") r.threads
  pub rounds : HasNumber rows (codes "rounds") r.rounds
  pub seed : HasNumber rows (codes "seed") r.seed

-- the serving that the options of `serve` give, as clap matched them, each number in its range
pub record IsServingOf (rows : List Row) (s : Serving) : Type 0 where
  pub config : IsConfigOf rows s.config
  pub port : HasNumber rows (codes "port") s.port
  pub workers : HasNumber rows (codes "workers") s.workers
  pub count : HasNumber rows (codes "count") s.count

-- this option's text among what clap matched is one of this address
abbrev pub HasAddress : List Row → List ℕ → IpAddr → Type 0
HasAddress rows id a = (text : List ℕ) × (first_of id rows ≡ Some text) × IsIpText text a

-- this option's number among what clap matched is this, or there is none of 16 bits
abbrev pub MayHavePort : List Row → List ℕ → Option ℕ → Type 0
MayHavePort rows id o = MatchOption o ((n : ℕ) → n < 2 ^ 16 → HasNumber rows id n → ⊥) (HasNumber rows id)

-- the text is octal digits of these bits, and a plus may stand first
abbrev pub WritesMode : List ℕ → ℕ → Type 0
WritesMode text mode = IsNumeral 8 (without_leading_plus text) × (digits_value 8 (without_leading_plus text) ≡ mode)

-- the text of the mode among what clap matched is octal digits of these bits
abbrev pub HasMode : List Row → ℕ → Type 0
HasMode rows mode = (text : List ℕ) × (first_of (codes "mode") rows ≡ Some text) × WritesMode text mode

-- this option's text is among what clap matched, or none is
abbrev pub HasText : List Row → List ℕ → Option (Bor (List ℕ)) → Type 0
HasText rows id text = option_map (λ t. t.now) text ≡ first_of id rows

-- the log that the options of `host` give, as clap matched them, the patience in its range
pub record IsLogOf (rows : List Row) (l : LogWords) : Type 0 where
  pub members : first_of (codes "etcd") rows ≡ Some l.members.now
  pub prefix : first_of (codes "prefix") rows ≡ Some l.prefix.now
  pub patience : HasNumber rows (codes "patience") l.patience
  pub exported : l.exported ≡ asks_flag (codes "export") rows
  pub changes : l.changes_terms ≡ asks_flag (codes "change-terms") rows

-- whether an option that only a log has is among what clap matched
abbrev pub asks_log : List Row → Bool
asks_log rows =
    is_some (first_of (codes "etcd") rows) || is_some (first_of (codes "prefix") rows) || asks_flag (codes "export") rows || asks_flag (codes "change-terms") rows

-- the history is kept so by the options of `host`: in a log, in a journal, which is new where that is asked, or not at all, and in no two of
-- these
abbrev pub IsKeepingOf : List Row → Keeping → Type 0
IsKeepingOf rows Nothing = (first_of (codes "journal") rows ≡ None) × (asks_flag (codes "new") rows ≡ false) × (asks_log rows ≡ false)
IsKeepingOf rows (Journal path) = (first_of (codes "journal") rows ≡ Some path.now) × (asks_flag (codes "new") rows ≡ false) × (asks_log rows ≡ false)
IsKeepingOf rows (NewJournal path) = (first_of (codes "journal") rows ≡ Some path.now) × (asks_flag (codes "new") rows ≡ true) × (asks_log rows ≡ false)
IsKeepingOf rows (Log l) = (first_of (codes "journal") rows ≡ None) × (asks_flag (codes "new") rows ≡ false) × IsLogOf rows l

-- what the options of `host` have the hall reached by: a port where one is named, a socket where a path is, one for administrators, and a port for
-- those who watch where one is; and whether clients own their identities
pub record AreEndpointsOf (rows : List Row) (e : Endpoints) : Type 0 where
  pub address : HasAddress rows (codes "address") e.address
  pub port : MayHavePort rows (codes "port") e.port
  pub unix : HasText rows (codes "unix") e.unix
  pub mode : HasMode rows e.mode
  pub admin : HasText rows (codes "admin") e.admin
  pub owners : e.owners ≡ asks_flag (codes "owners") rows
  pub metrics_address : HasAddress rows (codes "metrics-address") e.metrics_address
  pub metrics : MayHavePort rows (codes "metrics") e.metrics

-- no number is among what clap matched for this option
abbrev pub HasNoNumber : List Row → List ℕ → Type 0
HasNoNumber rows id = (n : ℕ) → n < 2 ^ 64 → HasNumber rows id n → ⊥

-- the seconds of grace that the options of `host` give: at most a day, or 10 where none are matched
abbrev pub IsGraceOf : List Row → ℕ → Type 0
IsGraceOf rows g = (HasNumber rows (codes "grace") g × (1 ≤ g) × (g ≤ 86400)) ⊎ (HasNoNumber rows (codes "grace") × (g ≡ 10))

-- stays are held so by the options of `host`: for ever, without a grace time; or by connections, with one
abbrev pub IsHoldingOf : List Row → Holding → Type 0
IsHoldingOf rows Forever = (first_of (codes "hold") rows ≡ Some (codes "forever")) × HasNoNumber rows (codes "grace")
IsHoldingOf rows (Connection g) = (first_of (codes "hold") rows ≡ Some (codes "connection")) × IsGraceOf rows g

-- after how many seconds a silent client is closed, where none are matched
abbrev pub idle_of : Holding → ℕ
idle_of Forever = 600
idle_of (Connection g) = 30

-- and by the options of `host`
abbrev pub IsIdleOf : List Row → Holding → ℕ → Type 0
IsIdleOf rows holding idle = HasNumber rows (codes "idle") idle ⊎ (HasNoNumber rows (codes "idle") × (idle ≡ idle_of holding))

-- the history stores reads, or it does not, by the options of `host`
abbrev pub StoreReads : List Row → Bool → Type 0
StoreReads rows true = first_of (codes "reads") rows ≡ Some (codes "logged")
StoreReads rows false = first_of (codes "reads") rows ≡ Some (codes "plain")

-- the word of the world of a hall that is hosted: the name that the options of `host` give, and `rename` where they give none
abbrev pub world_word : List Row → List ℕ
world_word rows = unwrap_or (first_of (codes "world") rows) (codes "rename")

-- the world that is asked for by that word, and here too `wide` is none
abbrev pub HasHallWorld : List Row → WorldKind → Type 0
HasHallWorld rows world = (world_word rows ≡ world_name world) × (is_wide world ≡ false)

-- the world of the hall, where this world and so many numbers are asked for: above 64 numbers `rename` becomes `wide`
abbrev pub hall_world : WorldKind → ℕ → WorldKind
hall_world Rename k = if nat_le k 64 then Rename else Wide
hall_world asked k = asked

-- the config of the hall that is hosted: its world by the one that is asked for and by the size of the pool, and the numbers as clap matched
-- them, each number in its range
pub record IsHallOf (rows : List Row) (c : Config) : Type 0 where
  pub asked : WorldKind
  pub names : HasHallWorld rows asked
  pub world : c.world ≡ hall_world asked c.k
  pub m : HasNumber rows (codes "m") c.m
  pub k : HasNumber rows (codes "k") c.k
  pub limit : HasNumber rows (codes "limit") c.limit

-- clients may widen the pool, or they may not, by the options of `host`
abbrev pub AdmitWidening : List Row → Bool → Type 0
AdmitWidening rows true = first_of (codes "admit") rows ≡ Some (codes "widen")
AdmitWidening rows false = first_of (codes "admit") rows ≡ None

-- what clients may ask for by the options of `host`: names where a world is named; and whether they are given tokens
pub record AreAdmitted (rows : List Row) (a : Admissions) : Type 0 where
  pub naming : a.naming ≡ is_some (first_of (codes "world") rows)
  pub widening : AdmitWidening rows a.widening
  pub tokens : a.tokens ≡ asks_flag (codes "tokens") rows

-- the hosting that the options of `host` give, as clap matched them, each number in its range
pub record IsHostingOf (rows : List Row) (h : Hosting) : Type 0 where
  pub config : IsHallOf rows h.config
  pub admissions : AreAdmitted rows h.admissions
  pub endpoints : AreEndpointsOf rows h.endpoints
  pub clients : HasNumber rows (codes "clients") h.clients
  pub idle : IsIdleOf rows h.holding h.idle
  pub holding : IsHoldingOf rows h.holding
  pub reads : StoreReads rows h.stores_reads
  pub keeping : IsKeepingOf rows h.keeping
  pub verbose : h.verbose ≡ asks_flag (codes "verbose") rows
  pub log : HasText rows (codes "log") h.log
  pub pools : HasText rows (codes "pools") h.pools

-- the subcommand that asks for this
abbrev pub subcommand_name : Ask → List ℕ
subcommand_name (Play playing) = codes "play"
subcommand_name Check = codes "check"
subcommand_name Migrate = codes "migrate"
subcommand_name (Show showing) = codes "show"
subcommand_name (Draw drawing) = codes "draw"
subcommand_name (Race racing) = codes "race"
subcommand_name (Serve serving) = codes "serve"
subcommand_name (Host hosting) = codes "host"
subcommand_name Held = codes "held"

-- what clap matched there gives this
abbrev pub GiveAsked : List Row → Ask → Type 0
GiveAsked rows (Play playing) = IsPlayingOf rows playing
GiveAsked rows Check = ⊤
GiveAsked rows Migrate = ⊤
GiveAsked rows (Show showing) = IsShowingOf rows showing
GiveAsked rows (Draw drawing) = IsDrawingOf rows drawing
GiveAsked rows (Race racing) = IsRacingOf rows racing
GiveAsked rows (Serve serving) = IsServingOf rows serving
GiveAsked rows (Host hosting) = IsHostingOf rows hosting
GiveAsked rows Held = ⊤

-- the subcommand that clap met, with what it matched there, asks for this
abbrev pub IsAsked : Option (List ℕ × List Row) → Ask → Type 0
IsAsked met a = (rows : List Row) × (met ≡ Some (subcommand_name a, rows)) × GiveAsked rows a

-- the words ask for this: its options are those that clap matched in the words, or the defaults
abbrev pub AsksFor : List (List ℕ) → Ask → Type 0
AsksFor words a = IsAsked (subcommand_of slotctl_app words) a

-- clap answers with help, or with the version
abbrev pub is_help : ErrorKind → Bool
is_help DisplayHelp = true
is_help DisplayHelpOnMissingArgumentOrSubcommand = true
is_help DisplayVersion = true
is_help _ = false

-- clap refuses the words
abbrev pub is_refusal : ErrorKind → Bool
is_refusal OutOfMemory = false
is_refusal kind = not (is_help kind)

-- an error of this kind is reported so
abbrev pub IsMisuseOf : ErrorKind → Misuse → Type 0
IsMisuseOf kind (Help text) = is_help kind ≡ true
IsMisuseOf kind (Words text) = is_refusal kind ≡ true
IsMisuseOf kind Memory = ⊤

-- the words are refused, where memory is given
abbrev pub IsRefusal : Misuse → Type 0
IsRefusal (Help text) = ⊥
IsRefusal (Words text) = ⊤
IsRefusal Memory = ⊤

-- the words are misused so, where clap answers with one of these kinds of error, or with none: they ask for help; or clap
-- refuses them, or what it matched asks for nothing. Memory may be wanting at any words
abbrev pub IsMisuse : List (List ℕ) → Kinds → Misuse → Type 0
IsMisuse words kinds (Help text) = list_any is_help kinds ≡ true
IsMisuse words kinds (Words text) = (list_any is_refusal kinds ≡ true) ⊎ ((kinds ≡ []) × ((a : Ask) → AsksFor words a → ⊥))
IsMisuse words kinds Memory = ⊤

-- what is answered to words, where clap answers with one of these kinds of error, or with none
abbrev pub IsAnswer : List (List ℕ) → Kinds → Result Ask Misuse → Type 0
IsAnswer words kinds (Ok a) = (kinds ≡ []) × AsksFor words a
IsAnswer words kinds (Err u) = IsMisuse words kinds u

-- what is answered to words, with the kinds of error with which clap answers them
abbrev pub IsRead : List (List ℕ) → Result Ask Misuse → Type 0
IsRead words asked = IsAnswer words (fault_of slotctl_app words) asked
