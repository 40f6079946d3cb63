-- the command line of the program, as clap sees it
use Rattle.std.specs.Prelude.{◌≡◌, ℕ, List, [], ◌∷◌, Some, true, false, codes, fold}
use Rattle.clap.specs.Words.{App, Rule, app_of, new_app, new_rule, with_rule, with_subcommand}
use Rattle.clap.specs.declared.builder.action.ArgAction.TheVariants.{Set, SetTrue}
use Rattle.clap.specs.declared.builder.command.Command.{Command}
use Rattle.clap.specs.declared.builder.command.Command.TheViews.{out-Command}
use Rattle.clap.specs.declared.builder.value_parser.ValueParser.TheVariants.{Unsigned}
use Rattle.tool_work.specs.declared.command_line.Choice.{Choice}
use Rattle.tool_work.specs.declared.command_line.Manual.{Manual}
use Rattle.tool_work.specs.declared.command_line.Subcommand.{Subcommand}
use Rattle.tool_work.specs.declared.command_line.Subcommand.TheVariants.{Play, Check, Migrate, Show, Draw, Race, Serve, Host, Held}
use Rattle.tool_work.specs.declared.command_line.Takes.{Takes}
use Rattle.tool_work.specs.declared.command_line.Takes.TheVariants.{Text, TextOr, Number, SomeNumber, Needed, Nothing}

-- a command is this one, and no option of it is one of its subcommands too
pub record IsCommandOf (app : App) (command : Command) : Type 0 where
  pub shape : app_of command ≡ app
  pub local : (out-Command command).has_globals ≡ false

-- an option of this name with a text, or none
abbrev pub text_option : List ℕ → Rule
text_option name = record (new_rule name) { long = Some name; action = Some Set; value_names = 1 }

-- an option of this name with a text, and this text where it is not given
abbrev pub chosen_option : List ℕ → List ℕ → Rule
chosen_option name text = record (new_rule name) {
  long = Some name;
  action = Some Set;
  value_names = 1;
  defaults = text ∷ [];
}

-- an option of this name with a number in this range, and this text where it is not given
abbrev pub number_option : List ℕ → ℕ → ℕ → List ℕ → Rule
number_option name least most text = record (new_rule name) {
  long = Some name;
  action = Some Set;
  value_names = 1;
  parser = Some (Unsigned least most);
  defaults = text ∷ [];
}

-- an option of this name with a number in this range, or none
abbrev pub some_number_option : List ℕ → ℕ → ℕ → Rule
some_number_option name least most = record (new_rule name) {
  long = Some name;
  action = Some Set;
  value_names = 1;
  parser = Some (Unsigned least most);
}

-- an option of this name with a number up to the most, which has to be given
abbrev pub needed_option : List ℕ → ℕ → ℕ → Rule
needed_option name least most = record (new_rule name) {
  long = Some name;
  action = Some Set;
  required = true;
  value_names = 1;
  parser = Some (Unsigned least most);
}

-- an option of this name with no value
abbrev pub flag : List ℕ → Rule
flag name = record (new_rule name) { long = Some name; action = Some SetTrue }

-- a subcommand of this name with these options
abbrev pub with_options : List ℕ → List Rule → App
with_options name rules = fold with_rule (new_app name) rules

-- `--world NAME`, and `rename` where it is not given
abbrev pub world_option : Rule
world_option = chosen_option (codes "world") (codes "rename")

-- `--m NUMBER`, from 1 to 64 (to 16 outside the world `tree`, which the config says), or 4; `--k NUMBER`, from 1 to 64, or 4; `--limit NUMBER`, from 1 to 1,000,000, or 1000
abbrev pub m_option : Rule
m_option = number_option (codes "m") 1 64 (codes "4")

abbrev pub k_option : Rule
k_option = number_option (codes "k") 1 64 (codes "4")

abbrev pub limit_option : Rule
limit_option = number_option (codes "limit") 1 1000000 (codes "1000")

-- `--k NUMBER` of a hall that is hosted, from 1 to 65,536 (to 64 in the world `tree`, which the config says), or 4
abbrev pub hall_k_option : Rule
hall_k_option = number_option (codes "k") 1 65536 (codes "4")

-- `--port NUMBER`, of 16 bits, or 0
abbrev pub port_option : Rule
port_option = number_option (codes "port") 0 65535 (codes "0")

abbrev pub play_app : App
play_app = with_options (codes "play") (world_option ∷ m_option ∷ k_option ∷ limit_option ∷ flag (codes "record") ∷ [])

-- `check` has no options, nor has `migrate`
abbrev pub check_app : App
check_app = new_app (codes "check")

abbrev pub migrate_app : App
migrate_app = new_app (codes "migrate")

-- `--from NUMBER`, from 1 to 1,000,000, or 1; `--count NUMBER`, from 1 to 1,000,000, or 1000
abbrev pub show_app : App
show_app = with_options (codes "show")
    (number_option (codes "from") 1 1000000 (codes "1") ∷ number_option (codes "count") 1 1000000 (codes "1000") ∷ [])

-- `--seed NUMBER`, of 64 bits, `--ids NUMBER`, from 1 to 64, and `--steps NUMBER`, at most 1,000,000, all to be given;
-- `--runs NUMBER`, at most 1,000, or 0; `--jobs NUMBER`, at most 64, or 0
abbrev pub draw_app : App
draw_app = with_options (codes "draw")
    (needed_option (codes "seed") 0 18446744073709551615 ∷ needed_option (codes "ids") 1 64 ∷ needed_option (codes "steps") 0 1000000
    ∷ number_option (codes "runs") 0 1000 (codes "0") ∷ number_option (codes "jobs") 0 64 (codes "0")
    ∷ world_option ∷ m_option ∷ limit_option ∷ [])

-- `--threads NUMBER`, from 1 to 64, or 4; `--rounds NUMBER`, from 1 to 1,000,000, or 1; `--seed NUMBER`, or 1
abbrev pub race_app : App
race_app = with_options (codes "race") (number_option (codes "threads") 1 64 (codes "4") ∷ number_option (codes "rounds") 1 1000000 (codes "1")
    ∷ number_option (codes "seed") 0 18446744073709551615 (codes "1") ∷ [])

-- `--workers NUMBER`, from 1 to 16, or 2; `--count NUMBER`, from 1 to 1,000,000, or 1
abbrev pub serve_app : App
serve_app = with_options (codes "serve") (world_option ∷ m_option ∷ k_option ∷ limit_option ∷ port_option
    ∷ number_option (codes "workers") 1 16 (codes "2") ∷ number_option (codes "count") 1 1000000 (codes "1") ∷ [])

-- `--world NAME`, or none; `--admit WHAT`, or none; `--tokens`; `--address ADDRESS`, or 127.0.0.1; `--port NUMBER`, of 16 bits, or none; `--unix PATH`, or none; `--mode BITS`, or 660;
-- `--owners`; `--admin PATH`, or none; `--metrics NUMBER`, of 16 bits, or none; `--metrics-address ADDRESS`, or 127.0.0.1; `--clients NUMBER`, from 1 to 1,000,000, or 10000; `--idle NUMBER`, at most 31,536,000, or none; `--hold
-- HOW`, or forever; `--grace NUMBER`, from 1 to 86,400, or none; `--reads HOW`, or plain; `--journal FILE`, and with it `--new`; `--etcd MEMBERS` and `--prefix NAME`, or none; `--patience NUMBER`, from 1 to 3,600, or 10; `--log FILE`, or none
abbrev pub host_app : App
host_app = with_options (codes "host") (text_option (codes "world") ∷ m_option ∷ hall_k_option ∷ limit_option
    ∷ text_option (codes "admit") ∷ flag (codes "tokens") ∷ chosen_option (codes "address") (codes "127.0.0.1") ∷ some_number_option (codes "port") 0 65535
    ∷ text_option (codes "unix") ∷ chosen_option (codes "mode") (codes "660") ∷ flag (codes "owners") ∷ text_option (codes "admin")
    ∷ some_number_option (codes "metrics") 0 65535 ∷ chosen_option (codes "metrics-address") (codes "127.0.0.1") ∷ number_option (codes "clients") 1 1000000 (codes "10000")
    ∷ some_number_option (codes "idle") 0 31536000 ∷ chosen_option (codes "hold") (codes "forever") ∷ some_number_option (codes "grace") 1 86400
    ∷ chosen_option (codes "reads") (codes "plain") ∷ text_option (codes "journal") ∷ flag (codes "new") ∷ text_option (codes "etcd") ∷ text_option (codes "prefix")
    ∷ number_option (codes "patience") 1 3600 (codes "10") ∷ flag (codes "export") ∷ flag (codes "change-terms") ∷ flag (codes "verbose") ∷ text_option (codes "log") ∷ text_option (codes "pools") ∷ [])

-- `held` has no options
abbrev pub held_app : App
held_app = new_app (codes "held")

-- the program before it has a subcommand, one of which has to be given
abbrev pub bare_app : App
bare_app =
    let program = new_app (codes "slotctl") in
    record program { top = record program.top { subcommand_required = true; has_version = true } }

-- the program with all its subcommands
abbrev pub slotctl_app : App
slotctl_app = fold (λ app sub. with_subcommand app sub.top) bare_app
    (play_app ∷ check_app ∷ migrate_app ∷ show_app ∷ draw_app ∷ race_app ∷ serve_app ∷ host_app ∷ held_app ∷ [])

-- what an option of a table is
abbrev pub rule_taking : List ℕ → Takes → Rule
rule_taking name (Text value) = text_option name
rule_taking name (TextOr value text) = chosen_option name text.now
rule_taking name (Number least most text) = number_option name least most text.now
rule_taking name (SomeNumber least most) = some_number_option name least most
rule_taking name (Needed least most) = needed_option name least most
rule_taking name Nothing = flag name

abbrev pub rule_for : Choice → Rule
rule_for choice = rule_taking choice.name.now choice.takes

-- a command with an option of a table more, and a subcommand with the options of its table
abbrev pub with_choice : App → Choice → App
with_choice app choice = with_rule app (rule_for choice)

abbrev pub manual_app : Manual → App
manual_app manual = fold with_choice (new_app manual.name.now) manual.choices.now

-- a subcommand, and a program with one more
abbrev pub subcommand_app : Subcommand → App
subcommand_app Play = play_app
subcommand_app Check = check_app
subcommand_app Migrate = migrate_app
subcommand_app Show = show_app
subcommand_app Draw = draw_app
subcommand_app Race = race_app
subcommand_app Serve = serve_app
subcommand_app Host = host_app
subcommand_app Held = held_app

abbrev pub with_entry : App → Subcommand → App
with_entry app sub = with_subcommand app (subcommand_app sub).top
