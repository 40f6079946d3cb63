-- what clap's answer tells of the words
use Rattle.std.proofs.Common.{ap, sym, ◌≡◌, ◌⊎◌, ◌||◌, ◌∙◌, inl, inr, ℕ, List, [], ◌∷◌, Bool, true, false, codes, subst, refl}
use Rattle.std.proofs.Common.{Option, Some, None, MatchOption, option_map}
use Rattle.tool_work.proofs.Common.{same_Some, Ask, Drawing, Hosting, Playing, Racing, Serving, Showing, slotctl_app}
use Rattle.std.specs.List.{list_any}
use Rattle.std.specs.Str.{bytes_eq}
use Rattle.std.proofs.lemmas.Slice.Eq.{bytes_eq-Decides}
use Rattle.clap.specs.Words.{IsAmong, Kinds, Row}
use Rattle.clap.specs.Faults.{is_simple_and_free}
use Rattle.clap.specs.Simple.{is_simple}
use Rattle.clap.specs.declared.error.kind.ErrorKind.{ErrorKind}
use Rattle.clap.specs.declared.error.kind.ErrorKind.TheVariants.{OutOfMemory}
use Rattle.clap.proofs.OnLiterals.{clap_on_literals}
use Rattle.tool_work.specs.declared.asked.Ask.TheVariants.{Play, Show, Draw, Race, Serve, Host}
use Rattle.tool_work.specs.declared.misuse.Misuse.{Misuse}
use Rattle.tool_work.specs.declared.misuse.Misuse.TheVariants.{Help, Words, Memory}
use Rattle.tool_work.proofs.ConfigLemmas.{unless_some}
use Rattle.tool_work.specs.Asked.{AsksFor, GiveAsked, IsAsked, IsMisuse, IsMisuseOf, IsRefusal, is_help, is_refusal, subcommand_name}

pub app_is_simple : is_simple slotctl_app ≡ true
unfolding clap_on_literals
app_is_simple = refl

pub app_is_free : is_simple_and_free slotctl_app ≡ true
unfolding clap_on_literals
app_is_free = refl

or_true : (b : Bool) → (b || true) ≡ true
or_true true = refl
or_true false = refl

-- one of the kinds passes a test that this kind passes
any_among : (test : ErrorKind → Bool) (k : ErrorKind) (ks : Kinds) → IsAmong k ks → test k ≡ true → list_any test ks ≡ true
any_among test k [] among passes = elim among [ ]
any_among test k (x ∷ xs) (inl same) passes = ap (λ b. b || list_any test xs) (ap test (sym same) ∙ passes)
any_among test k (x ∷ xs) (inr among) passes = ap (λ b. test x || b) (any_among test k xs among passes) ∙ or_true (test x)

-- an error of a kind that clap may give, or an allocation failure, is reported as a misuse of the words
pub reported : (words : List (List ℕ)) (kinds : Kinds) (k : ErrorKind) (u : Misuse) → (k ≡ OutOfMemory) ⊎ IsAmong k kinds → IsMisuseOf k u → IsMisuse words kinds u
reported words kinds k Memory of is = tt
reported words kinds k (Help text) (inl none) is =
    let bad : false ≡ true = rw none at is in
    cc
reported words kinds k (Help text) (inr among) is = any_among is_help k kinds among is
reported words kinds k (Words text) (inl none) is =
    let bad : false ≡ true = rw none at is in
    cc
reported words kinds k (Words text) (inr among) is = inl (any_among is_refusal k kinds among is)

-- words that clap takes, and that ask for nothing, are refused
pub refused : (words : List (List ℕ)) (kinds : Kinds) (u : Misuse) → IsRefusal u → kinds ≡ [] → ((a : Ask) → AsksFor words a → ⊥) → IsMisuse words kinds u
refused words kinds Memory is none never = tt
refused words kinds (Help text) is none never = elim is [ ]
refused words kinds (Words text) is none never = inr (none, never)

-- where one subcommand was met, what no subcommand of its name gives is not asked for
nothing_met : {name : List ℕ} (rows : List Row) → ((a : Ask) → subcommand_name a ≡ name → GiveAsked rows a → ⊥) → (a : Ask) → IsAsked (Some (name, rows)) a → ⊥
nothing_met {name} rows none a h =
    let same = same_Some (name, rows) (subcommand_name a, h.0) h.1 in
    none a (sym (ap (λ (p : List ℕ × List Row). p.0) same)) (subst (λ (r : List Row). GiveAsked r a) (sym (ap (λ (p : List ℕ × List Row). p.1) same)) h.2)

-- names that differ are not one
apart : (name other : List ℕ) → bytes_eq name other ≡ false → name ≡ other → ⊥
apart name other differ same = let no : false ≡ true = sym differ ∙ (bytes_eq-Decides name other).1 same in cc

-- the subcommands that have options
pub data Optioned : Type 0 where
  play : Optioned
  show : Optioned
  draw : Optioned
  race : Optioned
  serve : Optioned
  host : Optioned

-- the name of each
abbrev pub name_of : Optioned → List ℕ
name_of play = codes "play"
name_of show = codes "show"
name_of draw = codes "draw"
name_of race = codes "race"
name_of serve = codes "serve"
name_of host = codes "host"

-- what its options give
abbrev pub Given : Optioned → Type 0
Given play = Playing
Given show = Showing
Given draw = Drawing
Given race = Racing
Given serve = Serving
Given host = Hosting

-- and what is asked for then
abbrev pub ask_of : (s : Optioned) → Given s → Ask
ask_of play given = Play given
ask_of show given = Show given
ask_of draw given = Draw given
ask_of race given = Race given
ask_of serve given = Serve given
ask_of host given = Host given

-- by its name nothing else is asked for
alone : (rows : List Row) (s : Optioned) (a : Ask) → subcommand_name a ≡ name_of s → GiveAsked rows a → (given : Given s) × GiveAsked rows (ask_of s given)
alone rows play (Play given) same h = (given, h)
alone rows show (Show given) same h = (given, h)
alone rows draw (Draw given) same h = (given, h)
alone rows race (Race given) same h = (given, h)
alone rows serve (Serve given) same h = (given, h)
alone rows host (Host given) same h = (given, h)
alone rows s a same h = absurd (apart (subcommand_name a) (name_of s) refl same)

-- where its options give nothing it asks for nothing
pub asks_nothing : {name : List ℕ} {asked : Option Ask} (rows : List Row) (s : Optioned) → asked ≡ None → name ≡ name_of s → ((given : Given s) → GiveAsked rows (ask_of s given) → ⊥) →
    MatchOption asked ((a : Ask) → IsAsked (Some (name, rows)) a → ⊥) (IsAsked (Some (name, rows)))
asks_nothing {name} {asked} rows s none is never =
    unless_some asked _ (IsAsked (Some (name, rows))) none (nothing_met rows (λ a same h. let given = alone rows s a (same ∙ is) h in never given.0 given.1))

abbrev met_with : List ℕ → List Row → Option (List ℕ × List Row)
met_with name rows = Some (name, rows)

-- what was met, by a name that is this one
pub met : {name is : List ℕ} (rows : List Row) → name ≡ is → met_with name rows ≡ met_with is rows
met rows same = ap (λ n. met_with n rows) same

-- what was met, from its name and its rows
pub both_met : {X A B : Type 0} (f : X → A) (g : X → B) (o : Option X) (a : A) (b : B) → Some a ≡ option_map f o →
    Some b ≡ option_map (λ (p : A × B). p.1) (option_map {U = A × B} (λ x. (f x, g x)) o) →
    option_map {U = A × B} (λ x. (f x, g x)) o ≡ Some (a, b)
both_met f g None a b left right = absurd (cc)
both_met f g (Some x) a b left right = cc
