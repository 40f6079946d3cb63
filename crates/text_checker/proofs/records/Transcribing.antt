-- what a transcript tells fits a record
use Rattle.std.proofs.Common.{◌≡◌, ℕ, ◌^◌, ◌<◌, List, [], ◌∷◌, ◌++◌, map, Result, Ok, Err, inl, inr, sym, subst, arith}
use Rattle.text_checker.proofs.Common.{Config, WorldKind, Event, ShownReply, DeskCall, DeskValue, Answered, Reported, Ended, Misread}
use Rattle.model_asked.specs.declared.reply.Reply.TheVariants as reply
use Rattle.text_worlds.specs.desk.Desk.{desk_rules, IsAfterDesk}
use Rattle.text_worlds.specs.desk.Rules.{may_by}
use Rattle.text_worlds.specs.lemmas.desk.DeskLaws as desk
use Rattle.model_asked.specs.declared.bad.Bad.{Bad}
use Rattle.model_asked.specs.declared.command.Command.{Command}
use Rattle.model_asked.specs.declared.command.Command.TheVariants as command
use Rattle.text_lines.specs.Meaning.{meaning}
use Rattle.text_player.specs.Asked.{until_quit, asked_by}
use Rattle.text_worlds.specs.DeskWorld.{DeskWorldMay}
use Rattle.text_player.specs.Runs.{Runs}
use Rattle.text_player.specs.Turns.{Turn, asked, exchanges}
use Rattle.text_records.proofs.cited.Narrow.{line_narrow}
use Rattle.text_checker.proofs.LowPlaces.{desk_low}
use Rattle.text_checker.proofs.NarrowRuns.{FitsPlace, AreWritable}
use Rattle.text_records.specs.Narrow.{IsNarrow}

-- ---- what lines ask

abbrev AreNarrowAsked : WorldKind → List (Result Command Bad) → Type 0
AreNarrowAsked kind [] = Unit {0}
AreNarrowAsked kind (m ∷ ms) = IsNarrow kind m × AreNarrowAsked kind ms

quit_narrowly : (kind : WorldKind) (ms : List (Result Command Bad)) → AreNarrowAsked kind ms → AreNarrowAsked kind (until_quit ms)
quit_narrowly kind [] h = tt
quit_narrowly kind (Err bad ∷ ms) h = (tt, quit_narrowly kind ms h.1)
quit_narrowly kind (Ok (command.Event e) ∷ ms) h = (h.0, quit_narrowly kind ms h.1)
quit_narrowly kind (Ok (command.Owner n) ∷ ms) h = (tt, quit_narrowly kind ms h.1)
quit_narrowly kind (Ok command.Quit ∷ ms) h = (tt, tt)

lines_narrow : (kind : WorldKind) (ls : List (List ℕ)) → AreNarrowAsked kind (map (meaning kind) ls)
lines_narrow kind [] = tt
lines_narrow kind (l ∷ ls) = (line_narrow kind l, lines_narrow kind ls)

pub asked_narrow : (kind : WorldKind) (ls : List (List ℕ)) (ts : List Turn) → map asked ts ≡ asked_by kind ls → AreNarrowAsked kind (map asked ts)
asked_narrow kind ls ts is = subst (AreNarrowAsked kind) (sym is) (quit_narrowly kind (map (meaning kind) ls) (lines_narrow kind ls))

-- ---- what a desk answers

place_fits : (c : Config) (w : DeskValue) (before : List DeskCall) → IsAfterDesk c w before → (e : Event) (r : ShownReply) (u : DeskValue) → may_by desk_rules w e r u → FitsPlace r
place_fits c w before a e (reply.Place place) u (inl m) = (let low : place < 2 ^ 64 = desk_low c w before a e place (sym m.0) in omega arith)
place_fits c w before a e (reply.Place place) u (inr m) = absurd (let no = m.0 in cc)
place_fits c w before a e r u m = tt

pub turns_fit : (c : Config) (w u : DeskValue) (before : List DeskCall) (ts : List Turn) → IsAfterDesk c w before → Runs DeskWorldMay w ts u → AreNarrowAsked c.world (map asked ts) → AreWritable c.world (exchanges ts)
turns_fit c w u before [] a run narrow = tt
turns_fit c w u before (Answered x ∷ ts) a run narrow =
    let one = desk.goes_on c w before a x.event x.reply run.0 run.1 in
    (narrow.0, place_fits c w before a x.event x.reply run.0 run.1, turns_fit c run.0 u (before ++ one.call ∷ []) ts one.after run.2 narrow.1)
turns_fit c w u before (Reported n r ∷ ts) a run narrow = turns_fit c w u before ts a (subst (λ (t : DeskValue). Runs DeskWorldMay t ts u) run.1.1 run.2) narrow.1
turns_fit c w u before (Ended ∷ ts) a run narrow = turns_fit c w u before ts a run narrow.1
turns_fit c w u before (Misread bad ∷ ts) a run narrow = turns_fit c w u before ts a run narrow.1
