-- to what a record is migrated is a record of a run
use Rattle.std.proofs.Common.{◌≡◌, inl, ℕ, ◌≤◌, Bool, List, [], ◌∷◌, ◌++◌, length, map, flat_map, refl, sym, ap, ◌∙◌, subst, arith}
use Rattle.text_checker.proofs.Common.{length-map, Run, RenameTerms, PoolStart, pool_start, Config, WorldKind, Exchange, ShownReply, exchange_of, Answered, Header, Version, Line, Migration, Yes, terms_of, reported_of, IsLineOf, Telling, IsTelling, after_telling, exchanges_in, IsMigratedTo, HasMigrated, AreGathered, DeskObject, fresh_desk_object, AllowsCall, after_call, IsObjectRun, IsHeaderLine, IsRecordOf, record_lines, AreRead, IsSaid, few_take_part, record_is}
use Rattle.model_asked.specs.Config.{facts_of}
use Rattle.model_asked.specs.declared.reply.Reply.TheVariants as reply
use Rattle.text_player.specs.Records.{exchange_line, turn_record, record_of, header_line}
use Rattle.text_player.specs.Turns.{exchanges}
use Rattle.text_checker.specs.Recorded.{IsYes}
use Rattle.text_checker.proofs.NarrowRuns.{FitsPlace, AreWritable, run_narrow}
use Rattle.text_records.specs.Narrow.{FitsReported, IsNarrowEvent}
use Rattle.text_records.proofs.cited.Narrow.{line_fits}
use Rattle.text_records.proofs.cited.Headers.{header_named}
use Rattle.text_checker.proofs.records.Recording.{yes_by, record_said}
use Rattle.text_checker.proofs.records.Rows.{read_length}

-- ---- what is written is a record of a run

reply_fits : (b : Bool) (r : ShownReply) → FitsReported (reported_of b r) → FitsPlace r
reply_fits b (reply.Place place) h = h
reply_fits b r h = tt

telling_fits : (kind : WorldKind) (x : Exchange) (l : Line) → IsLineOf x l → IsNarrowEvent kind l.event × FitsReported l.reported → IsNarrowEvent kind x.event × FitsPlace x.reply
telling_fits kind x l w h =
    let k : IsNarrowEvent kind x.event × FitsReported (reported_of w.shows x.reply) = subst (λ (y : Line). IsNarrowEvent kind y.event × FitsReported y.reported) (sym w.spelled) h in
    (k.0, reply_fits w.shows x.reply k.1)

tellings_fit : (kind : WorldKind) (v : Version) (terms : RenameTerms) (o end : DeskObject) (rows : List (List ℕ)) (ts : List Telling) → AreRead kind v rows (map (λ t. t.line) ts) → Run after_telling (IsTelling terms) o ts end →
    AreWritable kind (exchanges_in ts)
tellings_fit kind v terms o end rows [] read run = tt
tellings_fit kind v terms o end [] (t ∷ ts) read run = absurd read
tellings_fit kind v terms o end (row ∷ rows) (t ∷ ts) read run =
    let one = telling_fits kind (exchange_of t.call) t.line run.0.spelled (line_fits kind v row t.line read.0) in
    (one.0, one.1, tellings_fit kind v terms (after_telling o t) end rows ts read.1 run.1)

calls_run : (terms : RenameTerms) (o end : DeskObject) (ts : List Telling) → Run after_telling (IsTelling terms) o ts end → Run after_call (AllowsCall terms) o (map (λ t. t.call) ts) end
calls_run terms o end [] r = r
calls_run terms o end (t ∷ ts) r = (r.0.allowed, calls_run terms (after_telling o t) end ts r.1)

calls_spell : (ts : List Telling) → map exchange_of (map (λ t. t.call) ts) ≡ exchanges_in ts
calls_spell [] = refl
calls_spell (t ∷ ts) = ap (λ (xs : List Exchange). exchange_of t.call ∷ xs) (calls_spell ts)

object_run : (terms : RenameTerms) (start : PoolStart) (end : DeskObject) (ts : List Telling) → Run after_telling (IsTelling terms) (fresh_desk_object start) ts end → IsObjectRun terms start (exchanges_in ts)
object_run terms start end ts r = record { calls = map (λ t. t.call) ts; spelled = calls_spell ts; object = end; run = calls_run terms (fresh_desk_object start) end ts r }

answered_exchanges : (xs : List Exchange) → exchanges (map Answered xs) ≡ xs
answered_exchanges [] = refl
answered_exchanges (x ∷ xs) = ap (λ (ys : List Exchange). x ∷ ys) (answered_exchanges xs)

answered_lines : (xs : List Exchange) → flat_map turn_record (map Answered xs) ≡ flat_map exchange_line xs
answered_lines [] = refl
answered_lines (x ∷ xs) = ap (λ (l : List ℕ). exchange_line x ++ l) (answered_lines xs)

module _ (h : Header) (head : List ℕ) (says : IsHeaderLine head h) (rows : List (List ℕ)) (m : Migration) (a : AreGathered h rows (λ lines. HasMigrated h.config lines m)) where
  abbrev c : Config
  c = h.config

  abbrev xs : List Exchange
  xs = exchanges_in a.gathered.so_far.tellings

  is_run : IsObjectRun (terms_of c) (pool_start c) xs
  is_run = object_run (terms_of c) (pool_start c) a.gathered.so_far.object a.gathered.so_far.tellings a.gathered.so_far.run

  written : AreWritable c.world xs
  written = tellings_fit c.world h.version (terms_of c) (fresh_desk_object (pool_start c)) a.gathered.so_far.object rows a.gathered.so_far.tellings (subst (λ (ls : List Line). AreRead c.world h.version rows ls) (sym a.gathered.so_far.lines_are) a.run.read) a.gathered.so_far.run

  is_record : IsRecordOf c xs m.text
  is_record =
      let ts = map Answered xs in
      let same : exchanges ts ≡ xs = answered_exchanges xs in
      let whole : record_of c ts ≡ m.text = ap (λ (l : List ℕ). header_line c ++ l) (answered_lines xs) ∙ sym a.gathered.so_far.text_is in
      let narrow = run_narrow (terms_of c) (few_take_part c) c.world (pool_start c) c.in_range.3 (facts_of c.world).numbers.1 xs is_run written in
      subst (λ (l : List ℕ). IsRecordOf c xs l) whole (subst (λ (ys : List Exchange). IsRecordOf c ys (record_of c ts)) same (record_is c (header_named head h says) ts (rw same narrow)))

  few : length xs ≤ 1000000
  few =
      let n = read_length c.world h.version rows a.run.lines a.run.read in
      let k = length-map a.gathered.so_far.tellings (λ (t : Telling). t.line) in
      let j = length-map a.gathered.so_far.tellings (λ (t : Telling). exchange_of t.call) in
      let e = ap length a.gathered.so_far.lines_are in
      let l = a.run.few in
      omega arith

  migrated_yes : IsYes m.text
  migrated_yes = yes_by m.text (record_said c xs m.text is_record is_run few)

  said : {lines : List (List ℕ)} → lines ≡ head ∷ rows → IsSaid lines Yes
  said is = inl (record { head = head; rows = rows; is = is; header = h; says = says; said = a.run })

  pub migrates : (bytes : List ℕ) → record_lines bytes ≡ head ∷ rows → IsMigratedTo bytes m.text
  migrates bytes is = record { head = head; rows = rows; is = is; header = h; says = says; lines = a.run.lines; read = a.run.read; said = inl (said is); migration = a.gathered.so_far; yes = migrated_yes }
