-- what `record` writes spells the run that was played
use Rattle.std.proofs.Common.{◌≡◌, ℕ, true, List, [], ◌∷◌, map, length, Option, Some, Ok, Err, inl, inr, refl, sym, ap, ◌∙◌, subst, arith, ◌≤◌}
use Rattle.text_checker.proofs.Common.{Appends, Config, record_of, Answered, Reported, Ended, Misread, pool_start, Yes, terms_of, IsRecordOf, record_lines, IsSaid, IsSaidAfter, few_take_part, record_is, length-map, Exchange, line_of, IsObjectRun}
use Rattle.model_asked.specs.Config.{facts_of}
use Rattle.text_worlds.specs.lemmas.desk.DeskLaws as desk
use Rattle.text_lines.specs.Lines.{lines}
use Rattle.text_player.specs.declared.summary.Summary.{Summary}
use Rattle.text_player.specs.Asked.{asked_by}
use Rattle.text_worlds.specs.IsTranscript.{IsTranscript}
use Rattle.text_worlds.specs.lemmas.IsTranscriptProofs.{is_desk_transcript}
use Rattle.text_player.specs.Played.{Reading, Writing, IsInput, PlayedToEnd}
use Rattle.text_worlds.specs.Recorded.{IsRecorded}
use Rattle.text_player.specs.Turns.{Turn, asked, exchanges}
use Rattle.text_checker.proofs.records.Rows.{read_length}
use Rattle.text_checker.specs.Recorded.{IsShortTranscript, HasRecorded, RecordsTranscript, events_among, events_in, IsYes}
use Rattle.text_checker.proofs.DeskRuns.{desk_run, lines_of_all}
use Rattle.text_checker.proofs.NarrowRuns.{AreWritable, run_narrow}
use Rattle.text_checker.proofs.records.OneVerdict.{one_verdict}
use Rattle.text_checker.proofs.records.Transcribing.{asked_narrow, turns_fit}
use Rattle.text_records.specs.declared.header.Version.TheVariants.{Two}

-- where the exchanges are a run that is not too long, their record spells one
pub record_said : (c : Config) (r : List Exchange) (bytes : List ℕ) → IsRecordOf c r bytes → IsObjectRun (terms_of c) (pool_start c) r → length r ≤ 1000000 → IsSaidAfter (record_lines bytes) Yes
record_said c r bytes b run few = record {
  head = b.head;
  rows = b.rows;
  is = b.is;
  header = record { version = Two; config = c };
  says = b.header;
  said = record {
    lines = map (line_of true) r;
    read = b.read;
    few = omega (arith, read_length c.world Two b.rows (map (line_of true) r) b.read, length-map r (line_of true));
    run = record { exchanges = r; spelled = lines_of_all true r; run = run };
  };
}

-- its record says its exchanges
pub transcript_record : (c : Config) (ls : List (List ℕ)) (ts : List Turn) → IsShortTranscript c ls ts → IsRecordOf c (exchanges ts) (record_of c ts)
transcript_record c ls ts t =
    let transcript = is_desk_transcript c c.world t.names ts t.transcript in
    let start = desk.fresh c transcript.could.start transcript.could.is_fresh in
    let fit : AreWritable c.world (exchanges ts) = turns_fit c transcript.could.start transcript.could.last [] ts start transcript.could.run (asked_narrow c.world ls ts t.asked_is) in
    record_is c t.names ts (run_narrow (terms_of c) (few_take_part c) c.world (pool_start c) c.in_range.3 (facts_of c.world).numbers.1 (exchanges ts) (desk_run (terms_of c) _ (pool_start c) (exchanges ts) transcript.run) fit)

-- and is one of a run
said_by : (c : Config) (ls : List (List ℕ)) (ts : List Turn) (bytes : List ℕ) → IsShortTranscript c ls ts → IsRecordOf c (exchanges ts) bytes → IsSaidAfter (record_lines bytes) Yes
said_by c ls ts bytes t b =
    let transcript = is_desk_transcript c c.world t.names ts t.transcript in
    record_said c (exchanges ts) bytes b (desk_run (terms_of c) _ (pool_start c) (exchanges ts) transcript.run) t.few

pub transcript_said : (c : Config) (ls : List (List ℕ)) (ts : List Turn) → IsShortTranscript c ls ts → IsSaid (record_lines (record_of c ts)) Yes
transcript_said c ls ts t = inl (said_by c ls ts (record_of c ts) t (transcript_record c ls ts t))

pub yes_by : (bytes : List ℕ) → IsSaidAfter (record_lines bytes) Yes → IsYes bytes
yes_by bytes s v (inl said) = inl (one_verdict (record_lines bytes) s v said)
yes_by bytes s v (inr none) = inr none

pub transcript_yes : (c : Config) (ls : List (List ℕ)) (ts : List Turn) → IsShortTranscript c ls ts → IsYes (record_of c ts)
transcript_yes c ls ts t = yes_by (record_of c ts) (said_by c ls ts (record_of c ts) t (transcript_record c ls ts t))

-- events are asked for as often as they are answered
events_asked : (ts : List Turn) → length (exchanges ts) ≡ events_among (map asked ts)
events_asked [] = refl
events_asked (Answered x ∷ ts) = (let rest = events_asked ts in omega arith)
events_asked (Reported n r ∷ ts) = events_asked ts
events_asked (Ended ∷ ts) = events_asked ts
events_asked (Misread bad ∷ ts) = events_asked ts

module _ (c : Config) {R W : Type 0} (reading : Reading R) (writing : Writing W) (input bytes : List ℕ) (h : HasRecorded c reading writing input bytes) where
  played_records : (s : Summary) → PlayedToEnd c.world reading writing (record_of c) (IsTranscript c) s → RecordsTranscript c input bytes
  played_records s e =
      let same : input ≡ e.input = subst (λ (o : Option (List ℕ)). IsInput o e.input) h.has e.input_is in
      let reported = e.reported in
      let gained : bytes ≡ record_of c reported.turns =
      subst (λ (o : Option (List ℕ)). Appends o (Some bytes) (record_of c reported.turns)) h.none (subst (λ (o : Option (List ℕ)). Appends (writing.contents writing.old) o (record_of c reported.turns)) h.now reported.gained) in
      let asked_is : map asked reported.turns ≡ asked_by c.world (lines input) = reported.asked_is ∙ ap (λ (x : List ℕ). asked_by c.world (lines x)) (sym same) in
      let many : length (exchanges reported.turns) ≡ events_in c.world input = events_asked reported.turns ∙ ap events_among asked_is in
      let few = h.few in
      let transcript : IsShortTranscript c (lines input) reported.turns = record { names = h.names; asked_is = asked_is; transcript = reported.transcript; few = omega arith } in
      record { turns = reported.turns; transcript = transcript; record_is = subst (λ (b : List ℕ). IsRecordOf c (exchanges reported.turns) b) (sym gained) (transcript_record c (lines input) reported.turns transcript) }

  ended_records : IsRecorded c reading writing (Ok tt) → RecordsTranscript c input bytes
  ended_records (inl (Ok s, is, played)) = played_records s played.ok
  ended_records (inl (Err fault, is, played)) = absurd (cc)
  ended_records (inr stops) = absurd (let no = stops.0 in cc)

  pub recorded : RecordsTranscript c input bytes
  recorded = ended_records h.ended

  pub recorded_yes : IsYes bytes
  recorded_yes = yes_by bytes (said_by c (lines input) recorded.turns bytes recorded.transcript recorded.record_is)
