-- from where a player stands to the theorem of a run
use Rattle.std.proofs.Common.{◌≡◌, ℕ, ◌+◌, ◌<◌, ◌≤◌, ◌⊎◌, inl, inr, true, false, Bool, List, [], ◌++◌, length, map, flat_map, Result, Ok, Err, Option, Some, None, refl, sym, ap, subst, ◌∙◌, append_assoc}
use Rattle.text_player.proofs.Common.{append-nil, Appends, Consumes, IsAtEnd, Bad, Command, Fault, Summary, WorldKind, ShownReply, asked_by, lines, whole_lines, PlayerState, Progress, at_start, after_bytes, after_end, Stands, StandsPart, Request, Turn, asked}
use Rattle.std.proofs.KnownBytes.{Consumes-trans}
use Rattle.text_lines.specs.declared.fault.Fault.TheVariants.{Read, Write}
use Rattle.text_player.specs.declared.playing.TheConstants.{MOST_READS, READ_BYTES}
use Rattle.text_player.specs.Runs.{IsRunTo, CanRun}
use Rattle.text_player.specs.Knows.{Knows}
use Rattle.text_player.specs.Played.{Reading, Writing, IsInput, IsReported, HasRead, IsPlayed}
use Rattle.text_player.specs.lemmas.PlayedProofs.{as_played}
use Rattle.text_player.proofs.GoesOnLemmas.{goes_on}
use Rattle.text_player.proofs.cited.ProgressLemmas.{asked-whole, asked-all, asked-over, over-whole}

-- the input, and what of it is left
input_of : (had left : Option (List ℕ)) (got : List ℕ) → Consumes had left got → (input : List ℕ) × (more : List ℕ) × IsInput had input × (input ≡ got ++ more) × (IsAtEnd left → input ≡ got)
input_of None left got came = (got, [], tt, sym (append-nil got), λ end. refl)
input_of (Some h) None got came = absurd came
input_of (Some h) (Some l) got came = (h, l, refl, came, λ end. came ∙ ap (λ t. got ++ t) end ∙ append-nil got)

-- one more read, before which no `quit` had come
pub read_on : (kind : WorldKind) {R : Type 0} (reading : Reading R) (mid : R) (earlier last : List ℕ) → Consumes (reading.remaining reading.old) (reading.remaining mid) earlier → (after_bytes kind at_start earlier).over ≡ false →
    Consumes (reading.remaining mid) (reading.remaining reading.new) last → reading.calls reading.new ≡ reading.calls mid + 1 → length last ≤ READ_BYTES → HasRead kind reading (earlier ++ last)
read_on kind reading mid earlier last came on gave once few = record {
  mid = mid;
  earlier = earlier;
  last = last;
  parts = refl;
  came = came;
  going = sym (over-whole kind earlier) ∙ on;
  gave = gave;
  once = once;
  few = few;
}

module _ {T : Type 0} (may : T → Request → ShownReply → T → Type 0) (text : Turn → List ℕ) (kind : WorldKind) (start world : T) {R W : Type 0} (reading : Reading R) (writing : Writing W) (got : List ℕ) where
  -- where nothing is held, the writer has gained the text
  abbrev reported : (s : PlayerState) (p : Progress) (all : List (Result Command Bad)) → Stands may text start world s p (writing.contents writing.old) (writing.contents writing.new) → s.replies ≡ [] → all ≡ p.asked →
      IsReported (flat_map text) (IsRunTo may start world) all (writing.contents writing.old) (writing.contents writing.new)
  reported s p all t none e = record {
    turns = t.turns;
    asked_is = t.asked_is ∙ sym e;
    transcript = t.run;
    gained = subst (λ (x : List ℕ). Appends (writing.contents writing.old) (writing.contents writing.new) x) (sym (append-nil t.written) ∙ ap (λ l. t.written ++ l) (sym none) ∙ sym t.text_is) t.gained;
  }

  -- how the run ended, of which so many reads are allowed
  abbrev Plays : Result Summary Fault → Type 0
  Plays result = reading.calls reading.new ≤ reading.calls reading.old + MOST_READS → IsPlayed (flat_map text) (IsRunTo may start world) (CanRun may start) kind reading writing result

  -- all that was read
  came : HasRead kind reading got → Consumes (reading.remaining reading.old) (reading.remaining reading.new) got
  came read = subst (λ (l : List ℕ). Consumes (reading.remaining reading.old) (reading.remaining reading.new) l) (sym read.parts)
      (Consumes-trans (reading.remaining reading.old) (reading.remaining read.mid) (reading.remaining reading.new) read.earlier read.last read.came read.gave)

  -- at the end of the input, or after `quit`
  pub to_end : (s : PlayerState) → HasRead kind reading got → IsAtEnd (reading.remaining reading.new) ⊎ ((after_bytes kind at_start got).over ≡ true) → Stands may text start world s (after_end kind (after_bytes kind at_start got)) (writing.contents writing.old) (writing.contents writing.new) → s.replies ≡ [] →
      reading.failed reading.new ≡ reading.failed reading.old → writing.failed writing.new ≡ writing.failed writing.old → Plays (Ok s.summary)
  to_end s read ended t none reads writes =
      let input = input_of (reading.remaining reading.old) (reading.remaining reading.new) got (came read) in
      as_played (flat_map text) (IsRunTo may start world) (CanRun may start) kind reading writing (Ok s.summary) (record {
        input = input.0;
        input_is = input.2;
        reported = reported s (after_end kind (after_bytes kind at_start got)) (asked_by kind (lines input.0)) t none (elim ended [
          | inl end ↦ ap (λ (l : List ℕ). asked_by kind (lines l)) (input.4 end) ∙ sym (asked-all kind got)
          | inr over ↦ asked-over kind input.0 got input.1 input.3 over
        ]);
        counts = t.counts;
        got = got;
        left = input.1;
        of_input = input.3;
        read = read;
        ended = elim ended [ inl end ↦ inl (sym (input.4 end)) | inr over ↦ inr (sym (over-whole kind got) ∙ over) ];
        no_read_failed = reads;
        no_write_failed = writes;
      })

  -- at a read fault
  pub to_read_fault : (s : PlayerState) → (reading.failed reading.new ≡ reading.failed reading.old + 1) ⊎ ((reading.calls reading.new ≡ reading.calls reading.old + MOST_READS) × (reading.failed reading.new ≡ reading.failed reading.old)) → Consumes (reading.remaining reading.old) (reading.remaining reading.new) got → s.over ≡ false →
      Stands may text start world s (after_bytes kind at_start got) (writing.contents writing.old) (writing.contents writing.new) → s.replies ≡ [] → writing.failed writing.new ≡ writing.failed writing.old → Plays (Err Read)
  to_read_fault s why read on t none writes = as_played (flat_map text) (IsRunTo may start world) (CanRun may start) kind reading writing (Err Read) (record {
    why = why;
    got = got;
    read = read;
    going = sym (over-whole kind got) ∙ sym t.over_is ∙ on;
    reported = reported s (after_bytes kind at_start got) (asked_by kind (whole_lines got)) t none (sym (asked-whole kind got));
    no_write_failed = writes;
  })

  -- at a write fault, where the input asks for what the turns are to and for more
  pub to_write_fault : (knows : Request → Bool) → Knows knows kind → ((t : T) (q : Request) → knows q ≡ true → (a : ShownReply) × (u : T) × may t q a u) → (p : Progress) → HasRead kind reading got →
      ((input left : List ℕ) → input ≡ got ++ left → (IsAtEnd (reading.remaining reading.new) → input ≡ got) → (more : List (Result Command Bad)) × (asked_by kind (lines input) ≡ p.asked ++ more)) →
      StandsPart may text start world p (writing.contents writing.old) (writing.contents writing.new) → writing.failed writing.old < writing.failed writing.new → reading.failed reading.new ≡ reading.failed reading.old →
      Plays (Err Write)
  to_write_fault knows known answers p read asks t why reads =
      let input = input_of (reading.remaining reading.old) (reading.remaining reading.new) got (came read) in
      let more = asks input.0 input.1 input.3 input.4 in
      let on = goes_on may kind knows known answers start world (lines input.0) t.turns (t.others ++ more.0) (more.1 ∙ ap (λ (l : List (Result Command Bad)). l ++ more.0) t.asked_is ∙ append_assoc (map asked t.turns) t.others more.0) t.run in
      as_played (flat_map text) (IsRunTo may start world) (CanRun may start) kind reading writing (Err Write) (record {
        why = why;
        input = input.0;
        input_is = input.2;
        reported = record { turns = t.turns; others = on.0; asked_is = on.1; transcript = t.run; whole = on.2; part = t.part };
        got = got;
        left = input.1;
        of_input = input.3;
        read = read;
        no_read_failed = reads;
      })
