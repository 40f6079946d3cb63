-- the page of metrics, in the text form of Prometheus (version 0.0.4)
use Rattle.std.specs.Prelude.{ℕ, ◌+◌, ◌/◌, ◌%◌, Bool, if◌then◌else◌, List, [], ◌∷◌, ◌++◌, flat_map, Option, Some, None, codes, decimal}
use Rattle.service_watch.specs.declared.durations.Bucket.{Bucket}
use Rattle.service_watch.specs.declared.durations.DurationHistogram.{DurationHistogram}
use Rattle.service_watch.specs.declared.numbers.Numbers.{Numbers}
use Rattle.service_watch.specs.declared.numbers.Releases.{Releases}
use Rattle.service_watch.specs.declared.page.Kind.{Kind}
use Rattle.service_watch.specs.declared.page.Kind.TheVariants.{Gauge, Counter, Histogram}

abbrev pub kind_word : Kind → List ℕ
kind_word Gauge = codes "gauge"
kind_word Counter = codes "counter"
kind_word Histogram = codes "histogram"

-- what a metric is
unfoldable pub head_text : Kind → List ℕ → List ℕ → List ℕ
head_text kind name help = codes "# HELP " ++ name ++ codes " " ++ help ++ codes "\n# TYPE " ++ name ++ codes " " ++ kind_word kind ++ codes "\n"

-- the line of a number
unfoldable pub value_text : List ℕ → ℕ → List ℕ
value_text name n = name ++ codes " " ++ decimal n ++ codes "\n"

-- a metric with its number
unfoldable pub metric_text : Kind → List ℕ → List ℕ → ℕ → List ℕ
metric_text kind name help n = head_text kind name help ++ value_text name n

-- where it is known
unfoldable pub known_text : Kind → List ℕ → List ℕ → Option ℕ → List ℕ
known_text kind name help None = []
known_text kind name help (Some n) = metric_text kind name help n

-- a metric that is 1 or 0
unfoldable pub flag_text : List ℕ → List ℕ → Bool → List ℕ
flag_text name help is = metric_text Gauge name help (if is then 1 else 0)

-- microseconds as seconds, with six digits behind the point
unfoldable pub seconds_text : ℕ → List ℕ
seconds_text micros = decimal (micros / 1000000) ++ codes "." ++ flat_map (λ unit. decimal (micros / unit % 10)) (100000 ∷ 10000 ∷ 1000 ∷ 100 ∷ 10 ∷ 1 ∷ [])

-- how many calls took no longer than a bound
unfoldable pub bucket_text : List ℕ → Bucket → List ℕ
bucket_text name b = name ++ codes "_bucket{le=\"" ++ seconds_text b.bound ++ codes "\"} " ++ decimal b.count ++ codes "\n"

-- how long calls took
unfoldable pub histogram_text : List ℕ → DurationHistogram → List ℕ
histogram_text name h =
    flat_map (bucket_text name) h.buckets ++ (name ++ value_text (codes "_bucket{le=\"+Inf\"}") h.count)
    ++ name ++ codes "_sum " ++ seconds_text h.total ++ codes "\n" ++ name ++ value_text (codes "_count") h.count

-- how many lines were answered by a refusal, and by each from this one on
unfoldable pub refusal_text : List ℕ → ℕ → ℕ → List ℕ
refusal_text name refusal n = name ++ codes "{refusal=\"" ++ decimal refusal ++ value_text (codes "\"}") n

abbrev pub refusals_text : List ℕ → ℕ → List ℕ → List ℕ
refusals_text name refusal [] = []
refusals_text name refusal (n ∷ ns) = refusal_text name refusal n ++ refusals_text name (refusal + 1) ns

-- how many numbers were given back, by the cause
unfoldable pub releases_page : Releases → List ℕ
releases_page r =
    let name = codes "slotctl_releases_total" in
    head_text Counter name (codes "Numbers that were given back since the start, by the cause.")
    ++ name ++ value_text (codes "{cause=\"client\"}") r.client ++ name ++ value_text (codes "{cause=\"grace\"}") r.grace
    ++ name ++ value_text (codes "{cause=\"front_end\"}") r.front_end

unfoldable pub refusals_page : List ℕ → List ℕ
refusals_page ns =
    let name = codes "slotctl_refusals_total" in
    head_text Counter name (codes "Lines that were refused since the start, by the number of the refusal.") ++ refusals_text name 1 ns

-- of the clients
unfoldable pub clients_page : Numbers → List ℕ
clients_page n =
    metric_text Gauge (codes "slotctl_clients") (codes "Clients that are connected.") n.clients
    ++ metric_text Counter (codes "slotctl_connections_total") (codes "Connections that were accepted since the start.") n.accepted
    ++ metric_text Counter (codes "slotctl_connection_faults_total")
    (codes "Connections that ended by a fault since the start: a reset, a log that was lost, or memory that was refused.") n.faults
    ++ metric_text Counter (codes "slotctl_lines_total") (codes "Lines of clients that were taken since the start.") n.lines
    ++ metric_text Counter (codes "slotctl_ticks_total") (codes "Seconds that the loop counted since the start; it counts one a turn at most.") n.ticks
    ++ flag_text (codes "slotctl_ready") (codes "1 where clients are answered, 0 while the log does not answer.") n.ready

-- of what was given back and refused
unfoldable pub audit_page : Numbers → List ℕ
audit_page n =
    releases_page n.releases ++ refusals_page n.refusals
    ++ known_text Counter (codes "slotctl_audit_lines_lost_total") (codes "Lines of the audit log that were not written since the start.") n.audit_lines_lost

-- of the history and what it leads to
unfoldable pub hall_page : Numbers → List ℕ
hall_page n =
    metric_text Gauge (codes "slotctl_history_events") (codes "Events of the history.") n.tally.events
    ++ known_text Gauge (codes "slotctl_history_events_left") (codes "Events that the history takes yet, of 1000000; at 0 each event is refused.") n.tally.events_left
    ++ known_text Counter (codes "slotctl_compactions_total") (codes "Compactions of the history since the start.") n.tally.compactions
    ++ known_text Gauge (codes "slotctl_competitors") (codes "Identities that compete for numbers, those that hold one among them.") n.tally.competitors
    ++ known_text Gauge (codes "slotctl_numbers_free") (codes "Numbers of the pool that nobody holds.") n.tally.numbers_free
    ++ known_text Gauge (codes "slotctl_names_given") (codes "Names that are given.") n.tally.names_given

-- of the syncs of a journal, where there is one
unfoldable pub syncs_page : Option DurationHistogram → List ℕ
syncs_page None = []
syncs_page (Some h) =
    head_text Gauge (codes "slotctl_journal_sync_last_seconds")
    (codes "Seconds that the last sync of the journal took, from the call to the system until the file was looked at.")
    ++ codes "slotctl_journal_sync_last_seconds" ++ codes " " ++ seconds_text h.last ++ codes "\n"
    ++ head_text Histogram (codes "slotctl_journal_sync_seconds")
    (codes "Seconds that the syncs of the journal took since the start; a compaction is none of them.")
    ++ histogram_text (codes "slotctl_journal_sync_seconds") h

-- of a journal or a log
unfoldable pub keeping_page : Numbers → List ℕ
keeping_page n =
    known_text Gauge (codes "slotctl_journal_bytes") (codes "Bytes of the journal.") n.tally.journal_bytes
    ++ syncs_page n.tally.syncs
    ++ known_text Gauge (codes "slotctl_log_place") (codes "Entries of the log that are applied.") n.tally.log_place
    ++ known_text Gauge (codes "slotctl_log_entries_since_compaction")
    (codes "Entries of the log that are applied since the last compaction; at 10000 the next is due.") n.tally.log_since_compaction
    ++ known_text Gauge (codes "slotctl_log_append_age_seconds") (codes "Seconds since an entry of the log was last applied, or since the start.") n.log_age

-- the page: what is not known is left out
unfoldable pub page_of : Numbers → List ℕ
page_of n = clients_page n ++ audit_page n ++ hall_page n ++ keeping_page n
