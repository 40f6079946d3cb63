-- lines that a server answers by itself and that change nothing: who holds numbers, what changes of that, and its terms
use Rattle.std.specs.Prelude.{ℕ, ◌++◌, if◌then◌else◌, List, Option, Some, None, codes, decimal}
use Rattle.model_pool.specs.slots.SlotsState.{SlotsState}
use Rattle.text_lines.specs.Meaning.{same_bytes}
use Rattle.text_lines.specs.held.Held.{held_query, held_text}
use Rattle.text_lines.specs.declared.held.query.HeldQuery.{HeldQuery}
use Rattle.service_loop.specs.FeedState.{FeedState}
use Rattle.service_loop.specs.WatchLines.{watch_query, watch_text}
use Rattle.service_loop.specs.declared.terms.Query.{Query}
use Rattle.service_loop.specs.declared.terms.Query.TheVariants as query
use Rattle.service_loop.specs.declared.terms.Terms.{Terms}
use Rattle.service_loop.specs.declared.watch_line.WatchQuery.{WatchQuery}

abbrev pub holders_if : Option HeldQuery → Option Query
holders_if None = None
holders_if (Some q) = Some (query.Holders q)

abbrev pub changes_if : Option WatchQuery → Option Query
changes_if None = None
changes_if (Some q) = Some (query.Changes q)

-- the first that there is of two
abbrev pub or_else : Option Query → Option Query → Option Query
or_else None y = y
or_else (Some q) y = Some q

-- what a line asks: `terms` for the terms, `held` and `held ID` for who holds numbers, `watch` and `watch P` for what changes of that
abbrev pub query_of : List ℕ → Option Query
query_of line = if same_bytes line (codes "terms") then Some query.Terms else or_else (holders_if (held_query line)) (changes_if (watch_query line))

-- stays end a grace time after their connection, or never
abbrev pub hold_text : Option ℕ → List ℕ
hold_text None = codes "terms forever "
hold_text (Some grace) = codes "terms connection "

-- and 0 for never
abbrev pub seconds : Option ℕ → ℕ
seconds None = 0
seconds (Some n) = n

abbrev pub terms_text : Terms → List ℕ
terms_text t = hold_text t.grace ++ decimal (seconds t.grace) ++ codes " " ++ decimal (seconds t.idle) ++ codes "\n"

-- what is answered
abbrev pub query_text : Terms → SlotsState ℕ → ℕ → FeedState → Query → List ℕ
query_text terms slots first feed (query.Holders q) = held_text slots q
query_text terms slots first feed (query.Changes q) = watch_text first feed q
query_text terms slots first feed query.Terms = terms_text terms
