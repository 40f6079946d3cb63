-- transcripts by the kind of world: those of a desk, what is said to the same lines, and runs that are played
use Rattle.std.proofs.Common.{◌≡◌, List, Result, refl, true}
use Rattle.model_asked.specs.Config.{gives_names}
use Rattle.model_asked.specs.lemmas.KindProofs.{where_named}
use Rattle.model_asked.specs.declared.config.Config.{Config}
use Rattle.model_asked.specs.declared.kind.WorldKind.{WorldKind}
use Rattle.model_asked.specs.declared.kind.WorldKind.TheVariants.{Splitter, Grid, Rename, Tree, Wide}
use Rattle.text_worlds.specs.desk.Desk.{IsFreshDesk}
use Rattle.text_worlds.specs.DeskWorld.{DeskWorldMay, IsDeskTranscript}
use Rattle.text_worlds.specs.lemmas.DeskWorldProofs.{one_desk_fresh, one_desk_reply}
use Rattle.text_worlds.specs.GridWorld.{IsGridTranscript, grid_fresh, grid_rules, one_grid_fresh}
use Rattle.text_worlds.specs.IsTranscript.{IsTranscript, IsTranscriptByKind}
use Rattle.text_worlds.specs.OneTranscript.{IsOneTranscript}
use Rattle.text_worlds.specs.lemmas.OneTranscriptProofs.{determined}
use Rattle.text_worlds.specs.SplitterWorld.{IsSplitterTranscript, splitter_fresh, splitter_rules, one_splitter_fresh}
use Rattle.text_lines.specs.declared.fault.Fault.{Fault}
use Rattle.text_player.specs.declared.summary.Summary.{Summary}
use Rattle.text_player.specs.Played.{IsPlayedIn, Reading, Writing}
use Rattle.text_player.specs.Turns.{Turn}
use Rattle.text_worlds.specs.lemmas.VisitProofs.{one_visit}
use Rattle.text_worlds.specs.Visits.{visit_may}

-- where names are given they are transcripts of a desk
pub is_desk_transcript : (c : Config) (kind : WorldKind) → gives_names kind ≡ true → (ts : List Turn) → IsTranscriptByKind kind c ts → IsDeskTranscript c ts
is_desk_transcript c kind named ts transcript = where_named (λ (k : WorldKind). IsTranscriptByKind k c ts → IsDeskTranscript c ts) kind named (λ t. t) (λ t. t) (λ t. t) transcript

-- to the same lines the same is said, where no growth is refused
pub one_transcript : (kind : WorldKind) (config : Config) → IsOneTranscript (IsTranscriptByKind kind config)
one_transcript Splitter c ts us same a b = determined (visit_may splitter_rules) (one_visit splitter_rules) (splitter_fresh c) (one_splitter_fresh c) ts us same a.could b.could
one_transcript Grid c ts us same a b = determined (visit_may grid_rules) (one_visit grid_rules) (grid_fresh c) (one_grid_fresh c) ts us same a.could b.could
one_transcript Rename c ts us same a b = determined DeskWorldMay one_desk_reply (IsFreshDesk c) (one_desk_fresh c) ts us same a.could b.could
one_transcript Tree c ts us same a b = determined DeskWorldMay one_desk_reply (IsFreshDesk c) (one_desk_fresh c) ts us same a.could b.could
one_transcript Wide c ts us same a b = determined DeskWorldMay one_desk_reply (IsFreshDesk c) (one_desk_fresh c) ts us same a.could b.could

-- what holds in each world of the transcripts of its kind holds in the config's of the config's transcripts
by_kind : (Holds : (List Turn → Type 0) → Type 0) (kind : WorldKind) (c : Config) → (kind ≡ Splitter → Holds (IsSplitterTranscript c)) → (kind ≡ Grid → Holds (IsGridTranscript c)) → (gives_names kind ≡ true → Holds (IsDeskTranscript c)) →
    Holds (IsTranscriptByKind kind c)
by_kind Holds Splitter c splitter grid names = splitter refl
by_kind Holds Grid c splitter grid names = grid refl
by_kind Holds Rename c splitter grid names = names refl
by_kind Holds Tree c splitter grid names = names refl
by_kind Holds Wide c splitter grid names = names refl

pub played_by_kind : (c : Config) {R W : Type 0} (reading : Reading R) (writing : Writing W) (result : Result Summary Fault) → (c.world ≡ Splitter → IsPlayedIn (IsSplitterTranscript c) c.world reading writing result) →
    (c.world ≡ Grid → IsPlayedIn (IsGridTranscript c) c.world reading writing result) → (gives_names c.world ≡ true → IsPlayedIn (IsDeskTranscript c) c.world reading writing result) → IsPlayedIn (IsTranscript c) c.world reading writing result
played_by_kind c reading writing result splitter grid names = by_kind (λ IsTranscriptOf. IsPlayedIn IsTranscriptOf c.world reading writing result) c.world c splitter grid names
