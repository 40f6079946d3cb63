-- the texts of events (this project's profile): the line that asks for each, without its LF
use Rattle.std.specs.Prelude.{ℕ, List, [], ◌∷◌, ◌++◌, codes, decimal}
use Rattle.model_asked.specs.declared.event.Event.{Event}
use Rattle.model_asked.specs.declared.event.Event.TheVariants as event

abbrev pub event_words : Event → List ℕ
event_words (event.Begin id) = codes "begin " ++ decimal id
event_words (event.Step id) = codes "step " ++ decimal id
event_words (event.Enter id) = codes "enter " ++ decimal id
event_words (event.Probe id) = codes "probe " ++ decimal id
event_words (event.Seek id) = codes "seek " ++ decimal id
event_words (event.Leave id) = codes "leave " ++ decimal id
event_words (event.Put id value) = (codes "put " ++ decimal id) ++ codes " " ++ decimal value
event_words (event.Get id) = codes "get " ++ decimal id
event_words (event.Widen more) = codes "widen " ++ decimal more

-- the lines that ask for events, in order
abbrev pub event_lines : List Event → List ℕ
event_lines [] = []
event_lines (e ∷ more) = (event_words e ++ 10 ∷ []) ++ event_lines more
