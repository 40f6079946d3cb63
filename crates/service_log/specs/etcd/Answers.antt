-- What the body of an answer of etcd says. None where it is no such answer. Its gateway leaves out what is false or empty.
use Rattle.std.specs.Prelude.{ℕ, Bool, true, false, List, [], Option, Some, None, option_and_then, codes}
use Rattle.std.specs.Str.{bytes_eq}
use Rattle.json.specs.Json.{Json}
use Rattle.json.specs.Find.{get, at, as_bool, as_str}

-- every answer has a header
abbrev pub if_header : {A : Type 0} → Option Json → Option A → Option A
if_header None said = None
if_header (Some header) said = said

-- the revision of the store at which it answered
abbrev pub revision_said : Json → Option (List ℕ)
revision_said answer = option_and_then as_str (option_and_then (get (codes "revision")) (get (codes "header") answer))

-- whether a transaction put its value
abbrev pub was_put : Option Bool → Bool
was_put None = false
was_put (Some said) = said

abbrev pub put_said : Json → Option Bool
put_said answer =
    if_header (get (codes "header") answer)
    (Some (was_put (option_and_then as_bool (get (codes "succeeded") answer))))

-- the text of the value, where the entry's key is the one that was asked
abbrev pub value_text : Option (List ℕ) → List ℕ
value_text None = []
value_text (Some text) = text

abbrev pub if_same : {A : Type 0} → Bool → Option A → Option A
if_same false said = None
if_same true said = said

abbrev pub if_key : {A : Type 0} → List ℕ → Option (List ℕ) → Option A → Option A
if_key asked None said = None
if_key asked (Some key) said = if_same (bytes_eq key asked) said

abbrev pub entry_said : List ℕ → Json → Option (List ℕ)
entry_said key entry =
    if_key key (option_and_then as_str (get (codes "key") entry))
    (Some (value_text (option_and_then as_str (get (codes "value") entry))))

-- the base64 of what stands at the key, where the entry of this index has to say it; or there is no such entry
abbrev pub stood_said : List ℕ → Option Json → Option (Option (List ℕ))
stood_said key None = Some None
stood_said key (Some entry) = option_and_then (λ value. Some (Some value)) (entry_said key entry)

abbrev pub get_said : ℕ → List ℕ → Json → Option (Option (List ℕ))
get_said index key answer =
    if_header (get (codes "header") answer)
    (stood_said key (option_and_then (at index) (get (codes "kvs") answer)))

-- what a transaction got by the request of this index
abbrev pub got_said : ℕ → Json → Option Json
got_said index answer = option_and_then (get (codes "response_range")) (option_and_then (at index) (get (codes "responses") answer))

-- the base64 value of the first entry, if there is one
abbrev pub first_value : Json → Option (List ℕ)
first_value answer = option_and_then as_str (option_and_then (get (codes "value")) (option_and_then (at 0) (get (codes "kvs") answer)))

-- the same of an answer; the inner None is one with no entry
abbrev pub first_said : Json → Option (Option (List ℕ))
first_said answer = if_header (get (codes "header") answer) (Some (first_value answer))
