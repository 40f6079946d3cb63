-- the terms of a hall in a log: for how long stays go on there, and where the entries tell it
use Rattle.std.specs.Prelude.{◌≡◌, ◌==◌, ◌&&◌, ◌+◌, ◌-◌, ◌<◌, ◌^◌, codes, decimal, min, nat_eq, nat_le, if◌then◌else◌, ℕ, List, [], ◌∷◌, ◌++◌, length, take, drop, slice_get, Option, Some, None}
use Rattle.std.specs.Cmp.Lexicographic.{pointwise}
use Rattle.model_asked.specs.Config.{world_name}
use Rattle.model_asked.specs.declared.config.Config.{Config}
use Rattle.service_follow.specs.Batches.{head_of, hex_digits}
use Rattle.service_follow.specs.Entries.{behind_first_line, is_there}
use Rattle.service_follow.specs.Marks.{number_of}
use Rattle.service_follow.specs.declared.hall_terms.HallTerms.{HallTerms}
use Rattle.service_follow.specs.declared.hall_terms.HallTerms.TheVariants.{Forever, Grace}
use Rattle.service_follow.specs.declared.hall_terms.ToldTerms.{ToldTerms}

-- the seconds of grace
abbrev pub grace_of : HallTerms → ℕ
grace_of Forever = 0
grace_of (Grace seconds) = seconds

-- a longer grace time lasts until a second, and from then on it is the own one
abbrev pub grace_at : ℕ → ℕ → ℕ → ℕ → ℕ
grace_at longer until own now = if nat_le until now then own else longer

-- the number that a text has for terms: 0 for forever, and else a second more than the grace
abbrev pub terms_number : HallTerms → ℕ
terms_number Forever = 0
terms_number (Grace seconds) = seconds + 1

abbrev pub terms_by : ℕ → HallTerms
terms_by n = if n == 0 then Forever else Grace (min (n - 1) 4294967295)

-- the text of terms: those from there on, and those before
abbrev pub terms_text : ToldTerms → List ℕ
terms_text t = codes " terms " ++ (hex_digits 16 (terms_number t.terms) ++ (codes " was " ++ hex_digits 16 (terms_number t.was)))

abbrev pub told_text : Option ToldTerms → List ℕ
told_text None = []
told_text (Some t) = terms_text t

-- what 45 bytes tell, the last of which ends a line
abbrev pub text_tells : List ℕ → Option ToldTerms
text_tells text =
    if pointwise nat_eq (take 7 text) (codes " terms ") && (pointwise nat_eq (take 5 (drop 23 text)) (codes " was ") && is_there (slice_get text 44) 10) then
    Some (record { terms = terms_by (number_of (take 16 (drop 7 text))); was = terms_by (number_of (take 16 (drop 28 text))) })
    else None

-- how many bytes the first line of an entry has, with its end
abbrev pub first_long : List ℕ → ℕ
first_long entry = length entry - length (behind_first_line entry)

-- the terms that an entry tells at the end of its first line, behind the bytes of a token
abbrev pub terms_of : List ℕ → Option ToldTerms
terms_of entry = if nat_le 78 (first_long entry) then text_tells (take 45 (drop (first_long entry - 45) entry)) else None

-- the version of the texts, and a config
abbrev pub config_text : Config → List ℕ
config_text c =
    codes "beglushan hall 1 world " ++
    (world_name c.world ++ (codes " m " ++ (decimal c.m ++ (codes " k " ++ (decimal c.k ++ (codes " limit " ++ decimal c.limit))))))

-- the first entry of a log of halls of a config, with the terms of the hall, or without in a log of an older version
abbrev pub first_line_of : Config → Option ToldTerms → List ℕ
first_line_of c told = config_text c ++ (told_text told ++ 10 ∷ [])

-- an entry is the first line of a config, with the terms that it tells
abbrev pub IsFirstLine : Config → List ℕ → Type 0
IsFirstLine config entry = entry ≡ first_line_of config (terms_of entry)

-- a log begins with the line of a config, with terms or without
abbrev pub HasFirstLine : (ℕ → List ℕ → Type 0) → Config → Type 0
HasFirstLine stands config = (told : Option ToldTerms) × stands 0 (first_line_of config told)

-- the entry that changes the terms of a hall
abbrev pub change_entry : List ℕ → ℕ → ToldTerms → List ℕ
change_entry token count told = head_of token count ++ (terms_text told ++ 10 ∷ [])

-- the seconds fit into 32 bits
abbrev pub IsTerms : HallTerms → Type 0
IsTerms terms = grace_of terms < 2 ^ 32
