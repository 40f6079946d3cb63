-- changes of the terms of a hall in a log, and how terms are read back
use Rattle.std.specs.Prelude.{◌≡◌, ◌≢◌, ◌⊎◌, ◌≤◌, ℕ, List, [], ◌∷◌, ◌++◌, All, length, Option, Some, None}
use Rattle.service_hall.specs.declared.rules.Rules.{Rules}
use Rattle.service_follow.specs.Batches.{batch_by}
use Rattle.service_follow.specs.Entries.{behind_first_line}
use Rattle.service_follow.specs.FollowState.{FollowState}
use Rattle.service_follow.specs.Hosted.{HasMovedOn}
use Rattle.service_follow.specs.Marks.{mark_of}
use Rattle.service_follow.specs.Tellings.{first_entry}
use Rattle.service_follow.specs.Terms.{IsTerms, change_entry, terms_of, terms_text}
use Rattle.service_follow.specs.declared.hall_terms.HallTerms.{HallTerms}
use Rattle.service_follow.specs.declared.hall_terms.ToldTerms.{ToldTerms}
use Rattle.service_follow.specs.declared.marks.Mark.TheVariants.{Ordinary}

-- the entry of a front end that changes the terms of a hall to these
pub record IsChange (token : List ℕ) (terms : HallTerms) (entry : List ℕ) : Type 0 where
  pub count : ℕ
  pub was : HallTerms
  pub is : entry ≡ change_entry token count (record { terms = terms; was = was })

-- a hall that follows a log went on, and what stands new in the log is changes by this front end to its terms, which are what they were
pub record HasChangedAlone {S : Type 0} (stands : S → ℕ → List ℕ → Type 0) (token token' : List ℕ) (terms terms' : HallTerms) (old new : FollowState S) : Type 0 where
  pub moved : HasMovedOn stands old new
  pub alone : (place : ℕ) (entry : List ℕ) → stands new.store place entry → stands old.store place entry ⊎ IsChange token terms entry
  pub token_is : token' ≡ token
  pub terms_are : terms' ≡ terms

-- terms whose seconds fit into 32 bits
abbrev pub AreTerms : Option ToldTerms → Type 0
AreTerms None = Unit {0}
AreTerms (Some told) = IsTerms told.terms × IsTerms told.was

-- Terms at the end of a first line are read back, behind at least so many bytes as a token has. Clients' lines stand behind the first line. A
-- change is no entry of a compaction, and has no line of a client. The first entry of a compaction tells the terms that it was given, and a batch none
pub record IsTermsRead (token : List ℕ) (count : ℕ) (told : ToldTerms) : Type 0 where
  pub anywhere : (front lines : List ℕ) → All (λ b. b ≢ 10) front → 33 ≤ length front → terms_of (front ++ (terms_text told ++ 10 ∷ lines)) ≡ Some told
  pub change : terms_of (change_entry token count told) ≡ Some told
  pub ordinary : mark_of (change_entry token count told) ≡ Ordinary
  pub silent : behind_first_line (change_entry token count told) ≡ []
  pub compaction : terms_of (first_entry token count (Some told)) ≡ Some told
  pub untold : terms_of (first_entry token count None) ≡ None
  pub batch : (rules : Rules) (lines : List ℕ) → terms_of (batch_by rules token count lines) ≡ None
