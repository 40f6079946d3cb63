-- the counts of a run
use Rattle.std.specs.Prelude.{ℕ, ◌+◌, if◌then◌else◌, List, [], ◌∷◌, Result, Ok, Err}
use Rattle.model_asked.specs.declared.bad.Bad.{Bad}
use Rattle.model_asked.specs.Replies.{ShownReply, is_refusal}

abbrev pub one_if_accepted : Result ShownReply Bad → ℕ
one_if_accepted (Ok r) = if is_refusal r then 0 else 1
one_if_accepted (Err bad) = 0

abbrev pub one_if_refused : Result ShownReply Bad → ℕ
one_if_refused (Ok r) = if is_refusal r then 1 else 0
one_if_refused (Err bad) = 0

abbrev pub one_if_bad : Result ShownReply Bad → ℕ
one_if_bad (Ok r) = 0
one_if_bad (Err bad) = 1

abbrev pub total : (Result ShownReply Bad → ℕ) → List (Result ShownReply Bad) → ℕ
total one [] = 0
total one (a ∷ more) = one a + total one more
