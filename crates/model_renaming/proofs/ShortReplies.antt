-- outcomes of a few bytes, with a view beside them
use Rattle.std.proofs.Common.{◌≡◌, ◌≢◌, ℕ, List, Result, Ok, Err, OnErr, ap}
use Rattle.model_renaming.proofs.Common.{Refusal, outcome_with}
use Rattle.model_renaming.specs.declared.reply.Reply.{Reply}

-- a view beside it makes no refusal
pub refused_short : (outcome : Result (Reply (Unit {0})) Refusal) (view : List (ℕ × ℕ)) (why : Refusal) → outcome_with outcome view ≡ Err why → outcome ≡ Err why
refused_short (Ok said) view why e = absurd (cc)
refused_short (Err other) view why e = cc

-- and takes none away
pub accepted_short : (outcome : Result (Reply (Unit {0})) Refusal) (view : List (ℕ × ℕ)) (why : Refusal) → outcome_with outcome view ≢ Err why → outcome ≢ Err why
accepted_short outcome view why goes = λ e. goes (ap (λ (x : Result (Reply (Unit {0})) Refusal). outcome_with x view) e)

-- and what a refusal keeps is kept
pub kept_short : (P : Type 0) (outcome : Result (Reply (Unit {0})) Refusal) (view : List (ℕ × ℕ)) → OnErr outcome P → OnErr (outcome_with outcome view) P
kept_short P (Ok said) view h = tt
kept_short P (Err why) view h = h
