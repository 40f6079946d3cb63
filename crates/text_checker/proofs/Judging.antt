-- lines judged by their parts
use Rattle.std.proofs.Common.{◌≡◌, ◌<◌, true, Option, Some, None, arith, ap, is_none, refl}
use Rattle.text_checker.proofs.Common.{Refusal, Reason}
use Rattle.text_checker.specs.declared.reason.Reason.TheVariants as reason
use Rattle.text_checker.specs.Reasons.{reason_number}

-- what holds of each reason holds of all
pub for_all : (K : Reason → Type 0) → K reason.Reply → K reason.Refusal → K reason.Place → K reason.Proposal → K reason.View → K reason.Name → K reason.Pool → (why : Reason) → K why
for_all K a b c d e f g reason.Reply = a
for_all K a b c d e f g reason.Refusal = b
for_all K a b c d e f g reason.Place = c
for_all K a b c d e f g reason.Proposal = d
for_all K a b c d e f g reason.View = e
for_all K a b c d e f g reason.Name = f
for_all K a b c d e f g reason.Pool = g

-- and of each that is less than that of views
pub below_view : (K : Reason → Type 0) → K reason.Reply → K reason.Refusal → K reason.Place → K reason.Proposal → (why : Reason) → reason_number why < 5 → K why
below_view K a b c d reason.Reply l = a
below_view K a b c d reason.Refusal l = b
below_view K a b c d reason.Place l = c
below_view K a b c d reason.Proposal l = d
below_view K a b c d why l = absurd (omega arith)

pub none_due : (o : Option Refusal) → o ≡ None → is_none o ≡ true
none_due o e = ap is_none e

pub due_none : (o : Option Refusal) → is_none o ≡ true → o ≡ None
due_none None h = refl
due_none (Some why) h = absurd (cc)
