-- where an identity stands on a desk (this project's profile)
use Rattle.std.specs.Prelude.{ℕ, Bool, true, false, List, [], ◌++◌, Option, Some, None, Result, Ok, Err, codes, decimal}
use Rattle.model_steps.specs.declared.refusal.Refusal.{Refusal}
use Rattle.model_steps.specs.declared.refusal.Refusal.TheVariants.{Spent}
use Rattle.model_pool.specs.Competitors.{stay_of}
use Rattle.model_pool.specs.Pool.{number_answer}
use Rattle.model_pool.specs.declared.stay.Stay.{Stay}
use Rattle.model_pool.specs.declared.stay.Stay.TheVariants.{Seeking, Settled}
use Rattle.model_asked.specs.declared.event.Event.TheVariants.{Step}
use Rattle.text_worlds.specs.desk.Coming.{coming_of}
use Rattle.text_worlds.specs.desk.Desk.{desk_refusal}
use Rattle.text_worlds.specs.desk.DeskRules.{fetched}
use Rattle.text_worlds.specs.desk.DeskValue.{DeskValue}
use Rattle.text_worlds.specs.desk.Held.{name_on, place_on, slots_of}
use Rattle.tool_work.specs.declared.page.form.Form.{Form}
use Rattle.tool_work.specs.declared.page.standing.Standing.{Standing}
use Rattle.tool_work.specs.page.Access.{access_words}
use Rattle.tool_work.specs.page.Form.{gap_of}

abbrev pub is_spent_by : Option Refusal → Bool
is_spent_by (Some Spent) = true
is_spent_by why = false

-- the access that it makes next, its place, its name, whether its rounds are used up, how it competes for the pool, and what
-- stands in the slot of the number that it holds
abbrev pub standing_on : DeskValue → ℕ → Standing
standing_on w p = record {
  next = coming_of w p;
  place = place_on w p;
  name = name_on w p;
  is_spent = is_spent_by (desk_refusal w (Step p));
  stay = stay_of p (slots_of w).pool.competitors;
  value = fetched (slots_of w).values (number_answer (slots_of w).pool p);
}

-- ---- in words

abbrev pub place_words : Option ℕ → List ℕ
place_words None = []
place_words (Some place) = codes "place " ++ decimal place

abbrev pub name_words : Option ℕ → Bool → List ℕ
name_words (Some name) is_spent = codes "name " ++ decimal name
name_words None true = codes "spent"
name_words None false = []

abbrev pub stay_words : Option Stay → List ℕ
stay_words None = []
stay_words (Some (Seeking next)) = codes "probes " ++ decimal next
stay_words (Some (Settled number)) = codes "holds " ++ decimal number

abbrev pub value_words : Result ℕ Refusal → List ℕ
value_words (Ok value) = codes " " ++ decimal value
value_words (Err why) = []

-- four parts: the next access, the place, the name, and the pool
abbrev pub standing_words : Form → Standing → List ℕ
standing_words f s =
    access_words s.next ++ gap_of f ++ place_words s.place ++ gap_of f ++ name_words s.name s.is_spent ++ gap_of f ++ stay_words s.stay ++ value_words s.value
