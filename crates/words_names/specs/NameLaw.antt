-- the law of names that threads get (the problem: Attiya et al. 1990)
use Rattle.std.specs.Prelude.{ℕ, ◌+◌, ◌*◌, ◌≤◌}
use Rattle.words_names.specs.Seats.{RenamedId}

-- Where b of m seats had begun when this one got its name, itself among them, the name is from 1 to 2b - 1, and it made at most
-- m(m + 1) accesses, whatever the others did
pub record NameSpec (e : RenamedId) : Type 0 where
  pub counted : e.entered ≤ e.names.most
  pub from : 1 ≤ e.name
  pub to : e.name + 1 ≤ 2 * e.entered
  pub at_most : e.accesses ≤ e.names.most * (e.names.most + 1)
