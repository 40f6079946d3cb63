use Rattle.text_worlds.proofs.desk_lemmas.NamedAlone.{names_soon_alone}
use Rattle.text_worlds.proofs.cited.desk.NamedAmong.{names_soon_among}
use Rattle.text_worlds.specs.lemmas.desk.NamesGiven.{one_each, never_two, small_names}
use Rattle.text_worlds.proofs.desk.laws.law_of_names.Goals as goal

pub returns-clause-one_each : goal.returns-clause-one_each
returns-clause-one_each c = one_each

pub returns-clause-never_two : goal.returns-clause-never_two
returns-clause-never_two c = never_two

pub returns-clause-small : goal.returns-clause-small
returns-clause-small c = small_names

pub returns-clause-soon_alone : goal.returns-clause-soon_alone
returns-clause-soon_alone c = names_soon_alone

pub returns-clause-soon_among : goal.returns-clause-soon_among
returns-clause-soon_among c = names_soon_among
