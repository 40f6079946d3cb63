use Rattle.words_c.specs.declared.part.Part.TheVariants.{Names}
use Rattle.words_c.proofs.names.word_names_join.Given as goal

abbrev pub ghost-into_box : goal.ghost-into_box
ghost-into_box g a = Names g.names
