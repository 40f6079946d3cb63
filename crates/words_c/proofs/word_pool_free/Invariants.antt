use Rattle.words_c.specs.declared.part.Part.TheVariants.{Pool}
use Rattle.words_c.proofs.word_pool_free.Given as goal

abbrev pub ghost-into_box : goal.ghost-into_box
ghost-into_box g a = Pool g.pool
