use Rattle.words_c.specs.declared.part.Part.TheVariants.{Line}
use Rattle.words_c.proofs.line.line_pool_acquire.Given as goal

abbrev pub ghost-into_box : goal.ghost-into_box
ghost-into_box g a = Line g.line
