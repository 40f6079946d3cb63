use Rattle.words_c.specs.declared.part.Part.TheVariants.{Grid}
use Rattle.words_c.proofs.grid.word_grid_enter.Given as goal

abbrev pub ghost-into_box : goal.ghost-into_box
ghost-into_box g a = Grid g.grid
