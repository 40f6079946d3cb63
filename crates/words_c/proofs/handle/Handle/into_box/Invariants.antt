-- the part of the call is that of the handle
use Rattle.words_c.proofs.handle.Handle.into_box.Given as goal

abbrev pub ghost-into_parts : goal.ghost-into_parts
ghost-into_parts g a = g.part
