-- of what sizes the objects of a config are
use Rattle.model_asked.specs.Config.{is_tree}
use Rattle.model_renaming.specs.RenameObject.{RenameTerms}
use Rattle.model_asked.specs.declared.config.Config.{Config}

abbrev pub terms_of : Config → RenameTerms
terms_of c = record { most = c.m; limit = c.limit; grows = is_tree c.world }
