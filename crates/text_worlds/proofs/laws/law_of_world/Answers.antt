use Rattle.text_worlds.specs.lemmas.OneTranscriptProofs.{determined}
use Rattle.text_worlds.proofs.laws.law_of_world.Goals as goal

pub returns : goal.returns
returns g c = λ config. determined g.D.Service.may g.met.D.World.one_reply (g.D.World.fresh config) (g.met.D.World.one_fresh config)
