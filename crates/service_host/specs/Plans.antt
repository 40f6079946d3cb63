-- what the options of a server ask for
use Rattle.std.specs.Prelude.{ℕ, min, Option, Some, None}
use Rattle.service_follow.specs.declared.hall_terms.HallTerms.{HallTerms}
use Rattle.service_follow.specs.declared.hall_terms.HallTerms.TheVariants.{Forever, Grace}

-- the terms of a hall whose stays end so many seconds after their connection, a day at most, or never
abbrev pub terms_asked : Option ℕ → HallTerms
terms_asked None = Forever
terms_asked (Some grace) = Grace (min grace 86400)

-- After how many seconds a client of a pool that says nothing is closed. It is what its server says; but at most 30 where the pool alone has a grace time,
-- so that one who is gone is noticed
abbrev pub idle_asked : Option ℕ → Option ℕ → Option ℕ → Option ℕ
idle_asked (Some idle) None (Some grace) = Some (min idle 30)
idle_asked idle server_grace pool_grace = idle
