-- What was taken stood at the first place; and where it is another, nothing else does.
use Rattle.std.proofs.Common.{rules, ◌≡◌, ◌≢◌, ◌++◌, [], ◌∷◌, ℕ, sym, ◌∙◌, subst}
use Rattle.std.specs.declared.vec.Vec.{Vec}
use Rattle.std.specs.declared.alloc.Global.{Global}
use Rattle.service_log.proofs.etcd_lemmas.Lasts.{last_is}
use Rattle.service_log.proofs.etcd.etcd_store.take_first.Goals as goal

pub returns-then-eq-clause-taken : goal.returns-then-eq-clause-taken
returns-then-eq-clause-taken c =
    let first : Vec ℕ Global = c.in-Some.first in
    let old : c.args.found.now.items ≡ c.pop.new.self.items ++ first ∷ [] = search rules in
    let same : first.items ≡ c.args.stood.now = search rules in
    (first, old, same)

pub returns-clause-went_back : goal.returns-clause-went_back
returns-clause-went_back c = λ back rest other is same.
    let first : Vec ℕ Global = c.in-Some.first in
    let old : c.args.found.now.items ≡ c.pop.new.self.items ++ first ∷ [] = search rules in
    let differs : first.items ≢ c.args.stood.now = search rules in
    let one : other ≡ first = last_is rest c.pop.new.self.items other first (sym is ∙ old) in
    differs (subst (λ (e : Vec ℕ Global). e.items ≡ c.args.stood.now) one same)
