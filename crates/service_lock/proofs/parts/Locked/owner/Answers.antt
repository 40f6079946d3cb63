use Rattle.std.proofs.Common.{◌≡◌, ℕ, ap, subst, ◌∙◌}
use Rattle.service_lock.specs.Answers.{IsSomeOwner}
use Rattle.service_lock.proofs.Common.{Config, ShownReply, HallState, SatisfiesSpec, hall_of, desk_of, owner_reply}
use Rattle.service_lock.proofs.parts.Locked.owner.Goals as goal

-- a lawful hall of this config is one that tells of a name
told : (d : Config) (h : HallState) (number : ℕ) (r : ShownReply) → h.config ≡ d → SatisfiesSpec h → r ≡ owner_reply (desk_of h) number → IsSomeOwner d number r
told d h number r config lawful is =
    let same : h ≡ hall_of d h.history = ap (λ (e : Config). hall_of e h.history) config in
    record {
      history = h.history;
      lawful = subst SatisfiesSpec same lawful;
      answer = is ∙ ap (λ (u : HallState). owner_reply (desk_of u) number) same;
    }

pub returns : goal.returns
returns g c = told g.L.LockName.config c.args.self.now.hall c.args.number c.owner.result c.args.self.now.config c.len.ensures.lawful c.owner.ensures.value
