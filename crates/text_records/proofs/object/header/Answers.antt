use Rattle.std.proofs.Common.{◌≡◌, sym, ◌∙◌}
use Rattle.text_records.proofs.Common.{false≢true, named_apart}
use Rattle.std.proofs.lemmas.Option.{same_Some}
use Rattle.text_records.proofs.object.header.Goals as goal

pub returns-in-Err : goal.returns-in-Err
returns-in-Err c = λ h says.
    let d = h.config in
    let s = c.in-Some.ensures in
    let world : d.world ≡ c.in-Some.sizes.world = named_apart _ _ (same_Some _ _ (sym says.sizes.world_is ∙ s.world_is)) in
    let m : d.m ≡ c.in-Some.sizes.m = same_Some _ _ (sym says.sizes.m_is ∙ s.m_is) in
    let k : d.k ≡ c.in-Some.sizes.k = same_Some _ _ (sym says.sizes.k_is ∙ s.k_is) in
    let limit : d.limit ≡ c.in-Some.sizes.limit = same_Some _ _ (sym says.sizes.limit_is ∙ s.limit_is) in
    let fits = d.in_range in
    false≢true (c.in-Err.ensures.range.1 (rw (world, m, k, limit) at fits))

pub returns-in_default : goal.returns-in_default
returns-in_default c = λ h says. c.in_default.ensures h.version h.config.world h.config.m h.config.k h.config.limit says.sizes
