use Rattle.std.proofs.Common.{◌≡◌, ◌<◌, ℕ, suc, length, get_or, ap, ◌∙◌, arith}
use Rattle.std.proofs.lemmas.List.{get_or_default}
use Rattle.model_pool.specs.Roster.{bucket}
use Rattle.model_pool.proofs.IndexLemmas.{noted_one}
use Rattle.model_pool.proofs.roster.note.Goals as goal

pub returns-clause-indexed : goal.returns-clause-indexed
returns-clause-indexed g c = λ ids i.
    let heads = c.args.heads.now.items in
    let wide : c.len.result ≡ length heads = c.len.ensures ∙ c.args.heads.now.ok.0 in
    let own : c.bucket_of-b.result ≡ bucket (length heads) c.args.id = c.bucket_of-b.ensures.bucket ∙ ap (λ (k : ℕ). bucket k c.args.id) wide in
    let inside : c.bucket_of-b.result < length heads = omega (arith, c.bucket_of-b.ensures.inside, wide) in
    let more : c.len-2.result ≡ suc (length ids) = omega (arith, c.len-2.ensures, c.push_reserved.ensures.len, i.many, c.args.links.now.ok.0) in
    let head : c.index.result.now ≡ get_or heads c.bucket_of-b.result 0 = c.index.ensures ∙ get_or_default heads c.bucket_of-b.result c.index.result.now 0 inside in
    rw (more, c.push_reserved.ensures.items, head) (noted_one heads c.args.links.now.items ids c.args.id c.bucket_of-b.result i own inside)
