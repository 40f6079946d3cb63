use Rattle.std.proofs.Common.{ap, sym, refl, ◌≡◌, ◌<◌, ◌+◌, ◌++◌, ◌∷◌, ◌∙◌, [], ℕ, List, length, take, slice_set, arith}
use Rattle.std.proofs.lemmas.Grind.{take-set_at}
use Rattle.words_names.specs.Seats.{DealerId, dealer_of}
use Rattle.words_names.proofs.names.Names.deal.Goals as goal

pub returns-clause-dealt : goal.returns-clause-dealt
returns-clause-dealt g c = λ _.
    let ids : List ℕ = c.dealer.inside.identities in
    let k = c.dealt-dealt.ensures in
    let old = c.dealer.view_is in
    let last = c.in-Some.ensures.seat.1 in
    let long : c.dealt-dealt.result < length ids =
    (let sized = c.dealer.told in let low = c.in-Some.ensures.some.0 refl in let few = c.most-most.ensures.may.few in let most = c.most-most.ensures.count in omega arith) in
    let words : c.deal.new.dealer.words ≡ c.args.self.now = c.in-Some.ensures.ours ∙ c.self.view_is in
    let dealt : c.deal.new.dealer.dealt ≡ c.args.dealer.now.dealt + 1 = last ∙ ap (λ (d : DealerId). d.dealt + 1) old in
    let known : take c.deal.new.dealer.dealt (slice_set ids c.dealt-dealt.result c.args.identity) ≡ c.args.dealer.now.known ++ c.args.identity ∷ [] =
    ap (λ (n : ℕ). take n (slice_set ids c.dealt-dealt.result c.args.identity)) (last ∙ ap (λ (n : ℕ). n + 1) (sym k)) ∙ take-set_at ids c.dealt-dealt.result (c.dealt-dealt.result + 1) c.args.identity refl long
    ∙ ap (λ (xs : List ℕ). xs ++ c.args.identity ∷ []) (ap (λ (n : ℕ). take n ids) k ∙ ap (λ (d : DealerId). d.known) old) in
    λ i. dealer_of (words i) (dealt i) (known i)
