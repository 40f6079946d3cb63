-- the first name among what was kept
use Rattle.std.proofs.Common.{◌≡◌, ℕ, List, [], ◌∷◌, ◌++◌, Option, Some, None, refl, ap, ◌∙◌}
use Rattle.service_lock.proofs.Common.{option_or, Kept, name_given, name_kept}

or_none : (o : Option ℕ) → option_or o None ≡ o
or_none None = refl
or_none (Some n) = refl

or_assoc : (a b c : Option ℕ) → option_or a (option_or b c) ≡ option_or (option_or a b) c
or_assoc None b c = refl
or_assoc (Some n) b c = refl

-- one more that is kept gives the name where none was kept before
pub name_more : (ks : List Kept) (k : Kept) → name_kept (ks ++ k ∷ []) ≡ option_or (name_kept ks) (name_given k.exchange.reply)
name_more [] k = or_none (name_given k.exchange.reply)
name_more (j ∷ ks) k = ap (option_or (name_given j.exchange.reply)) (name_more ks k) ∙ or_assoc (name_given j.exchange.reply) (name_kept ks) (name_given k.exchange.reply)
