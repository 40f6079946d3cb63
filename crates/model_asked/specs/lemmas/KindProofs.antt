-- what holds of every world
use Rattle.std.proofs.Common.{◌≡◌, ◌∙◌, ℕ, Bool, true, List, [], ◌∷◌, inl, inr, refl, sym, ap, subst}
use Rattle.std.specs.List.{list_all}
use Rattle.std.proofs.lemmas.Bool.{and_parts}
use Rattle.std.proofs.lemmas.Option.{same_Some}
use Rattle.std.proofs.lemmas.Slice.Eq.{bytes_eq-Decides}
use Rattle.model_asked.specs.Config.{world_name, gives_names, is_kind, is_letter, all_kinds, first_named, facts_of}
use Rattle.model_asked.specs.declared.kind.WorldKind.{WorldKind}
use Rattle.model_asked.specs.declared.kind.WorldKind.TheVariants.{Rename, Tree, Wide}

-- names tell worlds apart
pub named_apart : (kind other : WorldKind) → world_name kind ≡ world_name other → kind ≡ other
named_apart kind other same = same_Some kind other (sym (facts_of kind).named ∙ ap (λ (name : List ℕ). first_named name all_kinds) same ∙ (facts_of other).named)

-- and so does the test
pub one_kind : (kind other : WorldKind) → is_kind kind other ≡ true → kind ≡ other
one_kind kind other is = named_apart kind other ((bytes_eq-Decides (world_name kind) (world_name other)).0 is)

-- what is so in the three worlds with names is so wherever names are given
pub where_named : (IsSo : WorldKind → Type 0) (kind : WorldKind) → gives_names kind ≡ true → IsSo Rename → IsSo Tree → IsSo Wide → IsSo kind
where_named IsSo kind given rename tree wide = elim ((facts_of kind).names given) [
  | inl is ↦ subst IsSo (sym is) rename
  | inr (inl is) ↦ subst IsSo (sym is) tree
  | inr (inr is) ↦ subst IsSo (sym is) wide
]

-- a name has only what letters are
pub name_has : (passes : ℕ → Bool) → ((byte : ℕ) → is_letter byte ≡ true → passes byte ≡ true) → (kind : WorldKind) → list_all passes (world_name kind) ≡ true
name_has passes letter kind = each (world_name kind) (facts_of kind).letters where
  each : (bytes : List ℕ) → list_all is_letter bytes ≡ true → list_all passes bytes ≡ true
  each [] all = refl
  each (byte ∷ more) all = let parts = and_parts (is_letter byte) (list_all is_letter more) all in rw (letter byte parts.0) (each more parts.1)
