-- the first moments in which proposals stand alone, and what is kept of them
use Rattle.std.specs.Prelude.{◌≡◌, ℕ, ◌≤◌, ◌==◌, if◌then◌else◌, Bool, false, List, [], ◌∷◌, Option, Some, None, MatchOption, nat_eq}
use Rattle.std.specs.List.{list_any}
use Rattle.std.specs.HashMap.{get}
use Rattle.model_snapshot.specs.Snapshot.{IsMoment}
use Rattle.model_renaming.specs.RenameObject.{RenameObject, IsRecent, IsSole, ShowsSole}
use Rattle.text_checker.specs.declared.judges.firsts.Firsts.{Firsts}

-- the view is the first moment from p's last proposal on in which p proposes n and no other does
pub record IsFirstSole (o : RenameObject) (p n : ℕ) (view : List (ℕ × ℕ)) : Type 0 where
  pub shows : ShowsSole o p n view
  pub first : (i : ℕ) → IsRecent o p i → IsSole (o.moment i) p n → shows.index ≤ i

-- there is no such moment
abbrev pub NeverSole : RenameObject → ℕ → Type 0
NeverSole o p = (i n : ℕ) → IsRecent o p i → IsSole (o.moment i) p n → ⊥

-- who alone proposes a number, by the pairs of a view
abbrev pub sole_in : ℕ → List (ℕ × ℕ) → Option ℕ
sole_in n [] = None
sole_in n (pair ∷ more) = if pair.1 == n then (if list_any (λ other. other.1 == n) more then None else Some pair.0) else sole_in n more

-- the view that is kept of an identity
abbrev pub view_at : Firsts → ℕ → Option (List (ℕ × ℕ))
view_at f p = get nat_eq f.found p

abbrev pub if_none : Option (List (ℕ × ℕ)) → List (ℕ × ℕ) → Option (List (ℕ × ℕ))
if_none None view = Some view
if_none (Some kept) view = Some kept

abbrev pub is_one : ℕ → Option ℕ → Bool
is_one p None = false
is_one p (Some q) = q == p

-- what is kept of an identity after a number was noted: the last moment, where the identity alone proposes the number in it and
-- nothing was kept
abbrev pub noted : Firsts → ℕ → ℕ → Option (List (ℕ × ℕ))
noted f n p = if is_one p (sole_in n f.present) then if_none (view_at f p) f.present else view_at f p

-- a first moment was found
pub record HasFirst (o : RenameObject) (p : ℕ) (view : List (ℕ × ℕ)) : Type 0 where
  pub number : ℕ
  pub first : IsFirstSole o p number view

-- what is kept is of this object: its last moment, and of each identity the first moment in which its proposal stands alone
pub record HoldsFirsts (f : Firsts) (o : RenameObject) : Type 0 where
  pub present : IsMoment f.present (o.moment o.last)
  pub since : (p : ℕ) → o.since p ≤ o.last
  pub same : (p i : ℕ) → IsRecent o p i → o.moment i p ≡ o.moment o.last p
  pub found : (p : ℕ) → MatchOption (view_at f p) (NeverSole o p) (λ view. HasFirst o p view)
