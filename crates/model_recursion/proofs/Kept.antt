-- each access of a seat keeps the invariant
use Rattle.std.proofs.Common.{◌≡◌, ℕ, suc, ◌+◌, ◌-◌, ◌<◌, ◌≤◌, inl, inr, true, nat_lt, nat_le, ◌&&◌, Option, Some, None, refl, sym, subst, arith}
use Rattle.std.proofs.lemmas.Bool.{cases_Bool}
use Rattle.std.proofs.lemmas.Bool.Decides.{nat_tests}
use Rattle.model_steps.specs.SetAt.{set_at}
use Rattle.model_steps.proofs.cited.CountLemmas.{count_none}
use Rattle.model_recursion.specs.Spot.Fate.{Absent}
use Rattle.model_recursion.specs.Invariant.{Stands, IsConsistent}
use Rattle.model_recursion.specs.Program.{access_at, after_phase, value_in, name_at, next_access, namer_after, in_phase, first_survey, surveyed, read_on, is_open, cell_at, Phase, phase_of}
use Rattle.model_recursion.specs.Machine.{Words, with_word, words_after, answer_to}
use Rattle.model_recursion.specs.declared.namer.Survey.{Survey}
use Rattle.model_recursion.specs.Program.Phase.{Entering, Collecting, Over}
use Rattle.model_recursion.specs.declared.namer.Namer.{Namer}
use Rattle.model_recursion.proofs.Entered.{entered, gone_on, read}
use Rattle.model_recursion.proofs.Left.{decides}

-- nobody has begun
pub consistent_new : (m : ℕ) (ids : ℕ → ℕ) → m ≤ 64 → IsConsistent m ids (λ x f q. 0) (λ p. None)
consistent_new m ids few = record {
  rows = λ x p. record { fate = Absent; first = 0 };
  few = few;
  words = λ x f q. refl;
  stands = λ p u h. absurd (cc);
  absent = λ p h x. refl;
  full = λ k p l h. absurd (cc);
  stays = λ k f l many. absurd (let none = count_none (suc m) in omega arith);
  turned = λ k p l h. absurd (cc);
  named = λ k p q l h i. absurd (cc);
  chain = λ k p l h. absurd (cc);
  top = λ p h. absurd (cc);
}

module _ (m : ℕ) (ids : ℕ → ℕ) (word : Words) (who : ℕ → Option Namer) (g : IsConsistent m ids word who) (p : ℕ) (u : Namer) (is : who p ≡ Some u) where
  abbrev st : Stands m ids g.rows p u
  st = g.stands p u is

  -- after an access at this phase
  abbrev Kept : Phase → Type 0
  Kept phase = IsConsistent m ids (words_after word (access_at u phase)) (set_at who p (Some (after_phase u phase (value_in (answer_to word (access_at u phase))))))

  read_kept : (c : Survey) → phase_of u ≡ Collecting c → IsConsistent m ids word (set_at who p (Some (read_on u (surveyed u c (word u.level u.first c.at)))))
  read_kept c e = elim (cases_Bool (is_open u (surveyed u c (word u.level u.first c.at)))) [
    | inr closed ↦ rw closed (decides m ids word who g p u is c e closed)
    | inl open_ ↦
        let s = surveyed u c (word u.level u.first c.at) in
        let to = (read m ids word who g p u is c e).to in
        let most = st.most in
        let low : c.at < m = some_left s.seen u.level u.most c.at m most open_ in
        rw open_ (gone_on m ids word who g p u is c e low)
  ]
    where
      some_left : (seen level most at n : ℕ) → most ≡ n → (nat_lt seen level && nat_le level (seen + (most - at))) ≡ true → at < n
      some_left seen level most at n is h = grind (arith, nat_tests)

  kept_at : (phase : Phase) → phase_of u ≡ phase → name_at phase ≡ None → Kept phase
  kept_at Entering e goes = subst (λ (v : ℕ). IsConsistent m ids (with_word word (cell_at u.level u.first u.seat) v) (set_at who p (Some (in_phase u (Collecting first_survey))))) (sym st.id_is)
      (subst (λ (i : ℕ). IsConsistent m ids (with_word word (cell_at u.level u.first i) (ids p)) (set_at who p (Some (in_phase u (Collecting first_survey))))) (sym st.own) (entered m ids word who g p u is e))
  kept_at (Collecting c) e goes = read_kept c e
  kept_at (Over name) e goes = absurd (cc)

  pub access_kept : name_at (phase_of u) ≡ None → IsConsistent m ids (words_after word (next_access u)) (set_at who p (Some (namer_after u (answer_to word (next_access u)))))
  access_kept goes = kept_at (phase_of u) refl goes
