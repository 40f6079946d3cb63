-- each access keeps the law of one splitter
use Rattle.std.proofs.Common.{◌≡◌, ◌≢◌, ℕ, true, false, inl, inr, refl, sym, subst, ◌∙◌, arith}
use Rattle.model_splitter.proofs.Common.{eqb_tells, Stop, Right, Down, VisitStage, Outside, WroteX, SawClear, WroteY, Gone, DoorSatisfiesSpec, IsSplitter, set_at}
use Rattle.model_splitter.specs.Stage.{has_entered, has_set, is_between, has_stopped, went_right, went_down, x_after, y_after, stage_after}
use Rattle.model_steps.proofs.cited.SetAtLemmas.{set_at-same, set_at-other, set_at-cases, set_at-as_is}
use Rattle.model_splitter.proofs.Changed.{passed_before, passes_still, passes_too, fails_still}

set_not_right : (s : VisitStage) → has_set s ≡ true → (has_entered s ≡ true) × (went_right s ≡ false)
set_not_right WroteY h = (refl, refl)
set_not_right (Gone Stop) h = (refl, refl)
set_not_right (Gone Down) h = (refl, refl)
set_not_right s h = absurd (cc)

stopped_set : (s : VisitStage) → has_stopped s ≡ true → has_set s ≡ true
stopped_set (Gone Stop) h = refl
stopped_set s h = absurd (cc)

-- a lawful splitter keeps the law
pub law_of : (x y : ℕ) (stage : ℕ → VisitStage) → DoorSatisfiesSpec x y stage → IsSplitter stage
law_of x y stage d = record {
  one_stops = λ p q h k. d.one p q (rw h refl) (rw k refl);
  not_all_right = λ p e. elim (eqb_tells y 0) [
    | inl w ↦ (p, e, λ gone. let not_right : went_right (stage p) ≡ false = d.none_right w.1 p in let right : went_right (stage p) ≡ true = rw gone refl in cc)
    | inr w ↦ let m = d.setter w.1 in let r = set_not_right (stage m.0) m.1 in (m.0, r.0, λ gone. let right : went_right (stage m.0) ≡ true = rw gone refl in let not_right = r.1 in cc)
  ];
  not_all_down = λ p e. (x, d.in_x p e, λ gone. let down : went_down (stage x) ≡ true = rw gone refl in let stays = d.stays in cc);
}

-- an empty splitter is lawful
pub lawful_new : (x : ℕ) → DoorSatisfiesSpec x 0 (λ p. Outside)
lawful_new x = record {
  unset = λ _ p. refl;
  none_right = λ _ p. refl;
  setter = λ h. absurd (h refl);
  in_x = λ p h. absurd (cc);
  stays = refl;
  alone = λ p h q b. absurd (cc);
  one = λ p q h k. absurd (cc);
}

module _ (x y : ℕ) (stage : ℕ → VisitStage) (p : ℕ) (d : DoorSatisfiesSpec x y stage) where
  -- the first access: p writes X
  wrote_x : stage p ≡ Outside → DoorSatisfiesSpec p y (set_at stage p WroteX)
  wrote_x s = record {
    unset = λ h q. fails_still stage p WroteX has_set refl q (d.unset h q);
    none_right = λ h q. fails_still stage p WroteX went_right refl q (d.none_right h q);
    setter = λ h. let m = d.setter h in (m.0, passes_still stage p WroteX has_set (rw s) m.0 m.1);
    in_x = λ q h. rw (set_at-same stage p WroteX);
    stays = rw (set_at-same stage p WroteX);
    alone = λ q h r b e. (passed_before stage p WroteX is_between refl r b).0 (sym e);
    one = λ q r h k. d.one q r (passed_before stage p WroteX has_stopped refl q h).1 (passed_before stage p WroteX has_stopped refl r k).1;
  }

  -- the second: p sees Y clear
  saw_clear : stage p ≡ WroteX → y ≡ 0 → DoorSatisfiesSpec x y (set_at stage p SawClear)
  saw_clear s z = record {
    unset = λ h q. fails_still stage p SawClear has_set refl q (d.unset h q);
    none_right = λ h q. fails_still stage p SawClear went_right refl q (d.none_right h q);
    setter = λ h. absurd (h z);
    in_x = λ q h. passes_too stage p SawClear has_entered refl x (d.in_x p (rw s));
    stays = fails_still stage p SawClear went_down refl x d.stays;
    alone = λ q h. absurd (
        let b = (passed_before stage p SawClear has_stopped refl q h).1 in
        let m : has_set (stage q) ≡ true = stopped_set (stage q) b in
        let n : has_set (stage q) ≡ false = d.unset z q in cc);
    one = λ q r h k. d.one q r (passed_before stage p SawClear has_stopped refl q h).1 (passed_before stage p SawClear has_stopped refl r k).1;
  }

  -- or it sees it set, and goes right
  turned_right : stage p ≡ WroteX → y ≢ 0 → DoorSatisfiesSpec x y (set_at stage p (Gone Right))
  turned_right s n = record {
    unset = λ h. absurd (n h);
    none_right = λ h. absurd (n h);
    setter = λ h. let m = d.setter h in (m.0, passes_still stage p (Gone Right) has_set (rw s) m.0 m.1);
    in_x = λ q h. passes_too stage p (Gone Right) has_entered refl x (d.in_x p (rw s));
    stays = fails_still stage p (Gone Right) went_down refl x d.stays;
    alone = λ q h r b. d.alone q (passed_before stage p (Gone Right) has_stopped refl q h).1 r (passed_before stage p (Gone Right) is_between refl r b).1;
    one = λ q r h k. d.one q r (passed_before stage p (Gone Right) has_stopped refl q h).1 (passed_before stage p (Gone Right) has_stopped refl r k).1;
  }

  -- the third: p sets Y
  wrote_y : stage p ≡ SawClear → DoorSatisfiesSpec x 1 (set_at stage p WroteY)
  wrote_y s = record {
    unset = λ h. absurd (omega arith);
    none_right = λ h. absurd (omega arith);
    setter = λ h. (p, rw (set_at-same stage p WroteY));
    in_x = λ q h. passes_too stage p WroteY has_entered refl x (d.in_x p (rw s));
    stays = fails_still stage p WroteY went_down refl x d.stays;
    alone = λ q h r.
        let before = (passed_before stage p WroteY has_stopped refl q h).1 in
        set_at-cases stage p WroteY (λ v. is_between v ≡ true → x ≢ r) r
        (λ e _. d.alone q before r (rw (e, s)))
        (λ _ b. d.alone q before r b);
    one = λ q r h k. d.one q r (passed_before stage p WroteY has_stopped refl q h).1 (passed_before stage p WroteY has_stopped refl r k).1;
  }

  is_set : stage p ≡ WroteY → y ≢ 0
  is_set s h = let m : has_set (stage p) ≡ true = rw s in let n : has_set (stage p) ≡ false = d.unset h p in cc

  -- the fourth: p finds itself in X, and stops
  stopped : stage p ≡ WroteY → x ≡ p → DoorSatisfiesSpec x y (set_at stage p (Gone Stop))
  stopped s own = record {
    unset = λ h. absurd (is_set s h);
    none_right = λ h. absurd (is_set s h);
    setter = λ h. let m = d.setter h in (m.0, passes_too stage p (Gone Stop) has_set refl m.0 m.1);
    in_x = λ q h. passes_too stage p (Gone Stop) has_entered refl x (d.in_x p (rw s));
    stays = fails_still stage p (Gone Stop) went_down refl x d.stays;
    alone = λ q h r b e. (passed_before stage p (Gone Stop) is_between refl r b).0 (sym e ∙ own);
    one = λ q r h k.
        let only : (v : ℕ) → has_stopped (set_at stage p (Gone Stop) v) ≡ true → v ≡ p =
        λ v. set_at-cases stage p (Gone Stop) (λ w. has_stopped w ≡ true → v ≡ p) v (λ e _. e) (λ _ before. absurd (d.alone v before p (rw s) own)) in
        only q h ∙ sym (only r k);
  }

  -- or it finds another, and goes down
  turned_down : stage p ≡ WroteY → x ≢ p → DoorSatisfiesSpec x y (set_at stage p (Gone Down))
  turned_down s other = record {
    unset = λ h. absurd (is_set s h);
    none_right = λ h. absurd (is_set s h);
    setter = λ h. let m = d.setter h in (m.0, passes_too stage p (Gone Down) has_set refl m.0 m.1);
    in_x = λ q h. passes_too stage p (Gone Down) has_entered refl x (d.in_x p (rw s));
    stays = rw (set_at-other stage p (Gone Down) x other) d.stays;
    alone = λ q h r b. d.alone q (passed_before stage p (Gone Down) has_stopped refl q h).1 r (passed_before stage p (Gone Down) is_between refl r b).1;
    one = λ q r h k. d.one q r (passed_before stage p (Gone Down) has_stopped refl q h).1 (passed_before stage p (Gone Down) has_stopped refl r k).1;
  }

  -- any access of p keeps the law. One that has gone makes none
  pub kept : (s : VisitStage) → stage p ≡ s → DoorSatisfiesSpec (x_after p s x) (y_after s y) (set_at stage p (stage_after p s x y))
  kept Outside s = wrote_x s
  kept WroteX s = elim (eqb_tells y 0) [ inl w ↦ rw w.0 (saw_clear s w.1) | inr w ↦ rw w.0 (turned_right s w.1) ]
  kept SawClear s = wrote_y s
  kept WroteY s = elim (eqb_tells x p) [ inl w ↦ rw w.0 (stopped s w.1) | inr w ↦ rw w.0 (turned_down s w.1) ]
  kept (Gone way) s = subst (λ (f : ℕ → VisitStage). DoorSatisfiesSpec x y f) (sym (set_at-as_is stage p (Gone way) (sym s))) d
