use Rattle.std.proofs.Common.{◌≡◌, ◌∙◌, ◌==◌, ◌⊎◌, inl, inr, ℕ, List, Option, Some, None, cond, sym, ap, refl, subst}
use Rattle.text_checker.proofs.judges_lemmas.Common.{value_of, inserted, Firsts}
use Rattle.text_checker.specs.judges.Firsts.{view_at}
use Rattle.text_checker.proofs.judges_lemmas.seats.Firsts.{IsKept, none_noted, note_one, goes_on}
use Rattle.text_checker.proofs.judges.firsts.Firsts.propose.Goals as goal

pub returns-in_ok-note-2 : goal.returns-in_ok-note-2
returns-in_ok-note-2 c = λ o h.
    let f : Firsts = c.args.self.now in
    let id : ℕ = c.args.id in
    let view : List (ℕ × ℕ) = inserted f.present (id, c.args.number) in
    let had : value_of id f.present ≡ Some c.in-Some.left = sym (c.number_of-before.ensures ∙ ap (value_of id) c.as_slice.ensures) ∙ c.in-Some.is in
    let one : Firsts = record { present = c.put.new.self; found = c.remove.new.self } in
    let two : Firsts = c.note.new.self in
    let put : one.present ≡ view = c.in_ok-put.ensures.put in
    let put_two : two.present ≡ view = c.in_ok-note.ensures.present ∙ put in
    let kept = λ (p : ℕ). cond {A = Option (List (ℕ × ℕ))} (id == p) None (view_at f p) in
    goes_on o id c.args.number f h (λ m. (⊥ ⊎ (m ≡ c.args.number)) ⊎ (m ≡ c.in-Some.left)) (inl (inr refl))
    (λ m is. inr (let e : Some c.in-Some.left ≡ Some m = sym had ∙ h.present.values id ∙ is in cc))
    c.note-in-Some.new.self (c.in_ok-note-2.ensures.present ∙ put_two)
    (λ p.
    note_one two c.note-in-Some.new.self view (λ m. ⊥ ⊎ (m ≡ c.args.number)) c.in-Some.left p (kept p) put_two (c.in_ok-note-2.ensures.found p)
    (note_one one two view (λ m. ⊥) c.args.number p (kept p) put (c.in_ok-note.ensures.found p) (subst (λ (x : Option (List (ℕ × ℕ))). IsKept view (λ m. ⊥) p (kept p) x) (sym (c.remove.ensures.updates.0 p)) (none_noted view p (kept p)))))

pub returns-in_default : goal.returns-in_default
returns-in_default c = λ o h.
    let f : Firsts = c.args.self.now in
    let id : ℕ = c.args.id in
    let view : List (ℕ × ℕ) = inserted f.present (id, c.args.number) in
    let had : value_of id f.present ≡ None = sym (c.number_of-before.ensures ∙ ap (value_of id) c.as_slice.ensures) ∙ c.in_default.is in
    let one : Firsts = record { present = c.put.new.self; found = c.remove.new.self } in
    let put : one.present ≡ view = c.in_ok-put.ensures.put in
    let kept = λ (p : ℕ). cond {A = Option (List (ℕ × ℕ))} (id == p) None (view_at f p) in
    goes_on o id c.args.number f h (λ m. ⊥ ⊎ (m ≡ c.args.number)) (inr refl)
    (λ m is. absurd (let e : None ≡ Some m = sym had ∙ h.present.values id ∙ is in cc))
    c.note.new.self (c.in_ok-note.ensures.present ∙ put)
    (λ p. note_one one c.note.new.self view (λ m. ⊥) c.args.number p (kept p) put (c.in_ok-note.ensures.found p) (subst (λ (x : Option (List (ℕ × ℕ))). IsKept view (λ m. ⊥) p (kept p) x) (sym (c.remove.ensures.updates.0 p)) (none_noted view p (kept p))))
