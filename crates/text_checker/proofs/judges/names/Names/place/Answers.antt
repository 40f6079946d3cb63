use Rattle.std.proofs.Common.{◌≡◌, ◌∙◌, refl, sym, ap, is_some}
use Rattle.text_checker.proofs.judges_lemmas.Common.{false≢true, list_any, is_held, place_of}
use Rattle.text_checker.proofs.judges_lemmas.seats.Names.{placed}
use Rattle.text_checker.proofs.judges_lemmas.seats.People.{absent, there, nobody_has, somebody_has}
use Rattle.text_checker.proofs.judges.names.Names.place.Goals as goal

pub returns-then-is_some-clause-reported : goal.returns-then-is_some-clause-reported
returns-then-is_some-clause-reported c = λ terms o h none.
    let place : o.place c.args.id ≡ c.in-Some.standing.place = h.people.place c.args.id ∙ ap place_of (there c.args.id c.find.ensures refl c.in-Some.is) in
    ((λ y. cc), (λ free. absurd (false≢true (sym (ap is_some (sym place ∙ free.first)) ∙ sym c.is_some.ensures ∙ c.if-is_some.true))))

pub returns-then-is_given-clause-reported : goal.returns-then-is_given-clause-reported
returns-then-is_given-clause-reported c = λ terms o h none.
    let given = ap (list_any (λ v. is_held c.args.place v.program.place)) (sym c.list.ensures) ∙ sym c.is_given.ensures ∙ c.if-is_given.true in
    ((λ y. cc), (λ free. let k = somebody_has (λ s. s.place) o.place c.args.self.now.participants c.args.place h.people.place h.people.apart given in absurd (free.free k.0 k.1)))

pub returns : goal.returns
returns c =
    let is = there c.args.id c.find.ensures refl c.in-Some.is in
    let free = ap (list_any (λ v. is_held c.args.place v.program.place)) (sym c.list.ensures) ∙ sym c.is_given.ensures ∙ c.if-is_given.false in
    record {
      reported = λ terms o h none. (
        (λ y. record {
          first = h.people.place c.args.id ∙ ap place_of is ∙ absent c.in-Some.standing.place (sym c.is_some.ensures ∙ c.if-is_some.false);
          free = nobody_has (λ s. s.place) o.place c.args.self.now.participants c.args.place h.people.place free;
        }),
        (λ free. refl),
      );
      after = λ terms o h none y.
          placed terms c.args.self.now (record { participants = c.put.new.self; moments = c.args.self.now.moments; most = c.args.self.now.most; limit = c.args.self.now.limit }) o c.args.id
          c.in-Some.standing _ h is c.put.ensures refl refl c.args.place refl refl;
    }
