-- The lines of one page more stand behind those of the pages before.
use Rattle.std.proofs.Common.{rules, ◌≡◌, ◌+◌, ◌++◌, ℕ, arith, ap, sym, subst, ◌∙◌}
use Rattle.std.proofs.KnownBytes.{Appends-trans}
use Rattle.std.specs.Io.KnownBytes.{Appends}
use Rattle.model_pool.specs.slots.SlotsState.{SlotsState}
use Rattle.text_lines.specs.held.Held.{lines_behind}
use Rattle.text_worlds.specs.desk.Held.{slots_of}
use Rattle.service_hall.specs.Halls.{desk_of}
use Rattle.service_host.proofs.HolderLemmas.{lines_on}
use Rattle.service_host.proofs.holders.write_held.Goals as goal

nothing_more : (n : ℕ) → 0 + n ≡ n
nothing_more n = omega arith

more : (s : SlotsState ℕ) (told count : ℕ) → lines_behind s 0 (told + count) ≡ lines_behind s 0 told ++ lines_behind s told count
more s told count = lines_on s 0 told count ∙ ap (λ (n : ℕ). lines_behind s 0 told ++ lines_behind s n count) (nothing_more told)

pub loop-told-preserved : goal.loop-told-preserved
loop-told-preserved g c =
    let slots = slots_of (desk_of c.args.hall.now) in
    let first = g.W.Write.contents c.args.output.now in
    let before = g.W.Write.contents c.loop-told.output in
    let now = g.W.Write.contents c.write_page.new.output in
    let told = c.loop-told.told in
    let count = c.min-count.result in
    let least = c.min-count.ensures in
    let test = c.loop-told-test.true in
    let page : Appends before now (lines_behind slots told count) = search rules in
    record {
      empty = c.write_page.ensures.empty;
      inside = omega (arith, least, test);
      written = subst (Appends first now) (sym (more slots told count))
          (Appends-trans first before now (lines_behind slots 0 told) (lines_behind slots told count) c.loop-told.invariant.written page);
    }
