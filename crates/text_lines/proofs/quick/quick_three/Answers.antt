use Rattle.std.proofs.Common.{◌+◌, arith, codes, drop, refl}
use Rattle.model_asked.specs.declared.event.Event.TheVariants.{Put, Get}
use Rattle.model_asked.specs.declared.command.Command.TheVariants as command
use Rattle.text_lines.proofs.QuickLemmas.{begins_with, first_of_one, first_of_two, rest_of-slice}
use Rattle.text_lines.proofs.quick.quick_three.Goals as goal

pub returns-in_ok-id-in-544499047 : goal.returns-in_ok-id-in-544499047
returns-in_ok-id-in-544499047 c = λ world desk.
    (let bytes = c.args.bytes.now in
    let id = c.in_ok-id-in-544499047.id in
    let count = c.in_ok-id-in-544499047.count in
    let begins = begins_with bytes (codes "get ") c.requires.inside refl (λ i. (c.type_inv.bytes i).fits) refl (omega (arith, c.requires.word, c.in-544499047.is)) in
    first_of_one c.args.end world (codes "get") bytes (drop 4 bytes) (λ n. command.Event (Get n)) id count (count + 4)
    begins (omega arith) (omega arith) refl (λ digits is. rw (desk, is) refl) (rw rest_of-slice at c.in_ok-id-in-544499047.ensures))

pub returns-in_ok-value-in-544503152 : goal.returns-in_ok-value-in-544503152
returns-in_ok-value-in-544503152 c = λ world desk.
    (let bytes = c.args.bytes.now in
    let id = c.in_ok-id-in-544503152.id in
    let value = c.in_ok-value-in-544503152.value in
    let first = c.in_ok-id-in-544503152.first in
    let second = c.in_ok-value-in-544503152.second in
    let begins = begins_with bytes (codes "put ") c.requires.inside refl (λ i. (c.type_inv.bytes i).fits) refl (omega (arith, c.requires.word, c.in-544503152.is)) in
    first_of_two c.args.end world (codes "put") bytes (drop 4 bytes) (command.Event (Put id value)) id value first second (first + second + 5)
    begins (omega arith) (omega arith) refl (λ m n is is2. rw (desk, is, is2) refl)
    (rw rest_of-slice at c.in_ok-id-in-544503152.ensures) (rw (rest_of-slice bytes 4, rest_of-slice (drop 4 bytes) (first + 1)) at c.in_ok-value-in-544503152.ensures))
