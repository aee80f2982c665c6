use Rattle.std.proofs.{Common.arith, Common.sym, Common.◌∙◌, lemmas.Grind.common_steps}
use Rattle.ord_script.proofs.serving.serve.Goals as goal

pub returns-clause-served : goal.returns-clause-served
returns-clause-served g c =
    let input = c.in-Ok.ensures.bytes in
    let output = c.in-Err.ensures.bytes in
    let same = input.input.0 ∙ sym c.deref.ensures.value in
    let parts = sym c.as_bytes.ensures.value ∙ output.parts in
    record {
      read = input.taken;
      written = output.written;
      reads = input.consumes;
      writes = output.appends;
      ends = (output.rest, output.whole, rw (← parts, same) c.in-Ok-answer_to.ensures.text, input.input.1);
    }

pub returns-in-Err-TooLong-clause-served : goal.returns-in-Err-TooLong-clause-served
returns-in-Err-TooLong-clause-served g c = grind (arith, common_steps)

pub returns-in-Err-TooLong-clause-ended : goal.returns-in-Err-TooLong-clause-ended
returns-in-Err-TooLong-clause-ended g c = grind (arith, common_steps)

pub returns-in-Err-TooLong-clause-nothing_unread : goal.returns-in-Err-TooLong-clause-nothing_unread
returns-in-Err-TooLong-clause-nothing_unread g c = grind (arith, common_steps)

pub returns-in_default-clause-read_failed : goal.returns-in_default-clause-read_failed
returns-in_default-clause-read_failed g c = grind (arith, common_steps)
