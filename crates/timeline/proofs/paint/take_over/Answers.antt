use Rattle.std.proofs.{Common.arith, Common.rules, lemmas.Grind.common_steps}
use Rattle.timeline.proofs.Taking.{at_mid, takes-over}
use Rattle.timeline.proofs.paint.take_over.Goals as goal

pub returns-in-Some : goal.returns-in-Some
returns-in-Some g c = record {
  taken = λ at.
      let takes = c.in-Some.ensures.taken at in
      takes-over c.args.from c.args.until c.args.changes.now.entries c.args.p at _ _ takes c.take_same-same.result c.take_same-same.new.changes.entries
      (c.take_same-same.ensures.taken (at_mid c.args.from c.args.until c.args.changes.now.entries c.args.p at _ _ takes));
  keeps = record { capacity = search rules; sound = c.take_same-same.ensures.keeps.sound };
  count = grind (arith, common_steps);
}

pub returns-in-None : goal.returns-in-None
returns-in-None g c = record {
  taken = λ at.
      let takes = c.in-None.ensures.taken at in
      takes-over c.args.from c.args.until c.args.changes.now.entries c.args.p at _ _ takes c.take_same-same.result c.take_same-same.new.changes.entries
      (c.take_same-same.ensures.taken (at_mid c.args.from c.args.until c.args.changes.now.entries c.args.p at _ _ takes));
  keeps = record { capacity = search rules; sound = c.take_same-same.ensures.keeps.sound };
  count = grind (arith, common_steps);
}
