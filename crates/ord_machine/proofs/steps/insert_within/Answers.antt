use Rattle.triple_ord.specs.Insertion.{with_kind}
use Rattle.ord_machine.proofs.Insertions.{inserts-replied}
use Rattle.ord_machine.proofs.steps.insert_within.Goals as goal

pub returns : goal.returns
returns g c = rw c.reply_to_insertion.ensures (inserts-replied _ _ _ _ _ _ _ _ _ _ _ _ (with_kind c.insert_within_capacity.result) c.insert_within_capacity.ensures.inserts)
