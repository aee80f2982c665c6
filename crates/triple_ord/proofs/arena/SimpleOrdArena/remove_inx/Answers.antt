use Rattle.triple_ord.proofs.CallerLemmas.{updates-taken_at, count-taken_at}
use Rattle.triple_ord.proofs.arena.SimpleOrdArena.remove_inx.Goals as goal

pub returns-clause-updates : goal.returns-clause-updates
returns-clause-updates g c =
    updates-taken_at g.P.Gen.BasePtrGen.greatest c.args.self.now c.remove_inx.new.self c.len.ensures.sound.distinct g.P.Gen.BasePtrGen.number _ _
    (rw c.self.view_is at c.remove_inx.ensures.removal.value) (rw c.self.view_is at c.remove_inx.ensures.removal.removed)

pub returns-clause-takes : goal.returns-clause-takes
returns-clause-takes g c = record {
  sound = c.len.ensures.sound;
  count = count-taken_at g.P.Gen.BasePtrGen.greatest c.args.self.now c.remove_inx.new.self c.len.ensures.sound.distinct g.P.Gen.BasePtrGen.number _ _
      (rw c.self.view_is at c.remove_inx.ensures.removal.value) (rw c.self.view_is at c.remove_inx.ensures.removal.removed);
  shape = rw (← c.self.view_is) c.remove_inx.ensures.shape;
}
