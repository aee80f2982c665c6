use Rattle.triple_ord.proofs.{Bare.found-occupied, CallerLemmas.updates-removed, CallerLemmas.count-removed, Words.sym}
use Rattle.ord_tree.proofs.CallerLemmas.{some_always}
use Rattle.triple_ord.proofs.arena.SimpleOrdArena.remove.Goals as goal

pub remove_entry-requires : goal.remove_entry-requires
remove_entry-requires g c = rw c.inx.ensures (found-occupied _ _ (sym (rw (← c.self.view_is) at c.if-not-contains.ensures.value)))

pub returns-clause-updates : goal.returns-clause-updates
returns-clause-updates g c =
    updates-removed g.P.Gen.BasePtrGen.greatest c.args.self.now c.remove_entry.new.self (g.P.BasePtr.numbers c.args.p) c.if-not-contains.ensures.sound.distinct
    (sym c.if-not-contains.ensures.value) (rw (c.self.view_is, c.inx.ensures) at c.remove_entry.ensures.removal.removed)

pub returns-clause-takes : goal.returns-clause-takes
returns-clause-takes g c = record {
  sound = c.if-not-contains.ensures.sound;
  count = some_always _ (count-removed g.P.Gen.BasePtrGen.greatest c.args.self.now c.remove_entry.new.self (g.P.BasePtr.numbers c.args.p)
      (sym c.if-not-contains.ensures.value) (rw (c.self.view_is, c.inx.ensures) at c.remove_entry.ensures.removal.removed));
  shape = rw (← c.self.view_is) (some_always _ c.remove_entry.ensures.shape);
}
