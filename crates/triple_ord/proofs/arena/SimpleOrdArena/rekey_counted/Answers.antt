use Rattle.triple_ord.proofs.{Words.sym, CallerLemmas.rekeys-updates, CallerLemmas.rekeys-count, Rekeying.can_stay, Rekeying.can_go, Rekeying.rekeyed_by}
use Rattle.triple_ord.proofs.arena.SimpleOrdArena.rekey_counted.Goals as goal

pub go_beside-requires-clause-entry : goal.go_beside-requires-clause-entry
go_beside-requires-clause-entry g c =
    can_stay g.P.BasePtr.numbers g.T.SimpleOrdItem.key_of g.T.Key.Ord.cmp c.args.self.now c.replace-before.new.self c.args.self.now c.place_around-found.ensures.distinct (g.P.BasePtr.numbers c.args.p) c.args.t
    (sym c.if-not-contains.ensures.value) c.place_around-found.result.1 (rw c.inx.ensures at c.replace-before.ensures.after)

pub go_beside-requires-clause-place : goal.go_beside-requires-clause-place
go_beside-requires-clause-place g c =
    can_go g.P.BasePtr.numbers g.T.SimpleOrdItem.key_of g.T.Key.Ord.cmp c.args.self.now c.replace-before.new.self c.args.self.now c.place_around-found.ensures.distinct (g.P.BasePtr.numbers c.args.p) c.args.t
    (sym c.if-not-contains.ensures.value) c.place_around-found.result.1 (rw c.inx.ensures at c.replace-before.ensures.after) c.place_around-found.result.0 (rw c.key.ensures at c.place_around-found.ensures.found)

pub returns-clause-rekeys : goal.returns-clause-rekeys
returns-clause-rekeys g c =
    rekeyed_by g.P.BasePtr.numbers g.T.SimpleOrdItem.key_of g.T.Key.Ord.cmp c.args.self.now c.replace-before.new.self c.go_beside.new.self c.place_around-found.ensures.distinct (g.P.BasePtr.numbers c.args.p) c.args.t
    (sym c.if-not-contains.ensures.value) c.place_around-found.result.1 (rw c.inx.ensures at c.replace-before.ensures.after) c.place_around-found.result.0 (rw c.key.ensures at c.place_around-found.ensures.found)
    c.go_beside.ensures.stays c.go_beside.ensures.list c.go_beside.ensures.shape

pub returns-clause-updates : goal.returns-clause-updates
returns-clause-updates g c = rekeys-updates _ _ _ _ _ _ c.place_around-found.ensures.distinct (sym c.if-not-contains.ensures.value) (returns-clause-rekeys g c).rekeys

pub returns-clause-otherwise : goal.returns-clause-otherwise
returns-clause-otherwise g c = record { sound = c.if-not-contains.ensures.sound; stale = tt; back = tt; refused = tt; count = rekeys-count _ _ _ _ _ _ c.place_around-found.ensures.distinct (sym c.if-not-contains.ensures.value) (returns-clause-rekeys g c).rekeys }
