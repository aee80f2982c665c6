use Rattle.triple_ord.proofs.{Words.sym, Words.refl, CallerLemmas.rekeys-updates, CallerLemmas.rekeys-count, Rekeying.can_go, Rekeying.rekeyed_by}
use Rattle.triple_ord.proofs.Rekeying.{own_item, same-found}
use Rattle.triple_ord.proofs.arena.SimpleOrdArena.reposition.Goals as goal

pub go_beside-requires-clause-place : goal.go_beside-requires-clause-place
go_beside-requires-clause-place g c =
    can_go g.P.BasePtr.numbers g.T.SimpleOrdItem.key_of g.T.Key.Ord.cmp c.args.self.now c.args.self.now c.args.self.now c.place_around-found.ensures.distinct (g.P.BasePtr.numbers c.args.p) c.in-Some.item.now
    (rw (sym c.in-Some.ensures.value) refl) c.place_around-found.result.1 (own_item c.args.self.now (g.P.BasePtr.numbers c.args.p) c.in-Some.item.now (sym c.in-Some.ensures.value)) c.place_around-found.result.0
    (rw c.key.ensures at c.place_around-found.ensures.found)

pub returns-clause-rekeys : goal.returns-clause-rekeys
returns-clause-rekeys g c = rw (sym c.in-Some.ensures.value) (rekeyed_by g.P.BasePtr.numbers g.T.SimpleOrdItem.key_of g.T.Key.Ord.cmp c.args.self.now c.args.self.now c.go_beside.new.self c.place_around-found.ensures.distinct (g.P.BasePtr.numbers c.args.p) c.in-Some.item.now
    (rw (sym c.in-Some.ensures.value) refl) c.place_around-found.result.1 (own_item c.args.self.now (g.P.BasePtr.numbers c.args.p) c.in-Some.item.now (sym c.in-Some.ensures.value)) c.place_around-found.result.0
    (rw c.key.ensures at c.place_around-found.ensures.found) c.go_beside.ensures.stays c.go_beside.ensures.list c.go_beside.ensures.shape).rekeys

pub returns-clause-same : goal.returns-clause-same
returns-clause-same g c =
    let rekeys = rw (sym c.in-Some.ensures.value) at (returns-clause-rekeys g c) in
    same-found _ _ _ c.in-Some.item.now (sym c.in-Some.ensures.value) (rekeys-updates _ _ _ _ _ _ c.place_around-found.ensures.distinct (rw (sym c.in-Some.ensures.value) refl) rekeys)

pub returns-clause-count : goal.returns-clause-count
returns-clause-count g c =
    rekeys-count _ _ _ _ _ _ c.place_around-found.ensures.distinct (rw (sym c.in-Some.ensures.value) refl) (rw (sym c.in-Some.ensures.value) at (returns-clause-rekeys g c))
