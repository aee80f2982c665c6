use Rattle.triple_ord.proofs.{Words.sym, Words.refl, CallerLemmas.rekeys-updates, CallerLemmas.rekeys-count, Rekeying.can_stay, Rekeying.can_go}
use Rattle.triple_ord.proofs.Rekeying.{rekeyed_by, entry_of}
use Rattle.triple_ord.proofs.arena.rekey.SimpleOrdArena+P+OrdPair+K+V+A.rekey_pair.Goals as goal

pub go_beside-requires-clause-entry : goal.go_beside-requires-clause-entry
go_beside-requires-clause-entry g c =
    let there = sym c.in-Some.ensures.value in
    can_stay g.P.BasePtr.numbers (λ pair. pair.0) g.K.Ord.cmp c.args.self.now c.replace_key-before.new.self c.args.self.now c.place_around-found.ensures.distinct (g.P.BasePtr.numbers c.args.p)
    (c.args.k, c.in-Some._pair.now.1) (rw there refl) c.place_around-found.result.1 (rw (entry_of c.args.self.now (g.P.BasePtr.numbers c.args.p) c.in-Some._pair.now there) at (rw c.inx.ensures at c.replace_key-before.ensures.after))

pub go_beside-requires-clause-place : goal.go_beside-requires-clause-place
go_beside-requires-clause-place g c =
    let there = sym c.in-Some.ensures.value in
    can_go g.P.BasePtr.numbers (λ pair. pair.0) g.K.Ord.cmp c.args.self.now c.replace_key-before.new.self c.args.self.now c.place_around-found.ensures.distinct (g.P.BasePtr.numbers c.args.p)
    (c.args.k, c.in-Some._pair.now.1) (rw there refl) c.place_around-found.result.1 (rw (entry_of c.args.self.now (g.P.BasePtr.numbers c.args.p) c.in-Some._pair.now there) at (rw c.inx.ensures at c.replace_key-before.ensures.after))
    c.place_around-found.result.0 c.place_around-found.ensures.found

pub returns-clause-rekeys : goal.returns-clause-rekeys
returns-clause-rekeys g c =
    let there = sym c.in-Some.ensures.value in
    rw there ((rekeyed_by g.P.BasePtr.numbers (λ pair. pair.0) g.K.Ord.cmp c.args.self.now c.replace_key-before.new.self c.go_beside.new.self c.place_around-found.ensures.distinct (g.P.BasePtr.numbers c.args.p)
    (c.args.k, c.in-Some._pair.now.1) (rw there refl) c.place_around-found.result.1 (rw (entry_of c.args.self.now (g.P.BasePtr.numbers c.args.p) c.in-Some._pair.now there) at (rw c.inx.ensures at c.replace_key-before.ensures.after))
    c.place_around-found.result.0 c.place_around-found.ensures.found c.go_beside.ensures.stays c.go_beside.ensures.list c.go_beside.ensures.shape).rekeys)

pub returns-clause-updates : goal.returns-clause-updates
returns-clause-updates g c =
    let there = sym c.in-Some.ensures.value in
    rw there (rekeys-updates _ _ _ _ _ _ c.place_around-found.ensures.distinct (rw there refl) (rw there at (returns-clause-rekeys g c)))

pub returns-clause-otherwise : goal.returns-clause-otherwise
returns-clause-otherwise g c =
    let there = sym c.in-Some.ensures.value in
    record { sound = c.in-Some.ensures.sound; stale = tt; back = tt; refused = tt; count = rekeys-count _ _ _ _ _ _ c.place_around-found.ensures.distinct (rw there refl) (rw there at (returns-clause-rekeys g c)) }
