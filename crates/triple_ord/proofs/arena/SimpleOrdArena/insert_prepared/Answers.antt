use Rattle.triple_ord.proofs.{CallerLemmas.updates-written, CallerLemmas.count-written, CallerLemmas.inserted-new, Places.put-gap, Places.insertion-named, Inserting.IsInsertion-same, Words.refl, Words.sym}
use Rattle.triple_ord.proofs.arena.SimpleOrdArena.insert_prepared.Goals as goal

pub returns-in-Replacing-clause-updates : goal.returns-in-Replacing-clause-updates
returns-in-Replacing-clause-updates g c = rw (c.in-Replacing.is, c.replace.ensures.after, c.inx.ensures)
    (updates-written c.args.self.now (g.P.BasePtr.numbers c.in-Replacing.p) c.args.t (rw c.in-Replacing.is at c.requires))

pub returns-in-Replacing-clause-count : goal.returns-in-Replacing-clause-count
returns-in-Replacing-clause-count g c = rw c.replace.ensures.after (count-written c.args.self.now _ c.args.t)

pub returns-in-New : goal.returns-in-New
returns-in-New g c =
    let ready = rw c.in-New.is at c.requires in
    let place = put-gap g.P.BasePtr.numbers c.args.self.now c.args.prepared.at ready.0 in
    let named = insertion-named _ _ _ _ _ _ _ _ ready.1 ready.2 c.put-inserted.ensures.inserted in
    let done = inserted-new c.args.self.now c.put-inserted.new.self c.args.self.now.list refl place.0 c.args.t
    (g.P.BasePtr.numbers c.in-New._shown)
    (IsInsertion-same _ _ _ _ c.args.t _ _ place.1 named) in
    rw c.in-New.is (record { inserts = (named, c.put-inserted.ensures.grown); updates = done.1; before = sym done.0; count = done.2 })
