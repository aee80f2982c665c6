use Rattle.std.proofs.Common.{ap, subst, ◌∙◌, ◌≡◌, rules}
use Rattle.triple_ord.specs.{Insertion.InsertsNew, EntryKind.pointer_of_kind, Place.behind_key, declared.growth.Growth.TheVariants.Within}
use Rattle.triple_ord.proofs.CallerLemmas.{entry-inserts-new}
use Rattle.listing.specs.Held.{item_key}
use Rattle.listing.proofs.Holding.{puts-inserted}
use Rattle.listing.proofs.put.insert_behind_within.Goals as goal

pub returns-clause-ok : goal.returns-clause-ok
returns-clause-ok g c =
    let item : g.row.K.Denot × g.row.V.Denot = (c.args.k, c.args.v) in
    let shown = c.in-Ok.entry.prepared.shown in
    let named : g.P.BasePtr.numbers c.any-p.result ≡ g.P.BasePtr.numbers (pointer_of_kind shown) = ap g.P.BasePtr.numbers (c.any-p.ensures ∙ ap pointer_of_kind c.ptr.ensures) in
    let done = entry-inserts-new item_key g.K.Ord.cmp g.P.BasePtr.numbers g.P.Inx.BasePtrInx.number Within g.P.Inx.BasePtrInx.most _ c.args.pairs.now c.in-Ok.entry.arena.now c.insert.new.self.0
    c.kind_behind-kind.ensures.sound.distinct shown _ _ c.new.result c.insert.result c.in-Ok.ensures.request.place c.args.k c.kind_behind-kind.ensures.aim c.insert.ensures.inserts in
    let told : InsertsNew item_key g.K.Ord.cmp g.P.Inx.BasePtrInx.most Within (behind_key c.args.k) c.args.pairs.now item (g.P.BasePtr.numbers c.any-p.result) c.insert.new.self.0 = rw (named, ← c.new.ensures) done in
    subst (λ u. InsertsNew item_key g.K.Ord.cmp g.P.Inx.BasePtrInx.most Within (behind_key c.args.k) c.args.pairs.now item (g.P.BasePtr.numbers c.any-p.result) u) (search rules) told

pub returns-clause-puts : goal.returns-clause-puts
returns-clause-puts g c held =
    puts-inserted g.K.Ord.cmp g.met.K.Ord.total g.P.Inx.BasePtrInx.most g.P.Gen.BasePtrGen.greatest Within _ _ c.args.k c.args.v _ (returns-clause-ok g c) c.kind_behind-kind.ensures.sound held
