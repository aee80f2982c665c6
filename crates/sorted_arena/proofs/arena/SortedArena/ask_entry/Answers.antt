use Rattle.std.proofs.Common.{◌∙◌, Some, true, false, refl, sym}
use Rattle.std.specs.Option.{option_map}
use Rattle.sorted_arena.specs.Answer.{AnswersForEntry}
use Rattle.sorted_arena.proofs.{Placing.some-unless, Taking.answered, Taking.cut-found, Taking.takes-out, Taking.asks-kept, Taking.asks-gone}
use Rattle.listing.proofs.CallerLemmas.{removed-sound}
use Rattle.sorted_arena.proofs.arena.SortedArena.ask_entry.Goals as goal

pub unwrap-requires : goal.unwrap-requires
unwrap-requires g c =
    let found = cut-found g.P.Gen.BasePtrGen.greatest c.args.self.now c.next-next.ensures.sound.distinct _ (g.P.BasePtr.numbers c.args.p) refl c.requires.named in
    some-unless _ c.get.result _ c.get.ensures (λ none. let some = found in cc)

pub returns-then-f-clause-asks : goal.returns-then-f-clause-asks
returns-then-f-clause-asks g c at =
    let p = g.P.BasePtr.numbers c.args.p in
    let greatest = g.P.Gen.BasePtrGen.greatest in
    let distinct = c.next-next.ensures.sound.distinct in
    let found = cut-found greatest c.args.self.now distinct (Some p) p refl at in
    asks-kept greatest c.args.self.now distinct (Some p) p refl at (AnswersForEntry g.P.BasePtr.numbers g.F.FnMut) c.args.f.now c.f.new.self
    (answered g.P.BasePtr.numbers g.F.FnMut c.args.f.now c.f.new.self true c.args.p at.entry c.get.result c.unwrap.result at.named c.unwrap.ensures (c.get.ensures ∙ found) c.if-f.ensures)
    (option_map g.P.BasePtr.numbers c.next-next.result) c.next-next.ensures.value

pub returns-clause-asks : goal.returns-clause-asks
returns-clause-asks g c at =
    let p = g.P.BasePtr.numbers c.args.p in
    let greatest = g.P.Gen.BasePtrGen.greatest in
    let distinct = c.next-next.ensures.sound.distinct in
    let found = cut-found greatest c.args.self.now distinct (Some p) p refl at in
    let after = option_map g.P.BasePtr.numbers c.next-next.result in
    asks-gone greatest c.args.self.now distinct (Some p) p refl at (AnswersForEntry g.P.BasePtr.numbers g.F.FnMut) c.args.f.now c.f.new.self
    (answered g.P.BasePtr.numbers g.F.FnMut c.args.f.now c.f.new.self false c.args.p at.entry c.get.result c.unwrap.result at.named c.unwrap.ensures (c.get.ensures ∙ found) c.if-f.ensures)
    c.remove.new.self at.entry.item after
    (takes-out greatest c.args.self.now distinct (Some p) p refl at c.remove.new.self at.entry.item (sym found) c.remove.ensures.after after c.next-next.ensures.value)

pub returns-clause-sound : goal.returns-clause-sound
returns-clause-sound g c = rw c.remove.ensures.after (removed-sound g.K.Ord.cmp g.P.Inx.BasePtrInx.most g.P.Gen.BasePtrGen.greatest c.args.self.now (g.P.BasePtr.numbers c.args.p) c.next-next.ensures.sound)
