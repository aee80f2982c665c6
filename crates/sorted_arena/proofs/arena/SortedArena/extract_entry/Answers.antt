use Rattle.std.proofs.Common.{◌∙◌, true, false, sym, ap, refl}
use Rattle.std.specs.Option.{option_map}
use Rattle.listing.proofs.CallerLemmas.{removed-sound}
use Rattle.sorted_arena.proofs.{Placing.some-unless, Entries.pushed, Taking.answered, Taking.cut-found, Taking.takes-out, Extracting.extracts-kept, Extracting.extracts-gone}
use Rattle.sorted_arena.proofs.arena.SortedArena.extract_entry.Goals as goal

pub unwrap-requires : goal.unwrap-requires
unwrap-requires g c =
    let found = cut-found g.P.Gen.BasePtrGen.greatest c.args.self.now c.next-after.ensures.sound.distinct (option_map g.P.BasePtr.numbers c.args.next) (g.P.BasePtr.numbers c.unwrap-p.result)
    (ap (option_map g.P.BasePtr.numbers) c.unwrap-p.ensures) c.requires.named in
    some-unless _ c.get.result _ c.get.ensures (λ none. let some = found in cc)

pub returns-then-f-clause-extracts : goal.returns-then-f-clause-extracts
returns-then-f-clause-extracts g c at =
    let greatest = g.P.Gen.BasePtrGen.greatest in
    let distinct = c.next-after.ensures.sound.distinct in
    let next = option_map g.P.BasePtr.numbers c.args.next in
    let is = ap (option_map g.P.BasePtr.numbers) c.unwrap-p.ensures in
    let found = cut-found greatest c.args.self.now distinct next (g.P.BasePtr.numbers c.unwrap-p.result) is at in
    let after = option_map g.P.BasePtr.numbers c.next-after.result in
    extracts-gone g.P.BasePtr.numbers _ greatest c.args.self.now distinct next c.unwrap-p.result is at _ _ c.args.extracted.now.items _ after
    (answered g.P.BasePtr.numbers g.F.FnMut c.args.f.now c.f.new.self true c.unwrap-p.result at.entry c.get.result c.unwrap.result (sym is ∙ at.named) c.unwrap.ensures (c.get.ensures ∙ found) c.if-f.ensures)
    c.remove.new.self c.unwrap-k.result
    (takes-out greatest c.args.self.now distinct next (g.P.BasePtr.numbers c.unwrap-p.result) is at c.remove.new.self c.unwrap-k.result (sym c.unwrap-k.ensures ∙ c.remove.ensures.value) c.remove.ensures.after
    after c.next-after.ensures.value)
    (pushed c.push.result c.args.extracted.now.items c.push.new.self.items (c.unwrap-p.result, c.unwrap-k.result.0, c.unwrap-k.result.1) c.push.ensures.items (c.push.ensures.succeeds c.requires.room))

pub returns-then-f-clause-sound : goal.returns-then-f-clause-sound
returns-then-f-clause-sound g c =
    rw c.remove.ensures.after (removed-sound g.K.Ord.cmp g.P.Inx.BasePtrInx.most g.P.Gen.BasePtrGen.greatest c.args.self.now (g.P.BasePtr.numbers c.unwrap-p.result) c.next-after.ensures.sound)

pub returns-else-f-clause-extracts : goal.returns-else-f-clause-extracts
returns-else-f-clause-extracts g c at =
    let greatest = g.P.Gen.BasePtrGen.greatest in
    let distinct = c.next-after.ensures.sound.distinct in
    let next = option_map g.P.BasePtr.numbers c.args.next in
    let is = ap (option_map g.P.BasePtr.numbers) c.unwrap-p.ensures in
    let found = cut-found greatest c.args.self.now distinct next (g.P.BasePtr.numbers c.unwrap-p.result) is at in
    extracts-kept g.P.BasePtr.numbers _ greatest c.args.self.now distinct next c.unwrap-p.result is at _ _ c.args.extracted.now.items _ (option_map g.P.BasePtr.numbers c.next-after.result)
    (answered g.P.BasePtr.numbers g.F.FnMut c.args.f.now c.f.new.self false c.unwrap-p.result at.entry c.get.result c.unwrap.result (sym is ∙ at.named) c.unwrap.ensures (c.get.ensures ∙ found) c.if-f.ensures)
    refl c.next-after.ensures.value
