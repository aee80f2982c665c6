use Rattle.std.proofs.Common.{◌≡◌, ◌∙◌, Bool, true, false, Bor, Option, Some, refl, sym, ap}
use Rattle.std.specs.{Fn.Called, Option.option_map}
use denote.Param.Members.{Mut}
use Rattle.listing.specs.Chain.{Entry}
use Rattle.sorted_arena.specs.Answer.{AnswersFor}
use Rattle.sorted_arena.proofs.{Cutting.some-same, Placing.some-unless, Taking.cut-found, Taking.takes-out, Taking.asks-kept, Taking.asks-gone}
use Rattle.listing.proofs.CallerLemmas.{removed-sound}
use Rattle.sorted_arena.proofs.arena.SortedArena.ask.Goals as goal

-- what the test answers for references to the key and the value of an entry, it answers for the entry
answered : {F K V : Type 0} (m : Mut F (Bor K × (Bor V × Unit {0})) Bool) (f f' : F) (answer : Bool) (e : Entry (K × V)) (o : Option (Bor K × Bor V)) (x : Bor K × Bor V)
    → o ≡ Some x → option_map (λ y. (y.0.now, y.1.now)) o ≡ Some e.item → Called m f (x.0, (x.1, tt)) answer f' → AnswersFor m f e answer f'
answered {K = K} {V = V} m f f' answer e o x is shown called =
    let same : (x.0.now, x.1.now) ≡ e.item = some-same (sym (ap (option_map (λ (y : Bor K × Bor V). (y.0.now, y.1.now))) is) ∙ shown) in
    record { key = x.0; value = x.1; shows_key = ap (λ (y : K × V). y.0) same; shows_value = ap (λ (y : K × V). y.1) same; called = called }

pub unwrap-requires : goal.unwrap-requires
unwrap-requires g c =
    let found = cut-found g.P.Gen.BasePtrGen.greatest c.args.self.now c.next-next.ensures.sound.distinct _ (g.P.BasePtr.numbers c.args.p) refl c.requires.named in
    some-unless _ c.get.result _ c.get.ensures (λ none. let some = found in cc)

pub returns-then-f-clause-asks : goal.returns-then-f-clause-asks
returns-then-f-clause-asks g c at =
    let p = g.P.BasePtr.numbers c.args.p in
    let greatest = g.P.Gen.BasePtrGen.greatest in
    let distinct = c.next-next.ensures.sound.distinct in
    let found = cut-found greatest c.args.self.now distinct (Some p) p refl at in
    asks-kept greatest c.args.self.now distinct (Some p) p refl at (AnswersFor g.F.FnMut) c.args.f.now c.f.new.self
    (answered g.F.FnMut c.args.f.now c.f.new.self true at.entry c.get.result c.unwrap.result c.unwrap.ensures (c.get.ensures ∙ found) c.if-f.ensures)
    (option_map g.P.BasePtr.numbers c.next-next.result) c.next-next.ensures.value

pub returns-clause-asks : goal.returns-clause-asks
returns-clause-asks g c at =
    let p = g.P.BasePtr.numbers c.args.p in
    let greatest = g.P.Gen.BasePtrGen.greatest in
    let distinct = c.next-next.ensures.sound.distinct in
    let found = cut-found greatest c.args.self.now distinct (Some p) p refl at in
    let after = option_map g.P.BasePtr.numbers c.next-next.result in
    asks-gone greatest c.args.self.now distinct (Some p) p refl at (AnswersFor g.F.FnMut) c.args.f.now c.f.new.self
    (answered g.F.FnMut c.args.f.now c.f.new.self false at.entry c.get.result c.unwrap.result c.unwrap.ensures (c.get.ensures ∙ found) c.if-f.ensures)
    c.remove.new.self at.entry.item after
    (takes-out greatest c.args.self.now distinct (Some p) p refl at c.remove.new.self at.entry.item (sym found) c.remove.ensures.after after c.next-next.ensures.value)

pub returns-clause-sound : goal.returns-clause-sound
returns-clause-sound g c = rw c.remove.ensures.after (removed-sound g.K.Ord.cmp g.P.Inx.BasePtrInx.most g.P.Gen.BasePtrGen.greatest c.args.self.now (g.P.BasePtr.numbers c.args.p) c.next-next.ensures.sound)
