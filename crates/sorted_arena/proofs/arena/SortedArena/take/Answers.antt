use Rattle.std.proofs.Common.{◌∙◌, sym, ap, refl}
use Rattle.std.specs.Option.{option_map}
use Rattle.sorted_arena.proofs.Taking.{cut-found, takes-out}
use Rattle.listing.proofs.CallerLemmas.{removed-sound}
use Rattle.sorted_arena.proofs.arena.SortedArena.take.Goals as goal

pub unwrap-pair-requires : goal.unwrap-pair-requires
unwrap-pair-requires g c =
    let found = cut-found g.P.Gen.BasePtrGen.greatest c.args.self.now c.next-after.ensures.sound.distinct (option_map g.P.BasePtr.numbers c.args.next) (g.P.BasePtr.numbers c.unwrap-p.result)
    (ap (option_map g.P.BasePtr.numbers) c.unwrap-p.ensures) c.requires in
    rw (c.remove.ensures.value, found) refl

pub returns-clause-takes : goal.returns-clause-takes
returns-clause-takes g c at =
    takes-out g.P.Gen.BasePtrGen.greatest c.args.self.now c.next-after.ensures.sound.distinct (option_map g.P.BasePtr.numbers c.args.next) (g.P.BasePtr.numbers c.unwrap-p.result)
    (ap (option_map g.P.BasePtr.numbers) c.unwrap-p.ensures) at c.remove.new.self c.unwrap-pair.result (sym c.unwrap-pair.ensures ∙ c.remove.ensures.value)
    c.remove.ensures.after (option_map g.P.BasePtr.numbers c.next-after.result) c.next-after.ensures.value

pub returns-clause-sound : goal.returns-clause-sound
returns-clause-sound g c = rw c.remove.ensures.after (removed-sound g.K.Ord.cmp g.P.Inx.BasePtrInx.most g.P.Gen.BasePtrGen.greatest c.args.self.now (g.P.BasePtr.numbers c.unwrap-p.result) c.next-after.ensures.sound)
