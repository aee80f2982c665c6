use Rattle.triple_ord.proofs.Content.{content-compression}
use Rattle.triple_ord.proofs.arena.traits.SimpleOrdArenaArenaTrait.compress_with.Goals as goal

pub returns : goal.returns
returns g c = record {
  after = content-compression g.P.BasePtr.numbers _ _ _ _ c.args.self.now c.compress_with.new.self c.args.f c.compress_with.ensures.sound c.compress_with.ensures.renumbers.after;
  overflow = c.compress_with.ensures.renumbers.overflow;
}
