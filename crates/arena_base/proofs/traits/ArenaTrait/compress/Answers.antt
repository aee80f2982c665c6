use Rattle.arena_base.proofs.{Words.rules, Compressing.compressed-given_back}
use Rattle.arena_base.proofs.traits.ArenaTrait.compress.Goals as goal

pub returns : goal.returns
returns g c = record {
  after = compressed-given_back g.P.BasePtr.numbers _ _ (λ f p item q new f' called. search rules) _ _ _ c.compress_with.ensures.after;
  overflow = c.compress_with.ensures.overflow;
}
