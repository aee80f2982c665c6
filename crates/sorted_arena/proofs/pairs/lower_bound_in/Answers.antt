use Rattle.std.proofs.Common.{rules}
use Rattle.sorted_arena.proofs.pairs.lower_bound_in.Goals as goal

pub returns : goal.returns
returns g c = record {
  finds = λ sound. c.lower_bound_by.ensures c.args.k.now c.find_similar_key_counted-met.result.1 sound c.find_similar_key_counted-met.ensures.found;
  visits = search rules;
}
