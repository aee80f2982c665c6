use Rattle.std.proofs.Common.{rules}
use Rattle.sorted_arena.proofs.pairs.upper_bound_in.Goals as goal

pub returns : goal.returns
returns g c = record {
  finds = λ sound. c.upper_bound_by.ensures c.args.k.now c.find_behind_key_counted-met.result.1 sound c.find_behind_key_counted-met.ensures.found;
  visits = search rules;
}
