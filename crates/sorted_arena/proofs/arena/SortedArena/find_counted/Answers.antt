use Rattle.std.proofs.Common.{◌≡◌, ◌≢◌, rules}
use Rattle.std.specs.{Ordering.is_eq, declared.cmp.Ordering.TheVariants.Equal}
use Rattle.sorted_arena.specs.Layout.{sorted_of}
use Rattle.listing.proofs.CallerLemmas.{sorted-in_order}
use Rattle.sorted_arena.proofs.Cutting.{found-equal, finds-first, eq_is, not_eq}
use Rattle.sorted_arena.proofs.arena.SortedArena.find_counted.Goals as goal

pub returns : goal.returns
returns g c =
    let es = c.pairs.result.now.list.entries in
    let sound = rw c.pairs.ensures.view at c.pairs.ensures.sound in
    let value = found-equal g.K.Ord.cmp g.met.K.Ord.total c.args.k.now es (sorted-in_order g.K.Ord.cmp es sound.sorted) _ c.find_key_counted.result.1 c.find_key_counted.ensures.found in
    rw c.pairs.ensures.view (record {
      finds = finds-first g.K.Ord.cmp g.P.Inx.BasePtrInx.most g.P.BasePtr.numbers (sorted_of c.pairs.result.now) sound c.args.k.now
          is_eq (λ o. o ≡ Equal) (λ o. o ≢ Equal) eq_is not_eq c.find_key_counted.result.0 value;
      visits = search rules;
    })
