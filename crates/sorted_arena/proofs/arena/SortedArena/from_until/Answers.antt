use Rattle.std.proofs.Common.{◌≡◌, ◌<◌, ◌≤◌, ◌^◌, ◌∙◌, ap, length, arith}
use Rattle.std.specs.Option.{option_map}
use Rattle.sorted_arena.specs.{Sorted.Sorted, Place.position_of, Place.left_at, Stretch.stretch, Range.shown_entry}
use Rattle.sorted_arena.proofs.{Placing.place-stretch, Placing.gives-stretch, Ranging.gives_in_order, Ranging.gives_in_reverse, Stretching.shorter-stretch}
use Rattle.sorted_arena.proofs.arena.SortedArena.from_until.Goals as goal

pub invariant_of-result : goal.invariant_of-result
invariant_of-result g c =
    let listed : c.args.self.now.entries ≡ c.pairs.result.now.list.entries = ap (λ (a : Sorted g.row.K.Denot g.row.V.Denot). a.entries) c.pairs.ensures.view in
    let count = c.len-count.ensures.value in
    let few : (length c.args.self.now.entries < 2 ^ 64) × (length c.args.self.now.entries ≤ g.P.Inx.BasePtrInx.most) = (omega (arith, count), omega arith) in
    rw (c.inx_of.ensures, c.inx_of-2.ensures, c.saturating_sub.ensures, ← listed) (place-stretch c.args.self.now.entries _ _ g.P.Inx.BasePtrInx.most c.is_compact.result c.is_compact.ensures (c.requires c.len-count.ensures.sound) few c.position-from.result c.position.result
    (c.position-from.ensures ∙ ap (λ n. position_of n (option_map (λ q. q.0) (option_map g.P.BasePtr.numbers c.args.first))) count) (c.position.ensures ∙ ap (λ n. position_of n (option_map (λ q. q.0) (option_map g.P.BasePtr.numbers c.args.end))) count))

pub returns : goal.returns
returns g c =
    let listed : c.args.self.now.entries ≡ c.pairs.result.now.list.entries = ap (λ (a : Sorted g.row.K.Denot g.row.V.Denot). a.entries) c.pairs.ensures.view in
    let count = c.len-count.ensures.value in
    let cut = c.requires c.len-count.ensures.sound in
    let entries : left_at c.pairs.result.now.list.entries c.is_compact.result (option_map g.P.Inx.BasePtrInx.number c.inx_of.result) (option_map g.P.Inx.BasePtrInx.number c.inx_of-2.result) c.position-from.result c.saturating_sub.result
    ≡ stretch c.args.self.now.entries (option_map (λ q. q.0) (option_map g.P.BasePtr.numbers c.args.first)) (option_map (λ q. q.0) (option_map g.P.BasePtr.numbers c.args.end)) =
    rw (c.inx_of.ensures, c.inx_of-2.ensures, c.saturating_sub.ensures, ← listed) (gives-stretch c.args.self.now.entries _ _ c.is_compact.result c.is_compact.ensures cut c.position-from.result c.position.result
    (c.position-from.ensures ∙ ap (λ n. position_of n (option_map (λ q. q.0) (option_map g.P.BasePtr.numbers c.args.first))) count) (c.position.ensures ∙ ap (λ n. position_of n (option_map (λ q. q.0) (option_map g.P.BasePtr.numbers c.args.end))) count)) in
    record {
      entries = entries;
      sound = c.len-count.ensures.sound;
      chains = record {
        runs = gives_in_order (shown_entry g.P.BasePtr.numbers);
        runs_back = gives_in_reverse (shown_entry g.P.BasePtr.numbers);
        fits = omega (arith, ap length entries, shorter-stretch c.args.self.now.entries _ _ cut, count);
      };
    }
