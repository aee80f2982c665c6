use Rattle.std.proofs.Common.{◌≡◌, ◌∙◌, sym, ap, Some, None, false, Option}
use Rattle.std.specs.{Option.option_map, Option.option_map_or, Ordering.is_gt}
use Rattle.sorted_arena.specs.Sorted.{last_item}
use Rattle.sorted_arena.proofs.Cutting.{last-named}
use Rattle.sorted_arena.proofs.arena.SortedArena.is_last_greater.Goals as goal

pub returns-in-Some-key-clause-value : goal.returns-in-Some-key-clause-value
returns-in-Some-key-clause-value g c =
    let named = (last-named c.args.self.now.entries c.in-Some.ensures.sound.distinct (g.P.BasePtr.numbers c.in-Some.p) (sym c.in-Some.ensures.value)).0 in
    let key : Some c.in-Some-key.last.now ≡ option_map (λ e. e.0) (last_item c.args.self.now.entries) = c.in-Some-key.ensures ∙ ap (option_map (λ (e : g.row.K.Denot × g.row.V.Denot). e.0)) named in
    c.is_gt.ensures ∙ ap is_gt c.cmp.ensures ∙ told (last_item c.args.self.now.entries) key
  where
    told : (o : Option (g.row.K.Denot × g.row.V.Denot)) → Some c.in-Some-key.last.now ≡ option_map (λ e. e.0) o
        → is_gt (g.K.Ord.cmp c.in-Some-key.last.now c.args.k.now) ≡ option_map_or (λ x. is_gt (g.K.Ord.cmp x.0 c.args.k.now)) o false
    told None key = absurd (cc)
    told (Some x) key = let same : c.in-Some-key.last.now ≡ x.0 = cc in ap (λ (l : g.row.K.Denot). is_gt (g.K.Ord.cmp l c.args.k.now)) same
