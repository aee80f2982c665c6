use Rattle.std.proofs.Common.{◌∙◌, sym, ap}
use Rattle.std.specs.{Option.option_map, Ordering.is_le}
use Rattle.sorted_arena.specs.Sorted.{key_of, first_where}
use Rattle.listing.proofs.CallerLemmas.{sorted-in_order}
use Rattle.sorted_arena.proofs.Cutting.{bound-met, bound-behind}
use Rattle.sorted_arena.proofs.pairs.lower_bound_by.Goals as goal

pub returns-in_err-p : goal.returns-in_err-p
returns-in_err-p g c k visits sound found = let empty = rw c.in_err-p.was at found in ap (option_map g.P.BasePtr.numbers) c.from_residual.ensures ∙ sym (ap (first_where (λ e. is_le (g.K.Ord.cmp k (key_of e)))) empty)

pub returns-in-Greater : goal.returns-in-Greater
returns-in-Greater g c k visits sound found =
    let es = c.args.pairs.now.list.entries in
    c.next_in.ensures sound.distinct ∙ bound-behind g.K.Ord.cmp g.met.K.Ord.total k es (sorted-in_order g.K.Ord.cmp es sound.sorted) (g.P.BasePtr.numbers c.in_ok-p.p) c.in_ok-p.order
    visits (rw c.in_ok-p.was at found) sound.distinct c.in-Greater.is

pub returns-in_default : goal.returns-in_default
returns-in_default g c k visits sound found =
    let es = c.args.pairs.now.list.entries in
    bound-met g.K.Ord.cmp g.met.K.Ord.total k es (sorted-in_order g.K.Ord.cmp es sound.sorted) (g.P.BasePtr.numbers c.in_ok-p.p) c.in_ok-p.order
    visits (rw c.in_ok-p.was at found) c.in_default.not-Greater
