use Rattle.std.proofs.Common.{◌∙◌, sym, ap}
use Rattle.std.specs.{Option.option_map, Ordering.is_lt}
use Rattle.sorted_arena.specs.Sorted.{key_of, first_where}
use Rattle.listing.proofs.CallerLemmas.{sorted-in_order}
use Rattle.sorted_arena.proofs.Cutting.{behind-met, behind-next}
use Rattle.sorted_arena.proofs.pairs.upper_bound_by.Goals as goal

pub returns-in_err-p : goal.returns-in_err-p
returns-in_err-p g c k visits sound found = let empty = rw c.in_err-p.was at found in ap (option_map g.P.BasePtr.numbers) c.from_residual.ensures ∙ sym (ap (first_where (λ e. is_lt (g.K.Ord.cmp k (key_of e)))) empty)

pub returns-in-Less : goal.returns-in-Less
returns-in-Less g c k visits sound found =
    let es = c.args.pairs.now.list.entries in
    behind-met g.K.Ord.cmp g.met.K.Ord.total k es (sorted-in_order g.K.Ord.cmp es sound.sorted) (g.P.BasePtr.numbers c.in_ok-p.p) c.in_ok-p.order
    visits (rw c.in_ok-p.was at found) c.in-Less.is

pub returns-in_default : goal.returns-in_default
returns-in_default g c k visits sound found =
    let es = c.args.pairs.now.list.entries in
    c.next_in.ensures sound.distinct ∙ behind-next g.K.Ord.cmp g.met.K.Ord.total k es (sorted-in_order g.K.Ord.cmp es sound.sorted) (g.P.BasePtr.numbers c.in_ok-p.p) c.in_ok-p.order
    visits (rw c.in_ok-p.was at found) sound.distinct c.in_default.not-Less
