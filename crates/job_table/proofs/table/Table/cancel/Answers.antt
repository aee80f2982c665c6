use Rattle.std.proofs.Common.{◌<◌, ◌∙◌, sym, subst, ap, refl, List}
use Rattle.sqlite_value.specs.Order.{Row}
use Rattle.sqlite_trees.specs.View.{View}
use Rattle.job_table.specs.Plan.{cancelled}
use Rattle.job_table.specs.Table.{StandsBy}
use Rattle.job_table.proofs.Leaving.{all_without}
use Rattle.job_table.proofs.Changing.{stands_cancelled}
use Rattle.job_table.proofs.table.Table.cancel.Goals as goal

pub returns-clause-ok : goal.returns-clause-ok
returns-clause-ok g c clean plan h some =
    let old = c.args.self.now in
    let id = c.args.id in
    let rows = (g.S.Store.view old.rows).trees 0 in
    let one = c.in_ok-delete.ensures.ok clean in
    record {
      turn = h.turn;
      is_open = refl;
      sound = ap (λ (v : View). v.is_broken) one.is ∙ one.sound;
      shape = ap (λ (v : View). v.shape 0) one.is ∙ one.shape;
      stands = subst (λ (all : List Row). StandsBy h.turn all (cancelled id plan)) (sym (ap (λ (v : View). v.trees 0) one.is)) (stands_cancelled h.turn rows plan id h.stands some);
      next = h.next;
      turns = all_without id (λ x. h.turn x.id < old.next_turn) plan.jobs h.turns;
    }
