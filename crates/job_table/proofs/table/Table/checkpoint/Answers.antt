use Rattle.std.proofs.Common.{◌∙◌, sym, subst, ap, refl, List}
use Rattle.sqlite_value.specs.Order.{Row}
use Rattle.sqlite_trees.specs.View.{View}
use Rattle.job_table.specs.Table.{StandsBy}
use Rattle.job_table.proofs.table.Table.checkpoint.Goals as goal

pub returns-clause-ok : goal.returns-clause-ok
returns-clause-ok g c clean plan h =
    let same = c.checkpoint.ensures.same (c.in_ok-checkpoint.ensures.open clean) in
    record {
      turn = h.turn;
      is_open = refl;
      sound = ap (λ (v : View). v.is_broken) same ∙ h.sound;
      shape = ap (λ (v : View). v.shape 0) same ∙ h.shape;
      stands = subst (λ (rows : List Row). StandsBy h.turn rows plan) (sym (ap (λ (v : View). v.trees 0) same)) h.stands;
      next = h.next;
      turns = h.turns;
    }
