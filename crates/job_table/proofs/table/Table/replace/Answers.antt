use Rattle.std.proofs.Common.{◌∙◌, sym, subst, ap, refl, List}
use Rattle.sqlite_value.specs.Order.{Row}
use Rattle.sqlite_trees.specs.View.{View, IsShaped}
use Rattle.sqlite_trees.specs.declared.store.Shape.TheVariants as shapes
use Rattle.job_table.specs.Plan.{Job, replaced}
use Rattle.job_table.specs.Table.{StandsBy}
use Rattle.job_table.proofs.Standing.{with_turn}
use Rattle.job_table.proofs.Changing.{stands_replaced, turns_replaced}
use Rattle.job_table.proofs.table.Table.replace.Goals as goal

pub returns-clause-ok : goal.returns-clause-ok
returns-clause-ok g c clean plan h some =
    let old = c.args.self.now in
    let job : Job = record { id = c.args.id; deadline = c.args.deadline; attempts = c.args.attempts; bytes = c.args.bytes.now } in
    let now = old.next_turn in
    let rows = (g.S.Store.view old.rows).trees 0 in
    let one = c.in_ok-put_job.ensures.ok clean in
    let shaped : IsShaped shapes.Table rows = subst (λ s. IsShaped s rows) h.shape (g.met.S.Store.ordered old.rows h.sound 0) in
    record {
      turn = with_turn h.turn job.id now;
      is_open = refl;
      sound = ap (λ (v : View). v.is_broken) one.is ∙ one.sound;
      shape = ap (λ (v : View). v.shape 0) one.is ∙ one.shape;
      stands = subst (λ (all : List Row). StandsBy (with_turn h.turn job.id now) all (replaced job plan)) (sym (ap (λ (v : View). v.trees 0) one.is))
          (stands_replaced h.turn now rows plan job h.stands shaped.0 some c.if-bytes-gt-MAX_BYTES.false h.turns);
      next = h.next;
      turns = turns_replaced h.turn now rows plan job h.stands shaped.0 some c.if-bytes-gt-MAX_BYTES.false h.turns;
    }
