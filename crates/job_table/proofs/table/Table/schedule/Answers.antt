use Rattle.std.proofs.Common.{◌≡◌, ◌<◌, ◌+◌, ◌∙◌, ℕ, length, sym, subst, ap, arith, refl, List}
use Rattle.std.specs.Prelude.{⊤}
use Rattle.sqlite_value.specs.Order.{Row}
use Rattle.sqlite_trees.specs.Tree.{put_row}
use Rattle.sqlite_trees.specs.View.{View, IsShaped, IsClean}
use Rattle.sqlite_trees.specs.declared.store.Shape.TheVariants as shapes
use Rattle.job_table.specs.Plan.{scheduled}
use Rattle.job_table.specs.Table.{job_row, next_row, StandsBy}
use Rattle.job_table.specs.Causes.{HasFault, IsCause}
use Rattle.job_table.specs.declared.rows.TheConstants.{MAX_BYTES, MAX_DEADLINE}
use Rattle.job_table.proofs.Failing.{up, cause_in}
use Rattle.job_table.proofs.Standing.{with_turn, stands_scheduled, turns_scheduled}
use Rattle.job_table.proofs.table.Table.schedule.Goals as goal

pub returns-clause-ok : goal.returns-clause-ok
returns-clause-ok g c clean plan h =
    let old = c.args.self.now in
    let bytes = c.args.bytes.now in
    let deadline = c.args.deadline in
    let now = old.next_turn in
    let rows = (g.S.Store.view old.rows).trees 0 in
    let one = c.in_ok-put_job.ensures.ok (omega (arith, c.put_next.ensures.quiet.clean, clean)) in
    let two = c.in_ok-put_next.ensures.ok clean in
    let spelled = λ (n : ℕ). put_row (next_row (n + 1)) (put_row (job_row now (record { id = n; deadline = deadline; attempts = 0; bytes = bytes })) rows) in
    let trees : (g.S.Store.view c.put_next.new.rows).trees 0 ≡ spelled old.next =
    ap (λ (v : View). v.trees 0) two.is ∙ ap (λ (v : View). put_row (next_row (old.next + 1)) (v.trees 0)) one.is in
    let all : (g.S.Store.view c.put_next.new.rows).trees 0 ≡ spelled plan.next = trees ∙ ap spelled h.next in
    let shaped : IsShaped shapes.Table rows = subst (λ s. IsShaped s rows) h.shape (g.met.S.Store.ordered old.rows h.sound 0) in
    record {
      turn = with_turn h.turn plan.next now;
      is_open = refl;
      sound = ap (λ (v : View). v.is_broken) two.is ∙ two.sound;
      shape = ap (λ (v : View). v.shape 0) two.is ∙ two.shape;
      stands = subst (λ (all : List Row). StandsBy (with_turn h.turn plan.next now) all (scheduled deadline bytes plan)) (sym all)
          (stands_scheduled h.turn now rows plan deadline bytes h.stands shaped.0 c.if-bytes-gt-MAX_BYTES.false h.turns);
      next = ap (λ (n : ℕ). n + 1) h.next;
      turns = turns_scheduled h.turn now rows plan deadline bytes h.stands shaped.0 h.turns;
    }

pub returns-in_err-put_next-clause-cause : goal.returns-in_err-put_next-clause-cause
returns-in_err-put_next-clause-cause g c = up c.from_residual-in_err-put_next.result _ _ c.from_residual-in_err-put_next.ensures.1 (λ e is clean plan h.
    let at_put : IsClean (g.S.Store.view c.put_job.new.rows) = omega (arith, c.put_next.ensures.quiet.clean, clean) in
    let one = c.in_ok-put_job.ensures.ok at_put in
    let counts = c.put_job.ensures.quiet.counts in
    let old = c.args.self.now.rows in
    let new = c.put_next.new.rows in
    let cause = c.in_err-put_next.ensures.cause clean (ap (λ (v : View). v.is_broken) one.is ∙ one.sound) (ap (λ (v : View). v.shape 0) one.is ∙ one.shape) in
    subst (IsCause (HasFault g.S.Store old new) ⊥ ⊤ (MAX_BYTES < length c.args.bytes.now) (MAX_DEADLINE < c.args.deadline)) (sym is)
    (cause_in (λ fault. omega (arith, fault, counts)) (λ x. x) (λ x. tt) (λ x. absurd x) (λ x. absurd x) c.in_err-put_next.field-0.0 cause))
