use Rattle.std.proofs.Common.{inl, inr, ◌∙◌, ap, sym, subst, refl, List, ℕ}
use Rattle.sqlite_value.specs.Order.{Row}
use Rattle.job_table.specs.Plan.{empty}
use Rattle.job_table.specs.Table.{StandsBy}
use Rattle.job_table.proofs.Reading.{stands_empty}
use Rattle.job_table.proofs.table.Table.create.Goals as goal

abbrev no_turn : ℕ → ℕ
no_turn id = 0

pub returns-in-Ok-clause-plan : goal.returns-in-Ok-clause-plan
returns-in-Ok-clause-plan g c clean =
    let b = c.in-Ok.ensures.ok clean in
    record {
      turn = no_turn;
      is_open = refl;
      sound = b.sound;
      shape = ap (λ f. f 0) b.same ∙ b.shape;
      stands = subst (λ (rows : List Row). StandsBy no_turn rows empty) (sym b.rows) (stands_empty no_turn);
      next = refl;
      turns = tt;
    }

pub returns-in-Ok-clause-crash : goal.returns-in-Ok-clause-crash
returns-in-Ok-clause-crash g c clean trees h =
    inl (no_turn, subst (λ (rows : List Row). StandsBy no_turn rows empty) (sym (c.in-Ok.ensures.crash clean trees h)) (stands_empty no_turn))

pub returns-in-Err-clause-crash_err : goal.returns-in-Err-clause-crash_err
returns-in-Err-clause-crash_err g c clean trees h = elim (c.in-Err.ensures.crash_err clean trees h) [
  | inl begun ↦ inl (inl (no_turn, subst (λ (rows : List Row). StandsBy no_turn rows empty) (sym begun) (stands_empty no_turn)))
  | inr old ↦ inr old
]
