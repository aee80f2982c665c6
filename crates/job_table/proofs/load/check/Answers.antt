use Rattle.std.proofs.Common.{◌≡◌, ◌-◌, ◌+◌, ℕ, drop, arith, subst, sym, rules, get_or}
use Rattle.job_table.specs.Entries.{IsChecked}
use Rattle.job_table.proofs.Checked.{checked_cons, drop_one, first_none, first_some, IsBeforeFirst, drop_whole}
use Rattle.job_table.proofs.load.check.Goals as goal
use Rattle.job_table.proofs.load.check.Goals.{else-at-entries-via-then-at-entries+else-not-is_before, else-at-entries-via-else-at-entries}

pub entries-init : goal.entries-init
entries-init c = record { within = omega arith; checked = subst (IsChecked c.args.next 0) (sym (drop_whole c.args.entries.now)) tt }

pub entries-preserved : goal.entries-preserved
entries-preserved c =
    let xs = c.args.entries.now in
    let at = c.entries.at in
    let e = c.index-entries-at.result in
    let within = c.entries.invariant.within in
    let some = c.entries-test.true in
    let same : (at - 1) + 1 ≡ at = omega (arith, some) in
    let first : IsBeforeFirst e (drop at xs) = elim c.else-at-entries.branch [
      | else-at-entries-via-then-at-entries+else-not-is_before w ↦
          let x = w.index-entries-at-then-at-entries.result in
          let is : x ≡ get_or xs at x = subst (λ (n : ℕ). x ≡ get_or xs n x) same w.index-entries-at-then-at-entries.is in
          first_some e x xs at (omega (arith, w.if-at-entries.true, some)) is (w.is_before.ensures (search rules))
      | else-at-entries-via-else-at-entries w ↦ first_none e xs at (omega (arith, w.if-at-entries.false, some))
    ] in
    record {
      within = omega (arith, within);
      checked = subst (IsChecked c.args.next c.after-next_turn.result) (sym (drop_one xs at e some within c.index-entries-at.is))
          (checked_cons c.args.next c.entries.next_turn c.after-next_turn.result e (drop at xs) c.after-next_turn.ensures.no_less
          (record { id = c.if-entry-next.false; short = search rules; turn_below = c.after-next_turn.ensures.more }) first c.entries.invariant.checked);
    }
