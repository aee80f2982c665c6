use Rattle.std.proofs.lemmas.Option.{same_Some}
use Rattle.std.proofs.lemmas.List.{map_push}
use Rattle.std.proofs.Common.{◌≡◌, ◌++◌, ◌∷◌, [], rules, arith, sym, ap, ◌∙◌, append_assoc, map}
use Rattle.job_table.specs.Entries.{entry_row}
use Rattle.job_table.specs.Table.{next_row}
use Rattle.sqlite_trees.specs.View.{IsClean}
use Rattle.job_table.proofs.Checked.{from_no_key, same_then}
use Rattle.job_table.proofs.Quiet.{quiet_then}
use Rattle.job_table.proofs.rows.read_all.Goals as goal

pub rows-init : goal.rows-init
rows-init g c =
    let all = (g.S.Store.view c.args.rows.now).trees 0 in
    let placed = rw (c.new-row.ensures, from_no_key) at c.in_ok-seek.ensures.ok in
    record {
      reading = λ clean. (all, ap (λ v. v.cursors 0) (placed clean), rw c.new-entries.ensures.items);
      live = c.in_ok-seek.ensures.live;
      sound = c.in_ok-seek.ensures.sound;
      same = λ clean. rw (placed clean);
      quiet = search rules;
    }

pub returns-in-Next-clause-ok : goal.returns-in-Next-clause-ok
returns-in-Next-clause-ok g c clean =
    let last = rw c.if-branch.false at (c.in_ok-next-in-Next.ensures.ok clean) in
    let before : IsClean (g.S.Store.view c.next.new.self) = omega (arith, c.next-in-Next.ensures.quiet.clean, clean) in
    let start : IsClean (g.S.Store.view c.rows.rows) = omega (arith, c.next.ensures.quiet.clean, before) in
    let was = c.rows.invariant.reading start in
    let step = rw c.if-not-branch.false at (c.in_ok-next.ensures.ok before) in
    let row = c.next.new.row in
    let left : was.0 ≡ row ∷ step.0 = same_Some _ _ (sym was.1 ∙ step.1) in
    let ended : step.0 ≡ [] = same_Some _ _ (sym (ap (λ v. v.cursors 0) step.2) ∙ last.0) in
    let again : row ≡ next_row c.in-Next.id = search rules in
    record {
      sound = c.rows.invariant.sound start;
      shape = search rules;
      rows = was.2 ∙ ap (λ l. map entry_row c.rows.entries.items ++ l) (left ∙ ap (λ l. row ∷ l) ended ∙ ap (λ r. r ∷ []) again);
      same =
          let old = g.S.Store.view c.args.rows.now in
          let mid = g.S.Store.view c.next.new.self in
          let new = g.S.Store.view c.next-in-Next.new.self in
          let one = same_then old (g.S.Store.view c.rows.rows) mid (c.rows.invariant.same start) (c.in_ok-next.ensures.moves before).same in
          same_then old mid new one (c.in_ok-next-in-Next.ensures.moves clean).same;
    }

pub rows-preserved : goal.rows-preserved
rows-preserved g c = record {
  reading = λ clean.
      let was = c.rows.invariant.reading (omega (arith, c.next.ensures.quiet.clean)) in
      let step = rw c.if-not-branch.false at (c.in_ok-next.ensures.ok clean) in
      let row = c.next.new.row in
      let left : was.0 ≡ row ∷ step.0 = same_Some _ _ (sym was.1 ∙ step.1) in
      let again : row ≡ entry_row c.in-Job.entry = search rules in
      let items : c.push.new.self.items ≡ c.rows.entries.items ++ c.in-Job.entry ∷ [] = search rules in
      (step.0, ap (λ v. v.cursors 0) step.2, was.2 ∙ rw (left, again, items, map_push, append_assoc));
  live = search rules;
  sound = search rules;
  same = λ clean.
      let same = c.rows.invariant.same (omega (arith, c.next.ensures.quiet.clean)) in
      same_then (g.S.Store.view c.args.rows.now) (g.S.Store.view c.rows.rows) (g.S.Store.view c.next.new.self) same (c.in_ok-next.ensures.moves clean).same;
  quiet = search rules;
}

pub returns-in_err-next-in-Next-clause-quiet : goal.returns-in_err-next-in-Next-clause-quiet
returns-in_err-next-in-Next-clause-quiet g c = quiet_then (quiet_then c.rows.invariant.quiet c.next.ensures.quiet) c.next-in-Next.ensures.quiet

pub returns-then-branch-clause-quiet : goal.returns-then-branch-clause-quiet
returns-then-branch-clause-quiet g c = quiet_then (quiet_then c.rows.invariant.quiet c.next.ensures.quiet) c.next-in-Next.ensures.quiet

pub returns-in-Next-clause-quiet : goal.returns-in-Next-clause-quiet
returns-in-Next-clause-quiet g c = quiet_then (quiet_then c.rows.invariant.quiet c.next.ensures.quiet) c.next-in-Next.ensures.quiet
