use Rattle.std.proofs.Common.{◌≡◌, ◌∙◌, length, sym, ap, subst, arith}
use Rattle.std.specs.{List.All, declared.cmp.Ordering.TheVariants.Greater}
use Rattle.std.proofs.lemmas.Result.{on_ok_weaker}
use Rattle.sorted_arena.specs.Sorted.{Sorted, key_of, with_passing}
use Rattle.sorted_arena.proofs.Outside.{until-between, outside-above, above-greater}
use Rattle.sorted_arena.proofs.arena.SortedArena.pop_entries_until.Goals as goal

pub returns-clause-drains : goal.returns-clause-drains
returns-clause-drains g c =
    let same = until-between g.K.Ord.cmp c.args.until.now g.met.K.Ord.total c.args.self.now.entries in
    let drains = c.drain_entries_between.ensures.drains in
    record {
      held = drains.held;
      drained = on_ok_weaker c.drain_entries_between.result (λ is. is ∙ same) drains.drained;
      after = on_ok_weaker c.drain_entries_between.result (λ is. is ∙ outside-above g.K.Ord.cmp c.args.until.now g.met.K.Ord.total g.P.Gen.BasePtrGen.greatest c.args.self.now) drains.after;
      room = λ fits. drains.room (omega (arith, fits, ap length same));
      kept = drains.kept;
      err = drains.err;
    }

pub returns-clause-left : goal.returns-clause-left
unfolding with_passing
returns-clause-left g c =
    on_ok_weaker c.drain_entries_between.result (λ is. subst (λ (a : Sorted g.row.K.Denot g.row.V.Denot). All (λ e. g.K.Ord.cmp (key_of e) c.args.until.now ≡ Greater) a.entries)
    (sym (is ∙ outside-above g.K.Ord.cmp c.args.until.now g.met.K.Ord.total g.P.Gen.BasePtrGen.greatest c.args.self.now))
    (above-greater g.K.Ord.cmp c.args.until.now c.args.self.now.entries)) c.drain_entries_between.ensures.drains.after
