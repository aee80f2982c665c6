use Rattle.std.proofs.Common.{◌≡◌, ℕ, zero, suc, ◌<◌, false, true, ◌++◌, ◌∷◌, [], length, Result, Ok, Err, OnErr, refl, sym, ◌∙◌, arith}
use Rattle.std.proofs.lemmas.Grind.{common_steps}
use Rattle.ord_machine.proofs.{Runs.RunsBetween-none, Runs.RunsBetween-more, Lists.cut_more, Lists.cut_all}
use Rattle.triple_ord.specs.ClosureSearch.{Asks}
use Rattle.ord_machine.specs.Machine.{calls_by, reading_by}
use Rattle.ord_machine.proofs.running.run.Goals as goal

pub loop-command-init : goal.loop-command-init
loop-command-init g c =
    record {
      cut = grind (arith, common_steps);
      runs = RunsBetween-none (reading_by g.T.SimpleOrdItem.key_of g.T.Key.Ord.cmp g.P.Inx.BasePtrInx.most g.P.Gen.BasePtrGen.greatest
          g.P.BasePtr.numbers g.P.Inx.BasePtrInx.number g.P.Gen.BasePtrGen.number) (calls_by (Asks g.P.BasePtr.numbers (goal.F-step g)) g.T.Clone.is_infallible) _ _ _ c.in_ok-replies.ensures.items;
      callable = c.requires.callable;
      count = grind (arith, common_steps);
      room = grind (arith, common_steps);
    }

pub loop-command-preserved : goal.loop-command-preserved
loop-command-preserved g c =
    let items : c.push.new.self.items ≡ c.loop-command.replies.items ++ c.step-reply.result ∷ [] = grind (arith, common_steps) in
    record {
      cut = cut_more _ _ _ _ _ c.loop-command.invariant.cut c.in-Some.ensures.steps.0;
      callable = c.step-reply.ensures.callable;
      runs = rw items (RunsBetween-more _ _ _ _ _ _ _ _ _ _ c.step-reply.ensures.step _ _ c.loop-command.invariant.runs);
      count = grind (arith, common_steps);
      room = grind (arith, common_steps);
    }

pub returns-clause-run : goal.returns-clause-run
returns-clause-run g c =
    let all : c.loop-command.yielded ≡ c.args.commands.items =
    cut_all _ _ _ c.loop-command.invariant.cut (sym c.loop-command.invariant.count ∙ c.in-None.ensures.steps.0) in
    rw all at c.loop-command.invariant.runs

-- memory can be refused only if some was requested
asked_some : {V E : Type 0} (result : Result V E) (n : ℕ) → (n ≡ 0 → false ≡ true) → OnErr result (0 < n)
asked_some (Ok v) n room = tt
asked_some (Err e) zero room = let never : false ≡ true = room refl in cc
asked_some (Err e) (suc n) room = omega arith

pub returns-in_err-replies-clause-refused : goal.returns-in_err-replies-clause-refused
returns-in_err-replies-clause-refused g c =
    let count : c.len.result ≡ length c.args.commands.items = grind (arith, common_steps) in
    asked_some c.from_residual.result (length c.args.commands.items) (rw count at c.in_err-replies.ensures.succeeds)
