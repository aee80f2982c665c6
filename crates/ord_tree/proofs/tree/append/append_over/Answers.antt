use Rattle.std.proofs.{Common.◌∙◌, Common.sym, Common.ap, Common.append_assoc, Common.arith, Common.length, Common.[], Common.◌∷◌, Common.◌++◌, lemmas.Grind.common_steps}
use Rattle.ord_tree.specs.Node.{bare}
use Rattle.ord_tree.proofs.Appending.{AllZip-more, Appends-more}
use Rattle.ord_tree.proofs.tree.append.append_over.Goals as goal

pub loop-source-preserved : goal.loop-source-preserved
loop-source-preserved g c =
    let before = c.loop-source.invariant.appended in
    let one = c.append_one.ensures.appended in
    let step = c.in-Some.ensures.steps.0 in
    record {
      cut = c.loop-source.invariant.cut ∙ ap (λ xs. c.loop-source.yielded ++ xs) step ∙ sym (append_assoc c.loop-source.yielded (c.in-Some.source ∷ []) _);
      count = grind (arith, common_steps);
      room = omega (arith, ap length step, c.loop-source.invariant.room, c.append_one.ensures.count, c.append_one.ensures.capacity);
      appended = (
        before.0 ++ c.from.result ∷ [],
        AllZip-more g.T.From.from_gives _ before.0 c.in-Some.source c.from.result before.1 c.from.ensures,
        Appends-more (bare c.args.chain.now) (bare c.loop-source.chain) (bare c.append_one.new.chain) before.0 c.from.result one.0 before.2 one.1,
      );
    }
