use Rattle.std.proofs.Common.{rules, ◌≡◌, ◌<◌, ◌∙◌, ◌++◌, ◌∷◌, [], ap, sym, ℤ, ℕ, pos, get_or, w64, to_z, of_z, length, List, arith}
use Rattle.arena_c.proofs.Runs.{zip-step}
use Rattle.arena_c.proofs.run.zipped.Goals as goal

pub loop-i-preserved : goal.loop-i-preserved
loop-i-preserved c =
    let ks = c.args.keys.now in let vs = c.args.values.now in let i = c.loop-i.i in
    let in_ks : i < length ks = omega (arith, c.loop-i-test.true) in let in_vs : i < length vs = omega (arith, c.loop-i-test.true, c.requires) in
    let same : to_z w64 (of_z w64 (get_or ks i (pos 0))) ≡ get_or ks i (pos 0) = search rules in
    record {
      items = c.in_ok-push.ensures.items ∙ ap (λ (k : ℤ). c.loop-i.pairs.items ++ (k, get_or vs i 0) ∷ []) same ∙ ap (λ (zs : List (ℤ × ℕ)). zs ++ (get_or ks i (pos 0), get_or vs i 0) ∷ []) c.loop-i.invariant.items ∙ sym (zip-step ks vs i in_ks in_vs);
      counted = search rules;
      room = search rules;
    }
