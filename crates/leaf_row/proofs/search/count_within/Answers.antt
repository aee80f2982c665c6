use Rattle.std.proofs.Common.{◌-◌, Bool, arith, sym, refl, ◌∙◌}
use Rattle.leaf_row.specs.Before.{is_passed}
use Rattle.leaf_row.proofs.Searching.{passed, failed, halved}
use Rattle.leaf_row.proofs.search.count_within.Goals as goal
use Rattle.leaf_row.proofs.search.count_within.Goals.{then-mid-n, else-mid-n, then-mid-n-2+then-is_behind, else-mid-n-2, else-mid-n-2-via-then-mid-n-2+else-is_behind, else-mid-n-2-via-else-mid-n-2}

pub loop-size-preserved : goal.loop-size-preserved
loop-size-preserved g c =
    let less = halved c.loop-size.visits c.loop-size.size _ _ refl (omega arith) c.loop-size.invariant.halved in
    let xs = c.args.keys.now in let x = c.index-keys-at.result in
    let p : g.row.K.Denot → Bool = λ y. is_passed c.args.with_equals (g.K.Ord.cmp c.args.k.now y) in
    elim c.if-mid-n-2.branch [
      | then-mid-n-2+then-is_behind w ↦ record {
        some = omega arith;
        short = omega arith;
        within = omega arith;
        steps = omega arith;
        halved = less.0;
        few = λ some. less.1;
        place = λ q b i. let o = c.loop-size.invariant.place q b i in
            elim c.if-mid-n.branch [
              | then-mid-n v ↦ let k = passed xs p q (c.if-mid-n.at - 1) x (omega arith) c.index-keys-at.is (sym c.is_before-is_behind.ensures ∙ w.if-is_behind.true) i.1 in (omega arith, omega arith)
              | else-mid-n v ↦ (omega arith, omega arith)
            ];
      }
      | else-mid-n-2 w ↦ record {
        some = omega arith;
        short = omega arith;
        within = omega arith;
        steps = omega arith;
        halved = less.0;
        few = λ some. less.1;
        place = λ q b i. let o = c.loop-size.invariant.place q b i in
            elim w.else-mid-n-2.branch [
              | else-mid-n-2-via-then-mid-n-2+else-is_behind u ↦
                  elim c.if-mid-n.branch [
                    | then-mid-n v ↦ let k = failed xs p q (c.if-mid-n.at - 1) x c.index-keys-at.is (sym c.is_before-is_behind.ensures ∙ u.if-is_behind.false) i.0 in (omega arith, omega arith)
                    | else-mid-n v ↦ (omega arith, omega arith)
                  ]
              | else-mid-n-2-via-else-mid-n-2 u ↦ (omega arith, omega arith)
            ];
      }
    ]

pub returns-clause-place : goal.returns-clause-place
returns-clause-place g c = λ q b i. let o = c.loop-size.invariant.place q b i in omega arith

pub returns-clause-visits : goal.returns-clause-visits
returns-clause-visits g c = record { few = λ some. c.loop-size.invariant.few (omega arith); none = λ none. let steps = c.loop-size.invariant.steps in let some = c.loop-size.invariant.some in omega arith }
