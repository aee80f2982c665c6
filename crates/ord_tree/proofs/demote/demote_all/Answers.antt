use Rattle.std.proofs.Common.{◌∙◌, [], arith, refl, inr}
use Rattle.ord_tree.proofs.{Promoting.IsRepaired-after, Steps.repairs, RankChanges.IsWithin-before}
use Rattle.ord_tree.proofs.demote.demote_all.Goals as goal

pub loop-next-smaller : goal.loop-next-smaller
loop-next-smaller g c =
    let r = c.requires in
    let demoted = c.in-Some.ensures.after r.0 (c.loop-next.invariant.fallen r.0 r.1).0 in
    omega (arith, demoted.higher, demoted.fits)

pub loop-next-preserved : goal.loop-next-preserved
loop-next-preserved g c = record {
  fallen = λ order fallen.
      let now = c.loop-next.invariant.fallen order fallen in
      let next = c.in-Some.ensures.after order now.0 in
      (next.fallen, λ j. now.1 j ∙ next.backs j);
  paid = λ order start.
      let on = c.loop-next.invariant.paid order start in
      IsWithin-before on.named on.names on.within (c.in-Some.ensures.account order on.state);
  kept = cc;
}

pub returns : goal.returns
returns g c =
    repairs (cc) (λ order fallen.
    let now = c.loop-next.invariant.fallen order fallen in
    let on = c.loop-next.invariant.paid order fallen in (
      IsRepaired-after now.1 (c.in_default.ensures.after order now.0),
      IsWithin-before on.named on.names (omega (arith, on.within)) (c.in_default.ensures.account order on.state),
    ))

pub loop-next-init : goal.loop-next-init
loop-next-init g c = record { fallen = λ order fallen. (fallen, λ j. refl); paid = λ order start. record { state = start; named = []; within = omega arith; names = λ j. inr (inr refl) }; kept = refl }
