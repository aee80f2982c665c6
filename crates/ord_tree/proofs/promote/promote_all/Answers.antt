use Rattle.std.proofs.Common.{◌∙◌, [], arith, refl, inr}
use Rattle.ord_tree.proofs.{Promoting.IsRepaired-after, Steps.repairs, RankChanges.IsWithin-before}
use Rattle.ord_tree.proofs.promote.promote_all.Goals as goal

pub loop-z-smaller : goal.loop-z-smaller
loop-z-smaller g c =
    let r = c.requires in
    let promoted = c.in-Some.ensures.after (r.0, r.1) (c.loop-z.invariant.rising r.0 r.1 r.2).0 in
    omega (arith, promoted.higher, promoted.fits)

pub loop-z-preserved : goal.loop-z-preserved
loop-z-preserved g c = record {
  rising = λ order slack rising.
      let now = c.loop-z.invariant.rising order slack rising in
      let next = c.in-Some.ensures.after (order, slack) now.0 in
      (next.rising, λ j. now.1 j ∙ next.backs j);
  paid = λ order slack first.
      let on = c.loop-z.invariant.paid order slack first in
      IsWithin-before on.named on.names on.within (c.in-Some.ensures.account (order, slack) on.state);
  kept = cc;
}

pub returns : goal.returns
returns g c =
    repairs (cc) (λ o rising.
    let now = c.loop-z.invariant.rising o.0 o.1 rising in
    let on = c.loop-z.invariant.paid o.0 o.1 rising in (
      IsRepaired-after now.1 (c.in_default.ensures.after o now.0),
      IsWithin-before on.named on.names (omega (arith, on.within)) (c.in_default.ensures.account o on.state),
    ))

pub loop-z-init : goal.loop-z-init
loop-z-init g c = record { rising = λ order slack rising. (rising, λ j. refl); paid = λ order slack first. record { state = first; named = []; within = omega arith; names = λ j. inr (inr refl) }; kept = refl }
