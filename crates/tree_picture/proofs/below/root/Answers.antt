use Rattle.std.proofs.Common.{◌++◌, ◌∷◌, [], sym, ap, ◌∙◌, append-nil}
use Rattle.triple_ord.specs.Chain.{times}
use Rattle.tree_picture.proofs.LinkedParts.{none-more, rootless}
use Rattle.tree_picture.proofs.Listing.{cut_more}
use Rattle.tree_picture.proofs.below.root.Goals as goal

pub loop-p-preserved : goal.loop-p-preserved
loop-p-preserved g c =
    let so_far = c.loop-p.invariant in (
      so_far.0 ++ record { index = (g.P.BasePtr.numbers c.in-Some.p).0; generation = (g.P.BasePtr.numbers c.in-Some.p).1; item = c.in-Some.field-0-1.now } ∷ [],
      cut_more _ _ _ _ _ so_far.1 c.in-Some.ensures.steps,
      none-more _ so_far.0 _ (rw c.inx.ensures at (c.is_root.ensures.no c.len.ensures.tree c.len.ensures.sound.distinct c.if-is_root.false)) so_far.2,
    )

pub returns : goal.returns
returns g c =
    let so_far = c.loop-p.invariant in
    let all = sym (append-nil so_far.0) ∙ rw c.in-None.ensures.steps.0 at so_far.1 in
    sym (rootless c.args.arena.now c.len.ensures.tree (λ i is. ap (times i) (sym all) ∙ so_far.2 i is))
