use Rattle.std.proofs.Common.{ap, is_some, arith}
use Rattle.ord_tree.specs.TreeLinks.{as_numbers}
use Rattle.ord_tree.proofs.Leaning.{low-small, inner_some, rotated_lifted, rotated_between, both_demoted}
use Rattle.ord_tree.proofs.{Reading.site_read, Reading.inner-read, Reading.inner-there, Doubles.site_below, Doubles.site_above, Steps.repairs}
use Rattle.ord_tree.proofs.demote.demote_or_rotate.Goals as goal

pub overflow_add-inner : goal.overflow_add-inner
overflow_add-inner g c =
    let r = site_read g.N.Nodes.number c.requires.1.site _ c.other-other.ensures _ c.links-links.ensures _ (c.child-2.ensures _ c.links-links.ensures) _ c.links-rank.ensures
    _ (c.child.ensures _ c.links-links.ensures) _ _ c.rank_of-outer.ensures c.rank_of-inner.ensures in
    record { fits = omega (arith, r, c.requires.1.over, low-small c.requires.1) }

pub returns-then-links-outer-eq1 : goal.returns-then-links-outer-eq1
returns-then-links-outer-eq1 g c =
    repairs (cc) (λ order lean.
    let r = site_read g.N.Nodes.number lean.site _ c.other-other.ensures _ c.links-links.ensures _ (c.child-2.ensures _ c.links-links.ensures) _ c.links-rank.ensures
    _ (c.child.ensures _ c.links-links.ensures) _ _ c.rank_of-outer.ensures c.rank_of-inner.ensures in
    rotated_lifted lean (c.rotate.ensures.rotated lean.site) (omega (arith, r)) r.high_is (omega (arith, r)))

pub returns-then-links-inner-eq2 : goal.returns-then-links-inner-eq2
returns-then-links-inner-eq2 g c =
    repairs (cc) (λ order lean.
    let r = site_read g.N.Nodes.number lean.site _ c.other-other.ensures _ c.links-links.ensures _ (c.child-2.ensures _ c.links-links.ensures) _ c.links-rank.ensures
    _ (c.child.ensures _ c.links-links.ensures) _ _ c.rank_of-outer.ensures c.rank_of-inner.ensures in
    both_demoted lean (rw r.low_is at c.set_rank.ensures) (rw r.high_is at c.set_rank-then-links-inner-eq2.ensures)
    (omega (arith, r, lean.over)) (omega (arith, r)) (ap is_some c.links-links.ensures) (ap is_some c.links-rank.ensures))

pub unwrap-a-requires : goal.unwrap-a-requires
unwrap-a-requires g c =
    let number = g.N.Nodes.number in
    let site = c.requires.1.site in
    let r = site_read g.N.Nodes.number site _ c.other-other.ensures _ c.links-links.ensures _ (c.child-2.ensures _ c.links-links.ensures) _ c.links-rank.ensures
    _ (c.child.ensures _ c.links-links.ensures) _ _ c.rank_of-outer.ensures c.rank_of-inner.ensures in
    let there = inner_some c.requires.1 (as_numbers number c.links-links.result) c.links-links.ensures (omega (arith, r)) in
    inner-there number site _ c.other-other.ensures _ c.links-links.ensures _ (c.child-3.ensures _ c.links-links.ensures) there

pub rotate-requires-2 : goal.rotate-requires-2
rotate-requires-2 g c =
    let x_is = inner-read g.N.Nodes.number c.requires.1.site _ c.other-other.ensures _ c.links-links.ensures _ (c.child-3.ensures _ c.links-links.ensures) _ c.unwrap-a.ensures in
    rw c.other-other.ensures (site_below c.requires.1.site _ x_is)

pub rotate-requires-3 : goal.rotate-requires-3
rotate-requires-3 g c =
    let site = c.requires.1.site in
    let x_is = inner-read g.N.Nodes.number site _ c.other-other.ensures _ c.links-links.ensures _ (c.child-3.ensures _ c.links-links.ensures) _ c.unwrap-a.ensures in
    site_above site _ x_is ((rw c.other-other.ensures at c.rotate-2.ensures).rotated (site_below site _ x_is))

pub returns : goal.returns
returns g c =
    let number = g.N.Nodes.number in
    let x = number c.unwrap-a.result in
    let below = rw c.other-other.ensures at c.rotate-2.ensures in
    repairs (cc) (λ order lean.
    let site = lean.site in
    let r = site_read g.N.Nodes.number site _ c.other-other.ensures _ c.links-links.ensures _ (c.child-2.ensures _ c.links-links.ensures) _ c.links-rank.ensures
    _ (c.child.ensures _ c.links-links.ensures) _ _ c.rank_of-outer.ensures c.rank_of-inner.ensures in
    let x_is = inner-read number site _ c.other-other.ensures _ c.links-links.ensures _ (c.child-3.ensures _ c.links-links.ensures) _ c.unwrap-a.ensures in
    let first = below.rotated (site_below site x x_is) in
    rotated_between lean x x_is first (c.rotate-3.ensures.rotated (site_above site x x_is first)) r.inner_is r.high_is (omega (arith, r, lean.over)) (omega (arith, r, lean.over)))
