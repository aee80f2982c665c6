use Rattle.std.proofs.Common.{arith}
use Rattle.ord_tree.specs.TreeLinks.{as_numbers}
use Rattle.ord_tree.proofs.Doubles.{low_rank, middle_rank, site_below, site_above}
use Rattle.ord_tree.proofs.OnceOrTwice.{inner_some, rotated_single, rotated_double}
use Rattle.ord_tree.proofs.{Reading.outer-read, Reading.inner-read, Reading.inner-there, Steps.repairs}
use Rattle.ord_tree.proofs.promote.rotate_once_or_twice.Goals as goal

pub returns-then-low-outer-eq1 : goal.returns-then-low-outer-eq1
returns-then-low-outer-eq1 g c =
    let number = g.N.Nodes.number in
    repairs (cc) (λ o steep.
    let outer_is = outer-read number steep.site _ c.links-low.ensures _ (c.child.ensures _ c.links-low.ensures) _ c.rank_of-outer.ensures in
    rotated_single steep (c.rotate.ensures.rotated steep.site) outer_is (low_rank steep.site (as_numbers number c.links-low.result) c.links-low.ensures) (omega arith))

pub unwrap-x-requires : goal.unwrap-x-requires
unwrap-x-requires g c =
    let number = g.N.Nodes.number in
    let site = c.requires.2.site in
    let outer_is = outer-read number site _ c.links-low.ensures _ (c.child.ensures _ c.links-low.ensures) _ c.rank_of-outer.ensures in
    let there = inner_some c.requires.2 (as_numbers number c.links-low.result) c.links-low.ensures (omega (arith, outer_is)) in
    inner-there number site _ c.other-other.ensures _ c.links-low.ensures _ (c.child-2.ensures _ c.links-low.ensures) there

pub rotate-requires-2 : goal.rotate-requires-2
rotate-requires-2 g c =
    let x_is = inner-read g.N.Nodes.number c.requires.2.site _ c.other-other.ensures _ c.links-low.ensures _ (c.child-2.ensures _ c.links-low.ensures) _ c.unwrap-x.ensures in
    rw c.other-other.ensures (site_below c.requires.2.site _ x_is)

pub rotate-requires-3 : goal.rotate-requires-3
rotate-requires-3 g c =
    let site = c.requires.2.site in
    let x_is = inner-read g.N.Nodes.number site _ c.other-other.ensures _ c.links-low.ensures _ (c.child-2.ensures _ c.links-low.ensures) _ c.unwrap-x.ensures in
    site_above site _ x_is ((rw c.other-other.ensures at c.rotate-2.ensures).rotated (site_below site _ x_is))

pub returns : goal.returns
returns g c =
    let number = g.N.Nodes.number in
    let low = as_numbers number c.links-low.result in
    let x = number c.unwrap-x.result in
    let below = rw c.other-other.ensures at c.rotate-2.ensures in
    repairs (cc) (λ o steep.
    let site = steep.site in
    let outer_is = outer-read number site _ c.links-low.ensures _ (c.child.ensures _ c.links-low.ensures) _ c.rank_of-outer.ensures in
    let x_is = inner-read number site _ c.other-other.ensures _ c.links-low.ensures _ (c.child-2.ensures _ c.links-low.ensures) _ c.unwrap-x.ensures in
    let first = below.rotated (site_below site x x_is) in
    rotated_double steep x x_is first (c.rotate-3.ensures.rotated (site_above site x x_is first))
    (middle_rank site x x_is low (as_numbers number c.links-rank.result) c.links-low.ensures c.links-rank.ensures) (low_rank site low c.links-low.ensures) (omega (arith, outer_is)))
