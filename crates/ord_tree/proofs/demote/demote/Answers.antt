use Rattle.std.proofs.Common.{◌≡◌, ◌+◌, ◌∙◌, ap, option_map, arith}
use Rattle.ord_tree.specs.Shape.{rank_of}
use Rattle.ord_tree.proofs.Demoting.{fallen_stop, fallen_bare, fallen_slack, IsLeaning-fallen, leaning_paid}
use Rattle.ord_tree.proofs.{Reading.low-read, Reading.far-read, Reading.sibling-read, Steps.repairs}
use Rattle.ord_tree.proofs.demote.demote.Goals as goal

pub returns-in_default : goal.returns-in_default
returns-in_default g c =
    let number = g.N.Nodes.number in
    repairs (cc) (λ order fallen.
    let none = far-read number fallen _ c.other-other.ensures _ c.links-links.ensures _ (c.child-2.ensures _ c.links-links.ensures) ∙ ap (option_map number) c.in_default.is in
    fallen_bare fallen c.set_rank.ensures none)

pub returns-then-links-low-le2 : goal.returns-then-links-low-le2
returns-then-links-low-le2 g c =
    let number = g.N.Nodes.number in
    repairs (cc) (λ order fallen.
    let r = low-read number fallen _ c.other-other.ensures _ c.links-links.ensures _ (c.child.ensures _ c.links-links.ensures) _ c.rank_of-low.ensures in
    let far = far-read number fallen _ c.other-other.ensures _ c.links-links.ensures _ (c.child-2.ensures _ c.links-links.ensures) ∙ ap (option_map number) c.in-Some.is in
    fallen_stop fallen (omega (arith, r)) _ far)

pub overflow_sub-links-2 : goal.overflow_sub-links-2
overflow_sub-links-2 g c =
    let fallen = c.requires.1 in
    let number = g.N.Nodes.number in
    let r = low-read number fallen _ c.other-other.ensures _ c.links-links.ensures _ (c.child.ensures _ c.links-links.ensures) _ c.rank_of-low.ensures in
    let s = sibling-read number fallen _ c.other-other.ensures _ c.links-links.ensures _ (c.child-2.ensures _ c.links-links.ensures) _ c.in-Some.is _ c.links-sibling.ensures in
    omega (arith, r, s, fallen.over.greater)

pub returns-then-links-sibling-eq2 : goal.returns-then-links-sibling-eq2
returns-then-links-sibling-eq2 g c =
    let number = g.N.Nodes.number in
    repairs (cc) (λ order fallen.
    let r = low-read number fallen _ c.other-other.ensures _ c.links-links.ensures _ (c.child.ensures _ c.links-links.ensures) _ c.rank_of-low.ensures in
    let s = sibling-read number fallen _ c.other-other.ensures _ c.links-links.ensures _ (c.child-2.ensures _ c.links-links.ensures) _ c.in-Some.is _ c.links-sibling.ensures in
    fallen_slack fallen (omega (arith, r, fallen.over.lesser)) c.set_rank-then-links-sibling-eq2.ensures
    (omega (arith, r, s, fallen.over.greater)) (omega (arith, r, fallen.over.lesser)))

pub demote_or_rotate-requires : goal.demote_or_rotate-requires
demote_or_rotate-requires g c =
    let fallen = c.requires.1 in
    let number = g.N.Nodes.number in
    let r = low-read number fallen _ c.other-other.ensures _ c.links-links.ensures _ (c.child.ensures _ c.links-links.ensures) _ c.rank_of-low.ensures in
    let s = sibling-read number fallen _ c.other-other.ensures _ c.links-links.ensures _ (c.child-2.ensures _ c.links-links.ensures) _ c.in-Some.is _ c.links-sibling.ensures in
    (c.requires.0, IsLeaning-fallen fallen (omega (arith, r, fallen.over.lesser)) c.other-other.ensures s.1 (omega (arith, r, s, fallen.over.greater)))

pub returns : goal.returns
returns g c =
    let number = g.N.Nodes.number in
    repairs (cc) (λ order fallen.
    let r = low-read number fallen _ c.other-other.ensures _ c.links-links.ensures _ (c.child.ensures _ c.links-links.ensures) _ c.rank_of-low.ensures in
    let s = sibling-read number fallen _ c.other-other.ensures _ c.links-links.ensures _ (c.child-2.ensures _ c.links-links.ensures) _ c.in-Some.is _ c.links-sibling.ensures in
    let low : rank_of fallen.low + 3 ≡ fallen.rank = omega (arith, r, fallen.over.lesser) in
    let sibling : rank_of fallen.far + 1 ≡ fallen.rank = omega (arith, r, s, fallen.over.greater) in
    let lean = IsLeaning-fallen fallen low c.other-other.ensures s.1 sibling in (
      c.demote_or_rotate.ensures.after order lean,
      leaning_paid fallen low c.other-other.ensures s.1 sibling _ _ c.demote_or_rotate.result (c.demote_or_rotate.ensures.account order lean),
    ))
