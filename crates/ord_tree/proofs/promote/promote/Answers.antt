use Rattle.std.proofs.Common.{◌≡◌, ◌≢◌, ◌+◌, sym, ◌∙◌, ap, option_map, arith}
use Rattle.ord_tree.specs.Shape.{rank_of}
use Rattle.ord_tree.proofs.Frames.{last_step}
use Rattle.ord_tree.proofs.Promoting.{y_occupied, y_holds, risen_top, z_occupied, risen_below, low-small, promoted, IsSteep-rising, risen_steep, balanced_last}
use Rattle.ord_tree.proofs.{Reading.ranks-read, Reading.beside-read, Reading.beside-occupied, Steps.repairs}
use Rattle.ord_tree.proofs.promote.promote.Goals as goal

pub links-low-requires : goal.links-low-requires
links-low-requires g c = y_occupied c.requires.2

pub links-high-requires : goal.links-high-requires
links-high-requires g c =
    let rising = c.requires.2 in
    let back = sym (y_holds rising _ c.links-low.ensures).0 ∙ ap (option_map g.N.Nodes.number) c.in-Some.is in
    z_occupied rising (last_step rising.way _ back).1

pub returns-in_default : goal.returns-in_default
returns-in_default g c = repairs (cc) (λ o rising. risen_top rising (sym (y_holds rising _ c.links-low.ensures).0 ∙ ap (option_map g.N.Nodes.number) c.in_default.is))

pub returns-then-high-low : goal.returns-then-high-low
returns-then-high-low g c =
    let number = g.N.Nodes.number in
    repairs (cc) (λ o rising.
    let r = ranks-read number rising _ _ c.links-low.ensures c.links-high.ensures (ap (option_map number) c.in-Some.is) in
    risen_below rising r.0 (omega (arith, r.1, r.2)))

pub rank_of-sibling-requires : goal.rank_of-sibling-requires
rank_of-sibling-requires g c =
    let number = g.N.Nodes.number in
    beside-occupied number c.requires.2 _ _ c.links-low.ensures c.links-high.ensures (ap (option_map number) c.in-Some.is) _ c.side_of-side.ensures _ c.other.ensures _ (c.child.ensures _ c.links-high.ensures)

pub overflow_sub-high : goal.overflow_sub-high
overflow_sub-high g c =
    let number = g.N.Nodes.number in
    let r = beside-read number c.requires.2 _ _ c.links-low.ensures c.links-high.ensures (ap (option_map number) c.in-Some.is) _ c.side_of-side.ensures _ c.other.ensures _ (c.child.ensures _ c.links-high.ensures) _ c.rank_of-sibling.ensures in
    omega (arith, r.high_is, r.sibling_is, (balanced_last c.requires.2 r.last).0.greater)

pub overflow_add-high : goal.overflow_add-high
overflow_add-high g c =
    let number = g.N.Nodes.number in
    let r = ranks-read number c.requires.2 _ _ c.links-low.ensures c.links-high.ensures (ap (option_map number) c.in-Some.is) in
    record { fits = omega (arith, r.1, r.2, low-small c.requires.2) }

pub returns-then-high-sibling-eq1 : goal.returns-then-high-sibling-eq1
returns-then-high-sibling-eq1 g c =
    let number = g.N.Nodes.number in
    repairs (cc) (λ o rising.
    let r = beside-read number rising _ _ c.links-low.ensures c.links-high.ensures (ap (option_map number) c.in-Some.is) _ c.side_of-side.ensures _ c.other.ensures _ (c.child.ensures _ c.links-high.ensures) _ c.rank_of-sibling.ensures in
    promoted rising r.last _ (rw r.high_is at c.set_rank.ensures)
    (omega (arith, r.high_is, r.low_is, (balanced_last rising r.last).0.lesser)) (omega (arith, r.high_is, r.sibling_is)))

pub rotate_once_or_twice-requires : goal.rotate_once_or_twice-requires
rotate_once_or_twice-requires g c =
    let rising = c.requires.2 in
    let number = g.N.Nodes.number in
    let r = beside-read number rising _ _ c.links-low.ensures c.links-high.ensures (ap (option_map number) c.in-Some.is) _ c.side_of-side.ensures _ c.other.ensures _ (c.child.ensures _ c.links-high.ensures) _ c.rank_of-sibling.ensures in
    (c.requires.0, c.requires.1, IsSteep-rising rising r.last (omega (arith, r.high_is, r.low_is, (balanced_last rising r.last).0.lesser)) (omega (arith, r.high_is, r.sibling_is)))

pub returns : goal.returns
returns g c =
    let number = g.N.Nodes.number in
    repairs (cc) (λ o rising.
    let r = beside-read number rising _ _ c.links-low.ensures c.links-high.ensures (ap (option_map number) c.in-Some.is) _ c.side_of-side.ensures _ c.other.ensures _ (c.child.ensures _ c.links-high.ensures) _ c.rank_of-sibling.ensures in
    let equal : r.last.rank ≡ rising.low + 1 = omega (arith, r.high_is, r.low_is, (balanced_last rising r.last).0.lesser) in
    let not_sibling : rank_of r.last.far + 1 ≢ r.last.rank = omega (arith, r.high_is, r.sibling_is) in
    let steep = IsSteep-rising rising r.last equal not_sibling in
    (c.rotate_once_or_twice.ensures.after o steep, risen_steep rising r.last equal not_sibling (c.rotate_once_or_twice.ensures.account o steep)))
