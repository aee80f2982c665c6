use Rattle.std.proofs.Common.{◌≡◌, ◌≤◌, [], Some, true, false, length, IfSome, IfNone, subst}
use Rattle.std.specs.List.Sorted.{IsPartitionPoint}
use Rattle.leaf_list.specs.{Before.is_passed, Leaves.entries_of, Parts.entries_in, Parts.HasLeaf, Place.position}
use Rattle.leaf_list.proofs.Bounding.{empty-point}
use Rattle.leaf_list.proofs.list.LeafList.bound.Goals as goal

pub returns-in_default-clause-point : goal.returns-in_default-clause-point
returns-in_default-clause-point g c =
    empty-point (λ e. is_passed c.args.with_equals (g.K.Ord.cmp c.args.k.now e.0) ≡ true) (λ e. is_passed c.args.with_equals (g.K.Ord.cmp c.args.k.now e.0) ≡ false) c.args.self.now.leaves (subst (λ o. IfNone o (c.args.self.now.leaves ≡ [])) c.in_default.is c.gap-gap.ensures.empty)

pub returns-in_default-clause-visits : goal.returns-in_default-clause-visits
returns-in_default-clause-visits g c =
    c.gap-gap.ensures.visits

pub returns-in_default-clause-none : goal.returns-in_default-clause-none
returns-in_default-clause-none g c =
    c.gap-gap.ensures.none

pub returns-in_default-clause-sound : goal.returns-in_default-clause-sound
returns-in_default-clause-sound g c =
    c.room.ensures.sound

pub place_at-requires-clause-leaf : goal.place_at-requires-clause-leaf
place_at-requires-clause-leaf g c =
    (subst (λ o. IfSome o (λ p. HasLeaf c.args.self.now.leaves (g.P.Inx.BasePtrInx.number p.leaf))) c.in-Some.is c.gap-gap.ensures.leaf)

pub place_at-requires-clause-within : goal.place_at-requires-clause-within
place_at-requires-clause-within g c =
    (subst (λ o. IfSome o (λ p. p.at ≤ length (entries_in c.args.self.now.leaves (g.P.Inx.BasePtrInx.number p.leaf)))) c.in-Some.is c.gap-gap.ensures.within)

pub returns-clause-place : goal.returns-clause-place
returns-clause-place g c =
    c.place_at.ensures.place

pub returns-clause-point : goal.returns-clause-point
returns-clause-point g c =
    rw c.place_at.ensures.position_is (subst (λ o. IfSome o (λ p. IsPartitionPoint (λ e. is_passed c.args.with_equals (g.K.Ord.cmp c.args.k.now e.0) ≡ true) (λ e. is_passed c.args.with_equals (g.K.Ord.cmp c.args.k.now e.0) ≡ false) (entries_of c.args.self.now.leaves) (position c.args.self.now.leaves (Some (g.P.Inx.BasePtrInx.number p.leaf, p.at))))) c.in-Some.is c.gap-gap.ensures.point)

pub returns-clause-visits : goal.returns-clause-visits
returns-clause-visits g c =
    c.gap-gap.ensures.visits

pub returns-clause-none : goal.returns-clause-none
returns-clause-none g c =
    c.gap-gap.ensures.none

pub returns-clause-sound : goal.returns-clause-sound
returns-clause-sound g c =
    c.room.ensures.sound
