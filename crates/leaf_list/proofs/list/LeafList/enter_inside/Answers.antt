use Rattle.std.proofs.Common.{arith}
use Rattle.leaf_list.proofs.Bounding.{gap-there}
use Rattle.leaf_list.proofs.list.LeafList.enter_inside.Goals as goal

pub unwrap-gap-requires : goal.unwrap-gap-requires
unwrap-gap-requires g c = gap-there _ c.args.self.now.leaves c.gap.ensures.empty c.requires.some

pub size-requires : goal.size-requires
size-requires g c = rw c.self.view_is (rw c.unwrap-gap.ensures at c.gap.ensures.leaf)

pub put_at-requires-clause-leaf : goal.put_at-requires-clause-leaf
put_at-requires-clause-leaf g c = rw c.unwrap-gap.ensures at c.gap.ensures.leaf

pub put_at-requires-clause-within : goal.put_at-requires-clause-within
put_at-requires-clause-within g c = rw c.unwrap-gap.ensures at c.gap.ensures.within

pub put_at-requires-clause-roomy : goal.put_at-requires-clause-roomy
put_at-requires-clause-roomy g c = let size = rw c.self.view_is at c.size.ensures.value in omega arith

pub put_at-requires-clause-point : goal.put_at-requires-clause-point
put_at-requires-clause-point g c = rw c.unwrap-gap.ensures at c.gap.ensures.point

pub returns-then-size-lt-CAPACITY-clause-entries : goal.returns-then-size-lt-CAPACITY-clause-entries
returns-then-size-lt-CAPACITY-clause-entries g c = c.put_at.ensures.entries

pub returns-then-size-lt-CAPACITY-clause-houses : goal.returns-then-size-lt-CAPACITY-clause-houses
returns-then-size-lt-CAPACITY-clause-houses g c = c.put_at.ensures.houses

pub split_at-requires-clause-leaf : goal.split_at-requires-clause-leaf
split_at-requires-clause-leaf g c = rw c.unwrap-gap.ensures at c.gap.ensures.leaf

pub split_at-requires-clause-within : goal.split_at-requires-clause-within
split_at-requires-clause-within g c = rw c.unwrap-gap.ensures at c.gap.ensures.within

pub split_at-requires-clause-full : goal.split_at-requires-clause-full
split_at-requires-clause-full g c = let size = rw c.self.view_is at c.size.ensures.value in omega (arith, c.size.ensures.few)

pub split_at-requires-clause-point : goal.split_at-requires-clause-point
split_at-requires-clause-point g c = rw c.unwrap-gap.ensures at c.gap.ensures.point

pub returns-clause-entries : goal.returns-clause-entries
returns-clause-entries g c = c.split_at.ensures.entries

pub returns-clause-houses : goal.returns-clause-houses
returns-clause-houses g c = c.split_at.ensures.houses
