use Rattle.std.proofs.Common.{ap, ◌∙◌}
use Rattle.leaf_list.proofs.list.LeafList.room.Goals as goal

pub returns-clause-value : goal.returns-clause-value
returns-clause-value g c =
    c.room.ensures.value ∙ ap (λ a. a.room) c.self.view_is

pub returns-clause-sound : goal.returns-clause-sound
returns-clause-sound g c =
    rw (← c.self.view_is) (record { ordered = c.self.invariant; apart = c.room.ensures.apart })
