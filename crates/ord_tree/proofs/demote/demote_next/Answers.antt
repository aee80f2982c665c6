use Rattle.ord_tree.proofs.{Demoting.demoted_occupied, Demoting.parent_occupied, Demoting.demoted_next, Steps.repairs}
use Rattle.ord_tree.proofs.demote.demote_next.Goals as goal

pub branch_of-requires-clause-occupied : goal.branch_of-requires-clause-occupied
branch_of-requires-clause-occupied g c = demoted_occupied (c.if-not-demote.ensures.after c.requires.0 c.requires.1)

pub branch_of-requires-clause-parent : goal.branch_of-requires-clause-parent
branch_of-requires-clause-parent g c = parent_occupied (c.if-not-demote.ensures.after c.requires.0 c.requires.1)

pub returns : goal.returns
returns g c =
    repairs (cc) (λ order fallen.
    demoted_next (c.if-not-demote.ensures.after order fallen) g.N.Nodes.number (c.if-not-demote.ensures.account order fallen) c.branch_of.result
    (record { parent = c.branch_of.ensures.parent; side = c.branch_of.ensures.side }))
