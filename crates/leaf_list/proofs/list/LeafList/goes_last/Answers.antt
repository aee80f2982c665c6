use Rattle.std.proofs.Common.{ap, sym, ◌∙◌}
use Rattle.std.specs.Ordering.{is_ge}
use Rattle.leaf_list.specs.Leaves.{entries_of}
use Rattle.leaf_list.proofs.{Placing.entry-position, Neighbouring.last-most}
use Rattle.leaf_list.proofs.list.LeafList.goes_last.Goals as goal

pub entry-requires : goal.entry-requires
entry-requires g c = c.in-Some.ensures.place

pub returns-in-Some-clause-last : goal.returns-in-Some-clause-last
returns-in-Some-clause-last g c =
    λ yes. last-most g.K.Ord.cmp g.met.K.Ord.total c.args.k.now (entries_of c.args.self.now.leaves) _ _ c.room.ensures.sound.ordered.sorted
    (entry-position c.args.self.now.leaves _ _ c.entry.ensures) c.in-Some.ensures.last (ap is_ge (sym c.cmp.ensures) ∙ sym c.is_ge.ensures ∙ yes)
