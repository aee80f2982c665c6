use Rattle.arena_base.proofs.{Words.is_some, Words.sym, Words.ap, Words.◌∙◌, Words.false≢true, Words.entry_in, Steps.read}
use Rattle.arena_base.proofs.arena.Arena.entry.Goals as goal

pub unreachable-requires : goal.unreachable-requires
unreachable-requires g c =
    let was = read g.P.Gen.BasePtrGen g.P.Inx.BasePtrInx c.self.inside _ c.self.view_is _ _ c.position_of_entry.ensures _ c.index.ensures in
    false≢true (ap is_some (sym (was ∙ ap (entry_in g.P.Gen.BasePtrGen.number) c.in-Vacant.is)) ∙ c.requires)

pub returns-clause-value : goal.returns-clause-value
returns-clause-value g c =
    read g.P.Gen.BasePtrGen g.P.Inx.BasePtrInx c.self.inside _ c.self.view_is _ _ c.position_of_entry.ensures _ c.index.ensures
    ∙ ap (entry_in g.P.Gen.BasePtrGen.number) c.in-Occupied.is
