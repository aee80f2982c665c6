use Rattle.arena_base.proofs.{Words.sym, Words.ap, Words.◌∙◌, Words.entry_in, Steps.read}
use Rattle.arena_base.proofs.arena.Arena.get_inx.Goals as goal

pub returns-in-Occupied : goal.returns-in-Occupied
returns-in-Occupied g c =
    let found = c.in_ok-position.ensures in
    sym (read g.P.Gen.BasePtrGen g.P.Inx.BasePtrInx c.self.inside _ c.self.view_is _ _
    (record { number = found.number; within = found.within }) _ c.index.ensures ∙ ap (entry_in g.P.Gen.BasePtrGen.number) c.in-Occupied.is)

pub returns-in-Vacant : goal.returns-in-Vacant
returns-in-Vacant g c =
    let found = c.in_ok-position.ensures in
    sym (read g.P.Gen.BasePtrGen g.P.Inx.BasePtrInx c.self.inside _ c.self.view_is _ _
    (record { number = found.number; within = found.within }) _ c.index.ensures ∙ ap (entry_in g.P.Gen.BasePtrGen.number) c.in-Vacant.is)
