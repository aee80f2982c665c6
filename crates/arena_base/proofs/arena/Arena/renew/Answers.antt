use Rattle.arena_base.proofs.Steps.{renewed, written, written-sound}
use Rattle.arena_base.proofs.arena.Arena.renew.Goals as goal

pub invariant_of-self : goal.invariant_of-self
invariant_of-self g c =
    let found = c.position_of_entry-position.ensures in
    let is = renewed g.P.Gen.BasePtrGen g.P.Inx.BasePtrInx c.self.inside _ c.self.view_is _ _ found _ _ c.index_mut-slot.ensures.value c.renew.ensures in (
      written-sound g.P.Gen.BasePtrGen g.P.Inx.BasePtrInx c.self.inside _ c.self.view_is _ _ found _ (λ e. (c.args.self.now.generation, e.1)) is
          c.self.invariant.0 c.requires (λ e there. rw (← c.self.view_is) c.self.invariant.0.generation_lawful),
      c.self.invariant.1,
    )

pub returns : goal.returns
returns g c =
    let found = c.position_of_entry-position.ensures in
    let is = renewed g.P.Gen.BasePtrGen g.P.Inx.BasePtrInx c.self.inside _ c.self.view_is _ _ found _ _ c.index_mut-slot.ensures.value c.renew.ensures in
    written g.P.Gen.BasePtrGen g.P.Inx.BasePtrInx c.self.inside _ c.self.view_is _ _ found _ (λ e. (c.args.self.now.generation, e.1)) is
