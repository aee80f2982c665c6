use Rattle.arena_base.proofs.Words.{refl, sym, ◌∙◌, subst, ForSome, slot, IsLawfulGeneration, with_slot_item}
use Rattle.arena_base.proofs.{Slots.entry_in-parts, Slots.entry_in-with_slot_item, Steps.found-viewed, Steps.read, Steps.read-occupied, Steps.written, Steps.written-sound}
use Rattle.arena_base.proofs.arena.write.ArenaItemsMut.pair_mut.Goals as goal

pub generation-generation-requires : goal.generation-generation-requires
generation-generation-requires g c =
    let here = found-viewed g.P.Gen.BasePtrGen g.P.Inx.BasePtrInx c.self.inside _ c.self.view_is _ _ c.position_of_entry-position.ensures in
    read-occupied g.P.Gen.BasePtrGen g.P.Inx.BasePtrInx c.self.inside _ c.self.view_is _ _ here _ c.index.ensures c.requires

pub invariant_of-self-lent : goal.invariant_of-self-lent
invariant_of-self-lent g c = λ w.
    let here = found-viewed g.P.Gen.BasePtrGen g.P.Inx.BasePtrInx c.self.inside _ c.self.view_is _ _ c.position_of_entry-position.ensures in
    let was = read g.P.Gen.BasePtrGen g.P.Inx.BasePtrInx c.self.inside _ c.self.view_is _ _ here _ c.index_mut-slot.ensures.value in
    let old = c.index_mut-slot.result.now in (
      written-sound g.P.Gen.BasePtrGen g.P.Inx.BasePtrInx c.self.inside _ c.self.view_is _ _ here (with_slot_item old w) (λ e. (e.0, w))
          (rw was (entry_in-with_slot_item g.P.Gen.BasePtrGen.number old w)) c.self.invariant.0 c.requires
          (subst (λ v. ForSome (slot v (g.P.Inx.BasePtrInx.number c.args.i)) (λ e. IsLawfulGeneration g.P.Gen.BasePtrGen.greatest e.0)) c.self.view_is
          (c.self.invariant.0.entries_lawful (g.P.Inx.BasePtrInx.number c.args.i))),
      c.self.invariant.1,
    )

pub returns : goal.returns
returns g c =
    let here = found-viewed g.P.Gen.BasePtrGen g.P.Inx.BasePtrInx c.self.inside _ c.self.view_is _ _ c.position_of_entry-position.ensures in
    let old = c.index_mut-slot.result.now in
    let was = read g.P.Gen.BasePtrGen g.P.Inx.BasePtrInx c.self.inside _ c.self.view_is _ _ here _ c.index.ensures in
    let at = read g.P.Gen.BasePtrGen g.P.Inx.BasePtrInx c.self.inside _ c.self.view_is _ _ here _ c.index_mut-slot.ensures.value in (
      (
        refl,
        λ w.
            written g.P.Gen.BasePtrGen g.P.Inx.BasePtrInx c.self.inside _ c.self.view_is _ _ here (with_slot_item old w) (λ e. (e.0, w))
            (rw at (entry_in-with_slot_item g.P.Gen.BasePtrGen.number old w)),
      ),
      record {
        writes_back = tt;
        value = was ∙ entry_in-parts g.P.Gen.BasePtrGen.number _ _ (sym was ∙ at) _ _ c.generation-generation.ensures c.item_mut.ensures.value;
      },
    )
