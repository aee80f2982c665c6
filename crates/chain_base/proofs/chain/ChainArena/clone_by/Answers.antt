use Rattle.std.proofs.Common.{◌≡◌, ◌⊎◌, None, [], inl, inr, sym, ap, ◌∙◌, option_map, rules}
use Rattle.arena_base.specs.Clone.{taken_over}
use Rattle.arena_base.proofs.CallerLemmas.{failed-clone, failed-clone-retold}
use Rattle.chain_base.specs.{Chain.Chain, Chain.chain_limit, Chain.greatest_index, Layout.chain_of}
use Rattle.chain_base.proofs.Cloning.{name-cloned, name-stopped, left-refused, Lies-cloned, clone-chain, rising-told, refused-chain, empty-laid, unrefused, filled-laid, kept-chain}
use Rattle.chain_base.proofs.{Vacancy.greatest-links, Steps.held-laid}
use Rattle.chain_base.proofs.chain.ChainArena.clone_by.Goals as goal
use Rattle.chain_base.proofs.chain.ChainArena.clone_by.Goals.{In-Err}

-- if the call failed, the slots are unchanged, or none is occupied
left : (g : _) (c : In-Err g)
    → (c.clone_by-cloned.new.self ≡ c.self.inside.arena) ⊎ (c.clone_by-cloned.new.self ≡ taken_over c.source.inside.arena c.self.inside.arena [])
left g c =
    elim (failed-clone c.clone_by-cloned.ensures.clones c.in-Err.field-0 c.in-Err.is) [ inl kept ↦ inl kept.0 | inr refused ↦ inr refused.after ]

pub invariant_of-self : goal.invariant_of-self
invariant_of-self g c =
    let done = Lies-cloned g.P.BasePtr.numbers g.M.CloneEntry.step (λ m. m.map.now) (λ m. m.map.ghost_name) g.P.Inx.BasePtrInx.most g.P.Gen.BasePtrGen.greatest c.source.inside.arena _ _ c.source.invariant
    (rw c.source.view_is c.len.ensures.sound) c.self.inside.arena c.clone_by-cloned.new.self _ c.clone_by-cloned.new.map c.in-Ok.ensures.clones.ok.made None c.in-Ok.ensures.clones.ok.fresh in
    done.laid

pub invariant_of-self-then-is_empty : goal.invariant_of-self-then-is_empty
invariant_of-self-then-is_empty g c =
    empty-laid c.source.inside.arena c.self.inside.arena c.clone_by-cloned.new.self _ _ c.self.invariant (left g (goal.at.invariant_of-self-then-is_empty g c).In-Err) (sym c.is_empty.ensures ∙ c.if-is_empty.true)

pub invariant_of-self-else-is_empty : goal.invariant_of-self-else-is_empty
invariant_of-self-else-is_empty g c =
    filled-laid c.source.inside.arena c.self.inside.arena c.clone_by-cloned.new.self _ _ c.self.invariant (left g (goal.at.invariant_of-self-else-is_empty g c).In-Err) (sym c.is_empty.ensures ∙ c.if-is_empty.false)

pub returns-in-Ok : goal.returns-in-Ok
returns-in-Ok g c =
    let named = sym (name-cloned g.P.BasePtr.numbers g.M.CloneEntry.step (λ m. m.map.now) (λ m. m.map.ghost_name) _ c.clone_by-cloned.new.map _ _ _ c.in-Ok.ensures.clones.ok.made) in
    let done = clone-chain g.P.BasePtr.numbers g.M.CloneEntry.step (λ m. m.map.now) (λ m. m.map.ghost_name) g.P.Inx.BasePtrInx.most g.P.Gen.BasePtrGen.greatest c.source.inside.arena _ _ c.source.invariant
    (rw c.source.view_is c.len.ensures.sound) c.self.inside.arena c.clone_by-cloned.new.self _ c.clone_by-cloned.new.map c.in-Ok.ensures.clones.ok.made (option_map g.P.Inx.BasePtrInx.number c.self.inside.first) c.in-Ok.ensures.clones.ok.fresh in
    let left : _ ≡ c.clone_by-cloned.new.map.map.now = c.map-1.given.1 named in
    record {
      callable = rw left c.clone_by-cloned.ensures.callable;
      source = c.len.ensures.sound;
      clones = record {
        ok = rw (c.in-Ok.is, ← c.self.view_is, ← c.source.view_is, left) done;
        beyond = rw (← c.self.view_is, ← c.source.view_is, ← greatest-links c.source.inside.arena.slots _ (held-laid _ _ _ _ c.source.invariant)) c.clone_by-cloned.ensures.clones.beyond;
        beyond_kept = search rules;
        memory = search rules;
      };
    }

pub returns-then-is_empty : goal.returns-then-is_empty
returns-then-is_empty g c =
    let named = sym (left-refused (λ m. m.map.ghost_name) _ c.clone_by-cloned.new.map (name-stopped g.P.BasePtr.numbers g.M.CloneEntry.step (λ m. m.map.now) (λ m. m.map.ghost_name) _ c.clone_by-cloned.new.map _ _ _)
    (failed-clone c.clone_by-cloned.ensures.clones c.in-Err.field-0 c.in-Err.is)) in
    failed-clone-retold _ _ _ _ _ _ (
      ap (chain_limit g.P.Inx.BasePtrInx.most) c.self.view_is,
      ap (λ (d : Chain _). d.capacity) c.self.view_is,
      greatest-links c.source.inside.arena.slots _ (held-laid _ _ _ _ c.source.invariant) ∙ ap (λ (d : Chain _). greatest_index d.entries) c.source.view_is,
    )
    (λ callable. rw (c.map-1.given.1 named) callable) (λ lawful. c.len.ensures.sound)
    (λ kept. (
      kept-chain c.source.inside.arena c.self.inside.arena c.clone_by-cloned.new.self _ _ c.self.invariant (left g (goal.at.returns-then-is_empty g c).In-Err) kept.0 (sym c.is_empty.ensures ∙ c.if-is_empty.true) ∙ c.self.view_is,
      c.map-1.given.1 (sym (ap (λ m. m.map.ghost_name) kept.1)) ∙ ap (λ m. m.map.now) kept.1,
    ))
    (λ refused. rw (← c.self.view_is, ← c.source.view_is, c.map-1.given.1 named) (record {
      stops = rising-told g.P.BasePtr.numbers g.M.CloneEntry.step (λ m. m.map.now) (λ m. m.map.ghost_name) g.P.Inx.BasePtrInx.most g.P.Gen.BasePtrGen.greatest c.source.inside.arena _ _ c.source.invariant
          (rw c.source.view_is c.len.ensures.sound) c.self.inside.arena c.clone_by-cloned.new.self _ c.clone_by-cloned.new.map refused.stops;
      after = refused-chain c.source.inside.arena _ _ c.source.invariant c.self.inside.arena c.clone_by-cloned.new.self (option_map g.P.Inx.BasePtrInx.number c.self.inside.first) refused.after;
    }))
    _ c.in-Err.field-0 c.in-Err.is c.clone_by-cloned.ensures

pub returns-else-is_empty : goal.returns-else-is_empty
returns-else-is_empty g c =
    let named = sym (left-refused (λ m. m.map.ghost_name) _ c.clone_by-cloned.new.map (name-stopped g.P.BasePtr.numbers g.M.CloneEntry.step (λ m. m.map.now) (λ m. m.map.ghost_name) _ c.clone_by-cloned.new.map _ _ _)
    (failed-clone c.clone_by-cloned.ensures.clones c.in-Err.field-0 c.in-Err.is)) in
    failed-clone-retold _ _ _ _ _ _ (
      ap (chain_limit g.P.Inx.BasePtrInx.most) c.self.view_is,
      ap (λ (d : Chain _). d.capacity) c.self.view_is,
      greatest-links c.source.inside.arena.slots _ (held-laid _ _ _ _ c.source.invariant) ∙ ap (λ (d : Chain _). greatest_index d.entries) c.source.view_is,
    )
    (λ callable. rw (c.map-1.given.1 named) callable) (λ lawful. c.len.ensures.sound)
    (λ kept. (
      ap (λ a. chain_of a (option_map g.P.Inx.BasePtrInx.number c.self.inside.first)) kept.0 ∙ c.self.view_is,
      c.map-1.given.1 (sym (ap (λ m. m.map.ghost_name) kept.1)) ∙ ap (λ m. m.map.now) kept.1,
    ))
    (λ refused. absurd (unrefused c.source.inside.arena c.self.inside.arena c.clone_by-cloned.new.self _ _ c.self.invariant (left g (goal.at.returns-else-is_empty g c).In-Err) (sym c.is_empty.ensures ∙ c.if-is_empty.false) refused.after))
    _ c.in-Err.field-0 c.in-Err.is c.clone_by-cloned.ensures
