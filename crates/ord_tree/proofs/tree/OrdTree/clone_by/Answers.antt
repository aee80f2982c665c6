use Rattle.std.proofs.{Common.sym, Common.ap, Common.◌∙◌, Common.option_map, Common.rules, lemmas.Bool.false≢true}
use Rattle.chain_base.specs.Chain.{Chain, chain_limit, greatest_index}
use Rattle.ord_tree.specs.{Layout.tree_of, Tree.Tree}
use Rattle.chain_base.proofs.{CallerLemmas.left-refused, ArenaLemmas.failed-clone, ArenaLemmas.failed-clone-retold}
use Rattle.ord_tree.proofs.{Cloning.name-cloned, Cloning.name-stopped, Cloning.laid-cloned, Cloning.clone-told, Cloning.refused-tree, Cloning.kept-tree, Trees.greatest_index-bare, Trees.IsSoundTree-laid_out}
use Rattle.ord_tree.proofs.tree.OrdTree.clone_by.Goals as goal

pub invariant_of-self : goal.invariant_of-self
invariant_of-self g c =
    laid-cloned g.P.BasePtr.numbers g.M.CloneEntry.step (λ m. m.map.now) (λ m. m.map.ghost_name) _ c.clone_by-cloned.new.map
    c.source.inside.chain c.self.inside.chain c.clone_by-cloned.new.self _ _ c.clone_by-cloned.ensures.source _ c.source.invariant c.in-Ok.ensures.clones.ok

pub returns-in-Ok : goal.returns-in-Ok
returns-in-Ok g c =
    let named = sym (name-cloned g.P.BasePtr.numbers g.M.CloneEntry.step (λ m. m.map.now) (λ m. m.map.ghost_name) _ c.clone_by-cloned.new.map _ _ _ c.in-Ok.ensures.clones.ok) in
    record {
      callable = rw (c.map-1.given.1 named) c.clone_by-cloned.ensures.callable;
      source = rw (← c.source.view_is) (IsSoundTree-laid_out c.source.inside.chain _ c.source.invariant);
      clones = record {
        ok = rw (c.map-1.given.1 named) (clone-told g.P.BasePtr.numbers g.M.CloneEntry.step (λ m. m.map.now) (λ m. m.map.ghost_name) _ c.clone_by-cloned.new.map
            c.source.inside.chain c.self.inside.chain c.clone_by-cloned.new.self _ _ _ _ c.source.view_is c.self.view_is _ _ c.clone_by-cloned.ensures.source c.source.invariant c.clone_by-cloned.result c.clone_by-cloned.ensures.clones.ok);
        beyond = rw (← c.self.view_is, ← c.source.view_is, greatest_index-bare c.source.inside.chain.entries) c.clone_by-cloned.ensures.clones.beyond;
        beyond_kept = search rules;
        memory = search rules;
      };
    }

pub returns-then-is_empty : goal.returns-then-is_empty
returns-then-is_empty g c =
    let named = sym (left-refused (λ m. m.map.ghost_name) _ c.clone_by-cloned.new.map (name-stopped g.P.BasePtr.numbers g.M.CloneEntry.step (λ m. m.map.now) (λ m. m.map.ghost_name) _ c.clone_by-cloned.new.map _ _ _)
    (failed-clone c.clone_by-cloned.ensures.clones c.in-Err.field-0 c.in-Err.is)) in
    failed-clone-retold _ _ _ _ _ _ (
      ap (λ (t : Tree _). chain_limit g.P.Inx.BasePtrInx.most t.list) c.self.view_is,
      ap (λ (t : Tree _). t.list.capacity) c.self.view_is,
      sym (greatest_index-bare c.source.inside.chain.entries) ∙ ap (λ (t : Tree _). greatest_index t.list.entries) c.source.view_is,
    )
    (λ callable. rw (c.map-1.given.1 named) callable)
    (λ sound. rw (← c.source.view_is) (IsSoundTree-laid_out c.source.inside.chain _ c.source.invariant))
    (λ kept. (
      kept-tree c.self.inside.chain c.clone_by-cloned.new.self _ c.self.invariant kept.0 (sym c.is_empty.ensures ∙ c.if-is_empty.true) ∙ c.self.view_is,
      c.map-1.given.1 (sym (ap (λ m. m.map.ghost_name) kept.1)) ∙ ap (λ m. m.map.now) kept.1,
    ))
    (λ refused. rw (c.map-1.given.1 named) (refused-tree g.P.BasePtr.numbers g.M.CloneEntry.step (λ m. m.map.now) (λ m. m.map.ghost_name) _ c.clone_by-cloned.new.map
    c.source.inside.chain c.self.inside.chain c.clone_by-cloned.new.self _ _ _ _ c.source.view_is c.self.view_is refused))
    _ c.in-Err.field-0 c.in-Err.is c.clone_by-cloned.ensures

pub returns-else-is_empty : goal.returns-else-is_empty
returns-else-is_empty g c =
    let named = sym (left-refused (λ m. m.map.ghost_name) _ c.clone_by-cloned.new.map (name-stopped g.P.BasePtr.numbers g.M.CloneEntry.step (λ m. m.map.now) (λ m. m.map.ghost_name) _ c.clone_by-cloned.new.map _ _ _)
    (failed-clone c.clone_by-cloned.ensures.clones c.in-Err.field-0 c.in-Err.is)) in
    failed-clone-retold _ _ _ _ _ _ (
      ap (λ (t : Tree _). chain_limit g.P.Inx.BasePtrInx.most t.list) c.self.view_is,
      ap (λ (t : Tree _). t.list.capacity) c.self.view_is,
      sym (greatest_index-bare c.source.inside.chain.entries) ∙ ap (λ (t : Tree _). greatest_index t.list.entries) c.source.view_is,
    )
    (λ callable. rw (c.map-1.given.1 named) callable)
    (λ sound. rw (← c.source.view_is) (IsSoundTree-laid_out c.source.inside.chain _ c.source.invariant))
    (λ kept. (
      ap (λ (d : Chain _). tree_of d (option_map g.P.Inx.BasePtrInx.number c.self.inside.root)) kept.0 ∙ c.self.view_is,
      c.map-1.given.1 (sym (ap (λ m. m.map.ghost_name) kept.1)) ∙ ap (λ m. m.map.now) kept.1,
    ))
    (λ refused. absurd (let empty = ap (λ (d : Chain _). d.entries) refused.after in let some = sym c.is_empty.ensures ∙ c.if-is_empty.false in let bad = rw empty at some in false≢true (sym bad)))
    _ c.in-Err.field-0 c.in-Err.is c.clone_by-cloned.ensures
