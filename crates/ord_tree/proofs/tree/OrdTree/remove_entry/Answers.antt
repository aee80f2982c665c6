use Rattle.std.proofs.Common.{◌∙◌, sym, rules, option_map}
use Rattle.chain_base.specs.Invalidation.{allowed_value}
use Rattle.ord_tree.proofs.{Shrunk.detachable, Shrunk.taken_out, Shrunk.still_in, Shrunk.removal, Shrunk.Removal, Trees.is_some-bare}
use Rattle.ord_tree.proofs.tree.OrdTree.remove_entry.Goals as goal
use Rattle.ord_tree.proofs.tree.OrdTree.remove_entry.Goals.{After-item_taken}

pub node_at-z-requires : goal.node_at-z-requires
node_at-z-requires g c = let held = rw (← c.self.view_is) at c.requires in sym (is_some-bare c.self.inside.chain.entries _) ∙ held

pub neighbour-before-requires : goal.neighbour-before-requires
neighbour-before-requires g c = let held = rw (← c.self.view_is) at c.requires in rw c.node_at-z.ensures (sym (is_some-bare c.self.inside.chain.entries _) ∙ held)

pub detach-requires : goal.detach-requires
detach-requires g c =
    let held = rw (← c.self.view_is) at c.requires in
    rw c.node_at-z.ensures (
      _,
      detachable c.self.inside.chain (option_map g.P.Inx.BasePtrInx.number c.self.inside.root) _ c.self.invariant (sym (is_some-bare c.self.inside.chain.entries _) ∙ held)
          g.P.Inx.BasePtrInx.most g.P.Gen.BasePtrGen.greatest c.len.ensures.sound g.met.P.Inx.BasePtrInx.fits _ (rw c.node_at-z.ensures at c.neighbour-before.ensures),
    )

pub remove_entry-requires : goal.remove_entry-requires
remove_entry-requires g c =
    let held = rw (← c.self.view_is) at c.requires in
    still_in (taken_out c.self.inside.chain (option_map g.P.Inx.BasePtrInx.number c.self.inside.root) _ c.self.invariant (sym (is_some-bare c.self.inside.chain.entries _) ∙ held)
    g.P.Inx.BasePtrInx.most g.P.Gen.BasePtrGen.greatest c.len.ensures.sound g.met.P.Inx.BasePtrInx.fits _ (rw c.node_at-z.ensures at c.neighbour-before.ensures)
    c.detach.new.nodes (option_map g.P.Inx.BasePtrInx.number c.detach.new.root) c.detach.ensures.kept (rw c.node_at-z.ensures at c.detach.ensures.after) (rw c.node_at-z.ensures at c.detach.ensures.backs) (rw c.node_at-z.ensures at c.detach.ensures.account))

-- the call
removed : (g : _) (c : After-item_taken g) → Removal g.P.Gen.BasePtrGen.greatest c.self.inside.chain c.remove_entry.new.self (option_map g.P.Inx.BasePtrInx.number c.self.inside.root)
    (option_map g.P.Inx.BasePtrInx.number c.detach.new.root) (g.P.Inx.BasePtrInx.number c.args.i) g.P.Gen.BasePtrGen.number (allowed_value c.item_taken.result)
removed g c =
    let held = rw (← c.self.view_is) at c.requires in
    removal c.self.inside.chain (option_map g.P.Inx.BasePtrInx.number c.self.inside.root) _ c.self.invariant (sym (is_some-bare c.self.inside.chain.entries _) ∙ held)
    g.P.Inx.BasePtrInx.most g.P.Gen.BasePtrGen.greatest c.len.ensures.sound g.met.P.Inx.BasePtrInx.fits _ (rw c.node_at-z.ensures at c.neighbour-before.ensures)
    c.detach.new.nodes (option_map g.P.Inx.BasePtrInx.number c.detach.new.root) c.detach.ensures.kept (rw c.node_at-z.ensures at c.detach.ensures.after) (rw c.node_at-z.ensures at c.detach.ensures.backs) (rw c.node_at-z.ensures at c.detach.ensures.account)
    c.remove_entry.new.self g.P.Gen.BasePtrGen.number (allowed_value c.remove_entry.result) (allowed_value c.item_taken.result) c.remove_entry.ensures.value c.remove_entry.ensures.removed c.item_taken.ensures.value

pub invariant_of-self : goal.invariant_of-self
invariant_of-self g c = (removed g (goal.at.invariant_of-self g c).After-item_taken).laid

pub returns : goal.returns
returns g c =
    let r = removed g (goal.at.returns g c).After-item_taken in
    record {
      removal = record { value = rw (← c.self.view_is) r.value; overflow = search rules; removed = rw (← c.self.view_is) r.listed };
      shape = rw (← c.self.view_is) r.shrunk;
    }
