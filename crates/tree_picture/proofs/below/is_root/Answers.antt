use Rattle.std.proofs.Common.{sym}
use Rattle.tree_picture.proofs.LinkedParts.{alone-root, parent-none, root-linked, none-mapped, some-mapped}
use Rattle.tree_picture.proofs.below.is_root.Goals as goal

pub returns-in_default-clause-no : goal.returns-in_default-clause-no
returns-in_default-clause-no g c =
    λ tree distinct _ is. root-linked c.args.arena.now tree (g.P.Inx.BasePtrInx.number c.args.i) is (sym c.in_default.ensures.entry)

pub returns-clause-yes : goal.returns-clause-yes
returns-clause-yes g c =
    let at = rw (← c.node.view_is) at c.in-Some.ensures.node in
    λ tree none. alone-root c.args.arena.now tree (g.P.Inx.BasePtrInx.number c.args.i) _ at.has_parent
    (none-mapped g.P.Inx.BasePtrInx.number c.get.result _ _ c.get.ensures.value c.is_none.ensures none)

pub returns-clause-no : goal.returns-clause-no
returns-clause-no g c =
    let at = rw (← c.node.view_is) at c.in-Some.ensures.node in
    λ tree distinct some is. some-mapped g.P.Inx.BasePtrInx.number c.get.result _ _ c.get.ensures.value c.is_none.ensures some
    (parent-none c.args.arena.now tree (g.P.Inx.BasePtrInx.number c.args.i) _ distinct at.has_parent is)
