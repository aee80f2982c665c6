use Rattle.std.proofs.Common.{◌≡◌, ◌+◌, nat_lt, option_map, length, ap, arith, rules}
use Rattle.std.proofs.lemmas.Result.{on_ok_weaker}
use Rattle.triple_ord.specs.Shape.{rank_of, size_of, height}
use Rattle.tree_picture.specs.{Below.part_below, Layout.kind_of}
use Rattle.tree_picture.proofs.Laying.{laid-node, length-node}
use Rattle.tree_picture.proofs.layout.+lay.Goals as goal

pub lay-requires-2 : goal.lay-requires-2
lay-requires-2 g t c =
    let l = part_below c.args.arena.now.shape (option_map g.P.Inx.BasePtrInx.number c.in-Some-branch_at.branch.lesser) in
    let is : c.len.result + c.extent_below-lesser.result.nodes ≡ length c.args.places.now.items + size_of l = omega (arith, c.len.ensures, c.extent_below-lesser.ensures.nodes) in
    let grown : length c.push.new.self.items ≡ length c.args.places.now.items + size_of l + 1 =
    length-node c.args.places.now.items _ _ c.args.depth _ l _ is c.in_ok-lay.ensures c.in_ok-push.ensures.items in
    let total = ap size_of c.in-Some-branch_at.ensures in
    let levels = ap height c.in-Some-branch_at.ensures in
    search rules

pub returns : goal.returns
returns g t c =
    let l = part_below c.args.arena.now.shape (option_map g.P.Inx.BasePtrInx.number c.in-Some-branch_at.branch.lesser) in
    let r = part_below c.args.arena.now.shape (option_map g.P.Inx.BasePtrInx.number c.in-Some-branch_at.branch.greater) in
    let is : c.len.result + c.extent_below-lesser.result.nodes ≡ length c.args.places.now.items + size_of l = omega (arith, c.len.ensures, c.extent_below-lesser.ensures.nodes) in
    let kind : c.kind_of.result ≡ kind_of c.in-Some-branch_at.branch.rank (rank_of l) (rank_of r) =
    rw (← c.extent_below-lesser.ensures.rank, ← c.extent_below-greater.ensures.rank) c.kind_of.ensures in
    rw (c.in-Some.is, c.in-Some-branch_at.ensures)
    (on_ok_weaker c.lay-2.result
    (laid-node c.args.places.now.items c.lay.new.places.items c.push.new.self.items c.lay-2.new.places.items c.args.depth
    (c.len.result + c.extent_below-lesser.result.nodes) (g.P.Inx.BasePtrInx.number c.in-Some.i) c.in-Some-branch_at.branch.rank c.args.above l r c.kind_of.result _ is c.in_ok-lay.ensures c.in_ok-push.ensures.items kind
    (ap (λ n. nat_lt 0 n) c.extent_below-greater.ensures.nodes)) c.lay-2.ensures)
