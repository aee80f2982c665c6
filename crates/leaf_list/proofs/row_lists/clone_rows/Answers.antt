use Rattle.std.proofs.Common.{◌++◌, ◌∷◌, [], length, take, arith, ap, ◌∙◌}
use Rattle.std.proofs.lemmas.List.{length-take-le}
use Rattle.leaf_list.proofs.Growing.{taken-more}
use Rattle.leaf_list.proofs.row_lists.clone_rows.Goals as goal

pub push_reserved-requires : goal.push_reserved-requires
push_reserved-requires g c =
    let size = ap length c.loop-i.invariant.items in
    omega (arith, length-take-le c.loop-i.i c.args.rows.now (omega arith), c.loop-i.clones.ok.0, c.loop-i.invariant.capacity)

pub loop-i-preserved : goal.loop-i-preserved
loop-i-preserved g c = record {
  items = c.push_reserved.ensures.items ∙ ap (λ xs. xs ++ c.in_ok-row.row ∷ []) c.loop-i.invariant.items ∙ ap (λ row. take c.loop-i.i c.args.rows.now ++ row ∷ []) c.in_ok-row.ensures
      ∙ taken-more c.args.rows.now c.loop-i.i c.index-rows-i.result (omega arith) c.index-rows-i.is;
  capacity = omega (arith, c.push_reserved.ensures.capacity, c.loop-i.invariant.capacity);
}
