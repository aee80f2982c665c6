use Rattle.std.proofs.Common.{◌++◌, ◌∷◌, [], get_or, arith, ap, ◌∙◌}
use Rattle.leaf_list.proofs.Growing.{pushed-same}
use Rattle.leaf_list.proofs.row_lists.add_rows.Goals as goal

pub loop-alloc-preserved : goal.loop-alloc-preserved
loop-alloc-preserved g c = record {
  kept = λ i. ap (λ xs. get_or xs i []) (c.push_reserved.ensures.items ∙ ap (λ row. c.loop-alloc.rows.items ++ row ∷ []) c.in_ok-row.ensures)
      ∙ pushed-same c.loop-alloc.rows.items i ∙ c.loop-alloc.invariant.kept i;
  longer = omega arith;
  within = omega arith;
  capacity = omega arith;
}
