use Rattle.std.proofs.Common.{length, take, [], arith, ap, sym, ◌∙◌}
use Rattle.leaf_list.proofs.Growing.{cut-last, take-cut}
use Rattle.leaf_list.proofs.row_lists.drop_rows.Goals as goal

pub destroy_empty-requires : goal.destroy_empty-requires
destroy_empty-requires g c =
    let rest = c.take_last.new.self in
    let parts = cut-last c.args.rows.now.items rest.items c.take_last.result c.loop-rows.rows.len (sym c.take_last.ensures.items ∙ c.loop-rows.invariant.items) (omega (arith, c.args.rows.now.ok.0)) (omega (arith, rest.ok.0)) in
    sym (parts.1 []) ∙ c.requires (length rest.items) (omega (arith, rest.ok.0))

pub loop-rows-preserved : goal.loop-rows-preserved
loop-rows-preserved g c =
    let rest = c.take_last.new.self in
    let parts = cut-last c.args.rows.now.items rest.items c.take_last.result c.loop-rows.rows.len (sym c.take_last.ensures.items ∙ c.loop-rows.invariant.items) (omega (arith, c.args.rows.now.ok.0)) (omega (arith, rest.ok.0)) in
    record { items = parts.0 ∙ ap (λ n. take n c.args.rows.now.items) (omega (arith, rest.ok.0)); cut = omega arith; within = omega arith }

pub returns : goal.returns
returns g c =
    c.loop-rows.invariant.items
    ∙ take-cut c.args.rows.now.items c.loop-rows.rows.len c.args.n (omega arith) (omega (arith, c.args.rows.now.ok.0, c.loop-rows.invariant.within)) (omega (arith, c.args.rows.now.ok.0))
