use Rattle.std.proofs.Common.{◌++◌, [], length, get_or, arith, ap, ◌∙◌, length-append}
use Rattle.leaf_list.proofs.Moving.{read-front, read-back, own-front, own-back, kept-others}
use Rattle.leaf_list.proofs.rows.move_all.Goals as goal

pub returns-then-i-j-clause-left : goal.returns-then-i-j-clause-left
returns-then-i-j-clause-left g c =
    own-front c.split_at_mut-front.result.0.now c.split_at_mut-front.result.1.now c.args.i c.move_all.new.self c.move_all.new.to (omega (arith, c.split_at_mut-front.ensures.front_len)) ∙ c.move_all.ensures.left

pub returns-then-i-j-clause-moved : goal.returns-then-i-j-clause-moved
returns-then-i-j-clause-moved g c =
    own-back c.split_at_mut-front.result.0.now c.split_at_mut-front.result.1.now c.args.i c.args.j c.move_all.new.self c.move_all.new.to c.split_at_mut-front.ensures.front_len (let size = ap length c.split_at_mut-front.ensures.value in let from = c.requires.from in let to = c.requires.to in omega (arith, length-append c.split_at_mut-front.result.0.now c.split_at_mut-front.result.1.now, c.split_at_mut-front.ensures.front_len)) ∙ c.move_all.ensures.moved ∙ ap (λ r. r ++ get_or c.split_at_mut-front.result.0.now c.args.i c.index-front-i.result) (read-back c.args.rows.now c.split_at_mut-front.result.0.now c.split_at_mut-front.result.1.now c.args.j c.index-back-0.result c.split_at_mut-front.ensures.value c.split_at_mut-front.ensures.front_len (let size = ap length c.split_at_mut-front.ensures.value in let from = c.requires.from in let to = c.requires.to in omega (arith, length-append c.split_at_mut-front.result.0.now c.split_at_mut-front.result.1.now, c.split_at_mut-front.ensures.front_len))) ∙ ap (λ r. get_or c.args.rows.now c.args.j [] ++ r) (read-front c.args.rows.now c.split_at_mut-front.result.0.now c.split_at_mut-front.result.1.now c.args.i c.index-front-i.result c.split_at_mut-front.ensures.value (omega (arith, c.split_at_mut-front.ensures.front_len)))

pub move_all-requires : goal.move_all-requires
move_all-requires g c =
    let room = c.requires.room in omega (arith, ap length (read-front c.args.rows.now c.split_at_mut-front.result.0.now c.split_at_mut-front.result.1.now c.args.i c.index-front-i.result c.split_at_mut-front.ensures.value (omega (arith, c.split_at_mut-front.ensures.front_len))), ap length (read-back c.args.rows.now c.split_at_mut-front.result.0.now c.split_at_mut-front.result.1.now c.args.j c.index-back-0.result c.split_at_mut-front.ensures.value c.split_at_mut-front.ensures.front_len (let size = ap length c.split_at_mut-front.ensures.value in let from = c.requires.from in let to = c.requires.to in omega (arith, length-append c.split_at_mut-front.result.0.now c.split_at_mut-front.result.1.now, c.split_at_mut-front.ensures.front_len))))

pub returns-then-i-j-clause-others : goal.returns-then-i-j-clause-others
returns-then-i-j-clause-others g c =
    λ k apart other. kept-others c.args.rows.now c.split_at_mut-front.result.0.now c.split_at_mut-front.result.1.now c.args.i c.args.j c.move_all.new.self c.move_all.new.to k c.split_at_mut-front.ensures.value c.split_at_mut-front.ensures.front_len apart other

pub returns-else-i-j-clause-left : goal.returns-else-i-j-clause-left
returns-else-i-j-clause-left g c =
    own-back c.split_at_mut-front-else-i-j.result.0.now c.split_at_mut-front-else-i-j.result.1.now c.args.j c.args.i c.move_all-else-i-j.new.to c.move_all-else-i-j.new.self c.split_at_mut-front-else-i-j.ensures.front_len (let size = ap length c.split_at_mut-front-else-i-j.ensures.value in let from = c.requires.from in let to = c.requires.to in omega (arith, length-append c.split_at_mut-front-else-i-j.result.0.now c.split_at_mut-front-else-i-j.result.1.now, c.split_at_mut-front-else-i-j.ensures.front_len)) ∙ c.move_all-else-i-j.ensures.left

pub returns-else-i-j-clause-moved : goal.returns-else-i-j-clause-moved
returns-else-i-j-clause-moved g c =
    own-front c.split_at_mut-front-else-i-j.result.0.now c.split_at_mut-front-else-i-j.result.1.now c.args.j c.move_all-else-i-j.new.to c.move_all-else-i-j.new.self (omega (arith, c.split_at_mut-front-else-i-j.ensures.front_len)) ∙ c.move_all-else-i-j.ensures.moved ∙ ap (λ r. r ++ get_or c.split_at_mut-front-else-i-j.result.1.now 0 c.index-back-0-else-i-j.result) (read-front c.args.rows.now c.split_at_mut-front-else-i-j.result.0.now c.split_at_mut-front-else-i-j.result.1.now c.args.j c.index-front-j.result c.split_at_mut-front-else-i-j.ensures.value (omega (arith, c.split_at_mut-front-else-i-j.ensures.front_len))) ∙ ap (λ r. get_or c.args.rows.now c.args.j [] ++ r) (read-back c.args.rows.now c.split_at_mut-front-else-i-j.result.0.now c.split_at_mut-front-else-i-j.result.1.now c.args.i c.index-back-0-else-i-j.result c.split_at_mut-front-else-i-j.ensures.value c.split_at_mut-front-else-i-j.ensures.front_len (let size = ap length c.split_at_mut-front-else-i-j.ensures.value in let from = c.requires.from in let to = c.requires.to in omega (arith, length-append c.split_at_mut-front-else-i-j.result.0.now c.split_at_mut-front-else-i-j.result.1.now, c.split_at_mut-front-else-i-j.ensures.front_len)))

pub move_all-requires-else-i-j : goal.move_all-requires-else-i-j
move_all-requires-else-i-j g c =
    let room = c.requires.room in omega (arith, ap length (read-back c.args.rows.now c.split_at_mut-front-else-i-j.result.0.now c.split_at_mut-front-else-i-j.result.1.now c.args.i c.index-back-0-else-i-j.result c.split_at_mut-front-else-i-j.ensures.value c.split_at_mut-front-else-i-j.ensures.front_len (let size = ap length c.split_at_mut-front-else-i-j.ensures.value in let from = c.requires.from in let to = c.requires.to in omega (arith, length-append c.split_at_mut-front-else-i-j.result.0.now c.split_at_mut-front-else-i-j.result.1.now, c.split_at_mut-front-else-i-j.ensures.front_len))), ap length (read-front c.args.rows.now c.split_at_mut-front-else-i-j.result.0.now c.split_at_mut-front-else-i-j.result.1.now c.args.j c.index-front-j.result c.split_at_mut-front-else-i-j.ensures.value (omega (arith, c.split_at_mut-front-else-i-j.ensures.front_len))))

pub returns-else-i-j-clause-others : goal.returns-else-i-j-clause-others
returns-else-i-j-clause-others g c =
    λ k apart other. kept-others c.args.rows.now c.split_at_mut-front-else-i-j.result.0.now c.split_at_mut-front-else-i-j.result.1.now c.args.j c.args.i c.move_all-else-i-j.new.to c.move_all-else-i-j.new.self k c.split_at_mut-front-else-i-j.ensures.value c.split_at_mut-front-else-i-j.ensures.front_len other apart
