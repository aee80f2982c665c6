use Rattle.std.proofs.Common.{length, take, drop, arith, ap, ◌∙◌, length-append}
use Rattle.leaf_list.proofs.Moving.{read-front, read-back, own-front, own-back, kept-others}
use Rattle.leaf_list.proofs.rows.move_tail.Goals as goal

pub returns-then-i-j-clause-left : goal.returns-then-i-j-clause-left
returns-then-i-j-clause-left g c =
    own-front c.split_at_mut-front.result.0.now c.split_at_mut-front.result.1.now c.args.i c.move_tail.new.self c.move_tail.new.to (omega (arith, c.split_at_mut-front.ensures.front_len)) ∙ c.move_tail.ensures.left ∙ ap (take c.args.at) (read-front c.args.rows.now c.split_at_mut-front.result.0.now c.split_at_mut-front.result.1.now c.args.i c.index-front-i.result c.split_at_mut-front.ensures.value (omega (arith, c.split_at_mut-front.ensures.front_len)))

pub returns-then-i-j-clause-moved : goal.returns-then-i-j-clause-moved
returns-then-i-j-clause-moved g c =
    own-back c.split_at_mut-front.result.0.now c.split_at_mut-front.result.1.now c.args.i c.args.j c.move_tail.new.self c.move_tail.new.to c.split_at_mut-front.ensures.front_len (let size = ap length c.split_at_mut-front.ensures.value in let from = c.requires.from in let to = c.requires.to in omega (arith, length-append c.split_at_mut-front.result.0.now c.split_at_mut-front.result.1.now, c.split_at_mut-front.ensures.front_len)) ∙ c.move_tail.ensures.moved ∙ ap (drop c.args.at) (read-front c.args.rows.now c.split_at_mut-front.result.0.now c.split_at_mut-front.result.1.now c.args.i c.index-front-i.result c.split_at_mut-front.ensures.value (omega (arith, c.split_at_mut-front.ensures.front_len)))

pub move_tail-requires-clause-within : goal.move_tail-requires-clause-within
move_tail-requires-clause-within g c =
    rw (read-front c.args.rows.now c.split_at_mut-front.result.0.now c.split_at_mut-front.result.1.now c.args.i c.index-front-i.result c.split_at_mut-front.ensures.value (omega (arith, c.split_at_mut-front.ensures.front_len))) c.requires.within

pub move_tail-requires-clause-empty : goal.move_tail-requires-clause-empty
move_tail-requires-clause-empty g c =
    read-back c.args.rows.now c.split_at_mut-front.result.0.now c.split_at_mut-front.result.1.now c.args.j c.index-back-0.result c.split_at_mut-front.ensures.value c.split_at_mut-front.ensures.front_len (let size = ap length c.split_at_mut-front.ensures.value in let from = c.requires.from in let to = c.requires.to in omega (arith, length-append c.split_at_mut-front.result.0.now c.split_at_mut-front.result.1.now, c.split_at_mut-front.ensures.front_len)) ∙ c.requires.empty

pub returns-then-i-j-clause-others : goal.returns-then-i-j-clause-others
returns-then-i-j-clause-others g c =
    λ k apart other. kept-others c.args.rows.now c.split_at_mut-front.result.0.now c.split_at_mut-front.result.1.now c.args.i c.args.j c.move_tail.new.self c.move_tail.new.to k c.split_at_mut-front.ensures.value c.split_at_mut-front.ensures.front_len apart other

pub returns-else-i-j-clause-left : goal.returns-else-i-j-clause-left
returns-else-i-j-clause-left g c =
    own-back c.split_at_mut-front-else-i-j.result.0.now c.split_at_mut-front-else-i-j.result.1.now c.args.j c.args.i c.move_tail-else-i-j.new.to c.move_tail-else-i-j.new.self c.split_at_mut-front-else-i-j.ensures.front_len (let size = ap length c.split_at_mut-front-else-i-j.ensures.value in let from = c.requires.from in let to = c.requires.to in omega (arith, length-append c.split_at_mut-front-else-i-j.result.0.now c.split_at_mut-front-else-i-j.result.1.now, c.split_at_mut-front-else-i-j.ensures.front_len)) ∙ c.move_tail-else-i-j.ensures.left ∙ ap (take c.args.at) (read-back c.args.rows.now c.split_at_mut-front-else-i-j.result.0.now c.split_at_mut-front-else-i-j.result.1.now c.args.i c.index-back-0-else-i-j.result c.split_at_mut-front-else-i-j.ensures.value c.split_at_mut-front-else-i-j.ensures.front_len (let size = ap length c.split_at_mut-front-else-i-j.ensures.value in let from = c.requires.from in let to = c.requires.to in omega (arith, length-append c.split_at_mut-front-else-i-j.result.0.now c.split_at_mut-front-else-i-j.result.1.now, c.split_at_mut-front-else-i-j.ensures.front_len)))

pub returns-else-i-j-clause-moved : goal.returns-else-i-j-clause-moved
returns-else-i-j-clause-moved g c =
    own-front c.split_at_mut-front-else-i-j.result.0.now c.split_at_mut-front-else-i-j.result.1.now c.args.j c.move_tail-else-i-j.new.to c.move_tail-else-i-j.new.self (omega (arith, c.split_at_mut-front-else-i-j.ensures.front_len)) ∙ c.move_tail-else-i-j.ensures.moved ∙ ap (drop c.args.at) (read-back c.args.rows.now c.split_at_mut-front-else-i-j.result.0.now c.split_at_mut-front-else-i-j.result.1.now c.args.i c.index-back-0-else-i-j.result c.split_at_mut-front-else-i-j.ensures.value c.split_at_mut-front-else-i-j.ensures.front_len (let size = ap length c.split_at_mut-front-else-i-j.ensures.value in let from = c.requires.from in let to = c.requires.to in omega (arith, length-append c.split_at_mut-front-else-i-j.result.0.now c.split_at_mut-front-else-i-j.result.1.now, c.split_at_mut-front-else-i-j.ensures.front_len)))

pub move_tail-requires-else-i-j-clause-within : goal.move_tail-requires-else-i-j-clause-within
move_tail-requires-else-i-j-clause-within g c =
    rw (read-back c.args.rows.now c.split_at_mut-front-else-i-j.result.0.now c.split_at_mut-front-else-i-j.result.1.now c.args.i c.index-back-0-else-i-j.result c.split_at_mut-front-else-i-j.ensures.value c.split_at_mut-front-else-i-j.ensures.front_len (let size = ap length c.split_at_mut-front-else-i-j.ensures.value in let from = c.requires.from in let to = c.requires.to in omega (arith, length-append c.split_at_mut-front-else-i-j.result.0.now c.split_at_mut-front-else-i-j.result.1.now, c.split_at_mut-front-else-i-j.ensures.front_len))) c.requires.within

pub move_tail-requires-else-i-j-clause-empty : goal.move_tail-requires-else-i-j-clause-empty
move_tail-requires-else-i-j-clause-empty g c =
    read-front c.args.rows.now c.split_at_mut-front-else-i-j.result.0.now c.split_at_mut-front-else-i-j.result.1.now c.args.j c.index-front-j.result c.split_at_mut-front-else-i-j.ensures.value (omega (arith, c.split_at_mut-front-else-i-j.ensures.front_len)) ∙ c.requires.empty

pub returns-else-i-j-clause-others : goal.returns-else-i-j-clause-others
returns-else-i-j-clause-others g c =
    λ k apart other. kept-others c.args.rows.now c.split_at_mut-front-else-i-j.result.0.now c.split_at_mut-front-else-i-j.result.1.now c.args.j c.args.i c.move_tail-else-i-j.new.to c.move_tail-else-i-j.new.self k c.split_at_mut-front-else-i-j.ensures.value c.split_at_mut-front-else-i-j.ensures.front_len other apart
