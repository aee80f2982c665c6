use Rattle.std.proofs.{lemmas.List.take_rest, lemmas.List.drop_all, Common.length, Common.arith, Common.drop}
use Rattle.ord_script.proofs.Parts.{words_some, words_last, words_none}
use Rattle.ord_script.proofs.cutting.first_word.Goals as goal

pub returns-in_err-rest : goal.returns-in_err-rest
returns-in_err-rest c = rw c.from_residual.ensures (words_none c.args.line.now c.in_err-rest.ensures)

pub returns-in-Some : goal.returns-in-Some
returns-in-Some c =
    simp take_rest (words_some c.args.line.now c.in_ok-rest.field-0 c.in_ok-rest.ensures c.in-Some.end (rw take_rest at c.in-Some.ensures))

pub returns-in-None : goal.returns-in-None
returns-in-None c =
    let start = c.in_ok-rest.field-0 in
    let rest = drop start c.args.line.now in
    simp take_rest (rw (drop_all (length rest) rest (omega arith)) (words_last c.args.line.now start c.in_ok-rest.ensures (rw take_rest at c.in-None.ensures)))
