use Rattle.std.proofs.{lemmas.List.take_rest, lemmas.List.drop_all, Common.◌<◌, Common.length, Common.arith, lemmas.Bool.Decides.nat_tests}
use Rattle.ord_script.proofs.Parts.{lines_some, lines_none}
use Rattle.ord_script.proofs.cutting.first_line.Goals as goal

pub returns-in-Some-clause-cut : goal.returns-in-Some-clause-cut
returns-in-Some-clause-cut c = rw (take_rest, c.without_return.ensures) (lines_some c.args.bytes.now c.in-Some.end c.in-Some.ensures)

pub returns-in-None-clause-cut : goal.returns-in-None-clause-cut
returns-in-None-clause-cut c =
    let some : 0 < length c.args.bytes.now = grind (arith, nat_tests, c.if-is_empty.ensures) in
    rw (take_rest, drop_all (length c.args.bytes.now) c.args.bytes.now (omega arith)) (lines_none c.args.bytes.now some c.in-None.ensures)
