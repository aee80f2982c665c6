use Rattle.sorted_uses.proofs.index.first_named.Goals as goal

pub returns-clause-finds : goal.returns-clause-finds
returns-clause-finds c k same = (c.find_str.ensures k same).finds

pub returns-clause-none : goal.returns-clause-none
returns-clause-none c k same = (c.find_str.ensures k same).none
