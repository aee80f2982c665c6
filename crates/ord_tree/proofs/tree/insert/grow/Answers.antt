use Rattle.ord_tree.proofs.tree.insert.grow.Goals as goal

pub returns-in-Some-clause-grown : goal.returns-in-Some-clause-grown
returns-in-Some-clause-grown g c = rw c.in-Some.is (λ order slack. c.add_leaf.ensures.after (order, slack))

pub returns-in-Some-clause-account : goal.returns-in-Some-clause-account
returns-in-Some-clause-account g c = rw c.in-Some.is (λ order slack. c.add_leaf.ensures.account (order, slack))
