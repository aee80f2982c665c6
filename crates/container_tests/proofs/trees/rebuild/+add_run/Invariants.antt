use Rattle.container_tests.proofs.trees.rebuild.+add_run.Given as goal

abbrev pub decreases-add_run : goal.decreases-add_run
decreases-add_run l = l.len
