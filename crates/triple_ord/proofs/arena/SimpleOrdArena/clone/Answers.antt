use Rattle.triple_ord.proofs.CallerLemmas.{empty-unrefused}
use Rattle.triple_ord.proofs.arena.SimpleOrdArena.clone.Goals as goal

pub returns-in-Err-clause-none : goal.returns-in-Err-clause-none
returns-in-Err-clause-none g c = λ none.
    let clone = c.clone_from_arena.ensures.clones in
    absurd (empty-unrefused c.clone_from_arena.result c.args.self.now _ _ g.T.Clone.is_infallible clone.beyond.0 clone.memory none c.in-Err.field-0 c.in-Err.is)
