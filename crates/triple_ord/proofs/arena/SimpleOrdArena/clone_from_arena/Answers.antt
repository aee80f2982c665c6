use Rattle.triple_ord.proofs.{Words.rules, Words.inl, Words.inr, Words.refl, Words.IsSound, Words.IfOk-weaker, Words.MatchResult-weaker, CallerLemmas.clone-made, CallerLemmas.clone-refused_clone}
use Rattle.triple_ord.proofs.arena.SimpleOrdArena.clone_from_arena.Goals as goal

pub returns-clause-clones : goal.returns-clause-clones
returns-clause-clones g c =
    let call = c.try_clone_from_with.ensures in
    let sound : IsSound g.P.Inx.BasePtrInx.most g.P.Gen.BasePtrGen.greatest c.source.inside.tree.list = rw c.source.view_is c.len.ensures.sound in
    rw (← c.self.view_is, ← c.source.view_is) (record {
      ok =
          MatchResult-weaker c.try_clone_from_with.result call.ok
          (λ done. clone-made g.P.BasePtr.numbers _ (λ f p u x h called. c.requires.clones u.now x (search rules)) _ _ _
          c.source.inside.tree sound _ _) (λ e none. tt);
      beyond = call.beyond;
      beyond_kept = call.beyond_kept;
      memory = λ is.
          elim (call.memory is) [
            | inl kept ↦ inl kept
            | inr refused ↦ inr (clone-refused_clone g.P.BasePtr.numbers _ g.T.Clone.is_infallible (λ f p u e h called. search rules) _ c.source.inside.tree c.self.inside.tree c.try_clone_from_with.new.self refused)
          ];
    })

pub returns-clause-found : goal.returns-clause-found
returns-clause-found g c = IfOk-weaker c.try_clone_from_with.result _ _ (λ done is p. rw is refl) (returns-clause-clones g c).ok
