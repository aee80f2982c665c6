use Rattle.arena_base.specs.Clone.{IsArenaClone}
use Rattle.arena_base.proofs.Words.{on_ok_weaker, rules}
use Rattle.arena_base.proofs.arena.traits.ArenaArenaCloneFromWith.clone_from_with.Goals as goal

pub returns : goal.returns
returns g c =
    let clones = c.clone_from_with.ensures in
    record {
      clones = record {
        ok = on_ok_weaker _ (λ (clone : IsArenaClone _ _ _). clone.made) clones.ok;
        beyond = clones.beyond;
        memory = clones.memory;
        err = search rules;
      };
      pointers = on_ok_weaker _ (λ (clone : IsArenaClone _ _ _). clone.pointers) clones.ok;
    }
