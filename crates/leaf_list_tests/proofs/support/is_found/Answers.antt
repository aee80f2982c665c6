use Rattle.leaf_list.proofs.CallerLemmas.{entry-leaf}
use Rattle.leaf_list_tests.proofs.support.is_found.Goals as goal

pub place-requires : goal.place-requires
place-requires g c = entry-leaf _ c.args.list.now.leaves c.room.ensures.sound.ordered c.args.p.leaf c.args.p.at _ c.entry-name.ensures
