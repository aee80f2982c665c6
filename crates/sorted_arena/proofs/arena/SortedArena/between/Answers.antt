use Rattle.std.proofs.Common.{◌∙◌}
use Rattle.sorted_arena.proofs.Ranging.{ranges}
use Rattle.sorted_arena.proofs.arena.SortedArena.between.Goals as goal

pub from_until-requires : goal.from_until-requires
from_until-requires g c sound =
    (ranges g.K.Ord.cmp g.met.K.Ord.total c.args.self.now.entries sound.distinct sound.sorted _ _
    g.P.BasePtr.numbers _ _ (record { past = c.first_past-end.ensures; forward = c.first_before-first.ensures.forward; backward = c.first_before-first.ensures.backward })).stands

pub returns : goal.returns
returns g c =
    let sound = c.from_until.ensures.sound in
    record {
      entries = c.from_until.ensures.entries ∙ (ranges g.K.Ord.cmp g.met.K.Ord.total c.args.self.now.entries sound.distinct sound.sorted _ _
          g.P.BasePtr.numbers _ _ (record { past = c.first_past-end.ensures; forward = c.first_before-first.ensures.forward; backward = c.first_before-first.ensures.backward })).gives;
      sound = sound;
      chains = c.from_until.ensures.chains;
    }
