use Rattle.triple_ord.proofs.{Places.beside-at, Words.sym, Words.ap, Words.◌∙◌, Words.option_map}
use Rattle.triple_ord.proofs.arena.SimpleOrdArena.place_beside.Goals as goal

pub returns : goal.returns
returns g c =
    let there = sym c.get_inx.ensures.value ∙ ap (option_map (λ e. (g.P.Gen.BasePtrGen.number e.0, e.1.now))) c.in_ok-generation.was in
    rw c.place_at.ensures
    (beside-at g.P.BasePtr.numbers g.T.SimpleOrdItem.key_of g.T.Key.Ord.cmp c.args.self.now c._from_raw-p.result _ _ _ c._from_raw-p.ensures there c.args.direction)
