use Rattle.std.proofs.Common.{◌≡◌, ◌∙◌, ap, sym, option_map}
use Rattle.sorted_arena.proofs.Placing.{never-absent, some-unless, shown-there}
use Rattle.sorted_arena.proofs.range.entry_at.Goals as goal

pub unwrap-entry-requires : goal.unwrap-entry-requires
unwrap-entry-requires g c =
    let number = rw c.unwrap-i.ensures at c.try_from_usize.ensures.value in
    some-unless _ _ _ c.get_inx.ensures.value (never-absent c.args.pairs.now.list.entries c.requires.numbered c.args.position c.requires.within (g.P.Inx.BasePtrInx.number c.unwrap-i.result) number)

pub returns : goal.returns
returns g c =
    let number = rw c.unwrap-i.ensures at c.try_from_usize.ensures.value in
    let same : (c.k_v.result.0.now, c.k_v.result.1.now) ≡ c.unwrap-entry.result.1.now =
    ap (λ (k : g.row.K.Denot). (k, c.k_v.result.1.now)) c.k_v.ensures.key ∙ ap (λ (v : g.row.V.Denot). (c.unwrap-entry.result.1.now.0, v)) c.k_v.ensures.value in
    let there = shown-there c.args.pairs.now.list.entries c.requires.numbered c.args.position c.requires.within (g.P.Inx.BasePtrInx.number c.unwrap-i.result) number (g.P.Gen.BasePtrGen.number c.unwrap-entry.result.0) _ (ap (option_map _) (sym c.unwrap-entry.ensures) ∙ c.get_inx.ensures.value) in
    sym (rw (c._from_raw.ensures, same) there)
