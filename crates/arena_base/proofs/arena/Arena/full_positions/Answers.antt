use Rattle.arena_base.proofs.{Words.◌≡◌, Words.length, Words.arith, Words.map, Words.sym, Words.◌∙◌, Words.eqb-true, Words.length-map, Words.length-reverse, Words.entry_in, Words.arena_of, Slots.full-occupied}
use Rattle.arena_base.proofs.arena.Arena.full_positions.Goals as goal

pub returns-then-is_empty : goal.returns-then-is_empty
returns-then-is_empty g c = λ i above within.
    let s = c.self.inside in
    let a = arena_of g.P.Gen.BasePtrGen.number s.slots.items (map g.P.Inx.BasePtrInx.number s.vacant.items) s.generation s.maximum in
    let sound = c.self.invariant.0 in
    let none : length s.vacant.items ≡ 0 = omega (arith, s.vacant.ok.0, eqb-true s.vacant.len 0 (sym c.is_empty.ensures ∙ c.if-is_empty.true)) in
    let vacant : length a.vacant ≡ 0 = omega (arith, none, length-map s.vacant.items g.P.Inx.BasePtrInx.number, length-reverse (map g.P.Inx.BasePtrInx.number s.vacant.items)) in
    rw (← c.self.view_is)
    (full-occupied a.slots sound.begins (omega (arith, sound.counted, vacant)) i above (omega (arith, within, c.len.ensures, s.slots.ok.0, length-map s.slots.items (entry_in g.P.Gen.BasePtrGen.number))))
