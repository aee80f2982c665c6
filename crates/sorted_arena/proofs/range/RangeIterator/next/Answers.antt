use Rattle.std.proofs.Common.{◌≡◌, ◌+◌, ◌-◌, Some, [], length, sym, ap, arith, ◌∙◌, Bor}
use Rattle.std.specs.Option.{option_map}
use Rattle.sorted_arena.specs.Range.{shown_entry}
use Rattle.listing.specs.Link.{Link}
use Rattle.sorted_arena.proofs.Stretching.{stretch-same, first-linked, steps-first, StepsFirst}
use Rattle.sorted_arena.proofs.Placing.{left-linked, place-linked, linked-place, left-numbered, place-numbered, yields-front, some-unless}
use Rattle.sorted_arena.proofs.range.RangeIterator.next.Goals as goal

pub returns-then-are_same-clause-steps : goal.returns-then-are_same-clause-steps
returns-then-are_same-clause-steps g c =
    let seen = left-linked c.self.inside.pairs.now.list.entries c.self.inside.is_numbered (option_map g.P.Inx.BasePtrInx.number c.self.inside.first) (option_map g.P.Inx.BasePtrInx.number c.self.inside.end) c.self.inside.from c.self.inside.left c.if-self.false in
    let none : c.args.self.now ≡ [] = sym c.self.view_is ∙ seen ∙ stretch-same c.self.inside.pairs.now.list.entries _ _ (c.are_same.ensures.same c.if-are_same.true) in
    (none, none)

pub unwrap-entry-requires : goal.unwrap-entry-requires
unwrap-entry-requires g c =
    let stands = place-linked c.self.inside.pairs.now.list.entries c.self.inside.is_numbered (option_map g.P.Inx.BasePtrInx.number c.self.inside.first) (option_map g.P.Inx.BasePtrInx.number c.self.inside.end) c.self.inside.from c.self.inside.left g.P.Inx.BasePtrInx.most c.if-self.false c.self.invariant in
    some-unless _ _ _ c.get_inx_link_no_gen.ensures.value (first-linked c.self.inside.pairs.now.list.entries _ _ stands (c.are_same.ensures.apart c.if-are_same.false) (g.P.Inx.BasePtrInx.number c.in_ok-i.i) (ap (option_map g.P.Inx.BasePtrInx.number) c.in_ok-i.was))

-- the step
stepped : (g : _) (c : goal.After-_from_raw g) → StepsFirst c.self.inside.pairs.now.list.entries (option_map g.P.Inx.BasePtrInx.number c.self.inside.first) (option_map g.P.Inx.BasePtrInx.number c.self.inside.end)
    (record { index = g.P.Inx.BasePtrInx.number c.in_ok-i.i; generation = g.P.Gen.BasePtrGen.number c.unwrap-entry.result.0; item = (c.k_v.result.0.now, c.k_v.result.1.now) })
    c.unwrap-entry.result.1.next
stepped g c =
    let stands = place-linked c.self.inside.pairs.now.list.entries c.self.inside.is_numbered (option_map g.P.Inx.BasePtrInx.number c.self.inside.first) (option_map g.P.Inx.BasePtrInx.number c.self.inside.end) c.self.inside.from c.self.inside.left g.P.Inx.BasePtrInx.most c.if-self.false c.self.invariant in
    let item = ap (λ (l : Link (Bor (g.row.K.Denot × g.row.V.Denot))). l.item.now) c.link.view_is in
    let parts = ap (λ (k : g.row.K.Denot). (k, c.k_v.result.1.now)) c.k_v.ensures.key ∙ ap (λ (v : g.row.V.Denot). (c.link.inside.t.now.0, v)) c.k_v.ensures.value in
    steps-first c.self.inside.pairs.now.list.entries _ _ stands (c.are_same.ensures.apart c.if-are_same.false) (g.P.Inx.BasePtrInx.number c.in_ok-i.i)
    (ap (option_map g.P.Inx.BasePtrInx.number) c.in_ok-i.was) (g.P.Gen.BasePtrGen.number c.unwrap-entry.result.0) (c.k_v.result.0.now, c.k_v.result.1.now) _ (ap (option_map _) (sym c.unwrap-entry.ensures) ∙ c.get_inx_link_no_gen.ensures.value)
    (sym item ∙ sym parts)

pub invariant_of-self-2 : goal.invariant_of-self-2
invariant_of-self-2 g c =
    linked-place c.self.inside.pairs.now.list.entries c.self.inside.is_numbered (option_map g.P.Inx.BasePtrInx.number c.next-self-inside.result) (option_map g.P.Inx.BasePtrInx.number c.self.inside.end) c.self.inside.from c.self.inside.left g.P.Inx.BasePtrInx.most c.if-self.false (rw c.next-self-inside.ensures.value (stepped g c).stands)

pub returns-clause-steps : goal.returns-clause-steps
returns-clause-steps g c =
    let seen = left-linked c.self.inside.pairs.now.list.entries c.self.inside.is_numbered (option_map g.P.Inx.BasePtrInx.number c.self.inside.first) (option_map g.P.Inx.BasePtrInx.number c.self.inside.end) c.self.inside.from c.self.inside.left c.if-self.false in
    let left = left-linked c.self.inside.pairs.now.list.entries c.self.inside.is_numbered (option_map g.P.Inx.BasePtrInx.number c.next-self-inside.result) (option_map g.P.Inx.BasePtrInx.number c.self.inside.end) c.self.inside.from c.self.inside.left c.if-self.false in
    sym c.self.view_is ∙ seen ∙ rw (c._from_raw.ensures, left, c.next-self-inside.ensures.value) (stepped g c).step

pub returns-clause-goes : goal.returns-clause-goes
returns-clause-goes g c = record { on = λ _. (tt, tt, omega (arith, ap length (returns-clause-steps g c))); keeps = tt; rests = λ _. tt }

pub returns-then-self-clause-steps : goal.returns-then-self-clause-steps
returns-then-self-clause-steps g c =
    let es = c.self.inside.pairs.now.list.entries in
    let is = sym c.self.view_is ∙ left-numbered c.self.inside.pairs.now.list.entries c.self.inside.is_numbered (option_map g.P.Inx.BasePtrInx.number c.self.inside.first) (option_map g.P.Inx.BasePtrInx.number c.self.inside.end) c.self.inside.from c.self.inside.left c.if-self.true in
    let held = place-numbered c.self.inside.pairs.now.list.entries c.self.inside.is_numbered (option_map g.P.Inx.BasePtrInx.number c.self.inside.first) (option_map g.P.Inx.BasePtrInx.number c.self.inside.end) c.self.inside.from c.self.inside.left g.P.Inx.BasePtrInx.most c.if-self.true c.self.invariant in
    let left = left-numbered c.self.inside.pairs.now.list.entries c.self.inside.is_numbered (option_map g.P.Inx.BasePtrInx.number c.self.inside.first) (option_map g.P.Inx.BasePtrInx.number c.self.inside.end) (c.self.inside.from + 1) (c.self.inside.left - 1) c.if-self.true in
    rw (is, left) (yields-front (shown_entry g.P.BasePtr.numbers) es c.self.inside.from c.self.inside.left c.if-self-eq0.false held (Some c.entry_at.result) (sym c.entry_at.ensures))
