use Rattle.arena_base.proofs.{Words.ℕ, Words.◌+◌, Words.◌<◌, Words.length, Words.refl, Words.arith, Words.sym, Words.ap, Words.◌∙◌, Words.slot, Words.Grants, Words.rules, Slots.greatest_occupied-below}
use Rattle.arena_base.proofs.{Clones.cloned-begins, Clones.cloned-vacant, Clones.cloned-entry, Clones.cloned-ends, Clones.cloned-refused, arena.clone.clone_slots.Goals.in-Some+in-Ok, arena.clone.clone_slots.Goals.in-None}
use Rattle.arena_base.proofs.Steps.{limit_of-below}
use Rattle.arena_base.proofs.arena.clone.clone_slots.Goals as goal

pub loop-position-init : goal.loop-position-init
loop-position-init g c =
    let source = (g.S.ArenaTrait.content c.args.source.now).slots in
    record {
      callable = c.requires.can.callable;
      cloned = rw c.requires.empty (cloned-begins g.P.BasePtr.numbers g.P.Gen.BasePtrGen.number (Grants g.P.BasePtr.numbers g.M.CloneEntry.step) c.args.map.now source c.requires.can.source.begins);
      count = omega (arith, c.args.slots.now.ok.0, ap length c.requires.empty);
      capacity = refl;
    }

pub inx_at-i-requires : goal.inx_at-i-requires
inx_at-i-requires g c =
    let a = g.S.ArenaTrait.content c.args.source.now in
    omega (arith, greatest_occupied-below a.slots, c.requires.can.source.within_limit, limit_of-below g.P.Inx.BasePtrInx.most a.maximum)

pub returns-in-Err-clause-made : goal.returns-in-Err-clause-made
returns-in-Err-clause-made g c =
    let shown = sym (c.get_inx.ensures ∙ ap (slot (g.S.ArenaTrait.content c.args.source.now)) c.inx_at-i.ensures) in
    let inside = greatest_occupied-below (g.S.ArenaTrait.content c.args.source.now).slots in
    record {
      callable = c.in-Err.ensures.callable;
      ok = search rules;
      refused = cloned-refused c.loop-position.invariant.cloned (omega (arith, inside)) _ _ _ _ _
          (shown ∙ rw c.in-Some.is refl) (ap (λ (n : ℕ × ℕ). n.0) c._from_raw.ensures ∙ c.inx_at-i.ensures)
          (ap (λ (n : ℕ × ℕ). n.1) c._from_raw.ensures) c.in-Err.ensures.step;
    }

pub loop-position-preserved : goal.loop-position-preserved
loop-position-preserved g c =
    let at = c.loop-position.invariant in let a = g.S.ArenaTrait.content c.args.source.now in
    let inside : c.loop-position.position + 1 < length a.slots = omega (arith, greatest_occupied-below a.slots) in
    let shown = sym (c.get_inx.ensures ∙ ap (slot a) c.inx_at-i.ensures) in
    elim c.match-get_inx.branch [
      | in-Some+in-Ok w ↦
          rw (w.slots-is, w.map-is, w.push_reserved.ensures.items) (record {
            callable = w.clone_entry.ensures.callable;
            cloned = cloned-entry at.cloned inside _ _ _ _ _ (shown ∙ rw w.in-Some.is refl) (ap (λ (n : ℕ × ℕ). n.0) w._from_raw.ensures ∙ c.inx_at-i.ensures)
                (ap (λ (n : ℕ × ℕ). n.1) w._from_raw.ensures) w.in-Ok.ensures.step;
            count = omega (arith, w.push_reserved.ensures.len, at.count);
            capacity = w.push_reserved.ensures.capacity ∙ at.capacity;
          })
      | in-None w ↦
          rw (w.slots-is, w.map-is, w.push_reserved-in-None.ensures.items) (record {
            callable = at.callable;
            cloned = cloned-vacant at.cloned inside (shown ∙ rw w.in-None.is refl);
            count = omega (arith, w.push_reserved-in-None.ensures.len, at.count);
            capacity = w.push_reserved-in-None.ensures.capacity ∙ at.capacity;
          })
    ]

pub returns-clause-made : goal.returns-clause-made
returns-clause-made g c = record {
  callable = c.loop-position.invariant.callable;
  ok = cloned-ends c.loop-position.invariant.cloned (omega arith);
  refused = search rules;
}
