use Rattle.triple_ord.proofs.{Content.content-reallocated, Words.IfOk-weaker, Words.rules, Words.arith, Words.length-slots}
use Rattle.triple_ord.proofs.arena.traits.SimpleOrdArenaArenaTrait.reallocate_min_capacity.Goals as goal

pub returns : goal.returns
returns g c =
    let same = content-reallocated _ _ c.args.self.now c.len.ensures.sound c.reallocate_min_capacity.new.self c.args.n in
    let call = c.reallocate_min_capacity.ensures.reallocates in
    record {
      ok = IfOk-weaker c.reallocate_min_capacity.result _ _ (λ done. same) call.ok;
      beyond = search rules;
      memory = λ is. omega (arith, call.memory is, length-slots c.args.self.now.list.entries 1 c.args.self.now.list.capacity);
      err = search rules;
    }
