use Rattle.arena_base.proofs.{Words.arith, Words.common_steps, Steps.added-vacant}
use Rattle.arena_base.proofs.arena.growth.fill_up.Goals as goal

pub list_vacant-requires : goal.list_vacant-requires
list_vacant-requires g c = record {
  room = grind (arith, common_steps);
  named = grind (arith, common_steps);
  full = λ k below. absurd (omega arith);
  fresh = rw (c.as_slice.ensures.value, c.len-fresh.ensures, c.args.slots.now.ok.0) (added-vacant c.args.slots.now.items _ _ c.add_vacant.ensures.items);
}
