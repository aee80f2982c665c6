use Rattle.std.proofs.{Common.arith, Common.rules, lemmas.Grind.common_steps}
use Rattle.triple_ord.proofs.CallerLemmas.{found-transferred, count-transferred, emptied-transferred}
use Rattle.triple_ord.proofs.arena.SimpleOrdArena.transfer_canonical_reallocating.Goals as goal

pub returns-clause-found : goal.returns-clause-found
returns-clause-found g c =
    found-transferred _ _ _ _ _ _ c.source.inside.tree c.transfer_canonical_reallocating.new.source c.self.inside.tree c.transfer_canonical_reallocating.new.self
    c.in_ok-transfer_canonical_reallocating.ensures.ok.lists

pub returns-clause-count : goal.returns-clause-count
returns-clause-count g c = rw (← c.source.view_is)
    (count-transferred _ _ _ _ _ _ c.source.inside.tree c.transfer_canonical_reallocating.new.source c.self.inside.tree c.transfer_canonical_reallocating.new.self
    c.in_ok-transfer_canonical_reallocating.ensures.ok.lists)

pub returns-clause-emptied : goal.returns-clause-emptied
returns-clause-emptied g c =
    emptied-transferred _ _ _ _ _ _ c.source.inside.tree c.transfer_canonical_reallocating.new.source c.self.inside.tree c.transfer_canonical_reallocating.new.self
    c.in_ok-transfer_canonical_reallocating.ensures.ok.lists

pub returns-clause-transfers : goal.returns-clause-transfers
returns-clause-transfers g c =
    let call = c.in_ok-transfer_canonical_reallocating.ensures in
    record {
      ok = record { lists = rw (← c.self.view_is, ← c.source.view_is) call.ok.lists; shape = call.ok.shape; left = call.ok.left };
      beyond = grind (arith, common_steps);
      memory = grind (arith, common_steps);
      err = search rules;
    }
