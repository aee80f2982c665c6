use Rattle.std.proofs.Common.{ap}
use Rattle.chain_base.proofs.chain.clone.TryShowLinkCloneEntryLinkNoGen.clone_entry.Goals as goal

pub returns-clause-step : goal.returns-clause-step
returns-clause-step g c = record {
  shown = _;
  neighbours = _;
  item = ap (λ l. l.item) c.link.view_is;
  before = c.prev_next-neighbours.ensures.prev;
  behind = c.prev_next-neighbours.ensures.next;
  called = c.f.ensures;
}
