use Rattle.triple_ord.proofs.{CallerLemmas.ended-moved, Words.ap, Words.length, Words.◌∙◌, Words.length-map, Words.Chain}
use Rattle.triple_ord.proofs.arena.SimpleOrdArena.compress_with.Goals as goal

pub returns-clause-renumbers : goal.returns-clause-renumbers
returns-clause-renumbers g c =
    let call = c.compress_with.ensures in
    rw (← c.self.view_is) (record {
      after = call.after;
      ended = ended-moved c.compress_with.new.self _ _ _ _ (ap (λ (c : Chain _). c.entries) call.after.after);
      shape = call.shape;
      overflow = call.overflow;
      count = ap (λ (c : Chain _). length c.entries) call.after.after ∙ length-map c.self.inside.tree.list.entries _;
    })
