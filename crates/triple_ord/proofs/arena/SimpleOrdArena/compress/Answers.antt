use Rattle.triple_ord.proofs.{Words.ap, Words.length, Words.map, Words.◌∙◌, Words.length-map, Words.Chain, Words.relocated-items, CallerLemmas.ended-relocated}
use Rattle.triple_ord.proofs.arena.SimpleOrdArena.compress.Goals as goal

pub returns-clause-items : goal.returns-clause-items
returns-clause-items g c =
    rw (← c.self.view_is) (ap (λ (c : Chain _). map (λ e. e.item) c.entries) c.compress.ensures.after ∙ relocated-items c.self.inside.tree.list.entries c.self.inside.tree.list.entries _)

pub returns-clause-renumbers : goal.returns-clause-renumbers
returns-clause-renumbers g c =
    let call = c.compress.ensures in
    rw (← c.self.view_is) (record {
      after = call.after;
      ended = ended-relocated c.compress.new.self _ _ _ (ap (λ (c : Chain _). c.entries) call.after);
      shape = call.shape;
      overflow = call.overflow;
      count = ap (λ (c : Chain _). length c.entries) call.after ∙ length-map c.self.inside.tree.list.entries _;
    })
