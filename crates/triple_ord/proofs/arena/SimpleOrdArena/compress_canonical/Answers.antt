use Rattle.triple_ord.proofs.{Words.ap, Words.length, Words.map, Words.◌∙◌, Words.sym, Words.length-map, Words.Chain, Words.items-numbered, CallerLemmas.found-numbered}
use Rattle.triple_ord.proofs.arena.SimpleOrdArena.compress_canonical.Goals as goal

pub returns-clause-items : goal.returns-clause-items
returns-clause-items g c = rw (← c.self.view_is) (ap (λ (c : Chain _). map (λ e. e.item) c.entries) c.compress_canonical.ensures.after ∙ items-numbered _ 1 _)

pub returns-clause-found : goal.returns-clause-found
returns-clause-found g c =
    rw (← c.self.view_is) (found-numbered c.compress_canonical.new.self _ _ (ap (λ (c : Chain _). c.entries) c.compress_canonical.ensures.after))

pub returns-clause-renumbers : goal.returns-clause-renumbers
returns-clause-renumbers g c =
    let call = c.compress_canonical.ensures in
    record {
      after = rw (← c.self.view_is) call.after;
      ended = (returns-clause-found g c).ended;
      shape = call.shape;
      overflow = rw (← c.self.view_is) call.overflow;
      count = sym (length-map c.compress_canonical.new.self.list.entries (λ e. e.item)) ∙ ap length (returns-clause-items g c)
          ∙ length-map c.args.self.now.list.entries (λ e. e.item);
    }
