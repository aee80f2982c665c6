use Rattle.triple_ord.proofs.{Places.full, Places.lacks-within, Words.sym, Words.ap, Words.◌∙◌, Words.option_map, Words.arith, Words.common_steps, Words.rules}
use Rattle.triple_ord.proofs.arena.SimpleOrdArena.next_slot.Goals as goal

pub returns-in-Within-clause-makes : goal.returns-in-Within-clause-makes
returns-in-Within-clause-makes g c =
    let index = rw c.self.view_is at c.next_insertion_ptr.ensures.index in
    record {
      room = search rules;
      vacant = grind (arith, common_steps);
      entries = search rules;
      refused = rw c.in-Within.is (lacks-within g.P.Inx.BasePtrInx.most c.args.self.now.list c.next_insertion_ptr.result c.ok_or.result c.ok_or.ensures.value
          (λ none. full _ _ c.args.self.now.list c.requires (sym index ∙ ap (option_map (λ p. (g.P.BasePtr.numbers p).0)) none)));
      err = search rules;
    }
