use Rattle.arena_base.proofs.{Words.◌≡◌, Words.◌+◌, Words.max, Words.arith, Words.ap, Words.◌∙◌, Words.rules, Words.arena_capacity, Words.greatest_occupied, Words.resized, Words.with_items, Clones.clone-pointers}
use Rattle.arena_base.proofs.arena.Arena.clone_by.Goals as goal

pub returns-in-Ok : goal.returns-in-Ok
returns-in-Ok g c =
    let source = g.S.ArenaTrait.content c.args.source.now in let made = c.in-Ok.ensures.made in let raised = c.in_ok-raise_capacity.ensures.ok in
    let room : max (arena_capacity c.raise_capacity.new.self) (greatest_occupied source.slots) ≡ max (arena_capacity c.args.self.now) (greatest_occupied source.slots) =
    omega (arith, raised.0, c.greatest_occupied-needed.ensures.value) in
    record {
      callable = made.callable;
      source = c.greatest_occupied-needed.ensures.lawful;
      clones = record {
        ok = record {
          made = record {
            items = made.ok.items;
            calls = made.ok.calls;
            after = record {
              slots = made.ok.after.slots ∙ ap (λ n. resized (n + 1) (with_items source.slots made.ok.items)) room;
              generation = made.ok.after.generation;
              maximum = made.ok.after.maximum ∙ raised.1;
            };
          };
          pointers = clone-pointers g.P.BasePtr.numbers _ _ _ _ _ _ made.ok;
          fresh = c.in-Ok.ensures.fresh;
        };
        beyond = search rules;
        beyond_kept = search rules;
        memory = search rules;
      };
    }
