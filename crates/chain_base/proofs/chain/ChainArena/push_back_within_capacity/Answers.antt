use Rattle.std.proofs.{Common.◌++◌, Common.◌∷◌, Common.[], Common.ap, Common.inl, Common.refl, Common.option_map, Common.rules, lemmas.List.append-nil}
use Rattle.std.proofs.Common.{◌≡◌, sym, None, Option, ℕ, List}
use Rattle.chain_base.specs.{Chain.Chain, Chain.Entry, Chain.last_or, Insert.PutsBetween}
use Rattle.chain_base.proofs.{Room.after-insertion, Calls.beside-inserted, Calls.Inserts-linked}
use Rattle.chain_base.proofs.chain.ChainArena.push_back_within_capacity.Goals as goal

-- the place behind all entries
behind : {T : Type 0} (es : List (Entry T)) (last : Option ℕ) → last ≡ last_or None es → PutsBetween es (λ e. es ++ e ∷ []) last None
behind es last is = record { front = es; back = []; split = sym (append-nil es); prev_is = is; next_is = refl; puts = λ e. refl }

pub relink-requires-clause-left : goal.relink-requires-clause-left
relink-requires-clause-left g c = λ x is.
    beside-inserted c.self.inside.arena _ _ c.self.invariant _ _ _ _ c.in_ok-p.ensures.ok _ _ _ (behind _ _ c.self.invariant.last_is) _ (inl (ap (option_map g.P.Inx.BasePtrInx.number) is))

pub invariant_of-self-2 : goal.invariant_of-self-2
invariant_of-self-2 g c =
    let ends = rw c.inx.ensures at c.relink.ensures in
    let new = c.new.ensures in
    let inserts = Inserts-linked c.self.inside.arena _ _ c.self.invariant _ _ _ _ c.in_ok-p.ensures.ok _ _ _ (behind _ _ c.self.invariant.last_is) _ _ c.in_ok-p.ensures.sound
    _ new.item new.prev new.next c.relink.new.arena _ _ ends.arena ends.first ends.last in
    inserts.laid

pub returns : goal.returns
returns g c =
    let ends = rw c.inx.ensures at c.relink.ensures in
    let new = c.new.ensures in
    let inserts = Inserts-linked c.self.inside.arena _ _ c.self.invariant _ _ _ _ c.in_ok-p.ensures.ok _ _ _ (behind _ _ c.self.invariant.last_is) _ _ c.in_ok-p.ensures.sound
    _ new.item new.prev new.next c.relink.new.arena _ _ ends.arena ends.first ends.last in
    record {
      ok = rw (← c.self.view_is) inserts.insertion;
      refused = search rules;
      room = rw (← c.self.view_is) (ap (λ (d : Chain _). d.capacity) (after-insertion _ _ _ _ _ _ inserts.insertion).1);
    }
