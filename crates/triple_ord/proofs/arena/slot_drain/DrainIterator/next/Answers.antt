use Rattle.triple_ord.proofs.Words.{◌≡◌, ◌∷◌, OnSome, length, rules, refl, sym, ap, ◌∙◌, subst, arith, overflows_after, Walk, walk_rest, removed, IsShrunk, content_of}
use Rattle.triple_ord.proofs.Content.{rest-removed, whole-removed, nothing-left}
use Rattle.ord_tree.specs.Invalidation.{allowed_value, has_overflowed}
use Rattle.triple_ord.proofs.arena.slot_drain.DrainIterator.next.Goals as goal

pub returns-in_err-p-clause-steps : goal.returns-in_err-p-clause-steps
returns-in_err-p-clause-steps g c =
    let s = c.args.self.now in
    let walk = c.in_err-p.ensures.step.step in
    rw c.from_residual.ensures (
      refl,
      record {
        none_left = walk.none_left;
        stays = ap (λ (w : Walk). record s { walk = w }) walk.stays;
        empty = nothing-left _ _ s.arena.now _ c.len.ensures.sound walk.none_left;
      },
    )

pub returns-clause-steps : goal.returns-clause-steps
returns-clause-steps g c =
    let a = c.args.self.now.arena.now in
    let p = c.in_ok-p.p in let i = (g.P.BasePtr.numbers p).0 in
    let walk = c.in_ok-p.ensures.step in
    let valid = c.unwrap-taken.ensures.value in
    let removal = subst (λ o. OnSome o (c.remove.new.self.list ≡ removed g.P.Gen.BasePtrGen.greatest a.list i)) valid c.remove.ensures.removal.removed in
    let first : walk_rest c.args.self.now.walk (content_of a) ≡ (i, (g.P.BasePtr.numbers p).1) ∷ walk_rest c.advance.new.self (content_of c.remove.new.self) =
    walk.step.first ∙ ap (λ rest. (i, (g.P.BasePtr.numbers p).1) ∷ rest)
    (rw walk.step.stands (rest-removed _ _ a c.remove.new.self i c.len.ensures.sound removal c.args.self.now.walk)) in
    let made : allowed_value c.map.result ≡ (p, allowed_value c.unwrap-taken.result) = let value = c.map.ensures.value in search rules in (
      refl,
      record {
        first = rw made first;
        whole = whole-removed _ _ a c.remove.new.self i c.len.ensures.sound removal (g.P.BasePtr.numbers p).1 _ _ first;
        removed_list = rw made removal;
        shape = subst (λ o. OnSome o (IsShrunk a.shape c.remove.new.self.shape)) valid c.remove.ensures.takes.shape;
        overflow = c.map.ensures.overflow ∙ (c.unwrap-taken.ensures.overflow
            ∙ subst (λ o. OnSome o (has_overflowed c.remove.result ≡ overflows_after g.P.Gen.BasePtrGen.greatest a.list.generation)) valid c.remove.ensures.removal.overflow);
        found = rw made (sym c.remove.ensures.removal.value ∙ valid);
        updates = rw made c.remove.ensures.updates;
      },
    )

pub returns-clause-goes : goal.returns-clause-goes
returns-clause-goes g c = record { on = λ _. (tt, tt, omega (arith, ap length (returns-clause-steps g c).1.first)); keeps = tt; rests = λ _. tt }
