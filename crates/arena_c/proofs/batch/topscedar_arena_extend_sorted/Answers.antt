use Rattle.std.proofs.Common.{◌∙◌, ◌∷◌, [], sym, ap, subst, refl, lit<, ℕ, ℤ, List, take, arith}
use Rattle.std.proofs.lemmas.Grind.{common_steps}
use Rattle.std.specs.List.{Contains, zip}
use Rattle.arena_c.specs.{Shown.Arena, Batch.ExtendsAtOnce, Status.ok, Status.full, Status.no_memory, Status.closed, Status.out_of_order}
use Rattle.arena_c.proofs.{Answers.becomes, Answers.known-reservation, Answers.reserved, Runs.zip-shorter}
use Rattle.arena_c.proofs.batch.topscedar_arena_extend_sorted.Goals as goal

pub returns-in_default-clause-extends : goal.returns-in_default-clause-extends
returns-in_default-clause-extends c = record {
  known = (3, lit< tt, refl);
  changed = λ done. absurd (omega (arith, done));
  kept = grind (arith, common_steps);
  closed = grind (arith, common_steps);
}

pub returns-clause-extends : goal.returns-clause-extends
returns-clause-extends c =
    let ks = c.args.keys.now in let vs = c.args.values.now in let a : Arena = c.in-Some.content.value in let b : Arena = c.extend_sorted-extended.new.self in
    let before = c.args.pointers.now in let after = c.extend_sorted-extended.new.pointers in
    let pairs = ap (λ (n : ℕ). zip (take n ks) (take n vs)) c.min-count.ensures ∙ zip-shorter ks vs in
    record {
      known = subst (λ (status : ℕ). Contains (ok ∷ full ∷ no_memory ∷ closed ∷ out_of_order ∷ []) status) (sym c.reservation_status.ensures) (known-reservation c.extend_sorted-extended.result);
      changed = λ done.
          let held = reserved c.extend_sorted-extended.result c.reservation_status.result c.reservation_status.ensures done c.extend_sorted-extended.ensures.extends in
          becomes (λ a b. ExtendsAtOnce (zip ks vs) a b before after) a b _ _ c.in-Some.ensures.taken c.put-2.ensures
          (subst (λ (z : Arena). ExtendsAtOnce (zip ks vs) z b before after) c.deref_mut.ensures.value (subst (λ (ps : List (ℤ × ℕ)). ExtendsAtOnce ps c.deref_mut.result.now b before after) pairs held));
      kept = grind (arith, common_steps);
      closed = grind (arith, common_steps);
    }
