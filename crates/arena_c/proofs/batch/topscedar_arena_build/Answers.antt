use Rattle.std.proofs.Common.{◌∙◌, ◌++◌, ◌∷◌, [], sym, ap, subst, refl, lit<, ℕ, ℤ, List, map, take, arith}
use Rattle.std.proofs.lemmas.Grind.{common_steps}
use Rattle.std.specs.List.{Contains, zip}
use Rattle.sorted_arena.specs.Sorted.{pair_of, Keeps}
use Rattle.arena_c.specs.{Shown.Arena, Batch.AppendsPairs, Status.ok, Status.full, Status.no_memory, Status.closed, Status.out_of_order}
use Rattle.arena_c.proofs.{Answers.becomes, Answers.known-reservation, Answers.reserved, Runs.zip-shorter}
use Rattle.arena_c.proofs.batch.topscedar_arena_build.Goals as goal

pub returns-in_default-clause-builds : goal.returns-in_default-clause-builds
returns-in_default-clause-builds c = record {
  known = (3, lit< tt, refl);
  changed = λ done. absurd (omega (arith, done));
  kept = grind (arith, common_steps);
  closed = grind (arith, common_steps);
}

pub returns-clause-builds : goal.returns-clause-builds
returns-clause-builds c =
    let ks = c.args.keys.now in let vs = c.args.values.now in let a : Arena = c.in-Some.content.value in let b : Arena = c.extend-extended.new.self in
    let pairs = ap (λ (n : ℕ). zip (take n ks) (take n vs)) c.min-count.ensures ∙ zip-shorter ks vs in
    record {
      known = subst (λ (status : ℕ). Contains (ok ∷ full ∷ no_memory ∷ closed ∷ out_of_order ∷ []) status) (sym c.reservation_status.ensures) (known-reservation c.extend-extended.result);
      changed = λ done.
          let held = reserved c.extend-extended.result c.reservation_status.result c.reservation_status.ensures done c.extend-extended.ensures.appends in
          becomes (AppendsPairs ks vs) a b _ _ c.in-Some.ensures.taken c.put-2.ensures (record {
            entries = held.entries ∙ ap (λ (zs : List (ℤ × ℕ)). map pair_of c.deref_mut.result.now.entries ++ zs) pairs ∙ ap (λ (a : Arena). map pair_of a.entries ++ zip ks vs) c.deref_mut.ensures.value;
            kept = subst (λ (z : Arena). Keeps z b) c.deref_mut.ensures.value held.kept;
            generation = c.extend-extended.ensures.generation ∙ ap (λ (a : Arena). a.generation) c.deref_mut.ensures.value;
          });
      kept = grind (arith, common_steps);
      closed = grind (arith, common_steps);
    }
