use Rattle.std.proofs.Common.{rules, ◌≡◌, ◌∙◌, sym, ap, ℤ, ℕ, subst, Option, None, Some, IfSome, IsSomeAnd, is_some, true, w64, to_z, of_z}
use Rattle.std.specs.{Ordering.int_cmp}
use Rattle.std.proofs.lemmas.Int.{to_z-of_z}
use Rattle.sorted_arena.specs.Unique.{first_other, other_in_way}
use Rattle.arena_c.specs.Shown.{Arena}
use Rattle.arena_c.proofs.pointed.topscedar_arena_rekey_unique.Goals as goal

-- a pointer that is in the way is that of an entry
told-other : {Q : Type 0} (found : Option Q) (numbers : Q → ℕ × ℕ) (o : Option (ℕ × ℕ)) → is_some found ≡ true → IfSome found (λ q. Some (numbers q) ≡ o) → is_some o ≡ true
told-other None numbers o there is = absurd (cc)
told-other (Some q) numbers o there is = ap is_some (sym is)

pub returns-in-Err-default-EqualKey-clause-equal : goal.returns-in-Err-default-EqualKey-clause-equal
returns-in-Err-default-EqualKey-clause-equal c told =
    let there : is_some (other_in_way c.rekey_unique-moved.result) ≡ true = search rules in
    let found = told-other (other_in_way c.rekey_unique-moved.result) _ _ there c.rekey_unique-moved.ensures.equal in
    subst (λ (h : Option Arena). IsSomeAnd h (λ a. is_some (first_other int_cmp (c.args.pointer.index, c.args.pointer.generation) c.args.key a.entries) ≡ true)) c.in-Some.ensures.taken
    (subst (λ (a : Arena). is_some (first_other int_cmp (c.args.pointer.index, c.args.pointer.generation) c.args.key a.entries) ≡ true) (c.behind-content.view_is ∙ c.deref_mut.ensures.value)
    (subst (λ (k : ℤ). is_some (first_other int_cmp (c.args.pointer.index, c.args.pointer.generation) k c.behind-content.inside.pairs.entries) ≡ true) (to_z-of_z w64 c.args.key c.ranges.key)
    (subst (λ (p : ℕ × ℕ). is_some (first_other int_cmp p (to_z w64 (of_z w64 c.args.key)) c.behind-content.inside.pairs.entries) ≡ true) c.p0.ensures found)))
