use Rattle.std.proofs.Common.{rules, ◌≡◌, ◌↔◌, ◌∙◌, sym, ap, refl, IsSomeAnd, is_some, true, false, w64, arith}
use Rattle.std.specs.Ordering.{int_cmp, is_eq}
use Rattle.sorted_arena.specs.{Sorted.first_where, Sorted.key_of, Unique.pointer_in_way}
use Rattle.std.proofs.lemmas.Int.{to_z-of_z}
use Rattle.arena_c.proofs.Answers.{equal-told}
use Rattle.arena_c.proofs.insert.topscedar_arena_insert_unique.Goals as goal
use Rattle.arena_c.proofs.insert.topscedar_arena_insert_unique.Goals.{After-insert_unique-inserted}

-- what holds exactly if the arena refuses an equal key holds exactly if an entry has one
equal : {Told : Type 0} (c : After-insert_unique-inserted) → (Told ↔ (is_some (pointer_in_way c.insert_unique-inserted.result) ≡ true))
    → (Told ↔ IsSomeAnd c.args.arena.now.slot.held (λ a. is_some (first_where (λ e. is_eq (int_cmp c.args.key (key_of e))) a.entries) ≡ true))
equal c told =
    equal-told _ c.insert_unique-inserted.result _ c.in-Some.content.value c.behind-content.inside.pairs c.args.key _ _ c.in-Some.ensures.taken (c.behind-content.view_is ∙ c.deref_mut.ensures.value)
    (to_z-of_z w64 c.args.key c.ranges.key) c.insert_unique-inserted.ensures.equal told

pub returns-in-Ok-clause-equal : goal.returns-in-Ok-clause-equal
returns-in-Ok-clause-equal c =
    let none = ap (λ r. is_some (pointer_in_way r)) c.in-Ok.is in
    equal (goal.at.returns-in-Ok-clause-equal c).After-insert_unique-inserted ((λ h. absurd (omega (arith, h))), (λ r. absurd (let clash = sym none ∙ r in cc)))

pub returns-in-Err-default-EqualKey-clause-equal : goal.returns-in-Err-default-EqualKey-clause-equal
returns-in-Err-default-EqualKey-clause-equal c =
    let there : is_some (pointer_in_way c.insert_unique-inserted.result) ≡ true = search rules in
    equal (goal.at.returns-in-Err-default-EqualKey-clause-equal c).After-insert_unique-inserted ((λ h. there), (λ r. refl))

pub returns-in-Err-default-BeyondMaxCapacity-clause-equal : goal.returns-in-Err-default-BeyondMaxCapacity-clause-equal
returns-in-Err-default-BeyondMaxCapacity-clause-equal c =
    let none : is_some (pointer_in_way c.insert_unique-inserted.result) ≡ false = search rules in
    equal (goal.at.returns-in-Err-default-BeyondMaxCapacity-clause-equal c).After-insert_unique-inserted ((λ h. absurd (omega (arith, h))), (λ r. absurd (let clash = sym none ∙ r in cc)))

pub returns-in-Err-default-AllocError-clause-equal : goal.returns-in-Err-default-AllocError-clause-equal
returns-in-Err-default-AllocError-clause-equal c =
    let none : is_some (pointer_in_way c.insert_unique-inserted.result) ≡ false = search rules in
    equal (goal.at.returns-in-Err-default-AllocError-clause-equal c).After-insert_unique-inserted ((λ h. absurd (omega (arith, h))), (λ r. absurd (let clash = sym none ∙ r in cc)))

pub returns-in-Err-default-AllocError-clause-inserts : goal.returns-in-Err-default-AllocError-clause-inserts
returns-in-Err-default-AllocError-clause-inserts c = record { arena = search rules; updates = search rules; memory = search rules; kept = search rules }
