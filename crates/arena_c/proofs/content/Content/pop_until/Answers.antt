use Rattle.std.proofs.lemmas.{Grind.common_steps, Int.to_z-of_z, List.Elements.recursion_from_All}
use Rattle.std.specs.declared.cmp.Ordering.TheVariants.{Greater}
use Rattle.std.proofs.Common.{◌≡◌, ◌∙◌, ◌+◌, ◌++◌, ◌∷◌, [], refl, sym, ap, suc, Bool, true, false, if◌then◌else◌, Some, None, List, ℤ, ℕ, take, drop, map, length, append-nil, append_assoc, arith, w64, to_z, of_z}
use Rattle.std.specs.Ordering.{int_cmp, is_le}
use Rattle.sorted_arena.specs.{Chain.Entry, Chain.first_pointer, Sorted.behind_first, Sorted.entries_until, Sorted.first_item, Sorted.first_item_until, Sorted.generation_after, Generation.next_generation}
use Rattle.sorted_arena.proofs.CallerLemmas.{entries-without_first, generation-without_first, capacity-without_first}
use Rattle.arena_c.specs.Shown.{Arena, entry_found, shown_entry, greatest_generation}
use Rattle.arena_c.proofs.{Answers.found-at, Runs.drop-some, Runs.drop-step, Runs.none-due, Runs.taken-twice, Runs.take-step, Runs.pop-step, Runs.written-step}
use Rattle.arena_c.proofs.content.Content.pop_until.Goals as goal

-- the first entry whose key is at most k is the first
due-item : (k : ℤ) (es : List (Entry (ℤ × ℕ))) (x : ℤ × ℕ) → first_item_until int_cmp k es ≡ Some x → Some x ≡ first_item es
due-item k [] x is = absurd (cc)
due-item k (e ∷ es) x is = go (is_le (int_cmp e.item.0 k)) is
  where
    go : (b : Bool) → (if b then Some e.item else None) ≡ Some x → Some x ≡ Some e.item
    go true is = sym is
    go false is = absurd (cc)

pub loop-i-preserved : goal.loop-i-preserved
loop-i-preserved c =
    let a : Arena = c.loop-i.self in let old : Arena = c.args.self.now in let new : Arena = c.pop_first_until.new.self in let n = c.loop-i.i in let e = c.in-Some-Some.entry in
    let k : ℤ = to_z w64 (of_z w64 c.args.until) in
    let found : entry_found a (first_pointer a.entries) ≡ Some e =
    sym (found-at (λ (b : Arena). first_pointer b.entries) a a c.self.inside.pairs c.first.result c.entry_found-first.result refl c.self.view_is c.first.ensures.value c.entry_found-first.ensures) ∙ c.in-Some-Some.is-0 in
    let due : first_item_until int_cmp k a.entries ≡ Some c.in-Some-Some.field-0-1 = sym (c.pop_first_until.ensures.value ∙ ap (λ (b : Arena). first_item_until int_cmp k b.entries) c.self.view_is) ∙ c.in-Some-Some.is-1 in
    let gone : new.entries ≡ behind_first a.entries = ap (λ (b : Arena). b.entries) c.in-Some-Some.ensures.gone ∙ entries-without_first greatest_generation c.self.inside.pairs ∙ ap (λ (b : Arena). behind_first b.entries) c.self.view_is in
    let kept : new.capacity ≡ a.capacity = ap (λ (b : Arena). b.capacity) c.in-Some-Some.ensures.gone ∙ capacity-without_first greatest_generation c.self.inside.pairs ∙ ap (λ (b : Arena). b.capacity) c.self.view_is in
    let s = pop-step a k e c.in-Some-Some.field-0-1 found due in
    let cut : drop n old.entries ≡ s.entry ∷ behind_first a.entries = sym c.loop-i.invariant.left ∙ s.cut in
    let after = drop-some old.entries (behind_first a.entries) s.entry n cut in
    let rest : List (Entry (ℤ × ℕ)) = entries_until int_cmp k (behind_first a.entries) in
    record {
      left = gone ∙ sym (drop-step old.entries (behind_first a.entries) s.entry n cut);
      due = c.loop-i.invariant.due ∙ ap (λ (zs : List (Entry (ℤ × ℕ))). take n old.entries ++ zs) s.due ∙ sym (append_assoc (take n old.entries) (s.entry ∷ []) rest)
          ∙ ap (λ (zs : List (Entry (ℤ × ℕ))). zs ++ rest) (sym (take-step old.entries (behind_first a.entries) s.entry n cut))
          ∙ ap (λ (zs : List (Entry (ℤ × ℕ))). take (n + 1) old.entries ++ entries_until int_cmp k zs) (sym gone);
      written = written-step shown_entry old.entries (behind_first a.entries) c.args.entries.now c.loop-i.entries n s.entry e cut s.shown c.loop-i.invariant.written (omega (arith, c.loop-i-test.true));
      generation = ap (λ (b : Arena). b.generation) c.in-Some-Some.ensures.gone ∙ generation-without_first greatest_generation c.self.inside.pairs c.in-Some-Some.field-0-1 (due-item k c.self.inside.pairs.entries c.in-Some-Some.field-0-1 (sym c.pop_first_until.ensures.value ∙ c.in-Some-Some.is-1))
          ∙ ap (λ (b : Arena). next_generation greatest_generation b.generation) c.self.view_is ∙ ap (next_generation greatest_generation) c.loop-i.invariant.generation
          ∙ ap (λ (m : ℕ). generation_after greatest_generation m old.generation) (let more : suc n ≡ n + 1 = omega arith in more);
      capacity = kept ∙ c.loop-i.invariant.capacity;
      reached = omega (arith, after);
    }

-- no other entry is due
pub returns-in_default-clause-filled : goal.returns-in_default-clause-filled
returns-in_default-clause-filled c =
    let k : ℤ = to_z w64 (of_z w64 c.args.until) in
    let late = recursion_from_All (λ (e : Entry (ℤ × ℕ)). int_cmp e.item.0 k ≡ Greater) _ c.in_default.ensures.left in
    let same : c.pop_first_until.new.self ≡ c.loop-i.self = c.in_default.ensures.none ∙ c.self.view_is in
    let none : entries_until int_cmp k c.loop-i.self.entries ≡ [] = ap (λ (a : Arena). entries_until int_cmp k a.entries) (sym same) ∙ none-due k c.pop_first_until.new.self.entries late in
    let due : entries_until int_cmp c.args.until c.args.self.now.entries ≡ take c.loop-i.i c.args.self.now.entries =
    ap (λ (l : ℤ). entries_until int_cmp l c.args.self.now.entries) (sym (to_z-of_z w64 c.args.until c.ranges.until)) ∙ c.loop-i.invariant.due ∙ ap (λ (zs : List (Entry (ℤ × ℕ))). take c.loop-i.i c.args.self.now.entries ++ zs) none ∙ append-nil (take c.loop-i.i c.args.self.now.entries) in
    let many : length (take c.loop-i.i c.args.self.now.entries) ≡ c.loop-i.i = grind (arith, common_steps, c.loop-i.invariant.reached) in
    record {
      count = omega (arith, ap length due, many, c.loop-i-test.true);
      written = c.loop-i.invariant.written ∙ ap (λ (zs : List (Entry (ℤ × ℕ))). map shown_entry zs ++ drop c.loop-i.i c.args.entries.now) (sym (taken-twice c.args.self.now.entries c.loop-i.i) ∙ ap (take c.loop-i.i) (sym due));
    }
