use Rattle.std.proofs.Common.{◌∙◌, ◌+◌, refl, reverse, sym, ap, subst, drop, arith}
use Rattle.sorted_arena.specs.{Chain.IsDistinct, Chain.first_pointer, Chain.from_index, Sorted.prev_of}
use Rattle.arena_c.specs.Shown.{Arena, entry_found, shown_entry}
use Rattle.arena_c.proofs.{Answers.own-numbers, Runs.drop-none, Runs.drop-some, Runs.back-done, Runs.back-first, Runs.back-step, Runs.written-step}
use Rattle.arena_c.proofs.content.Content.fill_back.Goals as goal
use Rattle.arena_c.proofs.content.Content.fill_back.Goals.{After-len}

-- no two entries have one index
apart : (c : After-len) → IsDistinct c.args.self.now.entries
apart c = subst (λ (b : Arena). IsDistinct b.entries) c.self.view_is c.len.ensures.sound.distinct

pub loop-i-init : goal.loop-i-init
loop-i-init c = record { next = back-first c.args.self.now.entries c.args.first (apart (goal.at.loop-i-init c).After-len) c.requires; written = refl; reached = omega arith }

pub returns-in-None-clause-filled : goal.returns-in-None-clause-filled
returns-in-None-clause-filled c =
    let a : Arena = c.args.self.now in let run = from_index (reverse a.entries) c.args.first.0 in
    let distinct = apart (goal.at.returns-in-None-clause-filled c).After-len in
    let done = back-done a distinct c.args.first.0 c.loop-i.i (ap (entry_found a) (sym c.loop-i.invariant.next) ∙ sym c.entry_found.ensures ∙ c.in-None.is) in
    record { count = omega (arith, drop-none run c.loop-i.i done, c.loop-i-test.true, c.loop-i.invariant.reached); written = c.loop-i.invariant.written }

pub returns-in-None-clause-rest : goal.returns-in-None-clause-rest
returns-in-None-clause-rest c =
    let a : Arena = c.args.self.now in
    let distinct = apart (goal.at.returns-in-None-clause-rest c).After-len in
    let done = back-done a distinct c.args.first.0 c.loop-i.i (ap (entry_found a) (sym c.loop-i.invariant.next) ∙ sym c.entry_found.ensures ∙ c.in-None.is) in
    ap first_pointer (sym done)

pub loop-i-preserved : goal.loop-i-preserved
loop-i-preserved c =
    let a : Arena = c.args.self.now in let run = from_index (reverse a.entries) c.args.first.0 in let n = c.loop-i.i in let e = c.in-Some.entry in
    let distinct = apart (goal.at.loop-i-preserved c).After-len in
    let s = back-step a distinct c.args.first.0 n e (ap (entry_found a) (sym c.loop-i.invariant.next) ∙ sym c.entry_found.ensures ∙ c.in-Some.is) in
    let after = drop-some run (drop (n + 1) run) s.entry n s.cut in
    record {
      next = own-numbers c.prev-next.result ∙ c.prev-next.ensures.value ∙ ap (λ (b : Arena). prev_of b.entries c.p0.result) c.self-in-loop-i.view_is ∙ ap (prev_of a.entries) c.p0.ensures ∙ s.next;
      written = written-step shown_entry run (drop (n + 1) run) c.args.entries.now c.loop-i.entries n s.entry e s.cut s.shown c.loop-i.invariant.written (omega (arith, c.loop-i-test.true));
      reached = omega (arith, after);
    }
