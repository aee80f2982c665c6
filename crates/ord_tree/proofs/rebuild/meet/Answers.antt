use Rattle.std.proofs.Common.{ℕ, ◌-◌, ◌∙◌, ap, option_map}
use Rattle.ord_tree.specs.{Half.half_rank, declared.tree_links.TreeLinks.TreeLinks}
use Rattle.ord_tree.proofs.Rebuilding.{IsPlan-kept, next-run, next-room, next-some, next-there, next-link-there, bare-met, IsUnopened-met}
use Rattle.ord_tree.proofs.rebuild.meet.Goals as goal

pub set_links-requires : goal.set_links-requires
set_links-requires g c = next-there (next-run c.requires.2 c.requires.3 _ _ (rw c.unwrap-frame.ensures at c.pop.ensures.items))

pub hang-requires : goal.hang-requires
hang-requires g c = λ i e.
    c.set_links.ensures.occupied i ∙ next-link-there (next-run c.requires.2 c.requires.3 _ _ (rw c.unwrap-frame.ensures at c.pop.ensures.items)) i e

pub number_of-requires : goal.number_of-requires
number_of-requires g c =
    let popped = rw c.unwrap-frame.ensures at c.pop.ensures.items in
    c.hang.ensures.occupied _ ∙ c.set_links.ensures.occupied _ ∙ next-there (next-run c.requires.2 c.requires.3 _ _ popped)

pub returns-clause-step : goal.returns-clause-step
returns-clause-step g c = record {
  plan = λ s plan. IsPlan-kept (λ j. c.hang.ensures.occupied j ∙ c.set_links.ensures.occupied j) plan;
  after = λ s todo plan ready.
      let popped = rw c.unwrap-frame.ensures at c.pop.ensures.items in
      let rank_is = c.rank_over-rank.ensures ∙ ap (half_rank c.unwrap-frame.result.len) (c.saturating_sub.ensures ∙ ap (λ (d : ℕ). c.args.top - d) c.len.ensures.value) in
      rw c.number_of.ensures (IsUnopened-met (next-run plan ready _ _ popped) rank_is c.set_links.ensures c.hang.ensures);
  kept = cc;
}

pub returns-clause-bare : goal.returns-clause-bare
returns-clause-bare g c =
    let popped = rw c.unwrap-frame.ensures at c.pop.ensures.items in
    let rank_is = c.rank_over-rank.ensures ∙ ap (half_rank c.unwrap-frame.result.len) (c.saturating_sub.ensures ∙ ap (λ (d : ℕ). c.args.top - d) c.len.ensures.value) in
    ap (option_map (λ (n : TreeLinks ℕ). n.greater)) (bare-met (next-run c.requires.2 c.requires.3 _ _ popped) rank_is c.set_links.ensures c.hang.ensures)

pub returns-clause-some : goal.returns-clause-some
returns-clause-some g c = next-some (next-run c.requires.2 c.requires.3 _ _ (rw c.unwrap-frame.ensures at c.pop.ensures.items))

pub returns-clause-room : goal.returns-clause-room
returns-clause-room g c = next-room (next-run c.requires.2 c.requires.3 _ _ (rw c.unwrap-frame.ensures at c.pop.ensures.items))
