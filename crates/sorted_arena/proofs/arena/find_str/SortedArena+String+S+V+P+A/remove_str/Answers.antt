use Rattle.std.proofs.Common.{◌∙◌, sym, ap}
use Rattle.std.specs.Option.{option_map, option_and_then}
use Rattle.listing.proofs.CallerLemmas.{without_where-found, without_where-none}
use Rattle.sorted_arena.specs.Sorted.{get}
use Rattle.sorted_arena.proofs.arena.find_str.SortedArena+String+S+V+P+A.remove_str.Goals as goal

pub returns-in_err-p-clause-value : goal.returns-in_err-p-clause-value
returns-in_err-p-clause-value g c k is =
    c.from_residual.ensures ∙ ap (option_and_then (get c.args.self.now)) (ap (option_map g.P.BasePtr.numbers) (sym c.in_err-p.was) ∙ (c.find_str.ensures k is).value)

pub returns-in_err-p-clause-after : goal.returns-in_err-p-clause-after
returns-in_err-p-clause-after g c k is = sym (without_where-none _ _ _ (ap (option_map g.P.BasePtr.numbers) (sym c.in_err-p.was) ∙ (c.find_str.ensures k is).value))

pub returns-clause-value : goal.returns-clause-value
returns-clause-value g c k is =
    c.remove.ensures.value ∙ ap (option_and_then (get c.args.self.now)) (ap (option_map g.P.BasePtr.numbers) (sym c.in_ok-p.was) ∙ (c.find_str.ensures k is).value)

pub returns-clause-after : goal.returns-clause-after
returns-clause-after g c k is =
    c.remove.ensures.after ∙ sym (without_where-found _ _ _ _ (ap (option_map g.P.BasePtr.numbers) (sym c.in_ok-p.was) ∙ (c.find_str.ensures k is).value))
