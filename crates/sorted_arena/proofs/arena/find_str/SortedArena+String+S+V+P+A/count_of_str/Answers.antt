use Rattle.std.proofs.Common.{◌≡◌, ◌∙◌, string_cmp, sym, ap}
use Rattle.std.specs.{String.string_cmp_total, Option.option_map}
use Rattle.std.specs.declared.cmp.Ordering.TheVariants.{Equal}
use Rattle.sorted_arena.specs.Sorted.{get}
use Rattle.sorted_arena.proofs.Counting.{count-none, count-equal, key-holds, key-there}
use Rattle.sorted_arena.proofs.arena.find_str.SortedArena+String+S+V+P+A.count_of_str.Goals as goal

pub returns-in_default : goal.returns-in_default
returns-in_default g c k is =
    sym (count-none _ c.args.self.now.entries (sym (ap (option_map g.P.BasePtr.numbers) (sym c.in_default.is) ∙ (c.find_str.ensures k is).value)))

pub returns-in-Some-key : goal.returns-in-Some-key
returns-in-Some-key g c k is =
    let equal = key-holds (λ x. string_cmp k x ≡ Equal) (get c.args.self.now (g.P.BasePtr.numbers c.in-Some.p)) c.in-Some-key.k.now c.in-Some-key.ensures (c.in-Some.ensures k is).finds in
    c.count_of.ensures ∙ count-equal string_cmp string_cmp_total k c.in-Some-key.k.now equal c.args.self.now.entries

pub returns-in-None : goal.returns-in-None
returns-in-None g c k is =
    absurd (key-there (λ x. string_cmp k x ≡ Equal) (get c.args.self.now (g.P.BasePtr.numbers c.in-Some.p)) c.in-None.ensures (c.in-Some.ensures k is).finds)
