use Rattle.std.proofs.Common.{◌≡◌, ◌∙◌, Some, true, is_some, refl, sym, ap}
use Rattle.sorted_arena.specs.Sorted.{first_item}
use Rattle.sorted_arena.proofs.Cutting.{first-named}
use Rattle.listing.proofs.CallerLemmas.{first-same}
use Rattle.sorted_arena.proofs.Removing.{on_some, removed-none}
use Rattle.sorted_arena.proofs.arena.SortedArena.pop_first_if.Goals as goal

pub returns-then-not-f-clause-asked : goal.returns-then-not-f-clause-asked
returns-then-not-f-clause-asked g c =
    let is : first_item c.args.self.now.entries ≡ Some (c.in_ok-k.k.now, c.in_ok-k.v.now) =
    sym (first-named c.args.self.now.entries (g.P.BasePtr.numbers c.in_ok-first.first) c.in_ok-first.ensures.value) ∙ sym c.in_ok-k.ensures in
    rw is (c.in_ok-k.k, c.in_ok-k.v, c.if-not-f.ensures, refl, refl)

pub returns-clause-asked : goal.returns-clause-asked
returns-clause-asked g c =
    let is : first_item c.args.self.now.entries ≡ Some (c.in_ok-k.k.now, c.in_ok-k.v.now) =
    sym (first-named c.args.self.now.entries (g.P.BasePtr.numbers c.in_ok-first.first) c.in_ok-first.ensures.value) ∙ sym c.in_ok-k.ensures in
    let some : is_some c.remove.result ≡ true = ap is_some (c.remove.ensures.value ∙ sym c.in_ok-k.ensures) in
    rw (is, some) (c.in_ok-k.k, c.in_ok-k.v, c.if-not-f.ensures, refl, refl)

pub returns-clause-gone : goal.returns-clause-gone
returns-clause-gone g c = on_some g.P.Gen.BasePtrGen.greatest c.args.self.now c.remove.result _ (c.remove.ensures.after ∙ sym (first-same _ _ _ c.in_ok-first.ensures.value))

pub returns-clause-none : goal.returns-clause-none
returns-clause-none g c = removed-none _ _ _ _ c.remove.result c.remove.ensures.value c.remove.ensures.after
