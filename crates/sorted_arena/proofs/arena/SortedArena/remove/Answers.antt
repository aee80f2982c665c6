use Rattle.std.proofs.Common.{◌≡◌, ◌∙◌, List, sym, ap, rules}
use Rattle.std.specs.Option.{option_map}
use Rattle.listing.specs.Chain.{Entry, last_pointer}
use Rattle.listing.proofs.CallerLemmas.{removed-held, removed-listing}
use Rattle.listing.proofs.CallerLemmas.{without-updates, without_entry-none}
use Rattle.sorted_arena.specs.{Sorted.Sorted, Layout.sorted_of}
use Rattle.sorted_arena.proofs.Numbering.{compact-removed}
use Rattle.sorted_arena.proofs.arena.SortedArena.remove.Goals.{then-self, else-self}
use Rattle.sorted_arena.proofs.arena.SortedArena.remove.Goals as goal

pub invariant_of-self-2 : goal.invariant_of-self-2
invariant_of-self-2 g c =
    let some = sym c.allow.ensures ∙ c.in_ok-pair.was in
    let after = rw some at c.remove.ensures.removal.removed in
    let sound = rw (← c.self.view_is) at c.pairs-pairs.ensures.sound in
    let same : c.pairs-pairs.result.now.list.entries ≡ c.self.inside.pairs.list.entries =
    ap (λ (a : Sorted g.row.K.Denot g.row.V.Denot). a.entries) (sym c.pairs-pairs.ensures.view ∙ sym c.self.view_is) in
    record {
      order = removed-held g.K.Ord.cmp g.P.Gen.BasePtrGen.greatest c.self.inside.pairs c.remove.new.self (g.P.BasePtr.numbers c.args.p) after c.self.invariant.order;
      compact = λ is. elim c.if-self.branch [
        | then-self w ↦ rw after (compact-removed c.self.inside.pairs.list (c.self.invariant.compact w.if-self.true) sound.within _ _
            (ap (λ (es : List (Entry (g.row.K.Denot × g.row.V.Denot))). option_map (λ q. q.0) (last_pointer es)) (sym same) ∙ w.is_last_in-stays_compact.ensures (sym w.stays_compact-is ∙ is)))
        | else-self w ↦ absurd (cc)
      ];
    }

pub returns-clause-after : goal.returns-clause-after
returns-clause-after g c =
    let some = sym c.allow.ensures ∙ c.in_ok-pair.was in
    rw (← c.self.view_is) (removed-listing g.K.Ord.cmp g.P.Gen.BasePtrGen.greatest c.self.inside.pairs c.remove.new.self (g.P.BasePtr.numbers c.args.p) _ (sym c.remove.ensures.removal.value ∙ some) (rw some at c.remove.ensures.removal.removed))

pub returns-in_err-pair-clause-after : goal.returns-in_err-pair-clause-after
returns-in_err-pair-clause-after g c =
    let none = sym c.remove.ensures.removal.value ∙ sym c.allow.ensures ∙ c.in_err-pair.was in
    let same : c.remove.new.self ≡ c.self.inside.pairs = search rules in
    rw (← c.self.view_is) (ap sorted_of same ∙ sym (without_entry-none g.P.Gen.BasePtrGen.greatest _ (g.P.BasePtr.numbers c.args.p) (sym none)))

pub returns-clause-updates : goal.returns-clause-updates
returns-clause-updates g c = rw (returns-clause-after g c) (without-updates g.P.Gen.BasePtrGen.greatest c.args.self.now (g.P.BasePtr.numbers c.args.p) c.pairs-pairs.ensures.sound.distinct)

pub returns-in_err-pair-clause-updates : goal.returns-in_err-pair-clause-updates
returns-in_err-pair-clause-updates g c = rw (returns-in_err-pair-clause-after g c) (without-updates g.P.Gen.BasePtrGen.greatest c.args.self.now (g.P.BasePtr.numbers c.args.p) c.pairs-pairs.ensures.sound.distinct)
