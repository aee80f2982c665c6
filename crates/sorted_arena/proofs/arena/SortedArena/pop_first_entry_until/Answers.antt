use Rattle.std.proofs.Common.{◌∙◌, sym}
use Rattle.listing.proofs.CallerLemmas.{first-same, without-updates}
use Rattle.sorted_arena.proofs.{Cutting.first-named, Entries.first-entry, Entries.until-item}
use Rattle.sorted_arena.proofs.arena.SortedArena.pop_first_entry_until.Goals as goal

pub returns-clause-value : goal.returns-clause-value
returns-clause-value g c =
    let item = until-item g.K.Ord.cmp c.args.until.now c.args.self.now.entries _ c.in_ok-k.ensures.value in
    sym (first-entry g.P.BasePtr.numbers c.in_ok-first.first _ c.in_ok-first.ensures.value _ (item ∙ sym (first-named c.args.self.now.entries _ c.in_ok-first.ensures.value)))

pub returns-clause-named : goal.returns-clause-named
returns-clause-named g c =
    first-named c.args.self.now.entries _ c.in_ok-first.ensures.value ∙ sym (until-item g.K.Ord.cmp c.args.until.now c.args.self.now.entries _ c.in_ok-k.ensures.value)

pub returns-clause-updates : goal.returns-clause-updates
returns-clause-updates g c =
    rw (c.in_ok-k.ensures.gone ∙ first-same _ _ _ c.in_ok-first.ensures.value)
    (without-updates g.P.Gen.BasePtrGen.greatest c.args.self.now (g.P.BasePtr.numbers c.in_ok-first.first) c.in_ok-first.ensures.sound.distinct)
