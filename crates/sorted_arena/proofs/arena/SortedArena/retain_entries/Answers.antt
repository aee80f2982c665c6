use Rattle.std.proofs.Common.{◌∙◌, ℕ, Option, sym, ap, subst}
use Rattle.std.specs.Option.{option_map}
use Rattle.sorted_arena.specs.{Answer.AnswersForEntry, Taking.IsCutAt, Taking.AsksFor}
use Rattle.sorted_arena.proofs.Retaining.{Stepped, retains-none, cut-meets, retains-more, retains-done, left-fewer, first-pointer}
use Rattle.sorted_arena.proofs.arena.SortedArena.retain_entries.Goals as goal

pub loop-next-init : goal.loop-next-init
loop-next-init g c = record {
  callable = c.requires;
  sound = c.first-next.ensures.sound;
  retains = retains-none (AnswersForEntry g.P.BasePtr.numbers g.F.FnMut) g.P.Gen.BasePtrGen.greatest c.args.self.now c.args.f (option_map g.P.BasePtr.numbers c.first-next.result) (c.first-next.ensures.value ∙ first-pointer c.args.self.now.entries);
}

pub ask_entry-next-requires-clause-named : goal.ask_entry-next-requires-clause-named
ask_entry-next-requires-clause-named g c =
    let at = ap (option_map g.P.BasePtr.numbers) c.in-Some.is in
    subst (λ (o : Option (ℕ × ℕ)). IsCutAt c.loop-next.self.entries o) at
    (cut-meets (AnswersForEntry g.P.BasePtr.numbers g.F.FnMut) g.P.Gen.BasePtrGen.greatest c.args.self.now c.args.f c.loop-next.self (option_map g.P.BasePtr.numbers c.loop-next.next) c.loop-next.f c.loop-next.invariant.sound.distinct
    c.loop-next.invariant.retains (g.P.BasePtr.numbers c.in-Some.p) at)

-- the next entry was asked for
stepped : (g : _) (c : goal.After-ask_entry-next g) → Stepped (AnswersForEntry g.P.BasePtr.numbers g.F.FnMut) g.P.Gen.BasePtrGen.greatest c.args.self.now c.args.f c.loop-next.self (option_map g.P.BasePtr.numbers c.loop-next.next) c.loop-next.f
    c.loop-next.invariant.sound.distinct c.loop-next.invariant.retains (g.P.BasePtr.numbers c.in-Some.p) (ap (option_map g.P.BasePtr.numbers) c.in-Some.is) c.ask_entry-next.new.self
    (option_map g.P.BasePtr.numbers c.ask_entry-next.result) c.ask_entry-next.new.f
stepped g c =
    let at = ap (option_map g.P.BasePtr.numbers) c.in-Some.is in
    retains-more (AnswersForEntry g.P.BasePtr.numbers g.F.FnMut) g.P.Gen.BasePtrGen.greatest c.args.self.now c.args.f c.loop-next.self (option_map g.P.BasePtr.numbers c.loop-next.next) c.loop-next.f c.loop-next.invariant.sound.distinct
    c.loop-next.invariant.retains (g.P.BasePtr.numbers c.in-Some.p) at c.ask_entry-next.new.self (option_map g.P.BasePtr.numbers c.ask_entry-next.result) c.ask_entry-next.new.f
    (subst (λ (o : Option (ℕ × ℕ)). (cut : IsCutAt c.loop-next.self.entries o) → AsksFor (AnswersForEntry g.P.BasePtr.numbers g.F.FnMut) g.P.Gen.BasePtrGen.greatest c.loop-next.self o cut c.loop-next.f c.ask_entry-next.new.f c.ask_entry-next.new.self
    (option_map g.P.BasePtr.numbers c.ask_entry-next.result)) (sym at) c.ask_entry-next.ensures.asks)

pub loop-next-preserved : goal.loop-next-preserved
loop-next-preserved g c = record { callable = c.ask_entry-next.ensures.still_callable; sound = c.ask_entry-next.ensures.sound; retains = (stepped g c).retains }

pub loop-next-smaller : goal.loop-next-smaller
loop-next-smaller g c =
    left-fewer (AnswersForEntry g.P.BasePtr.numbers g.F.FnMut) g.P.Gen.BasePtrGen.greatest c.args.self.now c.args.f c.loop-next.self (option_map g.P.BasePtr.numbers c.loop-next.next) c.loop-next.f c.loop-next.invariant.sound.distinct
    c.loop-next.invariant.retains (g.P.BasePtr.numbers c.in-Some.p) (ap (option_map g.P.BasePtr.numbers) c.in-Some.is) c.ask_entry-next.new.self (option_map g.P.BasePtr.numbers c.ask_entry-next.result) c.ask_entry-next.new.f
    c.ask_entry-next.ensures.sound.distinct (stepped g c)

pub returns-clause-filtered : goal.returns-clause-filtered
returns-clause-filtered g c =
    (retains-done (AnswersForEntry g.P.BasePtr.numbers g.F.FnMut) g.P.Gen.BasePtrGen.greatest c.args.self.now c.args.f c.loop-next.self (option_map g.P.BasePtr.numbers c.loop-next.next) c.loop-next.f c.loop-next.invariant.sound.distinct
    c.loop-next.invariant.retains (ap (option_map g.P.BasePtr.numbers) c.in_default.is)).0
