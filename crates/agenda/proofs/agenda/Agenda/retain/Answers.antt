use Rattle.agenda.specs.{Agenda.greatest_generation, Answer.AnswersForJob}
use Rattle.agenda.proofs.{Retaining.Stepped, Retaining.retains-none, Retaining.cut-meets, Retaining.retains-more, Retaining.retains-filtered, Retaining.retains-after, Retaining.retains-count, Retaining.filtered-part, Retaining.left-fewer, Stepping.thins}
use Rattle.agenda.proofs.agenda.Agenda.retain.Goals as goal

pub loop-next-init : goal.loop-next-init
loop-next-init g c = record {
  callable = c.requires;
  sound = c.first-next.ensures.sound;
  retains = retains-none (AnswersForJob g.F.FnMut) greatest_generation c.args.self.now c.args.f c.first-next.result c.first-next.ensures.value;
}

pub ask-next-requires-clause-named : goal.ask-next-requires-clause-named
ask-next-requires-clause-named g c =
    cut-meets (AnswersForJob g.F.FnMut) greatest_generation c.args.self.now c.args.f c.loop-next.self c.loop-next.next c.loop-next.f c.loop-next.invariant.sound.distinct c.loop-next.invariant.retains c.in-Some.ticket c.in-Some.is

-- the next job was asked for
stepped : (g : _) (c : goal.After-ask-next g) → Stepped (AnswersForJob g.F.FnMut) greatest_generation c.args.self.now c.args.f c.loop-next.self c.loop-next.next c.loop-next.f c.loop-next.invariant.sound.distinct c.loop-next.invariant.retains c.in-Some.ticket c.in-Some.is
    c.ask-next.new.self c.ask-next.result c.ask-next.new.f
stepped g c =
    retains-more (AnswersForJob g.F.FnMut) greatest_generation c.args.self.now c.args.f c.loop-next.self c.loop-next.next c.loop-next.f c.loop-next.invariant.sound.distinct c.loop-next.invariant.retains c.in-Some.ticket c.in-Some.is
    c.ask-next.new.self c.ask-next.result c.ask-next.new.f c.ask-next.ensures.asks

pub loop-next-preserved : goal.loop-next-preserved
loop-next-preserved g c = record { callable = c.ask-next.ensures.still_callable; sound = c.ask-next.ensures.still_sound; retains = (stepped g c).retains }

pub loop-next-smaller : goal.loop-next-smaller
loop-next-smaller g c =
    left-fewer (AnswersForJob g.F.FnMut) greatest_generation c.args.self.now c.args.f c.loop-next.self c.loop-next.next c.loop-next.f c.loop-next.invariant.sound.distinct c.loop-next.invariant.retains c.in-Some.ticket c.in-Some.is
    c.ask-next.new.self c.ask-next.result c.ask-next.new.f c.ask-next.ensures.still_sound.distinct (stepped g c)

pub returns-clause-filtered : goal.returns-clause-filtered
returns-clause-filtered g c =
    retains-filtered (AnswersForJob g.F.FnMut) greatest_generation c.args.self.now c.args.f c.loop-next.self c.loop-next.next c.loop-next.f c.loop-next.invariant.sound.distinct c.loop-next.invariant.retains c.in_default.is

pub returns-clause-after : goal.returns-clause-after
returns-clause-after g c =
    retains-after (AnswersForJob g.F.FnMut) greatest_generation c.args.self.now c.args.f c.loop-next.self c.loop-next.next c.loop-next.f c.loop-next.invariant.sound.distinct c.loop-next.invariant.retains c.in_default.is

pub returns-clause-count : goal.returns-clause-count
returns-clause-count g c =
    retains-count (AnswersForJob g.F.FnMut) greatest_generation c.args.self.now c.args.f c.loop-next.self c.loop-next.next c.loop-next.f c.loop-next.invariant.sound.distinct c.loop-next.invariant.retains c.in_default.is

pub returns-clause-step : goal.returns-clause-step
returns-clause-step g c = thins _ _ c.first-next.ensures.sound (filtered-part (AnswersForJob g.F.FnMut) _ _ _ (returns-clause-filtered g c)) (returns-clause-after g c)
