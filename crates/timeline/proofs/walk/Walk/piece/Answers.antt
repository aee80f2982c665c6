use Rattle.std.proofs.Common.{◌≡◌, [], ◌∙◌, sym}
use Rattle.std.specs.Option.{option_copied}
use Rattle.timeline.proofs.Walking.{pieces-none, walked, walked-behind, walked-far, walked-end, walked-lost}
use Rattle.timeline.proofs.walk.Walk.piece.Goals as goal
use Rattle.timeline.proofs.walk.Walk.piece.Goals.{in-Some+in-Some-get+then-time-self, in-Some+in-Some-get+else-time-self, in-None}

pub returns-then-self-clause-none : goal.returns-then-self-clause-none
returns-then-self-clause-none g c =
    let none : c.args.self.now ≡ [] = sym c.self.view_is ∙ pieces-none _ _ c.self.inside.from c.self.inside.until c.if-self.true in
    (none, none)

pub unreachable-requires : goal.unreachable-requires
unreachable-requires g c =
    walked-lost c.self.inside.changes.now.entries c.self.invariant.distinct c.self.inside.next c.self.invariant (option_copied c.self.inside.held) c.self.inside.from c.self.inside.until c.if-self.false
    c.in-Some.p c.in-Some.is c.in-None-get.ensures

pub invariant_of-self : goal.invariant_of-self
invariant_of-self g c = elim c.match-self.branch [
  | in-Some+in-Some-get+then-time-self w ↦
      rw w.self-inside-is (walked-behind c.self.inside.changes.now.entries c.self.invariant.distinct c.self.inside.next c.self.invariant (option_copied c.self.inside.held) c.self.inside.from c.self.inside.until c.if-self.false
      w.in-Some.p w.in-Some.is w.next-self-inside.result w.next-self-inside.ensures.value)
  | in-Some+in-Some-get+else-time-self w ↦ rw w.self-inside-is c.self.invariant
  | in-None w ↦ rw w.self-inside-is c.self.invariant
]

pub returns-clause-some : goal.returns-clause-some
returns-clause-some g c = sym c.self.view_is ∙ elim c.match-self.branch [
  | in-Some+in-Some-get+then-time-self w ↦
      rw w.self-inside-is (walked c.self.inside.changes.now.entries c.self.invariant.distinct c.self.inside.next c.self.invariant (option_copied c.self.inside.held) c.self.inside.from c.self.inside.until c.if-self.false
      w.in-Some.p w.in-Some.is (w.in-Some-get.time.now, w.in-Some-get.next.now) w.in-Some-get.ensures w.if-time-self.true w.next-self-inside.result w.next-self-inside.ensures.value _ w.as_ref-self-inside.ensures.value)
  | in-Some+in-Some-get+else-time-self w ↦
      rw w.self-inside-is (walked-far c.self.inside.changes.now.entries c.self.invariant.distinct c.self.inside.next c.self.invariant (option_copied c.self.inside.held) c.self.inside.from c.self.inside.until c.if-self.false
      w.in-Some.p w.in-Some.is (w.in-Some-get.time.now, w.in-Some-get.next.now) w.in-Some-get.ensures w.if-time-self.false)
  | in-None w ↦
      rw w.self-inside-is (walked-end c.self.inside.changes.now.entries c.self.invariant.distinct c.self.inside.next c.self.invariant (option_copied c.self.inside.held) c.self.inside.from c.self.inside.until c.if-self.false w.in-None.is)
]
