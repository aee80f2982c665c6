use Rattle.std.proofs.Common.{ap, map, arith}
use Rattle.std.proofs.lemmas.List.{length-map}
use Rattle.timeline.specs.Layout.{change, changes_of}
use Rattle.timeline.proofs.Painting.{painted-sets}
use Rattle.timeline.proofs.timeline.Timeline.put.Goals as goal

pub invariant_of-self-2 : goal.invariant_of-self-2
invariant_of-self-2 g c =
    (painted-sets (changes_of c.self.inside.changes) _ c.args.from c.args.until c.args.value (changes_of c.paint.new.changes) c.self.invariant (ap (map change) c.make_room.ensures.entries) (c.is_empty.ensures.no c.if-is_empty.false) c.in-Ok.ensures.painted).1

pub returns-clause-set : goal.returns-clause-set
returns-clause-set g c =
    rw (← c.self.view_is)
    ((painted-sets (changes_of c.self.inside.changes) _ c.args.from c.args.until c.args.value (changes_of c.paint.new.changes) c.self.invariant (ap (map change) c.make_room.ensures.entries) (c.is_empty.ensures.no c.if-is_empty.false) c.in-Ok.ensures.painted).0)

pub returns-clause-lawful : goal.returns-clause-lawful
returns-clause-lawful g c =
    let are = (painted-sets (changes_of c.self.inside.changes) _ c.args.from c.args.until c.args.value (changes_of c.paint.new.changes) c.self.invariant (ap (map change) c.make_room.ensures.entries) (c.is_empty.ensures.no c.if-is_empty.false) c.in-Ok.ensures.painted).1 in
    let sound = c.paint.ensures.keeps.sound in
    record {
      rising = are.rising;
      joined = are.joined;
      within = omega (arith, length-map c.paint.new.changes.entries change, sound.within);
      limited = sound.limited;
    }
