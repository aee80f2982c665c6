use Rattle.triple_ord.proofs.{Words.sym, OtherEntries.none_before, OtherEntries.item_before, OtherEntries.occupied_before, Inserting.stands}
use Rattle.triple_ord.proofs.probe.Probe.show_previous.Goals.{in-Some, in-None}
use Rattle.triple_ord.proofs.probe.Probe.show_previous.Goals as goal

pub item_at-requires : goal.item_at-requires
item_at-requires g c =
    let s = stands _ _ c.requires.occupied in
    occupied_before _ c.args.self.now.distinct _ _ _ c.look-generation.ensures.linked s.front s.back s.entry s.here s.cut _ (sym c.in-Some.ensures.value)

pub returns-clause-previous : goal.returns-clause-previous
returns-clause-previous g c = λ front back e here cut. elim c.match-prev.branch [
  | in-Some w ↦
      rw w.previous-is (item_before _ c.args.self.now.distinct _ _ _ c.look-generation.ensures.linked front back e here cut _ (sym w.in-Some.ensures.value) _ w.item_at.ensures)
  | in-None w ↦
      rw w.previous-is (none_before _ c.args.self.now.distinct _ _ _ c.look-generation.ensures.linked front back e here cut (sym w.in-None.ensures.value))
]
