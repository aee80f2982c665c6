use Rattle.std.proofs.Common.{◌∙◌, sym}
use Rattle.timeline.proofs.{Places.value-found, Around.held-around}
use Rattle.timeline.proofs.changes.held_at.Goals as goal

pub returns : goal.returns
returns g c =
    c.value_of.ensures ∙ value-found c.args.changes.now.entries c.around.ensures.distinct c.around.ensures.front c.around.ensures.back c.around.ensures.cut _ c.around.ensures.before_is
    ∙ sym (held-around c.args.changes.now.entries c.args.time c.around.result c.around.ensures)
