use Rattle.std.proofs.Common.{◌∙◌, ap, sym}
use Rattle.std.specs.Prelude.{encode_utf8, flat_map}
use Rattle.std.proofs.lemmas.List.{map-id}
use Rattle.std.proofs.lemmas.Iterator.{YieldsList-from_chars, YieldsList-from_take}
use Rattle.std.proofs.lemmas.Iterator.Consumers.{YieldsList-end}
use Rattle.tree_picture.proofs.key_text.beginning.Goals as goal

pub returns : goal.returns
returns g c =
    let all = YieldsList-from_take c.args.n (YieldsList-from_chars c.args.text.now c.utf8.text cc) (cc) in
    let t = YieldsList-end all c.loop-c.yielded _ c.loop-c.yielded_by _ _ c.in-None.is c.next.ensures.steps in
    c.loop-c.invariant ∙ ap (flat_map encode_utf8) (sym (map-id c.loop-c.yielded) ∙ t.0)
