use Rattle.std.proofs.Common.{◌++◌, string_bytes, ap, ◌∙◌, sym}
use Rattle.std.specs.Prelude.{flat_map}
use Rattle.std.proofs.lemmas.List.{map-id}
use Rattle.std.proofs.lemmas.Iterator.{YieldsList-from_chars}
use Rattle.std.proofs.lemmas.Iterator.Consumers.{YieldsList-end}
use Rattle.tree_picture.specs.Text.{entity_of}
use Rattle.tree_picture.proofs.escaping.push_escaped.Goals as goal

pub returns : goal.returns
returns g c =
    let t = YieldsList-end (YieldsList-from_chars c.args.text.now c.utf8.text cc) c.loop-c.yielded _ c.loop-c.yielded_by _ _ c.in-None.is c.next.ensures.steps in
    c.loop-c.invariant ∙ ap (λ cs. string_bytes c.args.xml.now ++ flat_map entity_of cs) (sym (map-id c.loop-c.yielded) ∙ t.0)
