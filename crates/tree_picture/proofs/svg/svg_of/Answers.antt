use Rattle.tree_picture.specs.Svg.{svg_text}
use Rattle.tree_picture.proofs.Pieces.{five}
use Rattle.tree_picture.proofs.svg.svg_of.Goals as goal

pub returns : goal.returns
unfolding svg_text
returns g c =
    let head_is = rw c.from-height.ensures at c.in_ok-push_head.ensures in
    rw (← c.max.ensures, ← c.as_slice.ensures.value)
    (five _ _ _ _ _ c.new-xml.ensures.bytes head_is c.in_ok-push_str.ensures.bytes c.in_ok-push_panels.ensures c.in_ok-push_legend.ensures
    c.in_ok-push_str-2.ensures.bytes)
