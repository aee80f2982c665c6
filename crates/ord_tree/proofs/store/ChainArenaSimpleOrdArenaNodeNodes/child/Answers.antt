use Rattle.std.proofs.{Common.◌≡◌, Common.sym, Common.◌∙◌, Common.ap, Common.option_map, lemmas.Option.same_Some}
use Rattle.ord_tree.specs.{TreeLinks.as_numbers, TreeLinks.child_at, Node.links_in}
use Rattle.ord_tree.proofs.Reading.{same-link}
use Rattle.ord_tree.proofs.store.ChainArenaSimpleOrdArenaNodeNodes.child.Goals.{in-Lesser, in-Greater}
use Rattle.ord_tree.proofs.store.ChainArenaSimpleOrdArenaNodeNodes.child.Goals as goal

pub returns : goal.returns
returns g c = λ links shown.
    let number = g.P.Inx.BasePtrInx.number in
    let node = c.entry.result.1.now in
    let there = rw c.get.ensures.value at c.entry.ensures in
    let read : links_in node ≡ as_numbers number links = same_Some _ _ (sym (ap (option_map (λ e. links_in e.1)) there) ∙ shown) in
    let one = g.met.P.Inx.BasePtrInx.one_each in
    elim c.match-side.branch [
      | in-Lesser w ↦ same-link number one _ _ (c.link_in.ensures ∙ ap (λ l. l.now) w.link-is ∙ ap (λ n. n.lesser) read) ∙ ap (λ s. child_at s links) (sym w.in-Lesser.is)
      | in-Greater w ↦ same-link number one _ _ (c.link_in.ensures ∙ ap (λ l. l.now) w.link-is ∙ ap (λ n. n.greater) read) ∙ ap (λ s. child_at s links) (sym w.in-Greater.is)
    ]
