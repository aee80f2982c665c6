use Rattle.std.proofs.Common.{◌≡◌, ◌<◌, [], ◌∷◌, ◌++◌, length, string_bytes, arith, refl}
use Rattle.std.proofs.lemmas.List.Elements.{All-nil}
use Rattle.triple_ord.specs.Search.{pointer}
use Rattle.tree_picture.proofs.Listing.{cut_more, fewer, more-mapped, more-taken, more-shown, more-all}
use Rattle.tree_picture.specs.Framing.{IsUnframed}
use Rattle.tree_picture.proofs.layout.nodes_at.Goals as goal

pub loop-pointer-init : goal.loop-pointer-init
loop-pointer-init g c =
    ([], c.into_iter-pointer-iterator.ensures.into_iter_gives, rw c.in_ok-nodes.ensures.items refl, rw c.in_ok-nodes.ensures.items refl, rw c.in_ok-nodes.ensures.items tt, rw c.in_ok-nodes.ensures.items (All-nil IsUnframed))

pub bounds-places-len : goal.bounds-places-len
bounds-places-len g c =
    let so_far = c.loop-pointer.invariant in
    omega (arith, fewer (λ n. g.P.BasePtr.numbers n.pointer) pointer c.loop-pointer.nodes.items _ so_far.0 _ _ _ so_far.3 so_far.1 c.in-Some.ensures.steps, c.len.ensures, c.requires)

pub loop-pointer-preserved : goal.loop-pointer-preserved
loop-pointer-preserved g c =
    let so_far = c.loop-pointer.invariant in
    let room : length c.loop-pointer.nodes.items < length c.args.places.now =
    omega (arith, fewer (λ n. g.P.BasePtr.numbers n.pointer) pointer c.loop-pointer.nodes.items _ so_far.0 _ _ _ so_far.3 so_far.1 c.in-Some.ensures.steps, c.requires) in
    let is : c.len.result ≡ length c.loop-pointer.nodes.items = omega (arith, c.len.ensures) in
    let grown = c.in_ok-push.ensures.items in (
      so_far.0 ++ record { index = (g.P.BasePtr.numbers c.in-Some.pointer).0; generation = (g.P.BasePtr.numbers c.in-Some.pointer).1; item = c.in-Some.item.now } ∷ [],
      cut_more _ _ _ _ _ so_far.1 c.in-Some.ensures.steps,
      more-taken c.loop-pointer.nodes.items c.push.new.self.items _ grown (λ n. n.place) c.args.places.now _ c.len.result so_far.2 is room refl,
      more-mapped c.loop-pointer.nodes.items c.push.new.self.items _ grown (λ n. g.P.BasePtr.numbers n.pointer) pointer so_far.0 _ so_far.3 refl,
      more-shown g.T.Key.Display.output g.T.SimpleOrdItem.key_of (λ n. string_bytes n.key) c.loop-pointer.nodes.items c.push.new.self.items _ grown _ so_far.0 so_far.4 c.in_ok-key.ensures,
      more-all IsUnframed c.loop-pointer.nodes.items c.push.new.self.items _ grown so_far.5 refl,
    )
