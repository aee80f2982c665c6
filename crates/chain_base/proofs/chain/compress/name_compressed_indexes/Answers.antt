use Rattle.std.proofs.Common.{◌≡◌, ℕ, ◌+◌, ◌<◌, ◌≤◌, length, Option, Some, sym, ap, ◌∙◌, rules, arith, refl, option_map}
use Rattle.arena_base.specs.{Pointer.named_of, Arena.Arena, Arena.slot}
use Rattle.chain_base.specs.Naming.{linked_facing}
use Rattle.chain_base.proofs.chain.compress.name_compressed_indexes.Goals.{in-Some, then-is_none, else-is_none, in_default}
use Rattle.chain_base.proofs.Naming.{named_neighbour-begins, named_neighbour-vacant, named_neighbour-step, named_neighbour-target, named_neighbour-ends, index-made, neighbour-above}
use Rattle.chain_base.proofs.chain.compress.name_compressed_indexes.Goals as goal

pub loop-position-init : goal.loop-position-init
loop-position-init g c = named_neighbour-begins c.args.side c.args.arena.now c.capacity-position-end.ensures.sound.begins

pub unwrap-index-requires : goal.unwrap-index-requires
unwrap-index-requires g c =
    c.try_from_usize.ensures.variant.1 (omega arith, omega (arith, c.capacity-position-end.ensures.limit, c.capacity-position-end.ensures.value))

pub overflow_add-count : goal.overflow_add-count
overflow_add-count g c =
    omega (arith, c.loop-position.invariant.fewer, c.try_from_usize.ensures.variant, c.capacity-position-end.ensures.limit, c.capacity-position-end.ensures.value)

-- the entry at this index
module _ {I G X L : Type 0} (number : I → ℕ) (era : G → ℕ) (seen : X → L) (a : Arena L) (i : I) (n : ℕ) (at : number i ≡ n) (r o : Option (G × X)) where
  read : option_map (λ (e : G × X). (era e.0, seen e.1)) r ≡ slot a (number i) → r ≡ o → slot a n ≡ option_map (λ e. (era e.0, seen e.1)) o
  read is same = rw (← at, ← same) (sym is)

pub link_facing-requires : goal.link_facing-requires
link_facing-requires g c = λ i is.
    let at = c.loop-position in
    let number = g.P.Inx.BasePtrInx.number in
    let held = read number g.P.Gen.BasePtrGen.number _ at.arena c.unwrap-index.result (at.position + 1) (search rules) c.get_inx.result _ c.get_inx.ensures c.in-Some.is in
    named_neighbour-target c.args.side c.args.arena.now at.arena at.count _ (at.position + 1) at.invariant (omega (arith, c.capacity-position-end.ensures.value)) c.requires _ held (number i)
    (sym c.neighbour_on-neighbour.ensures ∙ ap (option_map number) is)

pub loop-position-preserved : goal.loop-position-preserved
loop-position-preserved g c =
    let at = c.loop-position in
    let number = g.P.Inx.BasePtrInx.number in
    let inside : at.position + 1 < length c.args.arena.now.slots = omega (arith, c.capacity-position-end.ensures.value) in
    elim c.match-get_inx.branch [
      | in-Some w ↦
          let held = read number g.P.Gen.BasePtrGen.number _ at.arena c.unwrap-index.result (at.position + 1) (search rules) c.get_inx.result _ c.get_inx.ensures w.in-Some.is in
          let within : at.count + 1 ≤ g.P.Inx.BasePtrInx.most = omega (arith, at.invariant.fewer, c.capacity-position-end.ensures.limit, c.capacity-position-end.ensures.value) in
          let made : option_map number w.try_from_usize-here.result ≡ Some (at.count + 1) =
          index-made number g.P.Inx.BasePtrInx.most (at.count + 1) w.try_from_usize-here.result w.try_from_usize-here.ensures.variant w.try_from_usize-here.ensures.value (omega arith) within in
          let linked = w.link_facing.ensures ∙ ap (linked_facing c.args.side at.arena (option_map number w.neighbour_on-neighbour.result))
          (ap named_of made ∙ neighbour-above (at.count + 1) (omega arith)) in
          elim w.if-is_none.branch [
            | then-is_none v ↦ rw (w.arena-is, w.end-is, v.end-is, w.count-is)
                (named_neighbour-step c.args.side c.args.arena.now at.arena at.count _ (at.position + 1) at.invariant inside c.requires _ held _ w.neighbour_on-neighbour.ensures _ (λ none. made) (λ some. grind arith) _ linked)
            | else-is_none v ↦ rw (w.arena-is, w.end-is, v.end-is, w.count-is)
                (named_neighbour-step c.args.side c.args.arena.now at.arena at.count _ (at.position + 1) at.invariant inside c.requires _ held _ w.neighbour_on-neighbour.ensures (option_map number at.end) (λ none. grind arith) (λ some. refl) _ linked)
          ]
      | in_default w ↦ rw (w.arena-is, w.end-is, w.count-is)
          (named_neighbour-vacant c.args.side c.args.arena.now at.arena at.count _ (at.position + 1) at.invariant inside c.requires
          (read number g.P.Gen.BasePtrGen.number _ at.arena c.unwrap-index.result (at.position + 1) (search rules) c.get_inx.result _ c.get_inx.ensures w.in_default.is))
    ]

pub returns-clause-names : goal.returns-clause-names
returns-clause-names g c =
    named_neighbour-ends c.args.side c.args.arena.now c.loop-position.arena c.loop-position.count _ (c.loop-position.position + 1) c.loop-position.invariant
    (omega (arith, c.capacity-position-end.ensures.value)) c.capacity-position-end.ensures.sound.begins
