use Rattle.std.proofs.Common.{◌≡◌, ◌≤◌, List, length, true, false, arith, ap, sym, subst}
use Rattle.std.specs.List.{Sorted.IsPartitionPoint}
use Rattle.leaf_row.specs.Before.{is_passed, IsWithinHalvings}
use Rattle.leaf_row.proofs.Zipping.{long}
use Rattle.leaf_row.proofs.Naming.{of_keys}
use Rattle.leaf_row.proofs.row.Row.count_before.Goals as goal

pub returns-clause-within : goal.returns-clause-within
returns-clause-within g c =
    omega (arith, long _ _ _ c.self.view_is c.self.invariant.0 c.self.invariant.2, c.count_before.ensures.within, ap length c.as_slice.ensures.value)

pub returns-clause-place : goal.returns-clause-place
returns-clause-place g c = λ q b i.
    let size = long _ _ _ c.self.view_is c.self.invariant.0 c.self.invariant.2 in
    let ks = c.self.inside.keys.items in let ns = c.self.inside.names.items in
    let few : length ks ≤ length ns = omega (arith, c.self.invariant.0, c.self.invariant.2) in
    let front = of_keys (λ y. is_passed c.args.with_equals (g.K.Ord.cmp c.args.k.now y) ≡ true) ks ns c.args.self.now 0 q c.self.view_is few (omega arith) i.0 in
    let back = of_keys (λ y. is_passed c.args.with_equals (g.K.Ord.cmp c.args.k.now y) ≡ false) ks ns c.args.self.now q (length ks) c.self.view_is few (omega arith)
    (λ k d a h. i.1 k d a (omega arith)) in
    let point : IsPartitionPoint (λ y. is_passed c.args.with_equals (g.K.Ord.cmp c.args.k.now y) ≡ true)
    (λ y. is_passed c.args.with_equals (g.K.Ord.cmp c.args.k.now y) ≡ false) ks q = (front, back) in
    c.count_before.ensures.place q (omega (arith, ap length c.as_slice.ensures.value))
    (subst (λ (l : List g.row.K.Denot). IsPartitionPoint (λ y. is_passed c.args.with_equals (g.K.Ord.cmp c.args.k.now y) ≡ true)
    (λ y. is_passed c.args.with_equals (g.K.Ord.cmp c.args.k.now y) ≡ false) l q) (sym c.as_slice.ensures.value) point)

pub returns-clause-visits : goal.returns-clause-visits
returns-clause-visits g c =
    let size : length c.as_slice.result.now ≡ length c.args.self.now =
    omega (arith, long _ _ _ c.self.view_is c.self.invariant.0 c.self.invariant.2, ap length c.as_slice.ensures.value) in
    subst (λ n. IsWithinHalvings n c.count_before.result.1) size c.count_before.ensures.visits
