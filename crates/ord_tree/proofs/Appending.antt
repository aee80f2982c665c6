-- Appending: an entry behind the last one, and one more item of many.
use Rattle.std.proofs.Common.{◌≡◌, ℕ, ◌+◌, List, [], ◌∷◌, ◌++◌, map, refl, ap, subst, arith, length, length-append, Result, Ok, Err, ◌<◌}
use Rattle.std.proofs.lemmas.List.{map-append}
use Rattle.std.specs.{List.AllZip, Prelude.IfOk, Prelude.IsErr, Prelude.◌↔◌}
use Rattle.chain_base.specs.{Chain.Entry, Chain.Chain, Insert.IsInsertion}
use Rattle.ord_tree.specs.{declared.node.SimpleOrdArenaNode.SimpleOrdArenaNode as Node, Node.bare_entry, Node.bare, Append.Appends, Append.AppendsOne}
use Rattle.ord_tree.proofs.Grown.{IsInsertion-bare, inserted-entries}

module _ {T : Type 0} where
  -- one more item
  pub Appends-more : (old middle new : Chain T) (ts : List T) (t : T) (p : ℕ × ℕ) → Appends old ts middle → AppendsOne middle t p new → Appends old (ts ++ t ∷ []) new
  Appends-more old middle new [] t p before one = (new, p, subst (λ (c : Chain T). AppendsOne c t p new) before one, refl)
  Appends-more old middle new (u ∷ ts) t p before one = (before.0, before.1, before.2, Appends-more before.0 middle new ts t p before.3 one)

-- an insertion behind all entries that isn't refused appends one item to the list without the nodes
module _ {P T I G Q E : Type 0} (numbers : Q → ℕ × ℕ) (old new : Chain (Node P T I G)) (leaf : Node P T I G) (room : length old.entries < old.capacity) where
  pub appended : (r : Result Q E) → IfOk r (λ p. IsInsertion old new (λ e. old.entries ++ e ∷ []) leaf (numbers p).0 (numbers p).1) → (IsErr r ↔ (length old.entries ≡ old.capacity))
      → (p : ℕ × ℕ) × AppendsOne (bare old) leaf.t p (bare new)
  appended (Err e) ok full = absurd (let none = full.0 refl in omega arith)
  appended (Ok p) ok full =
      (numbers p, IsInsertion-bare old new new (λ e. old.entries ++ e ∷ []) (λ e. map bare_entry old.entries ++ e ∷ []) leaf (numbers p).0 (numbers p).1 (λ e. map-append bare_entry old.entries (e ∷ [])) refl ok)

  pub appended-count : (r : Result Q E) → IfOk r (λ p. IsInsertion old new (λ e. old.entries ++ e ∷ []) leaf (numbers p).0 (numbers p).1) → (IsErr r ↔ (length old.entries ≡ old.capacity))
      → length new.entries ≡ length old.entries + 1
  appended-count (Err e) ok full = absurd (let none = full.0 refl in omega arith)
  appended-count (Ok p) ok full =
      let e : Entry (Node P T I G) = record { index = (numbers p).0; generation = (numbers p).1; item = leaf } in
      omega (arith, ap length (inserted-entries old new (λ e. old.entries ++ e ∷ []) e ok), length-append old.entries (e ∷ []))

pub AllZip-more : {A B : Type 0} (R : A → B → Type 0) (xs : List A) (ys : List B) (x : A) (y : B) → AllZip R xs ys → R x y → AllZip R (xs ++ x ∷ []) (ys ++ y ∷ [])
AllZip-more R [] [] x y before one = (one, tt)
AllZip-more R [] (b ∷ ys) x y before one = absurd before
AllZip-more R (a ∷ xs) [] x y before one = absurd before
AllZip-more R (a ∷ xs) (b ∷ ys) x y before one = (before.0, AllZip-more R xs ys x y before.1 one)
