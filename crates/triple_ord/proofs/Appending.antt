-- An append of many items, one after another: what the list and the pointers are then.
use Rattle.ord_tree.specs.{Append.AppendsOne, Append.Appends, Half.IsRebuilt}
use Rattle.ord_tree.proofs.CallerLemmas.{numbers-one, numbers-appended}
use Rattle.triple_ord.specs.Append.{Extends, AppendsAll}
use Rattle.triple_ord.proofs.Words.{◌≡◌, ◌≢◌, ◌↔◌, ℕ, ◌+◌, ◌<◌, List, [], ◌∷◌, ◌++◌, Some, None, is_some, true, map, length, length-map, length-append, append-nil, append_assoc, refl, sym, ap, subst, ◌∙◌, arith, common_steps, inl, inr, cases_eq, Result, Ok, Err}
use Rattle.triple_ord.proofs.Words.{Entry, Chain, Tree, missing, after-insertion, item_of, count, Updates}
use Rattle.triple_ord.proofs.CallerLemmas.{inserted-new}
use Rattle.std.proofs.lemmas.List.{map-append}
use Rattle.std.specs.{List.AllZip, Prelude.OnOk, Prelude.OnErr, Prelude.IsErr, Prelude.IfErr, Prelude.Vec, Prelude.vec_len}

module _ {T : Type 0} where
  -- one item
  module _ (old new : Chain T) (t : T) (p : ℕ × ℕ) (one : AppendsOne old t p new) where
    abbrev entry : Entry T
    entry = record { index = p.0; generation = p.1; item = t }

    -- the entries
    pub listed-one : new.entries ≡ old.entries ++ entry ∷ []
    listed-one = ap (λ (c : Chain T). c.entries) (after-insertion old new _ t p.0 p.1 one).1

    items-one : map (λ e. e.item) new.entries ≡ map (λ e. e.item) old.entries ++ t ∷ []
    items-one = ap (map (λ (e : Entry T). e.item)) listed-one ∙ map-append (λ (e : Entry T). e.item) old.entries (entry ∷ [])

    abbrev tree : Chain T → Tree T
    tree c = record { list = c; shape = missing }

    found-one : (item_of (tree old) p ≡ None) × Updates (tree old) (tree new) p (Some t) × (count (tree new) ≡ count (tree old) + 1)
    found-one = inserted-new (tree old) (tree new) old refl (record { front = old.entries; back = []; cut = sym (append-nil old.entries) }) t p one

  -- many items
  pub items-appended : (old new : Chain T) (ts : List T) → Appends old ts new → map (λ e. e.item) new.entries ≡ map (λ e. e.item) old.entries ++ ts
  items-appended old new [] is = ap (λ (c : Chain T). map (λ (e : Entry T). e.item) c.entries) is ∙ sym (append-nil (map (λ (e : Entry T). e.item) old.entries))
  items-appended old new (t ∷ ts) more =
      items-appended more.0 new ts more.3 ∙ ap (λ xs. xs ++ ts) (items-one old more.0 t more.1 more.2) ∙ append_assoc (map (λ (e : Entry T). e.item) old.entries) (t ∷ []) ts

  pub count-appended : (old new : Chain T) (ts : List T) → Appends old ts new → length new.entries ≡ length old.entries + length ts
  count-appended old new ts more =
      omega (
        arith,
        ap length (items-appended old new ts more),
        length-map old.entries (λ (e : Entry T). e.item),
        length-map new.entries (λ (e : Entry T). e.item),
        length-append (map (λ (e : Entry T). e.item) old.entries) ts,
      )

  pub extends-appended : (old new : Tree T) (ts : List T) → Appends old.list ts new.list → Extends old new
  extends-appended old new [] is = record {
    kept = λ p some. ap (λ (c : Chain T). item_of (record { list = c; shape = missing }) p) is;
    added = λ p none some. absurd (let same : item_of new p ≡ item_of old p = ap (λ (c : Chain T). item_of (record { list = c; shape = missing }) p) is in
        let found : is_some (item_of new p) ≡ true = some in let lost = ap is_some (same ∙ none) in cc);
  }
  extends-appended old new (t ∷ ts) more =
      let middle : Tree T = record { list = more.0; shape = missing } in
      let p = more.1 in
      let found = found-one old.list more.0 t p more.2 in
      let rest = extends-appended middle new ts more.3 in
      record {
        kept = λ q some.
            let apart : q ≢ p = λ same. let none = found.0 in let there : is_some (item_of old q) ≡ true = some in let lost = ap (item_of old) same in cc in
            let same = found.1.others q apart in
            rest.kept q (ap is_some same ∙ some) ∙ same;
        added = λ q none some. elim (cases_eq q.1 p.1) [
          | inl era ↦ era ∙ more.2.generation
          | inr other ↦ rest.added q (found.1.others q (λ same. other (ap (λ (x : ℕ × ℕ). x.1) same)) ∙ none) some ∙ (numbers-one old.list more.0 t p more.2).0
        ];
      }

-- items that are made of others alike are these
pub same-zipped : {T : Type 0} (xs ys : List T) → AllZip (λ x y. y ≡ x) xs ys → ys ≡ xs
same-zipped (x ∷ xs) (y ∷ ys) all = let rest = same-zipped xs ys all.1 in let first = all.0 in cc
same-zipped xs ys all = grind (arith, common_steps)

-- what a call of the tree that may be refused means for pointers
module _ {T B : Type 0} (old new : Tree T) (added : Vec T B) (len : vec_len added ≡ length added.items) where
  pub appends-all : (r : Result (Unit {0}) (Vec T B)) → OnOk r ((ts : List T) × AllZip (λ x y. y ≡ x) added.items ts × Appends old.list ts new.list)
      → OnErr r (new ≡ old) → OnOk r (0 < vec_len added → IsRebuilt new.shape) → (added.items ≡ [] → new ≡ old)
      → IsErr r ↔ (old.list.capacity < length old.list.entries + vec_len added) → IfErr r (λ given. given ≡ added) → AppendsAll old added r new
  appends-all (Ok u) ok err shape none full back =
      let more = subst (λ (ys : List T). Appends old.list ys new.list) (same-zipped added.items ok.0 ok.1) ok.2 in
      let numbers = numbers-appended old.list new.list added.items more in
      record {
        items = items-appended old.list new.list added.items more;
        found = extends-appended old new added.items more;
        capacity = numbers.1;
        generation = numbers.0;
        appends = more;
        shape = shape;
        none = none;
        full = full;
        back = back;
        err = err;
        count = omega (arith, len, count-appended old.list new.list added.items more);
      }
  appends-all (Err e) ok err shape none full back =
      record {
        items = tt;
        found = tt;
        appends = tt;
        shape = tt;
        count = tt;
        capacity = ap (λ (t : Tree T). t.list.capacity) err;
        generation = ap (λ (t : Tree T). t.list.generation) err;
        none = none;
        full = full;
        back = back;
        err = err;
      }
