-- Calls that write one leaf, or two.
use Rattle.std.proofs.Common.{◌≡◌, ◌≢◌, ℕ, ◌+◌, ◌-◌, List, [], ◌∷◌, map, length, get_or, set, Option, Some, arith, ap, sym, ◌∙◌, refl}
use Rattle.std.proofs.lemmas.List.{length-set}
use Rattle.triple_ord.specs.Chain.{IsSound}
use Rattle.triple_ord.specs.Tree.{Tree, with_item}
use Rattle.leaf_list.specs.Leaves.{Leaves}
use Rattle.leaf_list.specs.Parts.{HasLeaf, with_entries}
use Rattle.leaf_list.specs.Layout.{shown, leaves_of, AreStored}
use Rattle.leaf_list.proofs.Storing.{some-second, no-zero, is-here, IsHere}
use Rattle.leaf_list.proofs.Writing.{set-own, set-other, row-view, row-stored, both-view, both-stored, two-view, two-stored}

-- a store that is as it should be
pub record IsDone {K I : Type 0} (number : I → ℕ) (index : Tree (K × I)) (rows : List (List (K × I))) (now : Leaves K) : Type 0 where
  pub stored : AreStored index rows
  pub view : leaves_of number index rows ≡ now

pub same-item : {K I : Type 0} (o : Option (ℕ × (K × I))) (g h : ℕ) (x y : K × I) → o ≡ Some (g, x) → o ≡ Some (h, y) → x ≡ y
same-item o g h x y one other = some-second g h x y (sym one ∙ other)

module _ {K I : Type 0} (number : I → ℕ) (index : Tree (K × I)) (rows : List (List (K × I))) (now : Leaves K) (view : leaves_of number index rows ≡ now)
    (are_stored : AreStored index rows) (most : ℕ) (greatest : Option ℕ) (sound : IsSound most greatest index.list) where
  module _ (n : ℕ) (has : HasLeaf now.leaves n) (row : ℕ) (place : row + 1 ≡ n) (after : List (K × I)) where
    abbrev h : IsHere number index rows now view are_stored most greatest sound n
    h = is-here number index rows now view are_stored most greatest sound n has

    at : row ≡ n - 1
    at = omega arith

    own : get_or (set rows row after) (n - 1) [] ≡ after
    own = let there = h.row_there in ap (λ (i : ℕ). get_or (set rows row after) i []) (sym at) ∙ set-own rows row after (omega (arith, at))

    -- the row is written
    pub row-done : IsDone number index (set rows row after) (record now { leaves = with_entries now.leaves n (shown number h.item ∷ map (shown number) after) })
    row-done = record {
      stored = row-stored number index rows now view are_stored n h.generation h.item h.above (no-zero most greatest index.list sound) (sound.distinct n) h.there (set rows row after)
          (λ j other. set-other rows row j after (λ same. other (same ∙ at))) (let size = length-set rows row after in omega arith);
      view = row-view number index rows now view are_stored n h.generation h.item h.above (no-zero most greatest index.list sound) (sound.distinct n) h.there (set rows row after)
          (λ j other. set-other rows row j after (λ same. other (same ∙ at))) (let size = length-set rows row after in omega arith)
          ∙ ap (λ (r : List (K × I)). record now { leaves = with_entries now.leaves n (shown number h.item ∷ map (shown number) r) }) own;
    }

    -- and the first entry
    pub both-done : (item : K × I) → IsDone number (with_item index n item) (set rows row after) (record now { leaves = with_entries now.leaves n (shown number item ∷ map (shown number) after) })
    both-done item = record {
      stored = both-stored number index rows now view are_stored n h.generation h.item h.above (no-zero most greatest index.list sound) (sound.distinct n) h.there (set rows row after)
          (λ j other. set-other rows row j after (λ same. other (same ∙ at))) (let size = length-set rows row after in omega arith) (with_item index n item) item refl refl refl;
      view = both-view number index rows now view are_stored n h.generation h.item h.above (no-zero most greatest index.list sound) (sound.distinct n) h.there (set rows row after)
          (λ j other. set-other rows row j after (λ same. other (same ∙ at))) (let size = length-set rows row after in omega arith) (with_item index n item) item refl refl refl
          ∙ ap (λ (r : List (K × I)). record now { leaves = with_entries now.leaves n (shown number item ∷ map (shown number) r) }) own;
    }

  -- the first entry alone is written
  pub head-done : (n : ℕ) (has : HasLeaf now.leaves n) (item : K × I)
      → IsDone number (with_item index n item) rows (record now { leaves = with_entries now.leaves n (shown number item ∷ map (shown number) (get_or rows (n - 1) [])) })
  head-done n has item =
      let h = is-here number index rows now view are_stored most greatest sound n has in record {
        stored = both-stored number index rows now view are_stored n h.generation h.item h.above (no-zero most greatest index.list sound) (sound.distinct n) h.there rows
            (λ j other. refl) (omega arith) (with_item index n item) item refl refl refl;
        view = both-view number index rows now view are_stored n h.generation h.item h.above (no-zero most greatest index.list sound) (sound.distinct n) h.there rows
            (λ j other. refl) (omega arith) (with_item index n item) item refl refl refl;
      }

  -- two rows are written
  pub two-done : (n m : ℕ) (from : HasLeaf now.leaves n) (to : HasLeaf now.leaves m) → n ≢ m → (i j : ℕ) → i + 1 ≡ n → j + 1 ≡ m → (after : List (List (K × I))) → length after ≡ length rows
      → ((k : ℕ) → k ≢ i → k ≢ j → get_or after k [] ≡ get_or rows k [])
      → IsDone number index after (record now {
        leaves = with_entries
            (with_entries now.leaves n (shown number (is-here number index rows now view are_stored most greatest sound n from).item ∷ map (shown number) (get_or after (n - 1) []))) m
            (shown number (is-here number index rows now view are_stored most greatest sound m to).item ∷ map (shown number) (get_or after (m - 1) []));
      })
  two-done n m from to apart i j first second after long others =
      let h = is-here number index rows now view are_stored most greatest sound n from in
      let l = is-here number index rows now view are_stored most greatest sound m to in
      let at : n - 1 ≡ i = omega arith in
      let at_too : m - 1 ≡ j = omega arith in record {
        stored = two-stored number index rows now view are_stored (no-zero most greatest index.list sound) sound.distinct n h.generation h.item h.above h.there m l.generation l.item l.above l.there apart
            h.row_there after long (λ k other differs. others k (λ same. other (same ∙ sym at)) (λ same. differs (same ∙ sym at_too)));
        view = two-view number index rows now view are_stored (no-zero most greatest index.list sound) sound.distinct n h.generation h.item h.above h.there m l.generation l.item l.above l.there apart
            h.row_there after long (λ k other differs. others k (λ same. other (same ∙ sym at)) (λ same. differs (same ∙ sym at_too)));
      }
