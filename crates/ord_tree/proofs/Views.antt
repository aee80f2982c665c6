-- The nodes determine the shape that they form, and their parent links are the shape's parents.
use Rattle.std.proofs.Common.{◌≡◌, ℕ, zero, suc, ◌+◌, ◌≤◌, Option, Some, None, List, [], ◌∷◌, ◌++◌, length-append, option_map, arith, refl, sym, ◌∙◌, ap, inl, inr, ⊎_elim}
use Rattle.std.proofs.{lemmas.List.Elements.Contains-append_right, lemmas.Bool.cases_eq}
use Rattle.std.specs.List.{Contains}
use Rattle.chain_base.specs.Chain.{Chain}
use Rattle.ord_tree.specs.Slots.{Slots, Holds, Among, back_at, MovesBacks, Writes, Hangs, shape_under}
use Rattle.ord_tree.specs.{Shape.Shape, Shape.missing, Shape.node, Shape.height, Parents.HasParentUnder, Parents.MovesAtMost, declared.tree_links.TreeLinks.TreeLinks}

pub shape_under-held : (n : ℕ) (at : Slots) (over link : Option ℕ) (s : Shape) → Holds at over link s → height s ≤ n → shape_under n at link ≡ s
shape_under-held zero at over link missing h b = refl
shape_under-held zero at over link (node l i k r) h b = absurd (omega (arith, b))
shape_under-held (suc n) at over link missing h b = rw h refl
shape_under-held (suc n) at over link (node l i k r) h b =
    rw (h.1, h.2, shape_under-held n at (Some i) h.0.lesser l h.5 (omega (arith, b)), shape_under-held n at (Some i) h.0.greater r h.6 (omega (arith, b)))
    (ap (λ k. node l i k r) h.4)

-- so the shape is unique
pub Holds-unique : (at : Slots) (over link : Option ℕ) (s t : Shape) → Holds at over link s → Holds at over link t → s ≡ t
Holds-unique at over link s t h g =
    sym (shape_under-held (height s + height t) at over link s h (omega arith)) ∙ shape_under-held (height s + height t) at over link t g (omega arith)

-- a node's parent in the shape is the one it stores
pub back-parent : (at : Slots) (over link : Option ℕ) (s : Shape) (i : ℕ) (p : Option ℕ) → Holds at over link s → HasParentUnder over s i p → back_at at i ≡ Some p
back-parent at over link missing i p h e = elim e [ ]
back-parent at over link (node l j k r) i p h e =
    ⊎_elim (λ (here : (i ≡ j) × (p ≡ over)). rw (here.0, h.2) (ap Some (h.3 ∙ sym here.1)))
    (⊎_elim (λ in_l. back-parent at (Some j) h.0.lesser l i p h.5 in_l) (λ in_r. back-parent at (Some j) h.0.greater r i p h.6 in_r)) e

-- appended lists
pub Among-before : (xs ys : List ℕ) (j : ℕ) → Among j xs → Among j (xs ++ ys)
Among-before [] ys j h = elim h [ ]
Among-before (x ∷ xs) ys j h = ⊎_elim (λ e. inl e) (λ rest. inr (Among-before xs ys j rest)) h

pub Among-behind : (xs ys : List ℕ) (j : ℕ) → Among j ys → Among j (xs ++ ys)
Among-behind [] ys j h = h
Among-behind (x ∷ xs) ys j h = inr (Among-behind xs ys j h)

-- consecutive changes
module _ (first mid last : Slots) where
  pub MovesBacks-then : (m n : ℕ) → MovesBacks m first mid → MovesBacks n mid last → MovesBacks (m + n) first last
  MovesBacks-then m n a b = (
    a.0 ++ b.0,
    omega (arith, length-append a.0 b.0, a.1, b.1),
    λ j. ⊎_elim (λ in_a. inl (Among-before a.0 b.0 j in_a)) (λ same. ⊎_elim (λ in_b. inl (Among-behind a.0 b.0 j in_b)) (λ also. inr (same ∙ also)) (b.2 j)) (a.2 j),
  )

  pub MovesBacks-same : (n : ℕ) → ((j : ℕ) → back_at first j ≡ back_at mid j) → MovesBacks n mid last → MovesBacks n first last
  MovesBacks-same n same b = (b.0, b.1, λ j. ⊎_elim (λ in_b. inl in_b) (λ also. inr (same j ∙ also)) (b.2 j))

-- a write of one node, or of the node that a link leads to, moves at most one parent
module _ {T : Type 0} {was is : Chain T} {old new : Slots} where
  pub MovesBacks-write : {i : ℕ} {write : TreeLinks ℕ → TreeLinks ℕ} → Writes i write old new was is → MovesBacks 1 old new
  MovesBacks-write {i} w = (i ∷ [], omega arith, λ j. ⊎_elim (λ same. inl (inl same)) (λ other. inr (ap (option_map (λ n. n.back)) (sym (w.elsewhere j other)))) (cases_eq j i))

  pub MovesBacks-hung : {link back : Option ℕ} → Hangs link back old new was is → MovesBacks 1 old new
  MovesBacks-hung {link = None} h = ([], omega arith, λ j. inr (ap (option_map (λ n. n.back)) (sym (h.elsewhere j (λ e. absurd cc)))))
  MovesBacks-hung {link = Some i} h = (
    i ∷ [],
    omega arith,
    λ j. ⊎_elim (λ same. inl (inl same)) (λ other. inr (ap (option_map (λ n. n.back)) (sym (h.elsewhere j (λ e. other cc))))) (cases_eq j i),
  )

pub Contains-among : (j : ℕ) (xs : List ℕ) → Among j xs → Contains xs j
Contains-among j [] h = elim h [ ]
Contains-among j (x ∷ xs) h =
    ⊎_elim (λ (e : j ≡ x). (0, omega arith, sym e)) (λ rest. Contains-append_right (x ∷ []) xs j (Contains-among j xs rest)) h

-- at most m moved links are at most m moved parents
pub MovesAtMost-backs : (m : ℕ) (old new : Slots) (root root' : Option ℕ) (s t : Shape) → Holds old None root s → Holds new None root' t → MovesBacks m old new → MovesAtMost m s t
MovesAtMost-backs m old new root root' s t h g moves = (
  moves.0,
  moves.1,
  λ i p q in_s in_t.
      ⊎_elim (λ among. inl (Contains-among i moves.0 among))
      (λ (same : back_at old i ≡ back_at new i).
      let was = back-parent old None root s i p h in_s in
      let now = back-parent new None root' t i q g in_t in
      inr cc) (moves.2 i),
)
