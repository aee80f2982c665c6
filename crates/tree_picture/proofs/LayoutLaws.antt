-- The laws of every layout.
use Rattle.std.proofs.Common.{◌≡◌, ℕ, zero, suc, ◌+◌, ◌<◌, nat_lt, Option, Some, None, List, [], ◌∷◌, ◌++◌, length, map, get_or, refl, sym, ap, ◌∙◌, arith, inl, inr, append_assoc, append-nil, length-append, max}
use Rattle.std.specs.Prelude.{All, slice_get, IsSomeAnd, MatchOption, option_and_then}
use Rattle.std.specs.List.{range_with_len}
use Rattle.std.proofs.{Math.ListN.get_or-map, lemmas.List.map-append, lemmas.List.FromFn.get_or-range_with_len}
use Rattle.std.proofs.{lemmas.Option.slice_get_within, lemmas.Option.get_or_from_slice_get}
use Rattle.std.proofs.lemmas.List.Elements.{All-append, All-cons, All-nil, All-weaker}
use Rattle.triple_ord.specs.{Parents.HasParentUnder, Ranks.HasRank}
use Rattle.triple_ord.specs.Shape.{Shape, missing, node, rank_of, size_of, height, walk}
use Rattle.tree_picture.specs.declared.place.{Place.Place}
use Rattle.tree_picture.specs.Layout.{laid, kind_of}
use Rattle.tree_picture.specs.Laws.{layout, ColumnsLaw, ShowsNode, NodesLaw, IsBelowParent, LevelsLaw, SidesLaw, ApartLaw, InsideLaw}

All-around : {X : Type 0} (P : X → Type 0) (xs : List X) (y : X) (ys : List X) → All P xs → P y → All P ys → All P (xs ++ y ∷ ys)
All-around P xs y ys before at after = All-append P xs (y ∷ ys) before (All-cons P y ys at after)

-- the element behind a list
get-behind : {X : Type 0} (front : List X) (x : X) (back : List X) → slice_get (front ++ x ∷ back) (length front) ≡ Some x
get-behind [] x back = refl
get-behind (y ∷ front) x back = get-behind front x back

-- there are as many places as nodes
pub length-laid : (from depth : ℕ) (above : Option ℕ) (s : Shape) → length (laid from depth above s) ≡ size_of s
length-laid from depth above missing = refl
length-laid from depth above (node l i k r) =
    let at = from + size_of l in
    simp length-append (omega (arith, length-laid from (depth + 1) (Some at) l, length-laid (at + 1) (depth + 1) (Some at) r))

length-walk : (s : Shape) → length (walk s) ≡ size_of s
length-walk missing = refl
length-walk (node l i k r) = simp length-append (omega (arith, length-walk l, length-walk r))

range-around : (a m n : ℕ) → range_with_len a (suc (m + n)) ≡ range_with_len a m ++ (a + m) ∷ range_with_len (a + m + 1) n
range-around a zero n = let none : 0 + n ≡ n = omega arith in let same : a + 0 ≡ a = omega arith in rw (none, same) refl
range-around a (suc m) n =
    let more : suc m + n ≡ suc (m + n) = omega arith in
    let next : a + suc m ≡ a + 1 + m = omega arith in
    rw (more, next) (ap (λ l. a ∷ l) (range-around (a + 1) m n))

-- the columns are the numbers from the first on
columns-laid : (from depth : ℕ) (above : Option ℕ) (s : Shape) → map (λ p. p.column) (laid from depth above s) ≡ range_with_len from (size_of s)
columns-laid from depth above missing = refl
columns-laid from depth above (node l i k r) =
    let at = from + size_of l in
    let many : size_of l + 1 + size_of r ≡ suc (size_of l + size_of r) = omega arith in
    rw (many, range-around, map-append, columns-laid from (depth + 1) (Some at) l, columns-laid (at + 1) (depth + 1) (Some at) r) refl

-- the place of a node
abbrev place_at : ℕ → ℕ → Option ℕ → Shape → ℕ → Place → Place
place_at from depth above s k d = get_or (laid from depth above s) k d

column-at : (from depth : ℕ) (above : Option ℕ) (s : Shape) (k : ℕ) (d : Place) → k < size_of s → (place_at from depth above s k d).column ≡ from + k
column-at from depth above s k d within =
    sym (get_or-map (λ p. p.column) (laid from depth above s) k d) ∙ ap (λ l. get_or l k d.column) (columns-laid from depth above s)
    ∙ get_or-range_with_len from (size_of s) k d.column within

pub columns : ColumnsLaw
columns s k p is =
    let within = slice_get_within (layout s) k p is in
    ap (λ q. q.column) (sym (get_or_from_slice_get (layout s) k p p is))
    ∙ column-at 0 0 None s k p (omega (arith, within, length-laid 0 0 None s)) ∙ omega arith

-- the boxes of two places in different columns
pub apart : ApartLaw
apart s k m p q is_p is_q before = omega (arith, columns s k p is_p, columns s m q is_q)

pub sides : SidesLaw
sides l r from depth above = (
  λ k d within. let lt = rw length-laid at within in omega (arith, lt, column-at from depth above l k d lt),
  λ k d within. let lt = rw length-laid at within in omega (arith, column-at (from + size_of l + 1) depth above r k d lt),
)

-- the depths of a stretch of the layout
abbrev IsAbove : ℕ → Place → Type 0
IsAbove depth p = p.depth < depth

depths-from : (from depth : ℕ) (above : Option ℕ) (s : Shape) → All (IsAbove (depth + height s)) (laid from depth above s)
depths-from from depth above missing = All-nil _
depths-from from depth above (node l i k r) =
    let at = from + size_of l in
    let whole = IsAbove (depth + (max (height l) (height r) + 1)) in
    All-around whole (laid from (depth + 1) (Some at) l) _ (laid (at + 1) (depth + 1) (Some at) r)
    (All-weaker (IsAbove (depth + 1 + height l)) whole (λ p h. omega (arith, h)) _ (depths-from from (depth + 1) (Some at) l))
    (omega arith)
    (All-weaker (IsAbove (depth + 1 + height r)) whole (λ p h. omega (arith, h)) _ (depths-from (at + 1) (depth + 1) (Some at) r))

pub inside : InsideLaw
inside s k d within =
    let lt = rw length-laid at within in
    record { across = omega (arith, lt, column-at 0 0 None s k d lt); down = omega (arith, depths-from 0 0 None s k d within) }

-- lists cut at an element
cut_before : {X : Type 0} (front xs : List X) (y : X) (ys back : List X) → front ++ ((xs ++ y ∷ ys) ++ back) ≡ front ++ (xs ++ (y ∷ (ys ++ back)))
cut_before front xs y ys back = simp append_assoc

cut_at : {X : Type 0} (front xs : List X) (y : X) (ys back : List X) → front ++ ((xs ++ y ∷ ys) ++ back) ≡ (front ++ xs) ++ y ∷ (ys ++ back)
cut_at front xs y ys back = simp append_assoc

cut_after : {X : Type 0} (front xs : List X) (y : X) (ys back : List X) → front ++ ((xs ++ y ∷ ys) ++ back) ≡ ((front ++ xs) ++ y ∷ []) ++ (ys ++ back)
cut_after front xs y ys back = simp append_assoc

get-at : {X : Type 0} (whole front xs : List X) (y : X) (ys back : List X) (n : ℕ) → whole ≡ front ++ ((xs ++ y ∷ ys) ++ back) → n ≡ length front + length xs
    → slice_get whole n ≡ Some y
get-at whole front xs y ys back n cut is =
    ap (λ zs. slice_get zs n) (cut ∙ cut_at front xs y ys back) ∙ ap (slice_get ((front ++ xs) ++ y ∷ (ys ++ back))) (is ∙ sym (length-append front xs))
    ∙ get-behind (front ++ xs) y (ys ++ back)

-- the depth below a parent, if any
abbrev IsBelow : List Place → Option ℕ → ℕ → Type 0
IsBelow places above depth = MatchOption above (depth ≡ 0) (λ q. IsSomeAnd (slice_get places q) (λ parent. depth ≡ parent.depth + 1))

levels-within : (whole front back : List Place) (from depth : ℕ) (above : Option ℕ) (s : Shape) → whole ≡ front ++ (laid from depth above s ++ back) → from ≡ length front
    → IsBelow whole above depth → All (IsBelowParent whole) (laid from depth above s)
levels-within whole front back from depth above missing cut starts below = All-nil _
levels-within whole front back from depth above (node l i k r) cut starts below =
    let at = from + size_of l in
    let place : Place = record { column = at; depth = depth; rank = k; kind = kind_of k (rank_of l) (rank_of r); parent = above; has_greater = nat_lt 0 (size_of r) } in
    let lesser = laid from (depth + 1) (Some at) l in
    let greater = laid (at + 1) (depth + 1) (Some at) r in
    let many : length lesser ≡ size_of l = length-laid from (depth + 1) (Some at) l in
    let here : slice_get whole at ≡ Some place = get-at whole front lesser place greater back at cut (omega (arith, starts, many)) in
    let under : IsBelow whole (Some at) (depth + 1) = rw here refl in
    All-around (IsBelowParent whole) lesser place greater
    (levels-within whole front (place ∷ (greater ++ back)) from (depth + 1) (Some at) l (cut ∙ cut_before front lesser place greater back) starts under)
    below
    (levels-within whole ((front ++ lesser) ++ place ∷ []) back (at + 1) (depth + 1) (Some at) r (cut ∙ cut_after front lesser place greater back)
    (simp length-append (omega (arith, starts, many))) under)

pub levels : LevelsLaw
levels s = levels-within (layout s) [] [] 0 0 None s (sym (append-nil _)) refl refl

-- what a place shows in a part of the tree
abbrev ShowsAt : List ℕ → Option ℕ → Shape → Place → ℕ → Type 0
ShowsAt whole above s p i = HasRank s i p.rank × HasParentUnder above s i (option_and_then (slice_get whole) p.parent)

abbrev ShowsIn : List ℕ → Option ℕ → Shape → Place → Type 0
ShowsIn whole above s p = IsSomeAnd (slice_get whole p.column) (ShowsAt whole above s p)

implied : (P Q : ℕ → Type 0) → ((i : ℕ) → P i → Q i) → (o : Option ℕ) → IsSomeAnd o P → IsSomeAnd o Q
implied P Q implies None holds = absurd holds
implied P Q implies (Some i) holds = implies i holds

shown-within : (whole front back : List ℕ) (from depth : ℕ) (above over : Option ℕ) (s : Shape) → whole ≡ front ++ (walk s ++ back) → from ≡ length front
    → option_and_then (slice_get whole) above ≡ over → All (ShowsIn whole over s) (laid from depth above s)
shown-within whole front back from depth above over missing cut starts link = All-nil _
shown-within whole front back from depth above over (node l i k r) cut starts link =
    let at = from + size_of l in
    let many : length (walk l) ≡ size_of l = length-walk l in
    let here : slice_get whole at ≡ Some i = get-at whole front (walk l) i (walk r) back at cut (omega (arith, starts, many)) in
    let place : Place = record { column = at; depth = depth; rank = k; kind = kind_of k (rank_of l) (rank_of r); parent = above; has_greater = nat_lt 0 (size_of r) } in
    let shown : ShowsIn whole over (node l i k r) place = rw here (inl (refl, refl), inl (refl, link)) in
    let in_all = ShowsAt whole over (node l i k r) in
    All-around (ShowsIn whole over (node l i k r)) (laid from (depth + 1) (Some at) l) place (laid (at + 1) (depth + 1) (Some at) r)
    (All-weaker (ShowsIn whole (Some i) l) (ShowsIn whole over (node l i k r))
    (λ p. implied (ShowsAt whole (Some i) l p) (in_all p) (λ j h. (inr (inl h.0), inr (inl h.1))) (slice_get whole p.column)) _
    (shown-within whole front (i ∷ (walk r ++ back)) from (depth + 1) (Some at) (Some i) l (cut ∙ cut_before front (walk l) i (walk r) back) starts here))
    shown
    (All-weaker (ShowsIn whole (Some i) r) (ShowsIn whole over (node l i k r))
    (λ p. implied (ShowsAt whole (Some i) r p) (in_all p) (λ j h. (inr (inr h.0), inr (inr h.1))) (slice_get whole p.column)) _
    (shown-within whole ((front ++ walk l) ++ i ∷ []) back (at + 1) (depth + 1) (Some at) (Some i) r (cut ∙ cut_after front (walk l) i (walk r) back)
    (simp length-append (omega (arith, starts, many))) here))

pub nodes : NodesLaw
nodes s =
    All-weaker (ShowsIn (walk s) None s) (λ p. IsSomeAnd (slice_get (walk s) p.column) (ShowsNode s p))
    (λ p. implied (ShowsAt (walk s) None s p) (ShowsNode s p) (λ i h. record { rank = h.0; parent = h.1 }) (slice_get (walk s) p.column)) _
    (shown-within (walk s) [] [] 0 0 None None s (sym (append-nil _)) refl refl)
