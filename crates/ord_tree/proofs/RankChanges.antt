-- Ranks by index, and lists of indexes whose rank changes.
use Rattle.std.proofs.Common.{◌≡◌, ◌≢◌, ℕ, zero, suc, ◌+◌, ◌<◌, ◌≤◌, ◌⊎◌, Option, Some, None, List, [], ◌∷◌, ◌++◌, length, length-append, arith, refl, sym, ◌∙◌, ap, subst, inl, inr, ⊎_elim}
use Rattle.std.proofs.{lemmas.Grind.common_steps, lemmas.Bool.cases_eq, lemmas.Bool.eq-eqb, lemmas.Bool.ne_eqb}
use Rattle.ord_tree.specs.declared.tree_links.Side.TheVariants.{Lesser, Greater}
use Rattle.ord_tree.specs.Slots.{Holds, Way, top, up, plug, here, times, times_in, times_way, IsOnce, Among}
use Rattle.ord_tree.proofs.{Forks.here-same, Forks.times-walk, Views.Holds-unique, Views.Contains-among, Views.Among-before, Views.Among-behind}
use Rattle.ord_tree.specs.{Potential.potential, Ranks.HasRank, Potential.ChangesRanksWithin, Ranks.IsRanked, Account.IsSpelledWithin, Slots.Slots}
use Rattle.ord_tree.specs.{Shape.Shape, Shape.missing, Shape.node, Shape.fork, Shape.root_of, Shape.rank_of, Shape.walk, declared.tree_links.Side.Side}
use Rattle.ord_tree.specs.Account.{rank_here, rank_in, rank_way, NamesChanges, IsWithin, pending_change}

pub rank_here-same : (i k : ℕ) → rank_here i i k ≡ k
rank_here-same i k = rw (eq-eqb i i refl) refl

pub rank_here-other : (j i k : ℕ) → j ≢ i → rank_here j i k ≡ 0
rank_here-other j i k e = rw (ne_eqb j i e) refl

-- a rank one higher
pub rank_here-next : (j i k : ℕ) → rank_here j i (k + 1) ≡ rank_here j i k + here j i
rank_here-next j i k = grind (arith, common_steps)

-- an index that doesn't occur has no rank
pub rank_in-absent : (j : ℕ) (s : Shape) → times_in j s ≡ 0 → rank_in s j ≡ 0
rank_in-absent j missing none = refl
rank_in-absent j (node l i k r) none =
    let in_l = rank_in-absent j l (omega arith) in let in_r = rank_in-absent j r (omega arith) in grind (arith, common_steps)

pub rank_way-absent : (j : ℕ) (way : Way) → times_way j way ≡ 0 → rank_way way j ≡ 0
rank_way-absent j top none = refl
rank_way-absent j (up side i k far rest) none =
    let in_far = rank_in-absent j far (omega arith) in let in_rest = rank_way-absent j rest (omega arith) in grind (arith, common_steps)

-- the rank at the root
pub rank_in-root : (s : Shape) (i : ℕ) → root_of s ≡ Some i → times_in i s ≤ 1 → rank_in s i ≡ rank_of s
rank_in-root missing i e once = absurd cc
rank_in-root (node l j k r) i e once =
    let same : j ≡ i = cc in
    let one : here i j ≡ 1 = ap (here i) same ∙ here-same i in
    let in_l = rank_in-absent i l (omega (arith, once, one)) in
    let in_r = rank_in-absent i r (omega (arith, once, one)) in
    omega (arith, in_l, in_r, ap (λ j. rank_here i j k) same, rank_here-same i k)

pub rank_in-fork : (j : ℕ) (side : Side) (near far : Shape) (i k : ℕ) → rank_in (fork side near i k far) j ≡ rank_in near j + rank_here j i k + rank_in far j
rank_in-fork j Lesser near far i k = refl
rank_in-fork j Greater near far i k = omega arith

pub rank_in-plug : (j : ℕ) (way : Way) (s : Shape) → rank_in (plug way s) j ≡ rank_way way j + rank_in s j
rank_in-plug j top s = omega arith
rank_in-plug j (up side i k far rest) s = omega (arith, rank_in-plug j rest (fork side s i k far), rank_in-fork j side s far i k)

pub NamesChanges-joined : (xs ys : List ℕ) (f g h : ℕ → ℕ) → NamesChanges xs f g → NamesChanges ys g h → NamesChanges (xs ++ ys) f h
NamesChanges-joined xs ys f g h p q j =
    ⊎_elim (λ in_xs. inl (Among-before xs ys j in_xs))
    (⊎_elim (λ none. inr (inl none))
    (λ (same : f j ≡ g j). ⊎_elim (λ in_ys. inl (Among-behind xs ys j in_ys))
    (⊎_elim (λ (none : g j ≡ 0). inr (inl (same ∙ none))) (λ (same' : g j ≡ h j). inr (inr (same ∙ same')))) (q j))) (p j)

pub NamesChanges-same : (named : List ℕ) (was f g : ℕ → ℕ) → ((j : ℕ) → f j ≡ g j) → NamesChanges named was f → NamesChanges named was g
NamesChanges-same named was f g same names j = subst (λ (k : ℕ). Among j named ⊎ (was j ≡ 0) ⊎ (was j ≡ k)) (same j) (names j)

-- a change, and then a state with its account: the credit pays for both
module _ {was is : ℕ → ℕ} (named : List ℕ) (names : NamesChanges named was is) {spent total : ℕ} (enough : length named + spent ≤ total)
    {S : Type 0} {ranks : S → ℕ → ℕ} {needs : S → ℕ} where
  pub IsWithin-before : IsWithin is ranks needs spent → IsWithin was ranks needs total
  IsWithin-before paid = record {
    state = paid.state;
    named = named ++ paid.named;
    within = omega (arith, enough, paid.within, length-append named paid.named);
    names = NamesChanges-joined named paid.named was is (ranks paid.state) names paid.names;
  }

-- for an index apart from all of these, A is true
abbrev pub Apart : List ℕ → ℕ → Type 0 → Type 0
Apart [] j A = A
Apart (i ∷ is) j A = j ≢ i → Apart is j A

-- no other rank changes
pub names_but : (named : List ℕ) (was is : ℕ → ℕ) → ((j : ℕ) → Apart named j (was j ≡ is j)) → NamesChanges named was is
names_but named was is same j = go named (same j)
  where
    go : (xs : List ℕ) → Apart xs j (was j ≡ is j) → Among j xs ⊎ (was j ≡ 0) ⊎ (was j ≡ is j)
    go [] e = inr (inr e)
    go (x ∷ xs) f = ⊎_elim (λ (e : j ≡ x). inl (inl e)) (λ (other : j ≢ x). ⊎_elim (λ rest. inl (inr rest)) (λ stays. inr stays) (go xs (f other))) (cases_eq j x)

-- y is pending, or new
pub pending_or_new : (y low : ℕ) → Among y (pending_change y low) ⊎ (low ≡ 0)
pending_or_new y zero = inr refl
pending_or_new y (suc low) = inl (inl refl)

pub pending-least : (y low : ℕ) → 0 < low → length (pending_change y low) ≡ 1
pending-least y zero h = absurd (omega (arith, h))
pending-least y (suc low) h = refl

-- an index with a rank in a shape occurs there
standing : (s : Shape) (i k : ℕ) → HasRank s i k → 0 < times_in i s
standing missing i k h = elim h [ ]
standing (node l j m r) i k h =
    ⊎_elim (λ (at : (i ≡ j) × (k ≡ m)). let one : here i j ≡ 1 = ap (here i) (sym at.0) ∙ here-same i in omega arith)
    (⊎_elim (λ in_l. let some = standing l i k in_l in omega arith) (λ in_r. let some = standing r i k in_r in omega arith)) h

-- it has only that rank, if no index occurs twice
pub rank_in-standing : (s : Shape) (i k : ℕ) → times_in i s ≤ 1 → HasRank s i k → rank_in s i ≡ k
rank_in-standing missing i k once h = elim h [ ]
rank_in-standing (node l j m r) i k once h =
    ⊎_elim (λ (at : (i ≡ j) × (k ≡ m)). rank_in-root (node l j m r) i (ap Some (sym at.0)) once ∙ sym at.1)
    (⊎_elim
    (λ in_l.
    let some = standing l i k in_l in
    omega (arith, rank_in-standing l i k (omega arith) in_l, rank_here-other i j m (not_here (omega arith)), rank_in-absent i r (omega arith)))
    (λ in_r.
    let some = standing r i k in_r in
    omega (arith, rank_in-standing r i k (omega arith) in_r, rank_here-other i j m (not_here (omega arith)), rank_in-absent i l (omega arith)))) h
  where
    not_here : here i j ≡ 0 → i ≢ j
    not_here none e = let one : here i j ≡ 1 = ap (here i) (sym e) ∙ here-same i in omega arith

-- no rank is 0
rank-positive : (s : Shape) (i k : ℕ) → IsRanked s → HasRank s i k → 0 < k
rank-positive missing i k ranked h = elim h [ ]
rank-positive (node l j m r) i k ranked h =
    ⊎_elim (λ (at : (i ≡ j) × (k ≡ m)). omega (arith, at.1, ranked.0.lesser)) (⊎_elim (rank-positive l i k ranked.1) (rank-positive r i k ranked.2)) h

-- the account of a change, in terms of the shapes s before it and t after it; `was` has the ranks of the indexes that stay
module _ (m : ℕ) (s t : Shape) {was : ℕ → ℕ} {at : Slots} {root : Option ℕ} {before order : List ℕ} (listed : walk s ≡ before) (once : IsOnce before) (ranked : IsRanked s)
    (held : Holds at None root t) (once' : IsOnce order) (stays : (j : ℕ) → 0 < times j order → was j ≡ rank_in s j) where
  pub ChangesRanksWithin-spelled : IsSpelledWithin was at root order (potential s + m) → ChangesRanksWithin m s t
  ChangesRanksWithin-spelled paid = subst (λ (t : Shape). ChangesRanksWithin m s t) (Holds-unique at None root paid.state.shape t paid.state.held held) (
    paid.named,
    paid.within,
    λ i k l was_k is_l.
        let count : times i order ≡ times_in i paid.state.shape = ap (times i) (sym paid.state.listed) ∙ times-walk i paid.state.shape in
        let same = stays i (omega (arith, count, standing paid.state.shape i l is_l)) ∙ rank_in-standing s i k (omega (arith, once i, ap (times i) listed, times-walk i s)) was_k in
        ⊎_elim (λ among. inl (Contains-among i paid.named among))
        (⊎_elim (λ (none : was i ≡ 0). absurd (omega (arith, none, same, rank-positive s i k ranked was_k)))
        (λ (e : was i ≡ rank_in paid.state.shape i). inr (sym same ∙ e ∙ rank_in-standing paid.state.shape i l (omega (arith, once' i, count)) is_l))) (paid.names i),
  )
