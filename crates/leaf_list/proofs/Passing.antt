-- Where a search stops in entries in the order of their keys.
use Rattle.std.proofs.Common.{◌≡◌, ◌≢◌, ℕ, ◌-◌, Bool, true, false, List, [], ◌∷◌, ◌++◌, length, arith, ap, sym, subst, ◌∙◌, refl, length-append}
use Rattle.std.specs.{List.AllByRecursion, List.All, List.Sorted.IsPartitionPoint, Ordering.ordering_reverse, Cmp.IsTotalOrder}
use Rattle.std.specs.declared.cmp.Ordering.{Ordering, TheVariants.Less, TheVariants.Equal, TheVariants.Greater}
use Rattle.std.proofs.lemmas.List.{Elements.recursion_from_All, get_or_append_left, get_or-append_right}
use Rattle.leaf_row.specs.Before.{is_passed}
use Rattle.leaf_list.specs.Leaves.{AreSorted}

less_fails : (w : Bool) → is_passed w Less ≡ false
less_fails true = refl
less_fails false = refl

greater_passes : (w : Bool) → is_passed w Greater ≡ true
greater_passes true = refl
greater_passes false = refl

-- a place before which P holds and from which on Q does
pub partition-cut : {X : Type 0} (P Q : X → Type 0) (front back : List X) → All P front → All Q back → IsPartitionPoint P Q (front ++ back) (length front)
partition-cut P Q front back low high = (
  λ i d from until. subst P (sym (get_or_append_left front back d i until)) (low i d until),
  λ i d from until. subst Q (sym (get_or-append_right front back (length front) i d refl from))
      (high (i - length front) d (omega (arith, until, from, length-append front back))),
)

module _ {K : Type 0} (cmp : K → K → Ordering) (total : IsTotalOrder cmp) (w : Bool) (k : K) where
  abbrev Passes : K × ℕ → Type 0
  Passes e = is_passed w (cmp k e.0) ≡ true

  abbrev Fails : K × ℕ → Type 0
  Fails e = is_passed w (cmp k e.0) ≡ false

  -- a search passes what is at most a key that it passes
  passes-below : (d e : K) → cmp d e ≢ Greater → is_passed w (cmp k e) ≡ true → is_passed w (cmp k d) ≡ true
  passes-below d e most pass = go (cmp d e) refl (cmp k e) refl pass
    where
      behind : cmp d k ≡ Less → is_passed w (cmp k d) ≡ true
      behind less = ap (λ (o : Ordering). is_passed w o) (total.antisymm k d ∙ ap ordering_reverse less) ∙ greater_passes w

      go : (o : Ordering) → cmp d e ≡ o → (p : Ordering) → cmp k e ≡ p → is_passed w p ≡ true → is_passed w (cmp k d) ≡ true
      go Greater is p to pass = absurd (most is)
      go Equal is p to pass =
          let same : cmp d k ≡ cmp e k = total.congr d e k is in
          ap (λ (o : Ordering). is_passed w o) (total.antisymm k d ∙ ap ordering_reverse same ∙ sym (total.antisymm k e) ∙ to) ∙ pass
      go Less is Less to pass = let no = less_fails w in cc
      go Less is Equal to pass =
          let same : cmp k d ≡ cmp e d = total.congr k e d to in
          ap (λ (o : Ordering). is_passed w o) (same ∙ total.antisymm e d ∙ ap ordering_reverse is) ∙ greater_passes w
      go Less is Greater to pass = behind (total.trans d e k is (total.antisymm e k ∙ ap ordering_reverse to))

  fails-above : (d e : K) → cmp d e ≢ Greater → is_passed w (cmp k d) ≡ false → is_passed w (cmp k e) ≡ false
  fails-above d e most fail = go (is_passed w (cmp k e)) refl
    where
      go : (b : Bool) → is_passed w (cmp k e) ≡ b → is_passed w (cmp k e) ≡ false
      go false is = is
      go true is = let yes = passes-below d e most is in cc

  at-most : (P : K × ℕ → Type 0) (e : K × ℕ) (es fs : List (K × ℕ)) → AllByRecursion P (es ++ e ∷ fs) → P e
  at-most P e [] fs all = all.0
  at-most P e (x ∷ es) fs all = at-most P e es fs all.1

  -- if it passes an entry, then all before it
  pub passes-before : (es : List (K × ℕ)) (e : K × ℕ) (fs : List (K × ℕ)) → AreSorted cmp (es ++ e ∷ fs) → Passes e → AllByRecursion Passes es
  passes-before [] e fs sorted pass = tt
  passes-before (x ∷ es) e fs sorted pass = (
    passes-below x.0 e.0 (at-most (λ f. cmp x.0 f.0 ≢ Greater) e es fs (recursion_from_All _ (es ++ e ∷ fs) sorted.0)) pass,
    passes-before es e fs sorted.1 pass,
  )

  fails-all : (e : K × ℕ) (fs : List (K × ℕ)) → AllByRecursion (λ f. cmp e.0 f.0 ≢ Greater) fs → Fails e → AllByRecursion Fails fs
  fails-all e [] all fail = tt
  fails-all e (f ∷ fs) all fail = (fails-above e.0 f.0 all.0 fail, fails-all e fs all.1 fail)

  -- if it stops before an entry, then before all behind it
  pub fails-behind : (e : K × ℕ) (fs : List (K × ℕ)) → AreSorted cmp (e ∷ fs) → Fails e → AllByRecursion Fails (e ∷ fs)
  fails-behind e fs sorted fail = (fail, fails-all e fs (recursion_from_All _ fs sorted.0) fail)

module _ {K : Type 0} (cmp : K → K → Ordering) where
  pub sorted-back : (es fs : List (K × ℕ)) → AreSorted cmp (es ++ fs) → AreSorted cmp fs
  sorted-back [] fs sorted = sorted
  sorted-back (e ∷ es) fs sorted = sorted-back es fs sorted.1
