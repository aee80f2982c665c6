-- What pointers find in a listing after each change of it.
use Rattle.std.proofs.Common.{◌≡◌, ◌≢◌, ℕ, ◌+◌, ◌≤◌, Bool, true, false, ◌==◌, ◌⊎◌, List, [], ◌∷◌, filter, length, Option, Some, None, IsSome, is_some, refl, sym, ap, subst, ◌∙◌, arith, if◌then◌else◌, inl, inr}
use Rattle.std.specs.{Option.option_map, Ordering.is_lt, declared.cmp.Ordering.Ordering}
use Rattle.std.proofs.lemmas.{Grind.common_steps, Bool.cases_eq, Bool.Decides.eqb_tells}
use Rattle.triple_ord.specs.PlainArena.{item_if}
use Rattle.triple_ord.specs.Chain.{Entry, times, IsDistinct, item_of, entry_at, without, with_item_among, first_pointer, last_pointer}
use Rattle.triple_ord.proofs.ChainLemmas.{entry_at-absent, entry_at-without, entry_at-without_other, length-without, entry_at-with_item_among, entry_at-with_item_among_other, length-with_item_among}
use Rattle.listing.specs.Listing.{Listing, pointer_of, entry_of, get, count, with_left, without_entry, without_first, without_last, with_passing, if_passing, behind_first, before_last, first_item, last_item, Updates, IsFree, key_of, put_behind, with_entry, with_key_from, with_key, with_value}

module _ {T : Type 0} where
  item_if-own : (g : ℕ) (x : T) → item_if g (Some (g, x)) ≡ Some x
  item_if-own g x = grind (arith, common_steps)

  item_if-other : (g h : ℕ) (x : T) → h ≢ g → item_if h (Some (g, x)) ≡ None
  item_if-other g h x apart = grind (arith, common_steps)

  -- what is at the index of a pointer that names an item
  pub named-entry : (es : List (Entry T)) (p : ℕ × ℕ) (x : T) → item_of es p ≡ Some x → entry_at es p.0 ≡ Some (p.1, x)
  named-entry es p x is = go (entry_at es p.0) is
    where
      go : (o : Option (ℕ × T)) → item_if p.1 o ≡ Some x → o ≡ Some (p.1, x)
      go None is = absurd (cc)
      go (Some e) is = grind (arith, common_steps)

  -- A change at the index of one pointer, where every other pointer of that index is stale before and afterwards.
  module _ (old new : List (Entry T)) (p : ℕ × ℕ) where
    changed-at : (now : Option T) → entry_at new p.0 ≡ option_map (λ x. (p.1, x)) now → item_of new p ≡ now
    changed-at None here = rw here refl
    changed-at (Some x) here = rw here (item_if-own p.1 x)

    others-at : (now was : Option T) → entry_at old p.0 ≡ option_map (λ x. (p.1, x)) was → entry_at new p.0 ≡ option_map (λ x. (p.1, x)) now
        → ((i : ℕ) → i ≢ p.0 → entry_at new i ≡ entry_at old i) → (q : ℕ × ℕ) → q ≢ p → item_of new q ≡ item_of old q
    others-at now was before here others q apart = elim (cases_eq q.0 p.0) [
      | inl same ↦ rw (same, here, before) (stale now (generation same) ∙ sym (stale was (generation same)))
      | inr other ↦ ap (item_if q.1) (others q.0 other)
    ]
      where
        generation : q.0 ≡ p.0 → q.1 ≢ p.1
        generation same = λ both. apart (ap (λ i. (i, q.1)) same ∙ ap (λ g. (p.0, g)) both)

        stale : (o : Option T) → q.1 ≢ p.1 → item_if q.1 (option_map (λ x. (p.1, x)) o) ≡ None
        stale None other = refl
        stale (Some x) other = item_if-other p.1 q.1 x other

  times-without : (es : List (Entry T)) (i : ℕ) → times i es ≤ 1 → times i (without i es) ≡ 0
  times-without [] i once = refl
  times-without (e ∷ es) i once = grind (arith, common_steps, times-without es i)

  pub length-without_named : (es : List (Entry T)) (p : ℕ × ℕ) (x : T) → item_of es p ≡ Some x → length es ≡ length (without p.0 es) + 1
  length-without_named es p x is = length-without es p.0 (rw (named-entry es p x is) refl)

  pub without-updates : (greatest : Option ℕ) (a : Listing T) (p : ℕ × ℕ) → IsDistinct a.entries → Updates a (without_entry greatest a p) p None
  unfolding without_entry
  without-updates greatest a p distinct = go (get a p) refl
    where
      go : (o : Option T) → get a p ≡ o → Updates a (if is_some o then with_left greatest a (without p.0 a.entries) else a) p None
      go None is = record { changed = is; others = λ q apart. refl }
      go (Some x) is =
          let gone : entry_at (without p.0 a.entries) p.0 ≡ None = entry_at-without a.entries p.0 distinct in
          record {
            changed = changed-at (without p.0 a.entries) (without p.0 a.entries) p None gone;
            others = others-at a.entries (without p.0 a.entries) p None (Some x) (named-entry a.entries p x is) gone (λ i other. entry_at-without_other a.entries p.0 i other);
          }

  -- the first entry is the entry of the first pointer
  pub first-same : (greatest : Option ℕ) (a : Listing T) (p : ℕ × ℕ) → Some p ≡ first_pointer a.entries → without_first greatest a ≡ without_entry greatest a p
  unfolding without_first without_entry
  first-same greatest a p is = go a.entries is
    where
      go : (es : List (Entry T)) → Some p ≡ first_pointer es
          → (if is_some (first_item es) then with_left greatest a (behind_first es) else a) ≡ (if is_some (item_of es p) then with_left greatest a (without p.0 es) else a)
      go [] is = absurd (cc)
      go (e ∷ es) is =
          let named : p ≡ pointer_of e = cc in
          let i : (e.index == e.index) ≡ true = grind (arith, common_steps) in
          let g : (e.generation == e.generation) ≡ true = grind (arith, common_steps) in
          rw (named, i, g) refl

  -- what a pointer finds in a list by its first entry, and what is left without it
  pub found-first : (e : Entry T) (es : List (Entry T)) (p : ℕ × ℕ) → pointer_of e ≡ p → item_of (e ∷ es) p ≡ Some e.item
  found-first e es p here =
      let i : (e.index == e.index) ≡ true = grind (arith, common_steps) in
      let g : (e.generation == e.generation) ≡ true = grind (arith, common_steps) in
      rw (← here, i, g) refl

  pub found-behind : (e : Entry T) (es : List (Entry T)) (p : ℕ × ℕ) → e.index ≢ p.0 → item_of (e ∷ es) p ≡ item_of es p
  found-behind e es p apart = grind (arith, common_steps)

  pub left-first : (e : Entry T) (es : List (Entry T)) (p : ℕ × ℕ) → pointer_of e ≡ p → without p.0 (e ∷ es) ≡ es
  left-first e es p here = let i : (e.index == e.index) ≡ true = grind (arith, common_steps) in rw (← here, i) refl

  pub left-behind : (e : Entry T) (es : List (Entry T)) (p : ℕ × ℕ) → e.index ≢ p.0 → without p.0 (e ∷ es) ≡ e ∷ without p.0 es
  left-behind e es p apart = grind (arith, common_steps)

  pub distinct-rest : (e : Entry T) (es : List (Entry T)) → IsDistinct (e ∷ es) → IsDistinct es
  distinct-rest e es distinct i = let fewer : times i es ≤ times i (e ∷ es) = omega arith in omega (arith, fewer, distinct i)

  -- a pointer that finds an item behind the first entry doesn't have its index
  pub index-apart : (e : Entry T) (es : List (Entry T)) (p : ℕ × ℕ) (x : T) → IsDistinct (e ∷ es) → item_of es p ≡ Some x → e.index ≢ p.0
  index-apart e es p x distinct there same =
      let none : times p.0 es ≡ 0 = grind (arith, common_steps, distinct p.0) in
      let lost : item_of es p ≡ None = rw (entry_at-absent es p.0 none) refl in
      cc

  -- the last entry is the entry of the last pointer
  last-there : (es : List (Entry T)) (p : ℕ × ℕ) → Some p ≡ last_pointer es → 1 ≤ times p.0 es
  last-there [] p is = absurd (cc)
  last-there (e ∷ []) p is = let named : p ≡ pointer_of e = cc in rw named (grind (arith, common_steps))
  last-there (e ∷ f ∷ es) p is = let rest = last-there (f ∷ es) p is in omega (arith, rest)

  last-at : (es : List (Entry T)) (p : ℕ × ℕ) → Some p ≡ last_pointer es → IsDistinct es → (item_of es p ≡ last_item es) × (without p.0 es ≡ before_last es)
  last-at [] p is distinct = absurd (cc)
  last-at (e ∷ []) p is distinct =
      let named : p ≡ pointer_of e = cc in
      let i : (e.index == e.index) ≡ true = grind (arith, common_steps) in
      let g : (e.generation == e.generation) ≡ true = grind (arith, common_steps) in
      rw (named, i, g) (refl, refl)
  last-at (e ∷ f ∷ es) p is distinct = go (e.index == p.0) refl (last-at (f ∷ es) p is)
    where
      go : (b : Bool) → (e.index == p.0) ≡ b → (IsDistinct (f ∷ es) → (item_of (f ∷ es) p ≡ last_item (f ∷ es)) × (without p.0 (f ∷ es) ≡ before_last (f ∷ es))) → (item_of (e ∷ f ∷ es) p ≡ last_item (e ∷ f ∷ es)) × (without p.0 (e ∷ f ∷ es) ≡ before_last (e ∷ f ∷ es))
      go true here rest_at = absurd (let twice : times p.0 (e ∷ f ∷ es) ≡ 1 + times p.0 (f ∷ es) = rw here refl in omega (arith, twice, distinct p.0, last-there (f ∷ es) p is))
      go false here rest_at =
          let rest = rest_at (distinct-rest e (f ∷ es) distinct) in
          rw here (rest.0, ap (λ (zs : List (Entry T)). e ∷ zs) rest.1)

  pub last-same : (greatest : Option ℕ) (a : Listing T) (p : ℕ × ℕ) → Some p ≡ last_pointer a.entries → IsDistinct a.entries → without_last greatest a ≡ without_entry greatest a p
  unfolding without_last without_entry
  last-same greatest a p is distinct =
      let at = last-at a.entries p is distinct in
      rw (at.0, at.1) refl

-- a new entry
module _ {K V : Type 0} (cmp : K → K → Ordering) where
  entry_at-put : (x : Entry (K × V)) (es : List (Entry (K × V))) → times x.index es ≡ 0 → entry_at (put_behind cmp x es) x.index ≡ Some (x.generation, x.item)
  entry_at-put x [] none = grind (arith, common_steps)
  entry_at-put x (e ∷ es) none = grind (arith, common_steps, entry_at-put x es)

  entry_at-put_other : (x : Entry (K × V)) (es : List (Entry (K × V))) (i : ℕ) → i ≢ x.index → entry_at (put_behind cmp x es) i ≡ entry_at es i
  entry_at-put_other x [] i apart = grind (arith, common_steps)
  entry_at-put_other x (e ∷ es) i apart = grind (arith, common_steps, entry_at-put_other x es i)

  pub length-put : (x : Entry (K × V)) (es : List (Entry (K × V))) → length (put_behind cmp x es) ≡ length es + 1
  length-put x [] = refl
  length-put x (e ∷ es) = grind (arith, common_steps, length-put x es)

  pub entry-updates : (most : ℕ) (a : Listing (K × V)) (p : ℕ × ℕ) (x : K × V) → IsFree a p → Updates a (with_entry cmp most a p x) p (Some x)
  unfolding with_entry
  entry-updates most a p x free =
      let e = entry_of p x in
      let here : entry_at (put_behind cmp e a.entries) p.0 ≡ Some (p.1, x) = entry_at-put e a.entries free.unused in
      record {
        changed = changed-at a.entries (put_behind cmp e a.entries) p (Some x) here;
        others = others-at a.entries (put_behind cmp e a.entries) p (Some x) None (entry_at-absent a.entries p.0 free.unused) here (λ i other. entry_at-put_other e a.entries i other);
      }

  pub key-updates : (a : Listing (K × V)) (p : ℕ × ℕ) (k : K) → IsDistinct a.entries → Updates a (with_key cmp a p k) p (option_map (λ x. (k, x.1)) (get a p))
  unfolding with_key
  key-updates a p k distinct = go (get a p) refl
    where
      go : (o : Option (K × V)) → get a p ≡ o → Updates a (with_key_from cmp a p o k) p (option_map (λ x. (k, x.1)) o)
      go None is = record { changed = is; others = λ q apart. refl }
      go (Some x) is =
          let e = entry_of p (k, x.1) in
          let rest = without p.0 a.entries in
          let here : entry_at (put_behind cmp e rest) p.0 ≡ Some (p.1, (k, x.1)) = entry_at-put e rest (times-without a.entries p.0 (distinct p.0)) in
          record {
            changed = changed-at a.entries (put_behind cmp e rest) p (Some (k, x.1)) here;
            others = others-at a.entries (put_behind cmp e rest) p (Some (k, x.1)) (Some x) (named-entry a.entries p x is) here
                (λ i other. entry_at-put_other e rest i other ∙ entry_at-without_other a.entries p.0 i other);
          }

-- another value
module _ {K V : Type 0} where
  pub value-updates : (a : Listing (K × V)) (p : ℕ × ℕ) (v : V) → Updates a (with_value a p (get a p) v) p (option_map (λ x. (x.0, v)) (get a p))
  value-updates a p v = go (get a p) refl
    where
      go : (o : Option (K × V)) → get a p ≡ o → Updates a (with_value a p o v) p (option_map (λ x. (x.0, v)) o)
      go None is = record { changed = is; others = λ q apart. refl }
      go (Some x) is =
          let es = with_item_among a.entries p.0 (x.0, v) in
          let before = named-entry a.entries p x is in
          let here : entry_at es p.0 ≡ Some (p.1, (x.0, v)) = entry_at-with_item_among a.entries p.0 (x.0, v) ∙ ap (option_map (λ e. (e.0, (x.0, v)))) before in
          record {
            changed = changed-at a.entries es p (Some (x.0, v)) here;
            others = others-at a.entries es p (Some (x.0, v)) (Some x) before here (λ i other. entry_at-with_item_among_other a.entries p.0 i (x.0, v) other);
          }

-- entries that pass a test
module _ {T : Type 0} (test : Entry T → Bool) where
  pub fewer-passing : (i : ℕ) (es : List (Entry T)) → times i (filter test es) ≤ times i es
  fewer-passing i [] = omega arith
  fewer-passing i (e ∷ es) = grind (arith, common_steps, fewer-passing i es)

  none-passing : (i : ℕ) (es : List (Entry T)) → times i es ≡ 0 → entry_at (filter test es) i ≡ None
  none-passing i es none = entry_at-absent (filter test es) i (omega (arith, fewer-passing i es, none))

  abbrev passing_at : ℕ → Option (ℕ × T) → Option (ℕ × T)
  passing_at i None = None
  passing_at i (Some e) = if test (record { index = i; generation = e.0; item = e.1 }) then Some e else None

  entry_at-passing : (es : List (Entry T)) (i : ℕ) → times i es ≤ 1 → entry_at (filter test es) i ≡ passing_at i (entry_at es i)
  entry_at-passing [] i once = refl
  entry_at-passing (e ∷ es) i once = go (test e) refl (λ rest. entry_at-passing es i rest) (eqb_tells e.index i)
    where
      go : (b : Bool) → test e ≡ b → (times i es ≤ 1 → entry_at (filter test es) i ≡ passing_at i (entry_at es i))
          → (((e.index == i) ≡ true) × (e.index ≡ i)) ⊎ (((e.index == i) ≡ false) × (e.index ≢ i)) → entry_at (filter test (e ∷ es)) i ≡ passing_at i (entry_at (e ∷ es) i)
      go true is later (inl h) = rw (is, h.0) (sym (subst (λ (j : ℕ). passing_at j (Some (e.generation, e.item)) ≡ Some (e.generation, e.item)) h.1 (rw is refl)))
      go true is later (inr h) = rw is (rw (h.0) (later (grind (arith, common_steps, once, h.0))))
      go false is later (inl h) =
          let none : times i es ≡ 0 = grind (arith, common_steps, once, h.0) in
          rw is (rw (h.0) (none-passing i es none ∙ sym (subst (λ (j : ℕ). passing_at j (Some (e.generation, e.item)) ≡ None) h.1 (rw is refl))))
      go false is later (inr h) = rw is (rw (h.0) (later (grind (arith, common_steps, once, h.0))))

  -- what a pointer finds among them
  pub item_of-passing : (es : List (Entry T)) → IsDistinct es → (q : ℕ × ℕ) → item_of (filter test es) q ≡ if_passing test q (item_of es q)
  item_of-passing es distinct q = ap (item_if q.1) (entry_at-passing es q.0 (distinct q.0)) ∙ go (entry_at es q.0)
    where
      go : (o : Option (ℕ × T)) → item_if q.1 (passing_at q.0 o) ≡ if_passing test q (item_if q.1 o)
      go None = refl
      go (Some e) = elim (eqb_tells e.0 q.1) [
        | inl h ↦ own h.0 h.1 (test (record { index = q.0; generation = e.0; item = e.1 })) refl
        | inr h ↦ other h.0 (test (record { index = q.0; generation = e.0; item = e.1 })) refl
      ]
        where
          own : (e.0 == q.1) ≡ true → e.0 ≡ q.1 → (b : Bool) → test (record { index = q.0; generation = e.0; item = e.1 }) ≡ b
              → item_if q.1 (passing_at q.0 (Some e)) ≡ if_passing test q (item_if q.1 (Some e))
          own same is true passes = rw (passes, same) (sym (subst (λ (g : ℕ). (if test (record { index = q.0; generation = g; item = e.1 }) then Some e.1 else None) ≡ Some e.1) is (rw passes refl)))
          own same is false passes = rw (passes, same) (sym (subst (λ (g : ℕ). (if test (record { index = q.0; generation = g; item = e.1 }) then Some e.1 else None) ≡ None) is (rw passes refl)))

          other : (e.0 == q.1) ≡ false → (b : Bool) → test (record { index = q.0; generation = e.0; item = e.1 }) ≡ b
              → item_if q.1 (passing_at q.0 (Some e)) ≡ if_passing test q (item_if q.1 (Some e))
          other apart true passes = rw (passes, apart) refl
          other apart false passes = rw (passes, apart) refl
