-- The entries that a test keeps: what is left while they are gone through in order.
use Rattle.std.proofs.Common.{◌≡◌, ℕ, ◌+◌, ◌≤◌, ◌<◌, Bool, true, false, if◌then◌else◌, cond, length, append_assoc, List, [], ◌∷◌, ◌++◌, Option, Some, None, refl, sym, ap, subst, ◌∙◌, arith}
use Rattle.std.proofs.lemmas.List.{append-nil}
use Rattle.std.specs.{List.Retain.IsFiltered, Option.option_map}
use Rattle.listing.specs.{Chain.Entry, Chain.IsDistinct, Chain.first_pointer, Gap.first_of}
use Rattle.sorted_arena.specs.{Stretch.stretch, Stretch.first_index, Sorted.Sorted, Sorted.count, Sorted.pointer_of, Sorted.with_left, Sorted.with_rest}
use Rattle.sorted_arena.specs.Taking.{IsCutAt, AsksFor}
use Rattle.sorted_arena.proofs.{Cutting.index-pointer, Removing.RemovesMany, Removing.removes-none, Removing.removes-more, Removing.removes-rest, Stretching.between-cuts}

-- a test of one more element in front
module _ {X F : Type 0} (R : F → X → Bool → F → Type 0) where
  pub filtered-more : (f g : F) (x : X) (b : Bool) (xs ys : List X) → R f x b g → IsFiltered R g xs ys → IsFiltered R f (x ∷ xs) (cond b (x ∷ ys) ys)
  filtered-more f g x true xs ys told rest = (true ∷ rest.0, rest.1, omega (arith, rest.2), (g, told, rest.3), ap (λ zs. x ∷ zs) rest.4)
  filtered-more f g x false xs ys told rest = (false ∷ rest.0, rest.1, omega (arith, rest.2), (g, told, rest.3), rest.4)

  pub filtered-none : (f : F) → IsFiltered R f [] []
  filtered-none f = ([], f, refl, refl, refl)

pub first-pointer : {K V : Type 0} (es : List (Entry (K × V))) → first_pointer es ≡ option_map pointer_of (first_of es)
first-pointer [] = refl
first-pointer (e ∷ es) = refl

-- how many entries stand from a pointer on
abbrev pub left-from : {K V : Type 0} → List (Entry (K × V)) → Option (ℕ × ℕ) → ℕ
left-from es next = length (stretch es (option_map (λ p. p.0) next) None)

module _ {K V F : Type 0} (R : F → Entry (K × V) → Bool → F → Type 0) (greatest : Option ℕ) (old : Sorted K V) (f0 : F) where
  -- These entries are kept, and these are still to be asked for, from the one on that `next` names.
  pub record Retains (now : Sorted K V) (next : Option (ℕ × ℕ)) (f : F) : Type 0 where
    pub kept : List (Entry (K × V))
    pub rest : List (Entry (K × V))
    pub gone : ℕ
    pub cut : now.entries ≡ kept ++ rest
    pub next_is : next ≡ option_map pointer_of (first_of rest)
    pub removes : RemovesMany greatest old now gone
    pub follows : (ys : List (Entry (K × V))) → IsFiltered R f rest ys → IsFiltered R f0 old.entries (kept ++ ys)

  pub retains-none : (next : Option (ℕ × ℕ)) → next ≡ option_map pointer_of (first_of old.entries) → Retains old next f0
  retains-none next is = record { kept = []; rest = old.entries; gone = 0; cut = refl; next_is = is; removes = removes-none greatest old; follows = λ ys filtered. filtered }

  module _ (now : Sorted K V) (next : Option (ℕ × ℕ)) (f : F) (distinct : IsDistinct now.entries) (r : Retains now next f) where
    left-rest : left-from now.entries next ≡ length r.rest
    left-rest =
        let at : option_map (λ (p : ℕ × ℕ). p.0) next ≡ first_index (r.rest ++ []) =
        ap (option_map (λ (p : ℕ × ℕ). p.0)) r.next_is ∙ sym (index-pointer (first_of r.rest)) ∙ ap first_index (sym (append-nil r.rest)) in
        ap (λ (i : Option ℕ). length (stretch now.entries i None)) at
        ∙ ap length (between-cuts now.entries distinct r.kept r.rest [] (r.cut ∙ ap (λ (xs : List (Entry (K × V))). r.kept ++ xs) (sym (append-nil r.rest))))

    module _ (p : ℕ × ℕ) (is : next ≡ Some p) where
      -- there is a next entry
      pub record Meets : Type 0 where
        pub entry : Entry (K × V)
        pub later : List (Entry (K × V))
        pub rest_is : r.rest ≡ entry ∷ later
        pub named : p ≡ pointer_of entry

      pub meets : Meets
      meets = go r.rest refl
        where
          go : (rest : List (Entry (K × V))) → r.rest ≡ rest → Meets
          go [] nil = absurd (let both : Some p ≡ None = sym is ∙ r.next_is ∙ ap (λ (xs : List (Entry (K × V))). option_map pointer_of (first_of xs)) nil in cc)
          go (e ∷ es) cons =
              let both : Some p ≡ Some (pointer_of e) = sym is ∙ r.next_is ∙ ap (λ (xs : List (Entry (K × V))). option_map pointer_of (first_of xs)) cons in
              record { entry = e; later = es; rest_is = cons; named = cc }

      pub cut-meets : IsCutAt now.entries next
      cut-meets = record {
        front = r.kept;
        entry = meets.entry;
        back = meets.later;
        cut = r.cut ∙ ap (λ (xs : List (Entry (K × V))). r.kept ++ xs) meets.rest_is;
        named = is ∙ ap (λ (q : ℕ × ℕ). Some q) meets.named;
      }

      -- the next entry was asked for
      pub record Stepped (new : Sorted K V) (after : Option (ℕ × ℕ)) (g : F) : Type 0 where
        pub retains : Retains new after g
        pub shorter : length retains.rest < length r.rest

      pub retains-more : (new : Sorted K V) (after : Option (ℕ × ℕ)) (g : F) → ((at : IsCutAt now.entries next) → AsksFor R greatest now next at f g new after) → Stepped new after g
      unfolding cut-meets
      retains-more new after g asks = go (asks cut-meets).answer (asks cut-meets).told (asks cut-meets).left
        where
          fewer : length meets.later < length r.rest
          fewer = omega (arith, ap length meets.rest_is)

          go : (answer : Bool) → R f meets.entry answer g → new ≡ (if answer then now else with_left greatest now (r.kept ++ meets.later)) → Stepped new after g
          go true told left = record {
            retains = record {
              kept = r.kept ++ meets.entry ∷ [];
              rest = meets.later;
              gone = r.gone;
              cut = ap (λ (a : Sorted K V). a.entries) left ∙ cut-meets.cut ∙ sym (append_assoc r.kept (meets.entry ∷ []) meets.later);
              next_is = (asks cut-meets).next_is;
              removes = subst (λ (a : Sorted K V). RemovesMany greatest old a r.gone) (sym left) r.removes;
              follows = λ ys filtered. subst (λ (zs : List (Entry (K × V))). IsFiltered R f0 old.entries zs) (sym (append_assoc r.kept (meets.entry ∷ []) ys))
                  (r.follows (meets.entry ∷ ys) (subst (λ (zs : List (Entry (K × V))). IsFiltered R f zs (meets.entry ∷ ys)) (sym meets.rest_is) (filtered-more R f g meets.entry true meets.later ys told filtered)));
            };
            shorter = fewer;
          }
          go false told left = record {
            retains = record {
              kept = r.kept;
              rest = meets.later;
              gone = r.gone + 1;
              cut = ap (λ (a : Sorted K V). a.entries) left;
              next_is = (asks cut-meets).next_is;
              removes = removes-more greatest old now new r.gone r.kept meets.later meets.entry r.removes cut-meets.cut left;
              follows = λ ys filtered. r.follows ys (subst (λ (zs : List (Entry (K × V))). IsFiltered R f zs ys) (sym meets.rest_is) (filtered-more R f g meets.entry false meets.later ys told filtered));
            };
            shorter = fewer;
          }

    -- all were asked for
    module _ (is : next ≡ None) where
      nothing-left : r.rest ≡ []
      nothing-left = go r.rest refl
        where
          go : (rest : List (Entry (K × V))) → r.rest ≡ rest → rest ≡ []
          go [] nil = refl
          go (e ∷ es) cons = absurd (let both : None ≡ Some (pointer_of e) = sym is ∙ r.next_is ∙ ap (λ (xs : List (Entry (K × V))). option_map pointer_of (first_of xs)) cons in cc)

      pub retains-done : IsFiltered R f0 old.entries now.entries × (now ≡ with_rest greatest old now.entries) × (count now ≤ count old)
      retains-done =
          let all : now.entries ≡ r.kept ++ [] = r.cut ∙ ap (λ (xs : List (Entry (K × V))). r.kept ++ xs) nothing-left in (
            subst (λ (zs : List (Entry (K × V))). IsFiltered R f0 old.entries zs) (sym all)
                (r.follows [] (subst (λ (zs : List (Entry (K × V))). IsFiltered R f zs []) (sym nothing-left) (filtered-none R f))),
            removes-rest greatest old now r.gone now.entries r.removes refl,
            omega (arith, r.removes.fewer),
          )

-- fewer entries are left after a step
pub left-fewer : {K V F : Type 0} (R : F → Entry (K × V) → Bool → F → Type 0) (greatest : Option ℕ) (old : Sorted K V) (f0 : F) (now : Sorted K V) (next : Option (ℕ × ℕ)) (f : F) (distinct : IsDistinct now.entries)
    (r : Retains R greatest old f0 now next f) (p : ℕ × ℕ) (is : next ≡ Some p) (new : Sorted K V) (after : Option (ℕ × ℕ)) (g : F) → IsDistinct new.entries → Stepped R greatest old f0 now next f distinct r p is new after g
    → left-from new.entries after < left-from now.entries next
left-fewer R greatest old f0 now next f distinct r p is new after g distinct_new s =
    omega (arith, s.shorter, left-rest R greatest old f0 now next f distinct r, left-rest R greatest old f0 new after g distinct_new s.retains)
