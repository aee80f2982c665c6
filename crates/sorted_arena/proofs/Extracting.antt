-- Entries of a part of a list that are taken out by a test, while they are gone through in order.
use Rattle.std.proofs.Common.{◌≡◌, ℕ, ◌+◌, ◌≤◌, ◌<◌, ◌==◌, Bool, true, false, if◌then◌else◌, cond, length, length-append, append_assoc, filter, List, [], ◌∷◌, ◌++◌, Option, Some, inl, inr, refl, sym, ap, subst, ◌∙◌, arith}
use Rattle.std.proofs.lemmas.{List.append-nil, Bool.Decides.eqb_tells}
use Rattle.std.specs.{List.AllByRecursion, List.Retain.IsFiltered, Option.option_map}
use Rattle.listing.specs.{Chain.Entry, Chain.IsDistinct, Chain.times, Gap.first_of}
use Rattle.listing.proofs.{ChainLemmas.times-append, CallerLemmas.distinct-rest, OrdLemmas.recursion-map}
use Rattle.sorted_arena.specs.{Sorted.Sorted, Sorted.pointer_of, Sorted.with_left, Sorted.with_rest, Sorted.next_of, Taking.IsCutAt, Taking.TakesOut, Taking.ExtractsAt}
use Rattle.sorted_arena.proofs.{Entries.HasBehind, Entries.behind-more, Entries.given-is, Cutting.some-same, Taking.cut-next_of, Outside.IsPart, Removing.RemovesMany, Removing.removes-none, Removing.removes-more, Removing.removes-rest, Retaining.filtered-more, Retaining.filtered-none}

module _ {T : Type 0} where
  -- none of these has the index of an entry
  abbrev lacks : List (Entry T) → Entry T → Bool
  lacks taken e = times e.index taken == 0

  one-here : (e : Entry T) (es : List (Entry T)) → times e.index (e ∷ es) ≡ 1 + times e.index es
  one-here e es = elim (eqb_tells e.index e.index) [
    | inl h ↦ rw (h.0) refl
    | inr h ↦ absurd (h.1 refl)
  ]

  -- before and behind entries of a list none shares an index with them
  apart-before : (es others : List (Entry T)) → IsDistinct (es ++ others) → AllByRecursion (λ e. times e.index others ≡ 0) es
  apart-before [] others distinct = tt
  apart-before (e ∷ es) others distinct = (
    omega (arith, distinct e.index, times-append e.index (e ∷ es) others, one-here e es),
    apart-before es others (distinct-rest e (es ++ others) distinct),
  )

  apart-behind : (others es : List (Entry T)) → IsDistinct (others ++ es) → AllByRecursion (λ e. times e.index others ≡ 0) es
  apart-behind others [] distinct = tt
  apart-behind others (e ∷ es) distinct = (
    omega (arith, distinct e.index, times-append e.index others (e ∷ es), one-here e es),
    apart-behind others es (λ i. omega (arith, distinct i, times-append i others (e ∷ es), times-append i others es, (let more : times i es ≤ times i (e ∷ es) = omega arith in more))),
  )

  -- a filter keeps all that it lets pass, and goes through parts one by one
  filter-whole : (test : Entry T → Bool) (es : List (Entry T)) → AllByRecursion (λ e. test e ≡ true) es → filter test es ≡ es
  filter-whole test [] all = refl
  filter-whole test (e ∷ es) all = rw (all.0) (ap (λ xs. e ∷ xs) (filter-whole test es all.1))

  filter-parts : (test : Entry T → Bool) (xs ys : List (Entry T)) → filter test (xs ++ ys) ≡ filter test xs ++ filter test ys
  filter-parts test [] ys = refl
  filter-parts test (x ∷ xs) ys = go (test x) refl (filter-parts test xs ys)
    where
      go : (b : Bool) → test x ≡ b → filter test (xs ++ ys) ≡ filter test xs ++ filter test ys → filter test (x ∷ (xs ++ ys)) ≡ filter test (x ∷ xs) ++ filter test ys
      go true is rest = rw is (ap (λ zs. x ∷ zs) rest)
      go false is rest = rw is rest

  lacking : (taken : List (Entry T)) (e : Entry T) → times e.index taken ≡ 0 → lacks taken e ≡ true
  lacking taken e none = rw none refl

  -- what doesn't lack one entry more
  lacks-more : (taken : List (Entry T)) (f : Entry T) (es : List (Entry T)) → AllByRecursion (λ e. times e.index (f ∷ []) ≡ 0) es → filter (lacks (taken ++ f ∷ [])) es ≡ filter (lacks taken) es
  lacks-more taken f [] all = refl
  lacks-more taken f (e ∷ es) all =
      let same : times e.index (taken ++ f ∷ []) ≡ times e.index taken = omega (arith, times-append e.index taken (f ∷ []), all.0) in
      go (lacks taken e) refl (ap (λ n. n == 0) same) (lacks-more taken f es all.1)
    where
      go : (b : Bool) → lacks taken e ≡ b → lacks (taken ++ f ∷ []) e ≡ lacks taken e → filter (lacks (taken ++ f ∷ [])) es ≡ filter (lacks taken) es
          → filter (lacks (taken ++ f ∷ [])) (e ∷ es) ≡ filter (lacks taken) (e ∷ es)
      go true is same rest = rw (same, is) (ap (λ zs. e ∷ zs) rest)
      go false is same rest = rw (same, is) rest

module _ {F P K V : Type 0} (numbers : P → ℕ × ℕ) (R : F → Entry (K × V) → Bool → F → Type 0) (greatest : Option ℕ) (old : Sorted K V) (f0 : F) (middle : List (Entry (K × V))) (given : List (P × K × V)) where
  -- Of the part, these were asked for and these not yet, from the one on that `next` names; of those that were, these stay and these are gone.
  pub record Extracts (now : Sorted K V) (next : Option (ℕ × ℕ)) (f : F) (filled : List (P × K × V)) (i : ℕ) : Type 0 where
    pub front : List (Entry (K × V))
    pub back : List (Entry (K × V))
    pub asked : List (Entry (K × V))
    pub rest : List (Entry (K × V))
    pub kept : List (Entry (K × V))
    pub taken : List (Entry (K × V))
    pub whole : old.entries ≡ front ++ (middle ++ back)
    pub part : middle ≡ asked ++ rest
    pub counted : length asked ≡ i
    pub cut : now.entries ≡ front ++ (kept ++ (rest ++ back))
    pub next_is : (e : Entry (K × V)) (es : List (Entry (K × V))) → rest ≡ e ∷ es → next ≡ Some (pointer_of e)
    pub removes : RemovesMany greatest old now (length taken)
    pub behind : HasBehind numbers given filled taken
    pub follows : (ys : List (Entry (K × V))) → IsFiltered R f rest ys → IsFiltered R f0 middle (taken ++ ys)
    pub among : (j : ℕ) → times j taken ≤ times j asked
    pub kept_are : kept ≡ filter (lacks taken) asked

  pub extracts-none : (others : List (Entry (K × V))) (first : Option (ℕ × ℕ)) (filled : List (P × K × V)) → IsPart old.entries middle others → first ≡ option_map pointer_of (first_of middle)
      → HasBehind numbers given filled [] → Extracts old first f0 filled 0
  extracts-none others first filled part begins behind = record {
    front = part.front;
    back = part.back;
    asked = [];
    rest = middle;
    kept = [];
    taken = [];
    whole = part.cut;
    part = refl;
    counted = refl;
    cut = part.cut;
    next_is = λ e es is. begins ∙ ap (λ (xs : List (Entry (K × V))). option_map pointer_of (first_of xs)) is;
    removes = removes-none greatest old;
    behind = behind;
    follows = λ ys filtered. filtered;
    among = λ j. omega arith;
    kept_are = refl;
  }

  module _ (distinct : IsDistinct old.entries) (now : Sorted K V) (next : Option (ℕ × ℕ)) (f : F) (filled : List (P × K × V)) (i : ℕ) (t : Extracts now next f filled i) where
    -- the part alone has no index twice
    apart : IsDistinct middle
    apart j = omega (arith, distinct j, ap (times j) t.whole, times-append j t.front (middle ++ t.back), times-append j middle t.back)

    module _ (less : i < length middle) where
      -- there is a next entry
      pub record Goes : Type 0 where
        pub entry : Entry (K × V)
        pub later : List (Entry (K × V))
        pub is : t.rest ≡ entry ∷ later

      goes : Goes
      goes = go t.rest refl
        where
          go : (rest : List (Entry (K × V))) → t.rest ≡ rest → Goes
          go [] is = absurd (omega (arith, ap length t.part, length-append t.asked t.rest, t.counted, ap length is))
          go (e ∷ es) is = record { entry = e; later = es; is = is }

      pub extracts-cut : IsCutAt now.entries next
      extracts-cut = record {
        front = t.front ++ t.kept;
        entry = goes.entry;
        back = goes.later ++ t.back;
        cut = t.cut ∙ ap (λ (xs : List (Entry (K × V))). t.front ++ (t.kept ++ (xs ++ t.back))) goes.is ∙ sym (append_assoc t.front t.kept (goes.entry ∷ (goes.later ++ t.back)));
        named = t.next_is goes.entry goes.later goes.is;
      }

      part_is : middle ≡ t.asked ++ goes.entry ∷ goes.later
      part_is = t.part ∙ ap (λ (xs : List (Entry (K × V))). t.asked ++ xs) goes.is

      -- the next entry has no index of those that were asked for
      others : AllByRecursion (λ e. times e.index (goes.entry ∷ goes.later) ≡ 0) t.asked
      others = apart-before t.asked (goes.entry ∷ goes.later) (subst (λ (xs : List (Entry (K × V))). IsDistinct xs) part_is apart)

      new_here : times goes.entry.index t.asked ≡ 0
      new_here = (apart-behind t.asked (goes.entry ∷ goes.later) (subst (λ (xs : List (Entry (K × V))). IsDistinct xs) part_is apart)).0

      pub extracts-more : (new : Sorted K V) (after : Option (ℕ × ℕ)) (g : F) (more : List (P × K × V))
          → ((at : IsCutAt now.entries next) → ExtractsAt numbers R greatest now next at f g filled more new after) → Extracts new after g more (i + 1)
      unfolding extracts-cut
      extracts-more new after g more extracts = go (extracts extracts-cut).answer (extracts extracts-cut).told (extracts extracts-cut).filled_is (extracts extracts-cut).left
        where
          at : ExtractsAt numbers R greatest now next extracts-cut f g filled more new after
          at = extracts extracts-cut

          next_is : (e : Entry (K × V)) (es : List (Entry (K × V))) → goes.later ≡ e ∷ es → after ≡ Some (pointer_of e)
          next_is e es is = at.next_is ∙ ap (λ (xs : List (Entry (K × V))). option_map pointer_of (first_of (xs ++ t.back))) is

          part : middle ≡ (t.asked ++ goes.entry ∷ []) ++ goes.later
          part = part_is ∙ sym (append_assoc t.asked (goes.entry ∷ []) goes.later)

          counted : length (t.asked ++ goes.entry ∷ []) ≡ i + 1
          counted = omega (arith, t.counted, length-append t.asked (goes.entry ∷ []))

          asks : (b : Bool) (ys : List (Entry (K × V))) → R f goes.entry b g → IsFiltered R g goes.later ys → IsFiltered R f0 middle (t.taken ++ cond b (goes.entry ∷ ys) ys)
          asks b ys told filtered = t.follows (cond b (goes.entry ∷ ys) ys)
              (subst (λ (xs : List (Entry (K × V))). IsFiltered R f xs (cond b (goes.entry ∷ ys) ys)) (sym goes.is) (filtered-more R f g goes.entry b goes.later ys told filtered))

          go : (answer : Bool) → R f goes.entry answer g → more ≡ (if answer then filled ++ at.shown ∷ [] else filled)
              → new ≡ (if answer then with_left greatest now ((t.front ++ t.kept) ++ (goes.later ++ t.back)) else now) → Extracts new after g more (i + 1)
          go true told filled_is left = record {
            front = t.front;
            back = t.back;
            asked = t.asked ++ goes.entry ∷ [];
            rest = goes.later;
            kept = t.kept;
            taken = t.taken ++ goes.entry ∷ [];
            whole = t.whole;
            part = part;
            counted = counted;
            cut = ap (λ (a : Sorted K V). a.entries) left ∙ append_assoc t.front t.kept (goes.later ++ t.back);
            next_is = next_is;
            removes = subst (λ (n : ℕ). RemovesMany greatest old new n) (omega (arith, length-append t.taken (goes.entry ∷ [])))
                (removes-more greatest old now new (length t.taken) (t.front ++ t.kept) (goes.later ++ t.back) goes.entry t.removes extracts-cut.cut left);
            behind = behind-more numbers given filled more t.taken at.shown goes.entry t.behind filled_is at.shows;
            follows = λ ys filtered. subst (λ (zs : List (Entry (K × V))). IsFiltered R f0 middle zs) (sym (append_assoc t.taken (goes.entry ∷ []) ys)) (asks true ys told filtered);
            among = λ j. omega (arith, t.among j, times-append j t.taken (goes.entry ∷ []), times-append j t.asked (goes.entry ∷ []));
            kept_are = t.kept_are ∙ sym (lacks-more t.taken goes.entry t.asked (recursion-map _ _ (λ e none. omega (arith, none)) t.asked others))
                ∙ sym (append-nil (filter (lacks (t.taken ++ goes.entry ∷ [])) t.asked))
                ∙ ap (λ (xs : List (Entry (K × V))). filter (lacks (t.taken ++ goes.entry ∷ [])) t.asked ++ xs) (sym gone)
                ∙ sym (filter-parts (lacks (t.taken ++ goes.entry ∷ [])) t.asked (goes.entry ∷ []));
          }
            where
              gone : filter (lacks (t.taken ++ goes.entry ∷ [])) (goes.entry ∷ []) ≡ []
              gone =
                  let one : times goes.entry.index (t.taken ++ goes.entry ∷ []) ≡ 1 = omega (arith, times-append goes.entry.index t.taken (goes.entry ∷ []), one-here goes.entry [], t.among goes.entry.index, new_here) in
                  rw one refl
          go false told filled_is left = record {
            front = t.front;
            back = t.back;
            asked = t.asked ++ goes.entry ∷ [];
            rest = goes.later;
            kept = t.kept ++ goes.entry ∷ [];
            taken = t.taken;
            whole = t.whole;
            part = part;
            counted = counted;
            cut = ap (λ (a : Sorted K V). a.entries) left ∙ t.cut ∙ ap (λ (xs : List (Entry (K × V))). t.front ++ (t.kept ++ (xs ++ t.back))) goes.is
                ∙ ap (λ (xs : List (Entry (K × V))). t.front ++ xs) (sym (append_assoc t.kept (goes.entry ∷ []) (goes.later ++ t.back)));
            next_is = next_is;
            removes = subst (λ (a : Sorted K V). RemovesMany greatest old a (length t.taken)) (sym left) t.removes;
            behind = subst (λ (xs : List (P × K × V)). HasBehind numbers given xs t.taken) (sym filled_is) t.behind;
            follows = λ ys filtered. asks false ys told filtered;
            among = λ j. omega (arith, t.among j, times-append j t.asked (goes.entry ∷ []));
            kept_are = ap (λ (xs : List (Entry (K × V))). xs ++ goes.entry ∷ []) t.kept_are
                ∙ ap (λ (xs : List (Entry (K × V))). filter (lacks t.taken) t.asked ++ xs) (sym stays)
                ∙ sym (filter-parts (lacks t.taken) t.asked (goes.entry ∷ []));
          }
            where
              stays : filter (lacks t.taken) (goes.entry ∷ []) ≡ goes.entry ∷ []
              stays = let none : times goes.entry.index t.taken ≡ 0 = omega (arith, t.among goes.entry.index, new_here) in rw none refl

    -- all were asked for
    module _ (all : i ≡ length middle) where
      none-left : t.rest ≡ []
      none-left = go t.rest refl
        where
          go : (rest : List (Entry (K × V))) → t.rest ≡ rest → rest ≡ []
          go [] is = refl
          go (e ∷ es) is = absurd (omega (arith, ap length t.part, length-append t.asked t.rest, t.counted, ap length is))

      all-asked : t.asked ≡ middle
      all-asked = sym (t.part ∙ ap (λ (xs : List (Entry (K × V))). t.asked ++ xs) none-left ∙ append-nil t.asked)

      -- none outside the part has the index of one that is gone
      outside : (es : List (Entry (K × V))) → AllByRecursion (λ e. times e.index middle ≡ 0) es → filter (lacks t.taken) es ≡ es
      outside es none = filter-whole (lacks t.taken) es
          (recursion-map _ _ (λ e is. lacking t.taken e (omega (arith, is, t.among e.index, ap (times e.index) all-asked))) es none)

      before : AllByRecursion (λ e. times e.index middle ≡ 0) t.front
      before = recursion-map _ _ (λ e none. omega (arith, none, times-append e.index middle t.back)) t.front
          (apart-before t.front (middle ++ t.back) (subst (λ (xs : List (Entry (K × V))). IsDistinct xs) t.whole distinct))

      behind : AllByRecursion (λ e. times e.index middle ≡ 0) t.back
      behind = apart-behind middle t.back (λ j. omega (arith, distinct j, ap (times j) t.whole, times-append j t.front (middle ++ t.back)))

      left-filtered : now.entries ≡ filter (lacks t.taken) old.entries
      left-filtered =
          t.cut ∙ ap (λ (xs : List (Entry (K × V))). t.front ++ (t.kept ++ (xs ++ t.back))) none-left
          ∙ ap (λ (xs : List (Entry (K × V))). t.front ++ (xs ++ t.back)) (t.kept_are ∙ ap (filter (lacks t.taken)) all-asked)
          ∙ ap (λ (xs : List (Entry (K × V))). xs ++ (filter (lacks t.taken) middle ++ t.back)) (sym (outside t.front before))
          ∙ ap (λ (xs : List (Entry (K × V))). filter (lacks t.taken) t.front ++ (filter (lacks t.taken) middle ++ xs)) (sym (outside t.back behind))
          ∙ ap (λ (xs : List (Entry (K × V))). filter (lacks t.taken) t.front ++ xs) (sym (filter-parts (lacks t.taken) middle t.back))
          ∙ sym (filter-parts (lacks t.taken) t.front (middle ++ t.back)) ∙ ap (filter (lacks t.taken)) (sym t.whole)

      pub extracts-done : IsFiltered R f0 middle t.taken × (now ≡ with_rest greatest old (filter (lacks t.taken) old.entries)) × HasBehind numbers given filled t.taken
      extracts-done = (
        subst (λ (zs : List (Entry (K × V))). IsFiltered R f0 middle zs) (append-nil t.taken)
            (t.follows [] (subst (λ (zs : List (Entry (K × V))). IsFiltered R f zs []) (sym none-left) (filtered-none R f))),
        removes-rest greatest old now (length t.taken) (filter (lacks t.taken) old.entries) t.removes left-filtered,
        t.behind,
      )

-- the entry at a cut was asked for, and stays or goes to the end of a list
module _ {F P K V : Type 0} (numbers : P → ℕ × ℕ) (R : F → Entry (K × V) → Bool → F → Type 0) (greatest : Option ℕ) (old : Sorted K V) (distinct : IsDistinct old.entries) (next : Option (ℕ × ℕ)) (p : P)
    (is : next ≡ Some (numbers p)) (at : IsCutAt old.entries next) (f g : F) (given filled : List (P × K × V)) (after : Option (ℕ × ℕ)) where
  named : numbers p ≡ pointer_of at.entry
  named = some-same (sym is ∙ at.named)

  pub extracts-kept : R f at.entry false g → filled ≡ given → after ≡ next_of old.entries (numbers p) → ExtractsAt numbers R greatest old next at f g given filled old after
  extracts-kept told filled_is after_is = record {
    answer = false;
    told = told;
    shown = (p, at.entry.item.0, at.entry.item.1);
    shows = given-is numbers (p, at.entry.item.0, at.entry.item.1) at.entry named refl;
    filled_is = filled_is;
    left = refl;
    next_is = cut-next_of greatest old distinct next (numbers p) is at after after_is;
  }

  pub extracts-gone : R f at.entry true g → (new : Sorted K V) (item : K × V) → TakesOut greatest old next at item new after → filled ≡ given ++ (p, item.0, item.1) ∷ []
      → ExtractsAt numbers R greatest old next at f g given filled new after
  extracts-gone told new item out filled_is = record {
    answer = true;
    told = told;
    shown = (p, item.0, item.1);
    shows = given-is numbers (p, item.0, item.1) at.entry named out.item_is;
    filled_is = filled_is;
    left = out.left;
    next_is = out.next_is;
  }
