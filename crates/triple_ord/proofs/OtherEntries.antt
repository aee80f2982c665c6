-- A search for the place of a key among all entries but one: its answers, and its end.
use Rattle.triple_ord.proofs.Words.{◌≡◌, ◌≢◌, ℕ, ◌+◌, ◌-◌, ◌≤◌, length, List, [], ◌∷◌, ◌++◌, Option, Some, None, IsSome, IfSome, refl, sym, ap, subst, ◌∙◌, arith, common_steps, inl, inr, append_assoc, option_map, cases_eq}
use Rattle.triple_ord.proofs.Words.{All, AllByRecursion, All-from_recursion, All-contains, FoldsTo, Contains, Contains-push, Link, link_at, entry_at}
use Rattle.triple_ord.proofs.Words.{Entry, times, IsDistinct, times-append, Shape, first_of, last_of, present, order_to, Passed, Ordering, Less, Greater, Shown, IsDescending, HasDescended, similar_of}
use Rattle.triple_ord.proofs.Inserting.{begins, ends, no_last, link-read, entry_at-here}
use Rattle.triple_ord.proofs.Without.{without-last, first-kept, last-kept}
use Rattle.triple_ord.proofs.Descending.{cut_there, descent-empty, neighbours_shown}
use Rattle.triple_ord.proofs.OrderLaws.{taken-less, taken-greater}
use Rattle.triple_ord.specs.Around.{last_item, order_behind, AnswersAround, FindsAround}
use Rattle.ord_tree.specs.Chain.{without}

-- the property of each call, for calls that leave no state
asked_all : {X : Type 0} (Q : X → Type 0) (xs : List X) (f g : Unit {0}) → FoldsTo {P = Unit {0}} (λ f s g. Q s) f xs g → AllByRecursion Q xs
asked_all Q [] f g calls = tt
asked_all Q (x ∷ xs) f g calls = (calls.1, asked_all Q xs calls.0 g calls.2)

present-most : {X : Type 0} (o : Option X) → present o ≤ 1
present-most o = grind (arith, common_steps)

-- the item before an entry, from the entry's link
module _ {T : Type 0} (es : List (Entry T)) (distinct : IsDistinct es) (i g : ℕ) (l : Link T) (shown : link_at es i ≡ Some (g, l))
    (front back : List (Entry T)) (e : Entry T) (here : e.index ≡ i) (cut : es ≡ front ++ e ∷ back) where
  prev_is : option_map (λ e. e.index) (last_of None front) ≡ l.prev
  prev_is = (link-read es distinct front e back cut g l (ap (link_at es) here ∙ shown)).prev

  pub none_before : l.prev ≡ None → None ≡ last_item front
  none_before none = grind (arith, common_steps, prev_is, none)

  -- the previous entry is at the index that the link names
  before_at : (j : ℕ) → l.prev ≡ Some j → (f : Entry T) × (last_of None front ≡ Some f) × (entry_at es j ≡ Some (f.generation, f.item))
  before_at j some = go (last_of None front) refl (prev_is ∙ some)
    where
      go : (o : Option (Entry T)) → last_of None front ≡ o → option_map (λ e. e.index) o ≡ Some j → (f : Entry T) × (last_of None front ≡ Some f) × (entry_at es j ≡ Some (f.generation, f.item))
      go None is at = absurd (cc)
      go (Some f) is at =
          let index : f.index ≡ j = cc in
          let f_front = ends front f is in
          let f_cut : es ≡ f_front.0 ++ f ∷ (e ∷ back) = cut ∙ ap (λ xs. xs ++ e ∷ back) f_front.1 ∙ simp append_assoc in
          (f, is, ap (entry_at es) (sym index) ∙ entry_at-here es distinct f_front.0 f (e ∷ back) f_cut)

  pub item_before : (j : ℕ) → l.prev ≡ Some j → (item : T) → option_map (λ x. x.1) (entry_at es j) ≡ Some item → Some item ≡ last_item front
  item_before j some item there =
      let f = before_at j some in
      sym there ∙ ap (option_map (λ (x : ℕ × T). x.1)) f.2 ∙ sym (ap (option_map (λ (e : Entry T). e.item)) f.1)

  pub occupied_before : (j : ℕ) → l.prev ≡ Some j → IsSome (entry_at es j)
  occupied_before j some = rw (before_at j some).2 refl

module _ {T K : Type 0} (key : T → K) (cmp : K → K → Ordering) (es : List (Entry T)) (distinct : IsDistinct es) (i : ℕ) (k : K) where
  abbrev Asked : Shown T → Type 0
  Asked s = AnswersAround key cmp es i k s

  -- the answer at the entry that is passed over, and at the one after it
  at_most : (o : Option (Entry T)) → Greater ≡ order_behind key cmp k (option_map (λ e. e.item) o) → IfSome o (λ f. order_to key cmp k f ≢ Less)
  at_most None greater = tt
  at_most (Some f) greater = taken-greater cmp k (key f.item) Passed (sym greater)

  -- an entry has one answer
  one_answer : (e : Entry T) (o p : Ordering) (front back : List (Entry T)) → es ≡ front ++ e ∷ back → Asked (e, o) → Asked (e, p) → o ≡ p
  one_answer e o p front back cut a b = elim (cases_eq e.index i) [
    | inl same ↦ a.itself same front back cut ∙ sym (b.itself same front back cut)
    | inr other ↦ a.other other ∙ sym (b.other other)
  ]

  module _ (shape : Shape) (shown : List (Shown T)) (d : IsDescending es shape shown None) (asked : All Asked shown) where
    cut : es ≡ d.front ++ d.back
    cut = cut_there es shape shown d

    once : times i d.front + times i d.back ≤ 1
    once = omega (arith, distinct i, ap (times i) cut, times-append i d.front d.back)

    answered : (e : Entry T) (o : Ordering) → Contains shown (e, o) → Asked (e, o)
    answered e o there = All-contains Asked shown (e, o) asked there

    cut_before : (e : Entry T) (f : List (Entry T)) → d.front ≡ f ++ e ∷ [] → es ≡ f ++ e ∷ d.back
    cut_before e f is = cut ∙ ap (λ xs. xs ++ d.back) is ∙ simp append_assoc

    low : (o : Option (Entry T)) → last_of None d.front ≡ o → IfSome (last_of None (without i d.front)) (λ f. order_to key cmp k f ≢ Less)
    low None none = rw (no_last d.front none) tt
    low (Some e) some =
        let f = ends d.front e some in
        let greater = answered e Greater (rw some at d.greater_before) in
        elim (cases_eq e.index i) [
          | inl same ↦
              let counted = ap (times i) f.1 ∙ times-append i f.0 (e ∷ []) in
              let alone : times i f.0 ≡ 0 = grind (arith, common_steps, counted, once, same) in
              rw (f.1, without-last i f.0 e same alone) (at_most (last_of None f.0) (greater.itself same f.0 d.back (cut_before e f.0 f.1)))
          | inr other ↦ rw (last-kept i d.front e other some) (taken-greater cmp k (key e.item) Passed (sym (greater.other other)))
        ]

    -- the entry that is passed over isn't after the gap: the entry before the gap answered for it
    clash : (f : Entry T) (ys : List (Entry T)) → d.back ≡ f ∷ ys → f.index ≡ i → (o : Option (Entry T)) → last_of None d.front ≡ o
        → Less ≡ order_behind key cmp k (option_map (λ e. e.item) o) → ⊥
    clash f ys is same None none less = cc
    clash f ys is same (Some e) some less =
        let front = ends d.front e some in
        let counted = ap (times i) front.1 ∙ times-append i front.0 (e ∷ []) in
        let behind = ap (times i) is in
        let apart : e.index ≢ i = λ here. grind (arith, common_steps, counted, behind, once, same, here) in
        let greater = (answered e Greater (rw some at d.greater_before)).other apart in
        let both : Less ≡ Greater = less ∙ sym greater in
        cc

    high : (xs : List (Entry T)) → d.back ≡ xs → IfSome (first_of (without i d.back)) (λ f. order_to key cmp k f ≡ Less)
    high [] is = rw is tt
    high (f ∷ ys) is =
        let less = answered f Less (rw is at d.less_after) in
        elim (cases_eq f.index i) [
          | inl same ↦ absurd (clash f ys is same (last_of None d.front) refl (less.itself same d.front ys (cut ∙ ap (λ zs. d.front ++ zs) is)))
          | inr other ↦ rw (is, first-kept i (f ∷ ys) f other refl) (taken-less cmp k (key f.item) Passed (sym (less.other other)))
        ]

    -- the gap has at most as many neighbours without the entry
    present-front : (o : Option (Entry T)) → last_of None d.front ≡ o → present (last_of None (without i d.front)) ≤ present o
    present-front None none = rw (no_last d.front none) (omega arith)
    present-front (Some e) some = present-most (last_of None (without i d.front))

    present-back : (xs : List (Entry T)) → d.back ≡ xs → present (first_of (without i d.back)) ≤ present (first_of xs)
    present-back [] none = rw none (omega arith)
    present-back (f ∷ ys) some = present-most (first_of (without i d.back))

    pub ends_around : (c : ℕ) (last : Option (Shown T)) → length shown ≤ c → last_of None shown ≡ last → FindsAround key cmp es i k (similar_of last) c
    ends_around c None few none = rw none at (descent-empty es shape shown d (last_of None shown) refl)
    ends_around c (Some s) few some =
        let f = ends shown s some in
        let here : Asked s = All-contains Asked shown s asked (subst (λ xs. Contains xs s) (sym f.1) (Contains-push f.0 s)) in (
          s.0,
          refl,
          record {
            gap = record { front = d.front; back = d.back; cut = cut };
            at_most_before = low (last_of None d.front) refl;
            greater_after = high d.back refl;
            seen = omega (
              arith,
              few,
              neighbours_shown shown (last_of None d.front) (first_of d.back) d.greater_before d.less_after,
              present-front (last_of None d.front) refl,
              present-back d.back refl,
            );
            beside = elim (rw some at d.last_beside) [
              | inl before ↦
                  let front = ends d.front s.0 before in
                  inl (before, one_answer s.0 s.1 Greater front.0 d.back (cut_before s.0 front.0 front.1) here (answered s.0 Greater (rw before at d.greater_before)))
              | inr after ↦
                  let back = begins d.back s.0 after in
                  inr (after, one_answer s.0 s.1 Less d.front back.0 (cut ∙ ap (λ zs. d.front ++ zs) back.1) here (answered s.0 Less (rw after at d.less_after)))
            ];
          },
        )

  -- the descent has come to its end
  pub descent-around : (shape : Shape) (before visits : ℕ) (last : Option ((ℕ × ℕ) × Ordering)) → HasDescended {F = Unit {0}} (λ f s g. Asked s) es shape before tt tt None visits last
      → FindsAround key cmp es i k last (visits - before)
  descent-around shape before visits last d =
      rw d.last_is
      (ends_around shape d.shown d.descending (All-from_recursion Asked d.shown (asked_all Asked d.shown tt tt d.calls)) (visits - before) (last_of None d.shown)
      (omega (arith, d.count)) refl)
