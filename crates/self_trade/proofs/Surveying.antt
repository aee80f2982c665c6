-- A survey goes along the orders that are met: what was asked so far, and what is found out at the end.
use Rattle.std.proofs.Common.{◌≡◌, ℕ, ◌+◌, ◌-◌, ◌<◌, ◌≤◌, ◌⊎◌, inl, inr, Bool, true, false, not, ◌&&◌, ◌||◌, if◌then◌else◌, List, [], ◌∷◌, ◌++◌, map, length, length-append, append_assoc, MatchBool, refl, sym, ap, subst, ◌∙◌, arith}
use Rattle.std.proofs.lemmas.List.{append-nil}
use Rattle.std.specs.{List.items_where_true, List.list_any, List.Retain.ReturnsInTurn, Fn.Called}
use denote.Param.Members.{Mut}
use Rattle.order_book.specs.{declared.side.Side.Side, declared.order.Order.Order}
use Rattle.order_book.specs.declared.new_order.NewOrder.{NewOrder}
use Rattle.order_book.specs.Queue.{meets, total}
use Rattle.order_book.specs.Book.{Book, opposite, limit_of}
use Rattle.self_trade.specs.declared.policy.SelfTrade.{SelfTrade}
use Rattle.self_trade.specs.declared.survey.Survey.{Survey}
use Rattle.self_trade.specs.Prevention.{cancels_resting, cancels_incoming, is_stopped, IsMet, IsBeyond, AreAnswers, allowed, refused, withdrawn, facing, Answers}
use Rattle.self_trade.specs.Survey.{Surveys}
use Rattle.self_trade.proofs.Asking.{and-false}

-- elements that are picked, by one answer more, and from the first ones alone
module _ {X : Type 0} where
  pub picked-fewer : (bs : List Bool) (xs : List X) → length (items_where_true bs xs) ≤ length xs
  picked-fewer [] xs = omega arith
  picked-fewer (b ∷ bs) [] = omega arith
  picked-fewer (true ∷ bs) (x ∷ xs) = omega (arith, picked-fewer bs xs)
  picked-fewer (false ∷ bs) (x ∷ xs) = omega (arith, picked-fewer bs xs)

  picked-push : (bs : List Bool) (xs : List X) (b : Bool) (x : X) → length bs ≡ length xs → items_where_true (bs ++ b ∷ []) (xs ++ x ∷ []) ≡ items_where_true bs xs ++ (if b then x ∷ [] else [])
  picked-push [] [] true x same = refl
  picked-push [] [] false x same = refl
  picked-push [] (y ∷ xs) b x same = absurd (omega (arith, same))
  picked-push (c ∷ bs) [] b x same = absurd (omega (arith, same))
  picked-push (true ∷ bs) (y ∷ xs) b x same = ap (λ zs. y ∷ zs) (picked-push bs xs b x (omega (arith, same)))
  picked-push (false ∷ bs) (y ∷ xs) b x same = picked-push bs xs b x (omega (arith, same))

  picked-front : (bs : List Bool) (xs ys : List X) → length bs ≡ length xs → items_where_true bs (xs ++ ys) ≡ items_where_true bs xs
  picked-front [] xs ys same = refl
  picked-front (c ∷ bs) [] ys same = absurd (omega (arith, same))
  picked-front (true ∷ bs) (y ∷ xs) ys same = ap (λ zs. y ∷ zs) (picked-front bs xs ys (omega (arith, same)))
  picked-front (false ∷ bs) (y ∷ xs) ys same = picked-front bs xs ys (omega (arith, same))

not-push : (bs : List Bool) (b : Bool) → map not (bs ++ b ∷ []) ≡ map not bs ++ not b ∷ []
not-push [] b = refl
not-push (c ∷ bs) b = ap (λ cs. not c ∷ cs) (not-push bs b)

length-not : (bs : List Bool) → length (map not bs) ≡ length bs
length-not [] = refl
length-not (c ∷ bs) = omega (arith, length-not bs)

any-push : (bs : List Bool) (b : Bool) → list_any not (bs ++ b ∷ []) ≡ (list_any not bs || not b)
any-push [] true = refl
any-push [] false = refl
any-push (true ∷ bs) b = any-push bs b
any-push (false ∷ bs) b = refl

-- whether an order is cancelled that was not yet, by one answer more
stopped-push : (policy : SelfTrade) (bs : List Bool) (b : Bool) → is_stopped policy bs ≡ false → is_stopped policy (bs ++ b ∷ []) ≡ (if b then false else cancels_incoming policy)
stopped-push policy bs b going = ap (λ c. cancels_incoming policy && c) (any-push bs b) ∙ go (cancels_incoming policy) (list_any not bs) b going
  where
    go : (i a b : Bool) → (i && a) ≡ false → (i && (a || not b)) ≡ (if b then false else i)
    go true true b none = absurd (cc)
    go true false true none = refl
    go true false false none = refl
    go false a true none = refl
    go false a false none = refl

module _ {T : Type 0} where
  total-push : (xs : List (Order T)) (x : Order T) → total (xs ++ x ∷ []) ≡ total xs + x.quantity
  total-push [] x = omega arith
  total-push (y ∷ xs) x = omega (arith, total-push xs x)

  refused-push : (bs : List Bool) (xs : List (Order T)) (b : Bool) (x : Order T) → length bs ≡ length xs → refused (bs ++ b ∷ []) (xs ++ x ∷ []) ≡ refused bs xs ++ (if not b then x ∷ [] else [])
  refused-push bs xs b x same = ap (λ cs. items_where_true cs (xs ++ x ∷ [])) (not-push bs b) ∙ picked-push (map not bs) xs (not b) x (length-not bs ∙ same)

  withdrawn-push : (policy : SelfTrade) (bs : List Bool) (xs : List (Order T)) (b : Bool) (x : Order T) → length bs ≡ length xs
      → withdrawn policy (bs ++ b ∷ []) (xs ++ x ∷ []) ≡ withdrawn policy bs xs ++ (if not b && cancels_resting policy then x ∷ [] else [])
  withdrawn-push policy bs xs b x same = go (cancels_resting policy)
    where
      none : (b : Bool) → (if b && false then x ∷ [] else []) ≡ []
      none b = ap (λ c. if c then x ∷ [] else []) (and-false b)

      one : (b : Bool) → (if b then x ∷ [] else []) ≡ (if b && true then x ∷ [] else [])
      one true = refl
      one false = refl

      go : (c : Bool) → (if c then refused (bs ++ b ∷ []) (xs ++ x ∷ []) else []) ≡ (if c then refused bs xs else []) ++ (if not b && c then x ∷ [] else [])
      go true = refused-push bs xs b x same ∙ ap (λ zs. refused bs xs ++ zs) (one (not b))
      go false = sym (none (not b))

  withdrawn-front : (policy : SelfTrade) (bs : List Bool) (xs ys : List (Order T)) → length bs ≡ length xs → withdrawn policy bs (xs ++ ys) ≡ withdrawn policy bs xs
  withdrawn-front policy bs xs ys same = ap (λ zs. if cancels_resting policy then zs else []) (picked-front (map not bs) xs ys (length-not bs ∙ same))

  withdrawn-none : (policy : SelfTrade) → withdrawn {T = T} policy [] [] ≡ []
  withdrawn-none policy = go (cancels_resting policy)
    where
      go : (c : Bool) → (if c then refused {T = T} [] [] else []) ≡ []
      go true = refl
      go false = refl

  module _ {F : Type 0} (g : Mut F ((Order T) × Unit {0}) Bool) (f0 : F) (policy : SelfTrade) (book : Book T) (o : NewOrder T) (spare : ℕ) (before : List (Order T)) where
    abbrev side : Side
    side = opposite o.side

    abbrev limit : ℕ
    limit = limit_of o.side o.kind

    -- These were asked about, with these answers; these are to come, and the survey and the list are as they are so far.
    pub record IsSurveying (survey : Survey) (f : F) (coming list : List (Order T)) : Type 0 where
      pub asked : List (Order T)
      pub answers : List Bool
      pub cut : facing book o ≡ asked ++ coming
      pub told : length answers ≡ length asked
      pub left : survey.left ≡ o.quantity - total (allowed answers asked)
      pub count : survey.count ≡ length (allowed answers asked)
      pub stopped : survey.is_stopped ≡ is_stopped policy answers
      pub all : (cs : List Bool) → MatchBool survey.is_stopped (cs ≡ []) (AreAnswers policy side limit survey.left coming cs)
          → AreAnswers policy side limit o.quantity (facing book o) (answers ++ cs)
      pub ran : (cs : List Bool) (last : F) → ReturnsInTurn (Answers g) f cs coming last → ReturnsInTurn (Answers g) f0 (answers ++ cs) (facing book o) last
      pub listed : survey.lacks_room ≡ false → list ≡ before ++ withdrawn policy answers asked
      pub lacks : survey.lacks_room ≡ true → spare < length (withdrawn policy answers asked)
      pub added : List (Order T)
      pub kept : list ≡ before ++ added
      pub fewer : length added ≤ length (withdrawn policy answers asked)

    pub surveying-start : (survey : Survey) → survey ≡ record { left = o.quantity; count = 0; is_stopped = false; lacks_room = false } → IsSurveying survey f0 (facing book o) before
    surveying-start survey is = subst (λ s. IsSurveying s f0 (facing book o) before) (sym is) (record {
      asked = [];
      answers = [];
      cut = refl;
      told = refl;
      left = omega arith;
      count = refl;
      stopped = sym (and-false (cancels_incoming policy));
      all = λ cs h. h;
      ran = λ cs last h. h;
      listed = λ has. sym (ap (λ zs. before ++ zs) (withdrawn-none policy) ∙ append-nil before);
      lacks = λ none. absurd (cc);
      added = [];
      kept = sym (append-nil before);
      fewer = omega arith;
    })

    -- there are no more trades than orders, of which one is to come
    pub surveying-count : (survey : Survey) (f : F) (x : Order T) (coming list : List (Order T)) → IsSurveying survey f (x ∷ coming) list → survey.count < length (facing book o)
    surveying-count survey f x coming list h =
        omega (arith, h.count, picked-fewer h.answers h.asked, ap length h.cut, length-append h.asked (x ∷ coming))

    -- one more order is asked about
    module _ (survey next : Survey) (f f' : F) (x : Order T) (coming list list' : List (Order T)) (b : Bool) (h : IsSurveying survey f (x ∷ coming) list) (called : Called g f (x, tt) b f')
        (going : survey.is_stopped ≡ false) (met : IsMet side limit survey.left x)
        (left : next.left ≡ (if b then survey.left - x.quantity else survey.left)) (count : next.count ≡ (if b then survey.count + 1 else survey.count))
        (stopped : next.is_stopped ≡ (if b then survey.is_stopped else cancels_incoming policy)) where
      abbrev answers' : List Bool
      answers' = h.answers ++ b ∷ []

      abbrev asked' : List (Order T)
      asked' = h.asked ++ x ∷ []

      next-stopped : next.is_stopped ≡ (if b then false else cancels_incoming policy)
      next-stopped = stopped ∙ ap (λ c. if b then c else cancels_incoming policy) going

      next-all : (cs : List Bool) → MatchBool next.is_stopped (cs ≡ []) (AreAnswers policy side limit next.left coming cs) → AreAnswers policy side limit survey.left (x ∷ coming) (b ∷ cs)
      next-all cs rest = go b (subst (λ n. MatchBool (if b then false else cancels_incoming policy) (cs ≡ []) (AreAnswers policy side limit n coming cs)) left
          (subst (λ c. MatchBool c (cs ≡ []) (AreAnswers policy side limit next.left coming cs)) next-stopped rest))
        where
          go : (b : Bool) → MatchBool (if b then false else cancels_incoming policy) (cs ≡ []) (AreAnswers policy side limit (if b then survey.left - x.quantity else survey.left) coming cs)
              → AreAnswers policy side limit survey.left (x ∷ coming) (b ∷ cs)
          go true rest = (met, rest)
          go false rest = (met, rest)

      next-left : next.left ≡ o.quantity - total (allowed answers' asked')
      next-left = left ∙ go b (picked-push h.answers h.asked b x h.told)
        where
          go : (b : Bool) → allowed (h.answers ++ b ∷ []) asked' ≡ allowed h.answers h.asked ++ (if b then x ∷ [] else [])
              → (if b then survey.left - x.quantity else survey.left) ≡ o.quantity - total (allowed (h.answers ++ b ∷ []) asked')
          go true more = omega (arith, h.left, ap total more, total-push (allowed h.answers h.asked) x)
          go false more = h.left ∙ ap (λ ys. o.quantity - total ys) (sym (more ∙ append-nil (allowed h.answers h.asked)))

      next-count : next.count ≡ length (allowed answers' asked')
      next-count = count ∙ go b (picked-push h.answers h.asked b x h.told)
        where
          go : (b : Bool) → allowed (h.answers ++ b ∷ []) asked' ≡ allowed h.answers h.asked ++ (if b then x ∷ [] else [])
              → (if b then survey.count + 1 else survey.count) ≡ length (allowed (h.answers ++ b ∷ []) asked')
          go true more = omega (arith, h.count, ap length more, length-append (allowed h.answers h.asked) (x ∷ []))
          go false more = h.count ∙ ap length (sym (more ∙ append-nil (allowed h.answers h.asked)))

      withdrawn-next : withdrawn policy answers' asked' ≡ withdrawn policy h.answers h.asked ++ (if not b && cancels_resting policy then x ∷ [] else [])
      withdrawn-next = withdrawn-push policy h.answers h.asked b x h.told

      withdrawn-more : length (withdrawn policy h.answers h.asked) ≤ length (withdrawn policy answers' asked')
      withdrawn-more = omega (arith, ap length withdrawn-next, length-append (withdrawn policy h.answers h.asked) (if not b && cancels_resting policy then x ∷ [] else []))

      withdrawn-one : (not b && cancels_resting policy) ≡ true → length (withdrawn policy answers' asked') ≡ length (withdrawn policy h.answers h.asked) + 1
      withdrawn-one goes =
          let one = ap (λ c. length (withdrawn policy h.answers h.asked ++ (if c then x ∷ [] else []))) goes in
          omega (arith, ap length withdrawn-next, one, length-append (withdrawn policy h.answers h.asked) (x ∷ []))

      module _ (capacity capacity' : ℕ) (spare_is : spare ≡ capacity - length before) (grows : capacity ≤ capacity')
          (listed : next.lacks_room ≡ false → (survey.lacks_room ≡ false) × (list' ≡ list ++ (if not b && cancels_resting policy then x ∷ [] else [])))
          (lacks : next.lacks_room ≡ true → (survey.lacks_room ≡ true) ⊎ (((not b && cancels_resting policy) ≡ true) × (capacity' ≤ length list)))
          (kept : (list' ≡ list) ⊎ (((not b && cancels_resting policy) ≡ true) × (list' ≡ list ++ x ∷ []))) where
        next-lacks : (survey.lacks_room ≡ true) ⊎ (((not b && cancels_resting policy) ≡ true) × (capacity' ≤ length list)) → spare < length (withdrawn policy answers' asked')
        next-lacks (inl lacking) = omega (arith, h.lacks lacking, withdrawn-more)
        next-lacks (inr full) = omega (arith, spare_is, grows, full.1, ap length h.kept, length-append before h.added, h.fewer, withdrawn-one full.0)

        next-added : (list' ≡ list) ⊎ (((not b && cancels_resting policy) ≡ true) × (list' ≡ list ++ x ∷ []))
            → (added : List (Order T)) × (list' ≡ before ++ added) × (length added ≤ length (withdrawn policy answers' asked'))
        next-added (inl same) = (h.added, same ∙ h.kept, omega (arith, h.fewer, withdrawn-more))
        next-added (inr more) = (
          h.added ++ x ∷ [],
          more.1 ∙ ap (λ zs. zs ++ x ∷ []) h.kept ∙ append_assoc before h.added (x ∷ []),
          omega (arith, h.fewer, withdrawn-one more.0, length-append h.added (x ∷ [])),
        )

        pub surveying-next : IsSurveying next f' coming list'
        surveying-next = record {
          asked = asked';
          answers = answers';
          cut = h.cut ∙ sym (append_assoc h.asked (x ∷ []) coming);
          told = omega (arith, h.told, length-append h.answers (b ∷ []), length-append h.asked (x ∷ []));
          left = next-left;
          count = next-count;
          stopped = next-stopped ∙ sym (stopped-push policy h.answers b (sym h.stopped ∙ going));
          all = λ cs rest. subst (AreAnswers policy side limit o.quantity (facing book o)) (sym (append_assoc h.answers (b ∷ []) cs))
              (h.all (b ∷ cs) (subst (λ c. MatchBool c (b ∷ cs ≡ []) (AreAnswers policy side limit survey.left (x ∷ coming) (b ∷ cs))) (sym going) (next-all cs rest)));
          ran = λ cs last rest. subst (λ bs. ReturnsInTurn (Answers g) f0 bs (facing book o) last) (sym (append_assoc h.answers (b ∷ []) cs)) (h.ran (b ∷ cs) last (f', called, rest));
          listed = λ has. (listed has).1 ∙ ap (λ zs. zs ++ (if not b && cancels_resting policy then x ∷ [] else [])) (h.listed (listed has).0)
              ∙ append_assoc before (withdrawn policy h.answers h.asked) (if not b && cancels_resting policy then x ∷ [] else []) ∙ ap (λ zs. before ++ zs) (sym withdrawn-next);
          lacks = λ lacking. next-lacks (lacks lacking);
          added = (next-added kept).0;
          kept = (next-added kept).1;
          fewer = (next-added kept).2;
        }

    -- where no order is to come, or the next one is not met, no more answers are to come
    abbrev pub HasEnded : Survey → List (Order T) → Type 0
    HasEnded survey coming = MatchBool survey.is_stopped (Unit {0}) (AreAnswers policy side limit survey.left coming [])

    pub ended-none : (survey : Survey) (coming : List (Order T)) → coming ≡ [] → HasEnded survey coming
    ended-none survey coming none = subst (HasEnded survey) (sym none) (go survey.is_stopped)
      where
        go : (c : Bool) → MatchBool c (Unit {0}) (◌≡◌ {A = List Bool} [] [])
        go true = tt
        go false = refl

    pub ended-beyond : (survey : Survey) (x : Order T) (coming : List (Order T)) → (survey.is_stopped ≡ true) ⊎ (survey.left ≡ 0) ⊎ (meets side x.price limit ≡ false) → HasEnded survey (x ∷ coming)
    ended-beyond survey x coming (inl stopped) = subst (λ c. MatchBool c (Unit {0}) (IsBeyond side limit survey.left x)) (sym stopped) tt
    ended-beyond survey x coming (inr beyond) = go survey.is_stopped
      where
        go : (c : Bool) → MatchBool c (Unit {0}) (IsBeyond side limit survey.left x)
        go true = tt
        go false = beyond

    -- no order is to come that is met: all were asked about
    pub surveying-end : (survey : Survey) (f : F) (coming list : List (Order T)) → IsSurveying survey f coming list
        → HasEnded survey coming → Surveys g f0 policy book o spare before survey list
    surveying-end survey f coming list h ends = record {
      answers = h.answers;
      asks = record {
        last = f;
        asked = subst (λ bs. ReturnsInTurn (Answers g) f0 bs (facing book o) f) (append-nil h.answers) (h.ran [] f refl);
        all = subst (AreAnswers policy side limit o.quantity (facing book o)) (append-nil h.answers) (h.all [] (go survey.is_stopped ends));
      };
      left = h.left ∙ ap (λ ys. o.quantity - total ys) (sym allowed-all);
      count = h.count ∙ ap length (sym allowed-all);
      stopped = h.stopped;
      listed = λ has. h.listed has ∙ ap (λ zs. before ++ zs) (sym withdrawn-all);
      lacks = λ lacking. omega (arith, h.lacks lacking, ap length withdrawn-all);
      added = h.added;
      kept = h.kept;
    }
      where
        allowed-all : allowed h.answers (facing book o) ≡ allowed h.answers h.asked
        allowed-all = ap (allowed h.answers) h.cut ∙ picked-front h.answers h.asked coming h.told

        withdrawn-all : withdrawn policy h.answers (facing book o) ≡ withdrawn policy h.answers h.asked
        withdrawn-all = ap (withdrawn policy h.answers) h.cut ∙ withdrawn-front policy h.answers h.asked coming h.told

        go : (c : Bool) → MatchBool c (Unit {0}) (AreAnswers policy side limit survey.left coming []) → MatchBool c (◌≡◌ {A = List Bool} [] []) (AreAnswers policy side limit survey.left coming [])
        go true end = refl
        go false end = end
