-- Trades are gone through one by one: which updates are still to be appended.
use Rattle.std.proofs.Common.{◌≡◌, ◌≢◌, ℕ, suc, ◌+◌, ◌-◌, ◌≤◌, ◌<◌, ◌==◌, drop, get_or, take, true, false, List, [], ◌∷◌, ◌++◌, length, length-append, length-drop, append_assoc, Option, Some, None, Result, Ok, Err, OnErr, OnOk, is_ok, is_err, if◌then◌else◌, refl, sym, ap, ◌∙◌, arith, inl, inr}
use Rattle.std.proofs.{lemmas.Bool.Decides.eqb_tells, lemmas.Bool.Decides.nat_tests, lemmas.List.append-nil, Math.Seq.drop-cons, Math.Seq.take-append_seam}
use Rattle.order_book.specs.Book.{Book}
use Rattle.order_book.specs.{declared.side.Side.Side, declared.order.Trade.Trade}
use Rattle.level_feed.specs.declared.update.LevelUpdate.{LevelUpdate}
use Rattle.level_feed.specs.Feed.{update_of, updates_at, prices_behind, prices_of}

-- the elements from an index on
module _ {X : Type 0} where
  pub left-next : (xs : List X) (i : ℕ) (x : X) → i < length xs → x ≡ get_or xs i x → drop i xs ≡ x ∷ drop (i + 1) xs
  left-next xs i x less is =
      let more : suc i ≡ i + 1 = omega arith in
      drop-cons xs i x less ∙ ap (λ (y : X). y ∷ drop (suc i) xs) (sym is) ∙ ap (λ (n : ℕ). x ∷ drop n xs) more

  pub left-none : (xs : List X) (i : ℕ) → length xs ≤ i → drop i xs ≡ []
  left-none xs i past = go (drop i xs) (length-drop i xs)
    where
      go : (ys : List X) → length ys ≡ length xs - i → ys ≡ []
      go [] none = refl
      go (y ∷ ys) some = absurd (omega (arith, some, past))

-- what a push leaves that went well, and what a refused one owes
pub pushed : {X E U : Type 0} (r : Result X E) (items more same : List U) → false ≡ is_err r → items ≡ (if is_ok r then more else same) → items ≡ more
pushed (Ok x) items more same well after = after
pushed (Err e) items more same well after = absurd (cc)

pub unpushed : {X E U : Type 0} (r : Result X E) (items more same : List U) → true ≡ is_err r → items ≡ (if is_ok r then more else same) → items ≡ same
unpushed (Ok x) items more same refused after = absurd (cc)
unpushed (Err e) items more same refused after = after

-- what follows where a call went well
pub where_ok : {X E P Q : Type 0} (r : Result X E) → OnOk r P → (P → Q) → OnOk r Q
where_ok (Ok x) fact more = more fact
where_ok (Err e) fact more = tt

pub owed : {X E P : Type 0} (r : Result X E) → true ≡ is_err r → OnErr r P → P
owed (Ok x) refused fact = absurd (cc)
owed (Err e) refused fact = fact

module _ {T : Type 0} where
  -- the prices to come, where the last one was this
  abbrev pub coming : Option ℕ → List (Trade T) → List ℕ
  coming None ts = prices_of ts
  coming (Some price) ts = prices_behind price ts

  coming-none : (last : Option ℕ) (ts : List (Trade T)) → ts ≡ [] → coming last ts ≡ []
  coming-none None ts none = ap prices_of none
  coming-none (Some price) ts none = ap (prices_behind price) none

  coming-same : (last : Option ℕ) (t : Trade T) (ts : List (Trade T)) → last ≡ Some t.price → coming last (t ∷ ts) ≡ coming last ts
  coming-same None t ts same = absurd (cc)
  coming-same (Some price) t ts same =
      let own : price ≡ t.price = cc in
      let equal : (t.price == price) ≡ true = grind (arith, nat_tests, own) in
      rw equal refl

  coming-next : (last : Option ℕ) (t : Trade T) (ts : List (Trade T)) → last ≢ Some t.price → coming last (t ∷ ts) ≡ t.price ∷ coming (Some t.price) ts
  coming-next None t ts other = refl
  coming-next (Some price) t ts other = elim (eqb_tells t.price price) [
    | inl h ↦ absurd (other (ap (λ (p : ℕ). Some p) (sym h.1)))
    | inr h ↦ rw h.0 refl
  ]

  module _ (b : Book T) (side : Side) (trades : List (Trade T)) (before : List LevelUpdate) where
    abbrev whole : List LevelUpdate
    whole = before ++ updates_at b side (prices_of trades)

    -- How far it is: the list's updates, of those `before` it, and the last price that it has; these trades are still to come.
    pub record IsPublishing (last : Option ℕ) (updates : List LevelUpdate) (left : List (Trade T)) : Type 0 where
      pub to_come : updates ++ updates_at b side (coming last left) ≡ before ++ updates_at b side (prices_of trades)
      pub added : List LevelUpdate
      pub all : updates ≡ before ++ added

    pub publishing-start : IsPublishing None before trades
    publishing-start = record { to_come = refl; added = []; all = sym (append-nil before) }

    module _ (last : Option ℕ) (updates : List LevelUpdate) where
      -- it is done where no trade is to come
      pub publishing-done : (left : List (Trade T)) → IsPublishing last updates left → left ≡ [] → updates ≡ before ++ updates_at b side (prices_of trades)
      publishing-done left h none =
          let no_more : updates_at b side (coming last left) ≡ [] = ap (updates_at b side) (coming-none last left none) in
          sym (append-nil updates) ∙ ap (λ us. updates ++ us) (sym no_more) ∙ h.to_come

      -- what was in the list is its front
      pub publishing-kept : (left : List (Trade T)) → IsPublishing last updates left → take (length before) updates ≡ before
      publishing-kept left h = ap (take (length before)) h.all ∙ take-append_seam before h.added

      module _ (t : Trade T) (ts : List (Trade T)) (h : IsPublishing last updates (t ∷ ts)) where
        -- a trade at the last price adds nothing
        pub publishing-same : last ≡ Some t.price → IsPublishing last updates ts
        publishing-same same = record {
          to_come = ap (λ ps. updates ++ updates_at b side ps) (sym (coming-same last t ts same)) ∙ h.to_come;
          added = h.added;
          all = h.all;
        }

        module _ (other : last ≢ Some t.price) where
          abbrev next : LevelUpdate
          next = update_of b side t.price

          owing : updates ++ next ∷ updates_at b side (coming (Some t.price) ts) ≡ before ++ updates_at b side (prices_of trades)
          owing = ap (λ ps. updates ++ updates_at b side ps) (sym (coming-next last t ts other)) ∙ h.to_come

          -- and one at another price adds its update
          pub publishing-next : IsPublishing (Some t.price) (updates ++ update_of b side t.price ∷ []) ts
          publishing-next = record {
            to_come = append_assoc updates (next ∷ []) (updates_at b side (coming (Some t.price) ts)) ∙ owing;
            added = h.added ++ next ∷ [];
            all = ap (λ us. us ++ next ∷ []) h.all ∙ append_assoc before h.added (next ∷ []);
          }

          -- and the list needs room for more than it has
          pub publishing-room : length updates < length before + length (updates_at b side (prices_of trades))
          publishing-room =
              let later : List LevelUpdate = updates_at b side (coming (Some t.price) ts) in
              omega (arith, ap length owing, length-append updates (next ∷ later), length-append before (updates_at b side (prices_of trades)))
