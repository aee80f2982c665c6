-- What a change of the capacity leaves.
use Rattle.std.proofs.lemmas.Bool.{lt-ltb, le-ltb}
use Rattle.std.proofs.Common.{refl, ◌≡◌, ℕ, ◌<◌, ◌≤◌, ap, subst, ◌∙◌, arith, Result, Ok, Err, OnOk, OnErr, Option, max}
use Rattle.ord_tree.specs.{PlainArena.doubled_capacity, Chain.chain_limit, Chain.with_capacity, Chain.greatest_index, Chain.IsSound, Tree.Tree}
use Rattle.ord_tree.proofs.ChainLemmas.{greatest-within}
use Rattle.triple_ord.specs.Arena.{with_room_for}

module _ {T : Type 0} where
  -- the arena with another capacity, if an index of an entry isn't greater
  abbrev pub resized : Tree T → ℕ → Tree T
  resized a n = record a { list = with_capacity a.list (max n (greatest_index a.list.entries)) }

  -- what doesn't depend on the capacity stays
  pub resizing-keeps : {E X : Type 0} (old : Tree T) (f : Tree T → X) → ((m : ℕ) → f (record old { list = with_capacity old.list m }) ≡ f old)
      → (new : Tree T) (n : ℕ) (r : Result (Unit {0}) E) → OnOk r (new ≡ resized old n) → OnErr r (new ≡ old) → f new ≡ f old
  resizing-keeps old f same new n (Ok u) ok err = ap f ok ∙ same (max n (greatest_index old.list.entries))
  resizing-keeps old f same new n (Err e) ok err = ap f err

  -- a capacity greater than the present one is made as asked for
  pub resizing-makes : {E : Type 0} (most : ℕ) (greatest : Option ℕ) (old new : Tree T) (n : ℕ) → IsSound most greatest old.list → old.list.capacity < n
      → (P : ℕ → Type 0) → P n → (r : Result (Unit {0}) E) → OnOk r (new ≡ resized old n) → OnOk r (P new.list.capacity)
  resizing-makes most greatest old new n sound more P asked (Ok u) ok =
      let size : n ≡ new.list.capacity = omega (arith, ap (λ (a : Tree T). a.list.capacity) ok, greatest-within most greatest old.list sound, more) in
      subst P size asked
  resizing-makes most greatest old new n sound more P asked (Err e) ok = tt

  -- if there is room, nothing changes
  pub reserved-room : (most : ℕ) (a : Tree T) (needed : ℕ) → needed ≤ a.list.capacity → a ≡ record a { list = with_room_for most a.list needed }
  reserved-room most a needed fits = rw (le-ltb a.list.capacity needed fits) refl

  -- otherwise the arena grows as far as asked for
  pub reserved-grown : {E : Type 0} (most : ℕ) (greatest : Option ℕ) (old new : Tree T) (n needed : ℕ) → IsSound most greatest old.list → old.list.capacity < needed
      → n ≡ max needed (doubled_capacity (chain_limit most old.list) old.list.capacity)
      → (r : Result (Unit {0}) E) → OnOk r (new ≡ resized old n) → OnOk r (new ≡ record old { list = with_room_for most old.list needed })
  reserved-grown most greatest old new n needed sound more is (Ok u) ok =
      let size : max n (greatest_index old.list.entries) ≡ max needed (doubled_capacity (chain_limit most old.list) old.list.capacity) = omega (arith, is, greatest-within most greatest old.list sound, more) in
      ok ∙ ap (λ m. record old { list = with_capacity old.list m }) size ∙ rw (lt-ltb old.list.capacity needed more) refl
  reserved-grown most greatest old new n needed sound more is (Err e) ok = tt
