-- The room that is left on the sides of a book.
use Rattle.std.proofs.Common.{◌≡◌, ℕ, Result, Ok, Err, OnOk, IfOk, subst, sym}
use Rattle.order_book.specs.Queue.{Queue, HasRoomFor}
use Rattle.order_book.specs.declared.side.Side.{Side}
use Rattle.order_book.specs.Book.{Book, queue}

-- what is said of a result that is `Ok`
pub granted : {X E P : Type 0} (r : Result X E) (x : X) → r ≡ Ok x → OnOk r P → P
granted (Ok y) x is fact = fact
granted (Err e) x is fact = absurd (cc)

pub granted-of : {X E : Type 0} (P : X → Type 0) (r : Result X E) (x : X) → r ≡ Ok x → IfOk r P → P x
granted-of P (Ok y) x is fact = subst P (let same : y ≡ x = cc in same) fact
granted-of P (Err e) x is fact = absurd (cc)

module _ {T : Type 0} where
  -- what keeps its room keeps it as a side of a book
  pub room-on : (side at : Side) (old new : Book T) (before after : Queue T) → side ≡ at → queue old at ≡ before → queue new at ≡ after
      → ((n : ℕ) → HasRoomFor n before → HasRoomFor n after) → (n : ℕ) → HasRoomFor n (queue old side) → HasRoomFor n (queue new side)
  room-on side at old new before after here was is fact =
      subst (λ (s : Side). (n : ℕ) → HasRoomFor n (queue old s) → HasRoomFor n (queue new s)) (sym here)
      (λ n room. subst (HasRoomFor n) (sym is) (fact n (subst (HasRoomFor n) was room)))
