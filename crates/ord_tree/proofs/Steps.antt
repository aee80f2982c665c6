-- The steps of a repair and of a removal, each from its result and its account together.
use Rattle.std.proofs.Common.{◌≡◌, ℕ, List}
use Rattle.ord_tree.specs.{Slots.Slots, Slots.MovesBacks, Promote.Repairs, Detach.TakesOut}

module _ {L : Type 0} {was is : L} (kept : is ≡ was) where
  pub repairs : {O : Type 0} {Before After : O → Type 0} {Account : (o : O) → Before o → Type 0} → ((o : O) (before : Before o) → After o × Account o before)
      → Repairs Before After Account was is
  repairs both = record { after = λ o before. (both o before).0; account = λ o before. (both o before).1; kept = kept }

  pub takes_out : {Before After : List ℕ → Type 0} {Account : (order : List ℕ) → Before order → Type 0} {most : ℕ} {old new : Slots}
      → ((order : List ℕ) (before : Before order) → After order × Account order before × MovesBacks most old new) → TakesOut Before After Account most old new was is
  takes_out all = record {
    after = λ order before. (all order before).0;
    account = λ order before. (all order before).1;
    backs = λ order before. (all order before).2;
    kept = kept;
  }
