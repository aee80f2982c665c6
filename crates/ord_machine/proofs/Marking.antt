-- The marks of a state stay true.
use Rattle.std.proofs.Common.{◌≡◌, ℕ, zero, suc, ◌==◌, cond, true, inl, inr, ◌∷◌, length, refl, sym, subst, arith, length-append}
use Rattle.std.proofs.{lemmas.List.length-map, Math.Dec.eqb-suc-zero}
use Rattle.triple_ord.specs.{Shape.Shape, Shape.missing, Shape.node, Shape.walk, Tree.Tree, Tree.IsSoundTree}
use Rattle.ord_machine.specs.Machine.{Calls, Reading, State, Marks, Effect, adds, removes, moves, rebuilds, clears, keeps, marked_by, AreTrue, settled, Does, effect_of, marks_after}
use Rattle.ord_machine.specs.{declared.command.Command.Command, declared.reply.Reply.Reply}
use Rattle.ord_machine.proofs.{Outcomes.Affects, Outcomes.outcome, CallerLemmas.AreTrue-missing}

-- a shape with no entry has no node
no_node : (shape : Shape) (n : ℕ) → length (walk shape) ≡ n → n ≡ 0 → shape ≡ missing
no_node missing n counted none = refl
no_node (node l i k r) n counted none = absurd (omega (arith, counted, none, length-append (walk l) (i ∷ walk r)))

-- both marks are true if no node is left
AreTrue-by_count : (n : ℕ) (shape : Shape) (marks : Marks) → (n ≡ 0 → shape ≡ missing) → AreTrue marks shape
    → AreTrue (cond (n == 0) (record { only_inserted = true; just_built = true }) marks) shape
AreTrue-by_count zero shape marks empty holds = rw (empty refl) (AreTrue-missing (record { only_inserted = true; just_built = true }))
AreTrue-by_count (suc n) shape marks empty holds = rw eqb-suc-zero holds

module _ {T : Type 0} where
  -- a sound tree without entries has no node
  no_entry : (t : Tree T) → IsSoundTree t → length t.list.entries ≡ 0 → t.shape ≡ missing
  no_entry t sound none = no_node t.shape (length t.list.entries) (rw sound.listed (length-map t.list.entries (λ e. e.index))) none

  AreTrue-settled : (t : Tree T) (marks : Marks) → IsSoundTree t → AreTrue marks t.shape → AreTrue (settled t marks) t.shape
  AreTrue-settled t marks sound holds = AreTrue-by_count (length t.list.entries) t.shape marks (no_entry t sound) holds

-- the marks after an effect are true
AreTrue-marked : (effect : Effect) (old new : Shape) (marks : Marks) → Affects effect old new → AreTrue marks old → AreTrue (marked_by effect marks) new
AreTrue-marked adds old new marks tight holds = record { only_inserted = λ e. tight.0 (holds.only_inserted e); just_built = λ e. cc }
AreTrue-marked removes old new marks any holds = record { only_inserted = λ e. cc; just_built = λ e. cc }
AreTrue-marked moves old new marks any holds = record { only_inserted = λ e. cc; just_built = λ e. cc }
AreTrue-marked rebuilds old new marks rebuilt holds = record { only_inserted = λ e. cc; just_built = λ e. rebuilt }
AreTrue-marked clears old new marks none holds = rw none (AreTrue-missing (record { only_inserted = true; just_built = true }))
AreTrue-marked keeps old new marks same holds = subst (λ (s : Shape). AreTrue marks s) (sym same) holds

-- so the marks after a step are true
module _ {P T I G A F K : Type 0} (r : Reading P T I G K) (calls : Calls T F) (s : State T) (f : F) (command : Command P T I G K)
    (reply : Reply P T A I G) (new : Tree T) (g : F) where
  pub AreTrue-does : IsSoundTree new → AreTrue s.marks s.tree.shape → Does r calls s f command reply new g
      → AreTrue (marks_after command reply new s.marks) new.shape
  AreTrue-does sound holds does = AreTrue-settled new _ sound
      (AreTrue-marked (effect_of command reply) s.tree.shape new.shape s.marks (outcome r s new calls f command reply g does).affects holds)
