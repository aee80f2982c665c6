-- The reply to an insertion says what the arena says.
use Rattle.std.proofs.Common.{◌≡◌, ℕ, List, Option, Result, Ok, Err, sym, ap}
use Rattle.std.specs.declared.cmp.Ordering.{Ordering}
use Rattle.triple_ord.specs.{Chain.Entry, Chain.IsDistinct, Tree.Tree, Entry.InsertsThere, Entry.IsEntryFor}
use Rattle.triple_ord.specs.{declared.error.OrdInsertionError.OrdInsertionError, declared.insert_kind.OrdInsertKind.OrdInsertKind}
use Rattle.triple_ord.specs.{declared.entry_kind.OrdEntryKind.OrdEntryKind, Insertion.InsertsBy, Place.Aim, Place.aim_of}
use Rattle.triple_ord.specs.declared.growth.Growth.{Growth}
use Rattle.triple_ord.proofs.CallerLemmas.{entry-inserts-by}
use Rattle.ord_machine.specs.Machine.{Inserts, insertion_reply}

module _ {P T K : Type 0} (I G A : Type 0) (key : T → K) (cmp : K → K → Ordering) (most : ℕ) (growth : Growth) (aim : Aim K)
    (pointer : P → ℕ × ℕ) (old : Tree T) (item : T) (new : Tree T) where
  abbrev Told : Type 0
  Told = Result (OrdEntryKind P × Option T) OrdInsertionError

  pub inserts-replied : (told : Told) → InsertsBy key cmp most growth aim pointer old item told new
      → Inserts {I = I} {G = G} {A = A} key cmp most growth aim pointer old item (insertion_reply told) new
  inserts-replied (Ok inserted) inserts = inserts
  inserts-replied (Err refusal) inserts = inserts

-- an insertion through an entry, whose kind, answer and result have other names
module _ {P T K I G : Type 0} {key : T → K} {cmp : K → K → Ordering} {number : I → ℕ} {growth : Growth} {most : ℕ} {numbers : P → ℕ × ℕ}
    {kind : OrdInsertKind P K I G} {old arena : Tree T} {shown : OrdEntryKind P} {put : Entry T → List (Entry T)} {visits : ℕ}
    (asked : OrdInsertKind P K I G) (told : OrdEntryKind P) (new left : Tree T) (item : T) (before : Option T) where
  pub inserts_through : IsDistinct old.list.entries → IsEntryFor numbers key cmp number growth most kind old shown put visits arena → kind ≡ asked
      → told ≡ shown → InsertsThere numbers shown put arena item before new → new ≡ left
      → InsertsBy key cmp most growth (aim_of number asked) numbers old item (Ok (told, before)) left
  inserts_through distinct entry same alike there still = simp (alike, sym still)
      (entry-inserts-by key cmp numbers number growth most kind old arena new distinct shown put visits item before entry _ (ap (aim_of number) same) there)
