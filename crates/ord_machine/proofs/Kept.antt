-- A pointer keeps its entry during commands to other entries, and a rekeyed entry's pointer names the new item.
use Rattle.std.proofs.Common.{◌≡◌, ℕ, List, [], ◌∷◌, IsSome, is_some, refl, sym, ap, ◌∙◌}
use Rattle.triple_ord.specs.PlainArena.{item_if}
use Rattle.triple_ord.specs.Chain.{Entry, Chain, entry_at, item_of}
use Rattle.triple_ord.proofs.ChainLemmas.{entry_at-without_other, entry_at-with_item_among_other, entry_at-with_generation_other}
use Rattle.triple_ord.proofs.CallerLemmas.{rekeys-updates}
use Rattle.ord_machine.specs.{Machine.Reading, Machine.Calls, Machine.State, Pointers.KeptPointerLaw, Pointers.RekeyedPointerLaw}
use Rattle.ord_machine.proofs.Outcomes.{elsewhere, unused, Change, stays, comes, writes, rekeys, leaves, renews, relays, empties, outcome}

-- one change
module _ {P T I G K : Type 0} (r : Reading P T I G K) (old new : Chain T) (p : ℕ × ℕ) (there : IsSome (item_of old.entries p)) where
  keeps-there : {es : List (Entry T)} → new.entries ≡ es → entry_at es p.0 ≡ entry_at old.entries p.0 → item_of new.entries p ≡ item_of old.entries p
  keeps-there is same = ap (λ es. item_of es p) is ∙ ap (item_if p.1) same

  keeps-change : {n : ℕ} {Of : ℕ × ℕ → Type 0} {Keeps : Type 0} → Of p → Change r old new n Of Keeps → item_of new.entries p ≡ item_of old.entries p
  keeps-change of (stays same) = keeps-there same refl
  keeps-change of (comes gap i item entered aim place by) =
      keeps-there refl (elsewhere old new gap i item entered p.0 (unused old new gap i item entered p there))
  keeps-change of (writes i was item at is spares alike) = keeps-there is (entry_at-with_item_among_other old.entries i p.0 item (spares p there of))
  keeps-change of (rekeys q item found now others spares never) = others p (spares p of)
  keeps-change of (leaves i is some spares) = keeps-there is (entry_at-without_other old.entries i p.0 (spares p there of))
  keeps-change of (renews i is some spares) = keeps-there is (entry_at-with_generation_other old.entries i p.0 new.generation (spares p there of))
  keeps-change of (relays all same some others) = absurd (others p of)
  keeps-change of (empties none some others) = absurd (others p of)

-- a whole run
pub kept_pointer : (P T I G A K : Type 0) {F : Type 0} (calls : Calls T F) → KeptPointerLaw P T I G A K calls
kept_pointer P T I G A K calls r old new f g [] [] p lawful others run there = ap (λ (s : State T). item_of s.tree.list.entries p) run.0
kept_pointer P T I G A K calls r old new f g (c ∷ asked) (q ∷ told) p lawful others run there =
    let mid = run.0 in
    let leads = (outcome r old mid.tree calls f c q run.1 run.2.does).change lawful.distinct in
    let kept = keeps-change r old.tree.list mid.tree.list p there others.0 leads in
    kept_pointer P T I G A K calls r mid new run.1 g asked told p run.2.lawful others.1 run.3 (ap is_some kept ∙ there) ∙ kept
kept_pointer P T I G A K calls r old new f g asked told p lawful others run there = absurd run

-- a run that begins by rekeying the pointer's own entry
pub rekeyed_pointer : (P T I G A K : Type 0) {F : Type 0} (calls : Calls T F) → RekeyedPointerLaw P T I G A K calls
rekeyed_pointer P T I G A K calls r old new f g p item before asked told lawful others run =
    let mid = run.0 in
    let does = run.2.does.0 in
    let found = (rekeys-updates r.key r.cmp old.tree mid.tree (r.pointer p) item lawful.distinct (ap is_some (sym does.0)) does.1).changed in
    kept_pointer P T I G A K calls r mid new run.1 g asked told (r.pointer p) run.2.lawful others run.3 (ap is_some found) ∙ found
