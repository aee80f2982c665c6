use Rattle.std.proofs.Common.{◌≡◌, ◌≢◌, ◌∙◌, ◌==◌, ℕ, Bool, IsSome, true, false, inl, inr, sym, ap}
use Rattle.std.proofs.lemmas.Bool.Decides.{eqb_tells}
use Rattle.std.specs.Option.{option_copied}
use Rattle.listing.specs.Chain.{from_index}
use Rattle.sorted_arena.specs.{Sorted.get, Stretch.has_index}
use Rattle.sorted_arena.proofs.Enclosing.{own-comes, less-key-comes, greater-key-comes, goes}
use Rattle.sorted_arena.proofs.arena.SortedArena.comes_to.Goals as goal

equal : (b : Bool) (i j : ℕ) → b ≡ (i == j) → b ≡ true → i ≡ j
equal b i j is at = elim (eqb_tells i j) [
  | inl h ↦ h.1
  | inr h ↦ absurd (let both : true ≡ false = sym at ∙ is ∙ h.0 in cc)
]

unequal : (b : Bool) (i j : ℕ) → b ≡ (i == j) → b ≡ false → i ≢ j
unequal b i j is at = elim (eqb_tells i j) [
  | inl h ↦ absurd (let both : false ≡ true = sym at ∙ is ∙ h.0 in cc)
  | inr h ↦ h.1
]

pub returns-then-eq : goal.returns-then-eq
returns-then-eq g c =
    let told : c.eq.result ≡ ((g.P.BasePtr.numbers c.in-Some.p).0 == (g.P.BasePtr.numbers c.args.last).0) = rw (← c.inx.ensures, ← c.inx-in-Some.ensures) (c.eq.ensures ∙ g.met.P.Inx.BasePtrInx.eq_is _ _) in
    let same = equal _ _ _ told c.if-eq.true in
    let named : IsSome (get c.args.self.now (g.P.BasePtr.numbers c.in-Some.p)) = rw c.in-Some.is at c.loop-next.invariant.named in
    let here : has_index (g.P.BasePtr.numbers c.args.last).0 (from_index c.args.self.now.entries (g.P.BasePtr.numbers c.in-Some.p).0) ≡ true = rw (← same) (own-comes c.args.self.now.entries (g.P.BasePtr.numbers c.in-Some.p) named) in
    sym ((rw c.in-Some.is at c.loop-next.invariant.same) ∙ here)

pub returns-in-Less : goal.returns-in-Less
returns-in-Less g c =
    sym ((rw c.in-Some.is at c.loop-next.invariant.same)
    ∙ less-key-comes g.K.Ord.cmp g.met.K.Ord.total c.args.self.now.entries c.len.ensures.sound.distinct c.len.ensures.sound.sorted (g.P.BasePtr.numbers c.in-Some.p) (g.P.BasePtr.numbers c.args.last)
    c.unwrap.result.now c.unwrap-end.result.now (sym (ap option_copied c.unwrap.ensures) ∙ c.key-in-Some.ensures) (sym (ap option_copied c.unwrap-end.ensures) ∙ c.key.ensures) (sym c.cmp.ensures ∙ c.in-Less.is))

pub returns-in-Greater : goal.returns-in-Greater
returns-in-Greater g c =
    sym ((rw c.in-Some.is at c.loop-next.invariant.same)
    ∙ greater-key-comes g.K.Ord.cmp g.met.K.Ord.total c.args.self.now.entries c.len.ensures.sound.distinct c.len.ensures.sound.sorted (g.P.BasePtr.numbers c.in-Some.p) (g.P.BasePtr.numbers c.args.last)
    c.unwrap.result.now c.unwrap-end.result.now (sym (ap option_copied c.unwrap.ensures) ∙ c.key-in-Some.ensures) (sym (ap option_copied c.unwrap-end.ensures) ∙ c.key.ensures) (sym c.cmp.ensures ∙ c.in-Greater.is))

pub loop-next-smaller : goal.loop-next-smaller
loop-next-smaller g c =
    let named : IsSome (get c.args.self.now (g.P.BasePtr.numbers c.in-Some.p)) = rw c.in-Some.is at c.loop-next.invariant.named in
    rw (c.next-next.ensures.value, c.in-Some.is) (goes c.args.self.now.entries c.len.ensures.sound.distinct (g.P.BasePtr.numbers c.in-Some.p) named).fewer

pub loop-next-preserved : goal.loop-next-preserved
loop-next-preserved g c =
    let told : c.eq.result ≡ ((g.P.BasePtr.numbers c.in-Some.p).0 == (g.P.BasePtr.numbers c.args.last).0) = rw (← c.inx.ensures, ← c.inx-in-Some.ensures) (c.eq.ensures ∙ g.met.P.Inx.BasePtrInx.eq_is _ _) in
    let apart = unequal _ _ _ told c.if-eq.false in
    let named : IsSome (get c.args.self.now (g.P.BasePtr.numbers c.in-Some.p)) = rw c.in-Some.is at c.loop-next.invariant.named in
    record {
      named = c.next-next.ensures.named;
      same = rw c.next-next.ensures.value ((rw c.in-Some.is at c.loop-next.invariant.same)
          ∙ (goes c.args.self.now.entries c.len.ensures.sound.distinct (g.P.BasePtr.numbers c.in-Some.p) named).comes (g.P.BasePtr.numbers c.args.last).0 apart);
    }
