-- Parts of a list of entries: what many removals leave.
use Rattle.std.proofs.Common.{◌≡◌, ◌≢◌, ◌==◌, ℕ, suc, zero, ◌+◌, ◌≤◌, ◌<◌, Bool, true, false, ◌⊎◌, inl, inr, List, [], ◌∷◌, filter, cond, length, None, IsSome, is_some, refl, ap, subst, ◌∙◌, arith}
use Rattle.std.proofs.lemmas.{Bool.Decides.eqb_tells}
use Rattle.listing.specs.{Listing.generation_after, Generation.next_generation}
use Rattle.listing.specs.Chain.{Entry, times, IsDistinct, item_of}
use Rattle.agenda.specs.Agenda.{greatest_generation}

-- so many generations on
module _ (g : ℕ) where
  -- either none was the greatest, or they began again once
  record Comes (n after : ℕ) : Type 0 where
    pub comes : (after ≡ g + n) ⊎ ((g ≤ 18446744073709551615) × (18446744073709551615 < g + n) × (after + 18446744073709551615 ≡ g + n + 1))

  next-comes : (n after : ℕ) → n ≤ 4294967294 → Comes n after → Comes (suc n) (next_generation greatest_generation after)
  next-comes n after few c = elim c.comes [
    | inl on ↦ elim (eqb_tells after 18446744073709551615) [
      | inl h ↦ record { comes = inr (omega (arith, on, h.1), omega (arith, on, h.1), rw (h.0) (omega (arith, on, h.1))) }
      | inr h ↦ record { comes = inl (rw (h.0) (omega (arith, on))) }
    ]
    | inr past ↦ elim (eqb_tells after 18446744073709551615) [
      | inl h ↦ absurd (omega (arith, past.0, past.2, h.1, few))
      | inr h ↦ record { comes = inr (past.0, omega (arith, past.1), rw (h.0) (omega (arith, past.2))) }
    ]
  ]

  comes-after : (n : ℕ) → n ≤ 4294967294 → Comes n (generation_after greatest_generation n g)
  comes-after zero few = record { comes = inl (omega arith) }
  comes-after (suc n) few = next-comes n (generation_after greatest_generation n g) (omega (arith, few)) (comes-after n (omega (arith, few)))

  pub generation-apart : (n : ℕ) → 0 < n → n ≤ 4294967294 → generation_after greatest_generation n g ≢ g
  generation-apart n some few same = elim (comes-after n few).comes [
    | inl on ↦ absurd (omega (arith, on, same, some))
    | inr past ↦ absurd (omega (arith, past.2, same, few))
  ]

module _ {X : Type 0} where
  -- a list is what removals leave of another
  abbrev pub IsPartOf : List X → List X → Type 0
  IsPartOf xs [] = xs ≡ []
  IsPartOf xs (y ∷ ys) = IsPartOf xs ys ⊎ ((zs : List X) × (xs ≡ y ∷ zs) × IsPartOf zs ys)

  pub part-shorter : (xs ys : List X) → IsPartOf xs ys → length xs ≤ length ys
  part-shorter xs [] part = omega (arith, ap length part)
  part-shorter xs (y ∷ ys) (inl part) = omega (arith, part-shorter xs ys part)
  part-shorter xs (y ∷ ys) (inr part) = omega (arith, ap length part.1, part-shorter part.0 ys part.2)

  pub part-whole : (xs ys : List X) → IsPartOf xs ys → length xs ≡ length ys → xs ≡ ys
  part-whole xs [] part same = part
  part-whole xs (y ∷ ys) (inl part) same = absurd (omega (arith, same, part-shorter xs ys part))
  part-whole xs (y ∷ ys) (inr part) same = part.1 ∙ ap (λ zs. y ∷ zs) (part-whole part.0 ys part.2 (omega (arith, same, ap length part.1)))

  pub part-filter : (test : X → Bool) (xs : List X) → IsPartOf (filter test xs) xs
  part-filter test [] = refl
  part-filter test (x ∷ xs) = go (test x) (part-filter test xs)
    where
      go : (b : Bool) → IsPartOf (filter test xs) xs → IsPartOf (cond b (x ∷ filter test xs) (filter test xs)) (x ∷ xs)
      go true part = inr (filter test xs, refl, part)
      go false part = inl part

module _ {T : Type 0} where
  times-part : (i : ℕ) (es fs : List (Entry T)) → IsPartOf es fs → times i es ≤ times i fs
  times-part i es [] part = rw part (omega arith)
  times-part i es (f ∷ fs) (inl part) = omega (arith, times-part i es fs part)
  times-part i es (f ∷ fs) (inr part) = rw (part.1) (omega (arith, times-part i part.0 fs part.2))

  -- what a pointer finds has its index
  found-times : (es : List (Entry T)) (q : ℕ × ℕ) → IsSome (item_of es q) → 1 ≤ times q.0 es
  found-times [] q there = absurd (cc)
  found-times (e ∷ es) q there = go (eqb_tells e.index q.0) there (found-times es q)
    where
      go : (((e.index == q.0) ≡ true) × (e.index ≡ q.0)) ⊎ (((e.index == q.0) ≡ false) × (e.index ≢ q.0)) → IsSome (item_of (e ∷ es) q) → (IsSome (item_of es q) → 1 ≤ times q.0 es) → 1 ≤ times q.0 (e ∷ es)
      go (inl h) there rest = rw (h.0) (omega arith)
      go (inr h) there rest = rw (h.0) (omega (arith, rest (rw (h.0) at there)))

  -- what a pointer finds in a part, it finds in the whole
  pub found-part : (es fs : List (Entry T)) (q : ℕ × ℕ) → IsPartOf es fs → IsDistinct fs → IsSome (item_of es q) → IsSome (item_of fs q)
  found-part es [] q part distinct there = absurd (let lost : is_some (item_of es q) ≡ is_some {T = T} None = rw part refl in cc)
  found-part es (f ∷ fs) q (inl part) distinct there = go (eqb_tells f.index q.0) (found-part es fs q part)
    where
      rest : IsDistinct fs
      rest i = omega (arith, distinct i)

      go : (((f.index == q.0) ≡ true) × (f.index ≡ q.0)) ⊎ (((f.index == q.0) ≡ false) × (f.index ≢ q.0)) → (IsDistinct fs → IsSome (item_of es q) → IsSome (item_of fs q)) → IsSome (item_of (f ∷ fs) q)
      go (inl h) later = absurd (let twice : times q.0 (f ∷ fs) ≡ 1 + times q.0 fs = rw (h.0) refl in omega (arith, twice, distinct q.0, times-part q.0 es fs part, found-times es q there))
      go (inr h) later = rw (h.0) (later rest there)
  found-part es (f ∷ fs) q (inr part) distinct there = go (eqb_tells f.index q.0) (subst (λ (xs : List (Entry T)). IsSome (item_of xs q)) part.1 there) (found-part part.0 fs q part.2)
    where
      rest : IsDistinct fs
      rest i = omega (arith, distinct i)

      go : (((f.index == q.0) ≡ true) × (f.index ≡ q.0)) ⊎ (((f.index == q.0) ≡ false) × (f.index ≢ q.0)) → IsSome (item_of (f ∷ part.0) q) → (IsDistinct fs → IsSome (item_of part.0 q) → IsSome (item_of fs q)) → IsSome (item_of (f ∷ fs) q)
      go (inl h) found later = rw (h.0) (rw (h.0) at found)
      go (inr h) found later = rw (h.0) (later rest (rw (h.0) at found))
