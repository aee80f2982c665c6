-- Levels with their orders: how they are cut at a level, at an order and at a rank, and put together again.
use Rattle.std.proofs.Common.{◌≡◌, ℕ, ◌<◌, ◌≤◌, Bool, true, false, List, [], ◌∷◌, ◌++◌, length, length-append, filter, refl, sym, ap, subst, ◌∙◌, append_assoc, arith, leb, nat_lt}
use Rattle.std.proofs.lemmas.{Bool.Decides.nat_tests}
use Rattle.std.specs.List.{AllByRecursion}
use Rattle.sorted_arena.proofs.CallerLemmas.{all-append, all-front, all-back}
use Rattle.order_book.specs.Ladder.{AreLaid, IsLevel, IsOf, Rise}
use Rattle.order_book.proofs.Rows.{LevelEntry, OrderEntry, Orders, Levels}

module _ {T : Type 0} where
  -- some levels behind others
  pub laid-append : (low high : Levels) (front back : Orders T) → AreLaid low front → AreLaid high back → AreLaid (low ++ high) (front ++ back)
  laid-append [] high front back first second = subst (λ (es : Orders T). AreLaid high (es ++ back)) (sym first) second
  laid-append (l ∷ low) high front back first second = (
    first.0,
    first.1 ++ back,
    ap (λ (es : Orders T). es ++ back) first.2 ∙ append_assoc first.0 first.1 back,
    first.3,
    laid-append low high first.1 back first.4 second,
  )

  -- orders cut where their levels are cut
  pub record LaidCut (low high : Levels) (es : Orders T) : Type 0 where
    pub front : Orders T
    pub back : Orders T
    pub cut : es ≡ front ++ back
    pub laid_low : AreLaid low front
    pub laid_high : AreLaid high back

  pub laid-cut : (low high : Levels) (es : Orders T) → AreLaid (low ++ high) es → LaidCut low high es
  laid-cut [] high es laid = record { front = []; back = es; cut = refl; laid_low = refl; laid_high = laid }
  laid-cut (l ∷ low) high es laid =
      let rest = laid-cut low high laid.1 laid.4 in
      record {
        front = laid.0 ++ rest.front;
        back = rest.back;
        cut = laid.2 ∙ ap (λ (xs : Orders T). laid.0 ++ xs) rest.cut ∙ sym (append_assoc laid.0 rest.front rest.back);
        laid_low = (laid.0, rest.front, refl, laid.3, rest.laid_low);
        laid_high = rest.laid_high;
      }

-- what is true of all elements of a list is true of one
pub all-at : {X : Type 0} (P : X → Type 0) (xs : List X) (x : X) (ys : List X) → AllByRecursion P (xs ++ x ∷ ys) → P x
all-at P [] x ys all = all.0
all-at P (y ∷ xs) x ys all = all-at P xs x ys all.1

module _ {T : Type 0} where
  -- what is true of the ranks of the levels is true of those of their orders
  pub all-of : (P : ℕ → Type 0) (l : LevelEntry) (group : Orders T) → P l.item.0 → AllByRecursion (IsOf l) group → AllByRecursion (λ (e : OrderEntry T). P e.item.rank) group
  all-of P l [] is all = tt
  all-of P l (e ∷ group) is all = (subst P (sym all.0.rank) is, all-of P l group is all.1)

  pub all-laid : (P : ℕ → Type 0) (ls : Levels) (es : Orders T) → AllByRecursion (λ (l : LevelEntry). P l.item.0) ls → AreLaid ls es
      → AllByRecursion (λ (e : OrderEntry T). P e.item.rank) es
  all-laid P [] es all laid = subst (λ (xs : Orders T). AllByRecursion (λ (e : OrderEntry T). P e.item.rank) xs) (sym laid) tt
  all-laid P (l ∷ ls) es all laid =
      subst (λ (xs : Orders T). AllByRecursion (λ (e : OrderEntry T). P e.item.rank) xs) (sym laid.2)
      (all-append (λ (e : OrderEntry T). P e.item.rank) laid.0 laid.1 (all-of P l laid.0 all.0 laid.3.members) (all-laid P ls laid.1 all.1 laid.4))

  -- Where an order stands: its level, with the orders of that before it and behind it.
  pub record Located (ls : Levels) (a : Orders T) (x : OrderEntry T) (b : Orders T) : Type 0 where
    pub low : Levels
    pub level : LevelEntry
    pub high : Levels
    pub levels_cut : ls ≡ low ++ level ∷ high
    pub front : Orders T
    pub before : Orders T
    pub after : Orders T
    pub back : Orders T
    pub ahead : a ≡ front ++ before
    pub later : b ≡ after ++ back
    pub laid_low : AreLaid low front
    pub is_level : IsLevel level (before ++ x ∷ after)
    pub laid_high : AreLaid high back

  -- of two ways to cut a list, at a place and around an element, either the element is before the place or behind
  data Around (group rest a : Orders T) (x : OrderEntry T) (b : Orders T) : Type 0 where
    inside : (m : Orders T) → group ≡ a ++ x ∷ m → b ≡ m ++ rest → Around group rest a x b
    outside : (m : Orders T) → a ≡ group ++ m → rest ≡ m ++ x ∷ b → Around group rest a x b

  around : (group rest a : Orders T) (x : OrderEntry T) (b : Orders T) → group ++ rest ≡ a ++ x ∷ b → Around group rest a x b
  around [] rest a x b is = outside a refl is
  around (e ∷ group) rest [] x b is = let here : e ≡ x = cc in let more : b ≡ group ++ rest = cc in inside group (ap (λ y. y ∷ group) here) more
  around (e ∷ group) rest (f ∷ a) x b is =
      let here : e ≡ f = cc in
      let more : group ++ rest ≡ a ++ x ∷ b = cc in
      elim (around group rest a x b more) [
        | inside m cut later ↦ inside m (ap (λ y. y ∷ group) here ∙ ap (λ ys. f ∷ ys) cut) later
        | outside m cut later ↦ outside m (ap (λ ys. f ∷ ys) cut ∙ ap (λ y. y ∷ group ++ m) (sym here)) later
      ]

  pub locate : (ls : Levels) (es a : Orders T) (x : OrderEntry T) (b : Orders T) → AreLaid ls es → es ≡ a ++ x ∷ b → Located ls a x b
  locate [] es a x b laid is = absurd (go a (sym laid ∙ is))
    where
      go : (a : Orders T) → [] ≡ a ++ x ∷ b → ⊥
      go [] none = absurd (cc)
      go (y ∷ a) none = absurd (cc)
  locate (l ∷ ls) es a x b laid is = elim (around laid.0 laid.1 a x b (sym laid.2 ∙ is)) [
    | inside m cut later ↦ record {
      low = [];
      level = l;
      high = ls;
      levels_cut = refl;
      front = [];
      before = a;
      after = m;
      back = laid.1;
      ahead = refl;
      later = later;
      laid_low = refl;
      is_level = subst (IsLevel l) cut laid.3;
      laid_high = laid.4;
    }
    | outside m cut later ↦
        let more = locate ls laid.1 m x b laid.4 later in record {
          low = l ∷ more.low;
          level = more.level;
          high = more.high;
          levels_cut = ap (λ (ms : Levels). l ∷ ms) more.levels_cut;
          front = laid.0 ++ more.front;
          before = more.before;
          after = more.after;
          back = more.back;
          ahead = cut ∙ ap (λ (xs : Orders T). laid.0 ++ xs) more.ahead ∙ sym (append_assoc laid.0 more.front more.before);
          later = more.later;
          laid_low = (laid.0, more.front, refl, laid.3, more.laid_low);
          is_level = more.is_level;
          laid_high = more.laid_high;
        }
  ]

  -- The levels with a level among them, and the orders of that level.
  pub record AtLevel (ls : Levels) (low : Levels) (l : LevelEntry) (high : Levels) (es : Orders T) : Type 0 where
    pub front : Orders T
    pub group : Orders T
    pub back : Orders T
    pub cut : es ≡ front ++ (group ++ back)
    pub laid_low : AreLaid low front
    pub is_level : IsLevel l group
    pub laid_high : AreLaid high back

  pub at-level : (ls low : Levels) (l : LevelEntry) (high : Levels) (es : Orders T) → ls ≡ low ++ l ∷ high → AreLaid ls es → AtLevel ls low l high es
  at-level ls low l high es cut laid =
      let first = laid-cut low (l ∷ high) es (subst (λ (ms : Levels). AreLaid ms es) cut laid) in
      record {
        front = first.front;
        group = first.laid_high.0;
        back = first.laid_high.1;
        cut = first.cut ∙ ap (λ (xs : Orders T). first.front ++ xs) first.laid_high.2;
        laid_low = first.laid_low;
        is_level = first.laid_high.3;
        laid_high = first.laid_high.4;
      }

  -- the same put together
  pub laid-with : (low : Levels) (l : LevelEntry) (high : Levels) (front group back : Orders T) → AreLaid low front → IsLevel l group → AreLaid high back
      → AreLaid (low ++ l ∷ high) (front ++ (group ++ back))
  laid-with low l high front group back first level last = laid-append low (l ∷ high) front (group ++ back) first (group, back, refl, level, last)

-- ranks that rise, cut and put together
pub rise-front : (low high : Levels) → Rise (low ++ high) → Rise low
rise-front [] high rise = tt
rise-front (l ∷ low) high rise = (all-front (λ (m : LevelEntry). l.item.0 < m.item.0) low high rise.0, rise-front low high rise.1)

pub rise-back : (low high : Levels) → Rise (low ++ high) → Rise high
rise-back [] high rise = rise
rise-back (l ∷ low) high rise = rise-back low high rise.1

-- each rank before a place is less than each behind it
pub rise-across : (low : Levels) (l : LevelEntry) (high : Levels) → Rise (low ++ l ∷ high) → AllByRecursion (λ (m : LevelEntry). m.item.0 < l.item.0) low
rise-across [] l high rise = tt
rise-across (m ∷ low) l high rise = ((all-back (λ (n : LevelEntry). m.item.0 < n.item.0) low (l ∷ high) rise.0).0, rise-across low l high rise.1)

pub rise-behind : (low : Levels) (l : LevelEntry) (high : Levels) → Rise (low ++ l ∷ high) → AllByRecursion (λ (m : LevelEntry). l.item.0 < m.item.0) high
rise-behind low l high rise = (rise-back low (l ∷ high) rise).0

all-less : (r s : ℕ) (ls : Levels) → r < s → AllByRecursion (λ (m : LevelEntry). s < m.item.0) ls → AllByRecursion (λ (m : LevelEntry). r < m.item.0) ls
all-less r s [] less all = tt
all-less r s (m ∷ ls) less all = (omega (arith, less, all.0), all-less r s ls less all.1)

-- a level of a rank between
pub rise-put : (low : Levels) (l : LevelEntry) (high : Levels) → Rise (low ++ high) → AllByRecursion (λ (m : LevelEntry). m.item.0 < l.item.0) low
    → AllByRecursion (λ (m : LevelEntry). l.item.0 < m.item.0) high → Rise (low ++ l ∷ high)
rise-put [] l high rise less greater = (greater, rise)
rise-put (m ∷ low) l high rise less greater = (between, rise-put low l high rise.1 less.1 greater)
  where
    between : AllByRecursion (λ (n : LevelEntry). m.item.0 < n.item.0) (low ++ l ∷ high)
    between = all-append (λ (n : LevelEntry). m.item.0 < n.item.0) low (l ∷ high) (all-front (λ (n : LevelEntry). m.item.0 < n.item.0) low high rise.0)
        (less.0, all-back (λ (n : LevelEntry). m.item.0 < n.item.0) low high rise.0)

pub rise-without : (low : Levels) (l : LevelEntry) (high : Levels) → Rise (low ++ l ∷ high) → Rise (low ++ high)
rise-without [] l high rise = rise.1
rise-without (m ∷ low) l high rise = (
  all-append (λ (n : LevelEntry). m.item.0 < n.item.0) low high (all-front (λ (n : LevelEntry). m.item.0 < n.item.0) low (l ∷ high) rise.0)
      (all-back (λ (n : LevelEntry). m.item.0 < n.item.0) low (l ∷ high) rise.0).1,
  rise-without low l high rise.1,
)

-- another level of the same rank
pub rise-instead : (low : Levels) (l m : LevelEntry) (high : Levels) → m.item.0 ≡ l.item.0 → Rise (low ++ l ∷ high) → Rise (low ++ m ∷ high)
rise-instead low l m high same rise =
    rise-put low m high (rise-without low l high rise)
    (subst (λ (r : ℕ). AllByRecursion (λ (n : LevelEntry). n.item.0 < r) low) (sym same) (rise-across low l high rise))
    (subst (λ (r : ℕ). AllByRecursion (λ (n : LevelEntry). r < n.item.0) high) (sym same) (rise-behind low l high rise))

-- Levels cut by a test of ranks that holds up to one of them, if of any.
pub record CutBy (test : ℕ → Bool) (ls : Levels) : Type 0 where
  pub low : Levels
  pub high : Levels
  pub cut : ls ≡ low ++ high
  pub low_is : filter (λ (l : LevelEntry). test l.item.0) ls ≡ low
  pub passing : AllByRecursion (λ (l : LevelEntry). test l.item.0 ≡ true) low
  pub failing : AllByRecursion (λ (l : LevelEntry). test l.item.0 ≡ false) high

module _ (test : ℕ → Bool) (fails_on : (r s : ℕ) → r < s → test r ≡ false → test s ≡ false) where
  all-failing : (r : ℕ) (ls : Levels) → test r ≡ false → AllByRecursion (λ (m : LevelEntry). r < m.item.0) ls
      → AllByRecursion (λ (l : LevelEntry). test l.item.0 ≡ false) ls
  all-failing r [] fails above = tt
  all-failing r (l ∷ ls) fails above = (fails_on r l.item.0 above.0 fails, all-failing r ls fails above.1)

  none-left : (ls : Levels) → AllByRecursion (λ (l : LevelEntry). test l.item.0 ≡ false) ls → filter (λ (l : LevelEntry). test l.item.0) ls ≡ []
  none-left [] all = refl
  none-left (l ∷ ls) all = rw all.0 (none-left ls all.1)

  pub cut-by : (ls : Levels) → Rise ls → CutBy test ls
  cut-by [] rise = record { low = []; high = []; cut = refl; low_is = refl; passing = tt; failing = tt }
  cut-by (l ∷ ls) rise = go (test l.item.0) refl (cut-by ls rise.1)
    where
      go : (b : Bool) → test l.item.0 ≡ b → CutBy test ls → CutBy test (l ∷ ls)
      go true is rest = record {
        low = l ∷ rest.low;
        high = rest.high;
        cut = ap (λ (ms : Levels). l ∷ ms) rest.cut;
        low_is = rw is (ap (λ (ms : Levels). l ∷ ms) rest.low_is);
        passing = (is, rest.passing);
        failing = rest.failing;
      }
      go false is rest =
          let all = all-failing l.item.0 ls is rise.0 in
          record { low = []; high = l ∷ ls; cut = refl; low_is = rw is (none-left ls all); passing = tt; failing = (is, all) }

-- the two tests that are asked: whether a rank is at most another, and whether it is less
pub until-fails : (rank r s : ℕ) → r < s → leb r rank ≡ false → leb s rank ≡ false
until-fails rank r s less fails = grind (arith, nat_tests)

pub below-fails : (rank r s : ℕ) → r < s → nat_lt r rank ≡ false → nat_lt s rank ≡ false
below-fails rank r s less fails = grind (arith, nat_tests)

module _ {T : Type 0} where
  -- there are no more levels than orders
  pub levels-fewer : (ls : Levels) (es : Orders T) → AreLaid ls es → length ls ≤ length es
  levels-fewer [] es laid = omega arith
  levels-fewer (l ∷ ls) es laid = omega (arith, levels-fewer ls laid.1 laid.4, ap length laid.2, length-append laid.0 laid.1, some laid.0 laid.3)
    where
      some : (group : Orders T) → IsLevel l group → 1 ≤ length group
      some [] level = absurd (let none = level.last in cc)
      some (e ∷ group) level = omega arith
