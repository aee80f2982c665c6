-- The steps of a rebuild: opening a run, meeting an entry, ending a run.
use Rattle.std.proofs.Common.{◌≡◌, ℕ, zero, suc, ◌+◌, ◌-◌, ◌*◌, ◌/◌, ◌^◌, ◌<◌, ◌≤◌, inr, ⊎_elim, Option, Some, None, List, [], ◌∷◌, ◌++◌, length, length-append, append_assoc, arith, refl, sym, ◌∙◌, ap, subst, is_some, true, slice_get, option_map}
use Rattle.std.proofs.{Math.Nat.mul-le-mul_right, Math.Nat.one-le-pow, Math.Nat.pow-suc, Math.Nat.two-pow-succ, lemmas.Grind.common_steps}
use Rattle.std.proofs.{lemmas.Bool.cases_lt, lemmas.Bool.eq-eqb, lemmas.Nat.leading_length, lemmas.Option.none-some, lemmas.List.append-nil, Math.Pow.pow_mono}
use Rattle.std.specs.Int.Count.{count_leading_zeros}
use Rattle.ord_tree.specs.Rebuild.{ahead, IsFacing, IsFew, IsPlan, IsMiddle, IsStack, IsUnopened, IsFinished, IsWaiting, IsOpening, IsPassing}
use Rattle.chain_base.specs.Chain.{Chain}
use Rattle.ord_tree.specs.Slots.{Slots, Holds, Way, top, up, plug, here, times, times_in, times_way, IsOnce, Writes, Hangs}
use Rattle.ord_tree.specs.{declared.tree_links.Side.TheVariants.Lesser, declared.tree_links.Side.TheVariants.Greater, Numbers.IsTop}
use Rattle.ord_tree.specs.{Shape.Shape, Shape.missing, Shape.node, Shape.fork, Shape.size_of, Shape.walk, Leaf.list_head, Leaf.following}
use Rattle.ord_tree.specs.{Half.half_rank, Half.IsHalf, Half.IsRebuilt, declared.tree_links.TreeLinks.TreeLinks}
use Rattle.ord_tree.specs.{declared.tree_links.Side.Side, declared.rebuild.Frame.Frame}
use Rattle.ord_tree.proofs.Forks.{here-same, times-append, times-walk, times_in-plug, link-root, apart-from}
use Rattle.ord_tree.proofs.{Frames.root-in, Frames.Holds-frame, Frames.Holds-rehung, Halves.rebuilt_exists, Halves.size_of-walk}
use Rattle.ord_tree.proofs.{Rotations.occupied-link, LeafBranches.some_in}

-- the number of steps of a path
abbrev pub depth : Way → ℕ
depth top = 0
depth (up side i k far rest) = suc (depth rest)

-- a side of a half is a half, one rank lower and at most half as large
IsHalf-near : (side : Side) (near far : Shape) (i k p : ℕ) → IsHalf p (fork side near i k far) → IsHalf (p - 1) near × (2 * size_of near ≤ size_of (fork side near i k far))
IsHalf-near Lesser near far i k p h = (h.2, omega (arith, h.0))
IsHalf-near Greater near far i k p h = (h.3, omega (arith, h.0))

-- the same holds at the end of a path
pub IsHalf-plug : (way : Way) (t : Shape) (q p : ℕ) → p ≡ q - depth way → IsHalf q (plug way t) → IsHalf p t
IsHalf-plug top t q p e h = let same : p ≡ q = omega arith in rw same h
IsHalf-plug (up side i k far rest) t q p e h =
    let same : p ≡ q - depth rest - 1 = omega arith in
    rw same (IsHalf-near side t far i k (q - depth rest) (IsHalf-plug rest (fork side t i k far) q (q - depth rest) refl h)).0

-- each step of a path halves the shape at its end
halved : (u v p n r : ℕ) → r ≡ p * 2 → 2 * u ≤ v → v * p ≤ n → u * r ≤ n
halved u v p n r e g l = rw e (omega (arith, mul-le-mul_right p g))

size-plug : (way : Way) (t : Shape) (q : ℕ) → IsHalf q (plug way t) → size_of t * 2 ^ depth way ≤ size_of (plug way t)
size-plug top t q h = omega arith
size-plug (up side i k far rest) t q h =
    halved (size_of t) (size_of (fork side t i k far)) (2 ^ depth rest) (size_of (plug rest (fork side t i k far))) (2 ^ suc (depth rest)) (pow-suc 2 (depth rest))
    (IsHalf-near side t far i k (q - depth rest) (IsHalf-plug rest (fork side t i k far) q (q - depth rest) refl h)).1
    (size-plug rest (fork side t i k far) q h)

below_power : (k l n d : ℕ) → 0 < l → n < 2 ^ d → l * 2 ^ k ≤ n → k < d
below_power k l n d p s g =
    ⊎_elim (λ (less : k < d). less)
    (λ (more : d ≤ k). absurd (omega (arith, pow_mono {i = d} {j = k} more, mul-le-mul_right (2 ^ k) p, s))) (cases_lt k d)

-- so a path to a node of the plan has fewer steps than the size of the plan has digits
few-steps : {at : Slots} {q : ℕ} {s : Shape} (way : Way) (t : Shape) → IsPlan at q s → plug way t ≡ s → 0 < size_of t → (d : ℕ) → size_of s < 2 ^ d → depth way < d
few-steps {at} {q} {s} way t plan whole some d below =
    below_power (depth way) (size_of t) (size_of s) d some below (omega (arith, size-plug way t q (rw (← whole) at plan.half), ap size_of whole))

size-fork-some : (side : Side) (near far : Shape) (i k : ℕ) → 0 < size_of (fork side near i k far)
size-fork-some Lesser near far i k = omega arith
size-fork-some Greater near far i k = omega arith

apart : {at : Slots} {q : ℕ} {s : Shape} (way : Way) (t : Shape) → IsPlan at q s → plug way t ≡ s → (j : ℕ) → times_way j way + times_in j t ≤ 1
apart way t plan whole j = omega (arith, plan.once j, times_in-plug j way t, ap (times_in j) whole)

within : {at : Slots} {q : ℕ} {s : Shape} (way : Way) (t : Shape) → IsPlan at q s → plug way t ≡ s → (j : ℕ) → 0 < times_way j way + times_in j t → is_some (at j) ≡ true
within way t plan whole j some = plan.there j (omega (arith, some, times_in-plug j way t, ap (times_in j) whole))

-- the last element of a list is unique
pub snoc-same : {A : Type 0} (xs ys : List A) (x y : A) → xs ++ x ∷ [] ≡ ys ++ y ∷ [] → (xs ≡ ys) × (x ≡ y)
snoc-same [] [] x y e = (refl, cc)
snoc-same [] (b ∷ ys) x y e = absurd (omega (arith, ap length e, length-append ys (y ∷ [])))
snoc-same (a ∷ xs) [] x y e = absurd (omega (arith, ap length e, length-append xs (x ∷ [])))
snoc-same (a ∷ xs) (b ∷ ys) x y e =
    let rest : xs ++ x ∷ [] ≡ ys ++ y ∷ [] = cc in
    let same = snoc-same xs ys x y rest in
    let first : a ≡ b = cc in
    (rw (first, same.0) refl, same.1)

not-snoc : {A : Type 0} (xs : List A) (x : A) → [] ≡ xs ++ x ∷ [] → ⊥
not-snoc xs x e = omega (arith, ap length e, length-append xs (x ∷ []))

-- the last element is at the last position
pub slice_get-end : {A : Type 0} (xs : List A) (x : A) (n : ℕ) → n ≡ length xs → slice_get (xs ++ x ∷ []) n ≡ Some x
slice_get-end [] x n e = rw e refl
slice_get-end (a ∷ xs) x zero e = absurd (omega (arith, e))
slice_get-end (a ∷ xs) x (suc n) e = slice_get-end xs x n (omega (arith, e))

pub slice_get-last : {A : Type 0} (all below : List A) (x : A) → all ≡ below ++ x ∷ [] → slice_get all (length all - 1) ≡ Some x
slice_get-last all below x e = ap (λ xs. slice_get xs (length all - 1)) e ∙ slice_get-end below x (length all - 1) (omega (arith, ap length e, length-append below (x ∷ [])))

module _ where
  -- there are as many frames as steps
  pub length-stack : (at : Slots) (way : Way) (n : ℕ) (frames : List Frame) → IsStack at way n frames → length frames ≡ depth way
  length-stack at top n frames h = ap length h
  length-stack at (up side i k far rest) n frames h =
      omega (arith, ap length h.2, length-append h.0 (h.1 ∷ []), length-stack at rest (n + 1 + size_of far) h.0 h.5)

  -- so there are at most as many as the size of the plan has digits
  few-frames : {at : Slots} {q : ℕ} {s : Shape} (frames : List Frame) → IsPlan at q s → (way : Way) (t : Shape) → plug way t ≡ s → IsStack at way (size_of t) frames → IsFew frames s
  few-frames {at} {q} {s} frames plan top t whole stack d digits = omega (arith, length-stack at top (size_of t) frames stack)
  few-frames {at} {q} {s} frames plan (up side i k far rest) t whole stack d digits =
      omega (arith, length-stack at (up side i k far rest) (size_of t) frames stack, few-steps rest (fork side t i k far) plan whole (size-fork-some side t far i k) d digits.0)

  pub IsWaiting-few : {at : Slots} {q : ℕ} {s : Shape} {frames : List Frame} {link : Option ℕ} {todo : List ℕ} → IsPlan at q s → IsWaiting at frames s link todo → IsFew frames s
  IsWaiting-few {frames = frames} plan ready = few-frames frames plan ready.finished.way ready.finished.done ready.finished.whole ready.finished.stack

  -- the facts that the frames record stay if no write touches the nodes that were met
  module _ (old new : Slots) where
    module _ (i k : ℕ) (far : Shape) (middle : Option ℕ) (same : (j : ℕ) → 0 < here j i + times_in j far → new j ≡ old j) where
      IsMiddle-frame : (side : Side) → IsMiddle old side i k far middle → IsMiddle new side i k far middle
      IsMiddle-frame Lesser h = h
      IsMiddle-frame Greater h =
          (h.0, h.1, same i (omega (arith, here-same i)) ∙ h.2, h.3, h.4, Holds-frame old new far (Some i) h.1.lesser (λ j inside. same j (omega arith)) h.5)

    pub IsStack-frame : (way : Way) (n : ℕ) (frames : List Frame) → ((j : ℕ) → 0 < times_way j way → new j ≡ old j) → IsStack old way n frames → IsStack new way n frames
    IsStack-frame top n frames same h = h
    IsStack-frame (up side i k far rest) n frames same h =
        (h.0, h.1, h.2, IsMiddle-frame i k far h.1.middle (λ j inside. same j (omega arith)) side h.3, h.4, IsStack-frame rest (n + 1 + size_of far) h.0 (λ j inside. same j (omega arith)) h.5)

  -- a finished shape is hung under m, after a write of m
  module _ {T : Type 0} {first second third : Chain T} {at written new : Slots} {m : ℕ} {change : TreeLinks ℕ → TreeLinks ℕ} {link : Option ℕ}
      (write : Writes m change at written first second) (hung : Hangs link (Some m) written new second third) (s : Shape) (held : Holds at None link s)
      (alone : (j : ℕ) → here j m + times_in j s ≤ 1) where
    pub hung-stays : (j : ℕ) → here j m + times_in j s ≡ 0 → new j ≡ at j
    hung-stays j out =
        hung.elsewhere j (λ e. omega (arith, root-in s j (sym (link-root at None link s held) ∙ e)))
        ∙ write.elsewhere j (λ e. let one = ap (here j) e in omega (arith, here-same j))

    pub hung-written : (n : TreeLinks ℕ) → at m ≡ Some n → new m ≡ Some (change n)
    hung-written n e = hung.elsewhere m (λ e. omega (arith, alone m, here-same m, root-in s m (sym (link-root at None link s held) ∙ e))) ∙ write.here n e

    pub Holds-hung : Holds new (Some m) link s
    Holds-hung =
        Holds-rehung written new None (Some m) link hung.here s (λ j other inside. hung.elsewhere j other) (λ j. omega (arith, alone j))
        (Holds-frame at written s None link (λ j inside. write.elsewhere j (apart-from m j (λ j. times_in j s) (omega (arith, alone m, here-same m)) inside)) held)

  pub sizeless : (s : Shape) → size_of s ≡ 0 → s ≡ missing
  sizeless missing none = refl
  sizeless (node l i k r) none = absurd (omega arith)

  -- opening
  abbrev frame_over : ℕ → Frame
  frame_over len = record { len = len; middle = None }

  module _ {at : Slots} {q : ℕ} {s : Shape} (plan : IsPlan at q s) {todo : List ℕ} where
    module _ {frames : List Frame} {len : ℕ} (u : IsUnopened at frames s len todo) where
      -- one frame more
      pub opened-more : 0 < len → (length frames < 64) × IsOpening at (frames ++ frame_over len ∷ []) s (len / 2) todo
      opened-more some = go u.run refl
        where
          go : (run : Shape) → u.run ≡ run → (length frames < 64) × IsOpening at (frames ++ frame_over len ∷ []) s (len / 2) todo
          go missing is = absurd (omega (arith, some, u.size, ap size_of is))
          go (node l i k r) is =
              let whole = rw is at u.whole in
              let stack = rw is at u.stack in
              let size = rw is at u.size in
              let half = IsHalf-plug u.way (node l i k r) q (q - depth u.way) refl (rw (← whole) at plan.half) in (
                omega (arith, length-stack at u.way (size_of (node l i k r)) frames stack, few-steps u.way (node l i k r) plan whole (omega arith) 64 plan.few),
                record {
                  unopened = record {
                    way = up Lesser i k r u.way;
                    run = l;
                    whole = whole;
                    stack = (frames, frame_over len, refl, refl, size, stack);
                    size = omega (arith, half.0, size);
                    todo_is = sym (append_assoc (walk l) (i ∷ walk r) (ahead u.way)) ∙ rw is at u.todo_is;
                  };
                  facing = inr tt;
                },
              )

      -- nothing is left to open
      abbrev pub IsFinished-empty : len ≡ 0 → IsFinished at frames s None todo
      IsFinished-empty none =
          let is : u.run ≡ missing = sizeless u.run (omega (arith, none, u.size)) in
          record { way = u.way; done = missing; whole = rw is at u.whole; stack = rw is at u.stack; held = refl; todo_is = rw is at u.todo_is }

    pub IsWaiting-opened : {frames : List Frame} {len : ℕ} → IsOpening at frames s len todo → len ≡ 0 → IsWaiting at frames s None todo
    IsWaiting-opened {frames} {len} o none =
        ⊎_elim (λ some. absurd (omega (arith, some, none))) (λ facing. record { finished = IsFinished-empty o.unopened none; facing = facing }) o.facing

  -- the run whose middle is met next
  pub record IsNext {at : Slots} {q : ℕ} {s : Shape} (plan : IsPlan at q s) (below : List Frame) (f : Frame) (link : Option ℕ) (x : ℕ) (todo : List ℕ) : Type 0 where
    pub rest : Way
    pub l : Shape
    pub k : ℕ
    pub r : Shape
    pub whole : plug rest (node l x k r) ≡ s
    pub stack : IsStack at rest (size_of l + 1 + size_of r) below
    pub len : f.len ≡ size_of l + 1 + size_of r
    pub held : Holds at None link l
    pub todo_is : walk r ++ ahead rest ≡ todo

  module _ {at : Slots} {q : ℕ} {s : Shape} (plan : IsPlan at q s) {frames : List Frame} {link : Option ℕ} {x : ℕ} {todo : List ℕ} (ready : IsWaiting at frames s link (x ∷ todo)) where
    pub next-run : (below : List Frame) (f : Frame) → frames ≡ below ++ f ∷ [] → IsNext plan below f link x todo
    next-run below f e = go ready.finished.way ready.finished.done ready.finished.whole ready.finished.stack ready.finished.held ready.finished.todo_is ready.facing
      where
        go : (way : Way) (done : Shape) → plug way done ≡ s → IsStack at way (size_of done) frames → Holds at None link done → ahead way ≡ x ∷ todo → IsFacing way → IsNext plan below f link x todo
        go top done whole stack held todo_is facing = absurd cc
        go (up Greater i k far rest) done whole stack held todo_is facing = absurd facing
        go (up Lesser i k far rest) done whole stack held todo_is facing =
            let same = snoc-same stack.0 below stack.1 f (sym stack.2 ∙ e) in
            let first : i ≡ x = cc in
            let tail : walk far ++ ahead rest ≡ todo = cc in
            record {
              rest = rest;
              l = done;
              k = k;
              r = far;
              whole = rw first at whole;
              stack = rw same.0 at stack.5;
              len = ap (λ (f : Frame). f.len) (sym same.1) ∙ stack.4;
              held = held;
              todo_is = tail;
            }

  module _ {at : Slots} {q : ℕ} {s : Shape} {plan : IsPlan at q s} {below : List Frame} {f : Frame} {link : Option ℕ} {x : ℕ} {todo : List ℕ} (next : IsNext plan below f link x todo) where
    pub next-room : length below < 64
    next-room = omega (arith, length-stack at next.rest (size_of next.l + 1 + size_of next.r) below next.stack, few-steps next.rest (node next.l x next.k next.r) plan next.whole (omega arith) 64 plan.few)

    pub next-some : 0 < f.len
    next-some = omega (arith, next.len)

    pub next-there : is_some (at x) ≡ true
    next-there = within next.rest (node next.l x next.k next.r) plan next.whole x (omega (arith, here-same x))

    pub next-link-there : (i : ℕ) → link ≡ Some i → is_some (at i) ≡ true
    next-link-there i e = occupied-link at None link next.l i next.held e

    alone : (j : ℕ) → times_way j next.rest + (times_in j next.l + here j x + times_in j next.r) ≤ 1
    alone = apart next.rest (node next.l x next.k next.r) plan next.whole

    half : IsHalf (q - depth next.rest) (node next.l x next.k next.r)
    half = IsHalf-plug next.rest (node next.l x next.k next.r) q (q - depth next.rest) refl (rw (← next.whole) at plan.half)

    -- the entry is met
    module _ {T : Type 0} {first second third : Chain T} {written new : Slots} {rank : ℕ} (rank_is : rank ≡ half_rank f.len (q - length below))
        (write : Writes x (λ _. record { back = None; lesser = link; greater = None; rank = rank }) at written first second) (hung : Hangs link (Some x) written new second third) where
      alone_l : (j : ℕ) → here j x + times_in j next.l ≤ 1
      alone_l j = omega (arith, alone j)

      abbrev pub met_frame : Frame
      met_frame = record { len = f.len; middle = Some x }

      rank_met : rank ≡ next.k
      rank_met =
          let steps = length-stack at next.rest (size_of next.l + 1 + size_of next.r) below next.stack in
          rank_is ∙ ap (λ n. half_rank n (q - length below)) next.len ∙ ap (λ d. half_rank (size_of next.l + 1 + size_of next.r) (q - d)) steps ∙ sym half.1

      pub bare-met : new x ≡ Some (record { back = None; lesser = link; greater = None; rank = rank })
      bare-met = let was = some_in (at x) next-there in hung-written write hung next.l next.held alone_l was.0 was.1

      pub IsUnopened-met : IsUnopened new (below ++ met_frame ∷ []) s (f.len - f.len / 2 - 1) todo
      IsUnopened-met =
          let turned : size_of next.l + 1 + size_of next.r ≡ size_of next.r + 1 + size_of next.l = omega arith in
          record {
            way = up Greater x next.k next.l next.rest;
            run = next.r;
            whole = next.whole;
            stack = (
              below,
              met_frame,
              refl,
              (
                refl,
                record { back = None; lesser = link; greater = None; rank = rank },
                bare-met,
                refl,
                rank_met,
                Holds-hung write hung next.l next.held alone_l,
              ),
              omega (arith, next.len),
              rw turned at (IsStack-frame at new next.rest (size_of next.l + 1 + size_of next.r) below (λ j inside. hung-stays write hung next.l next.held alone_l j (omega (arith, alone j))) next.stack),
            );
            size = omega (arith, next.len, half.0);
            todo_is = next.todo_is;
          }

  -- ending a run
  module _ {at : Slots} {q : ℕ} {s : Shape} (plan : IsPlan at q s) {frames : List Frame} {link : Option ℕ} {todo : List ℕ} (finished : IsFinished at frames s link todo) where
    -- if the innermost run has no middle yet, or there is no run, the next entry can be met
    pub IsWaiting-bare : ((below : List Frame) (f : Frame) → frames ≡ below ++ f ∷ [] → f.middle ≡ None) → IsWaiting at frames s link todo
    IsWaiting-bare bare = record { finished = finished; facing = go finished.way finished.stack }
      where
        go : (way : Way) → IsStack at way (size_of finished.done) frames → IsFacing way
        go top stack = tt
        go (up Lesser i k far rest) stack = tt
        go (up Greater i k far rest) stack = let none = bare stack.0 stack.1 stack.2 in let some = stack.3.0 in cc

    -- the run that is ended
    pub record IsEnding (below : List Frame) (m : ℕ) : Type 0 where
      pub rest : Way
      pub l : Shape
      pub k : ℕ
      pub r : Shape
      pub n : TreeLinks ℕ
      pub whole : plug rest (node l m k r) ≡ s
      pub stack : IsStack at rest (size_of l + 1 + size_of r) below
      pub found : at m ≡ Some n
      pub back : n.back ≡ None
      pub rank : n.rank ≡ k
      pub lesser : Holds at (Some m) n.lesser l
      pub greater : Holds at None link r
      pub todo_is : ahead rest ≡ todo

    pub ending-run : (below : List Frame) (f : Frame) (m : ℕ) → frames ≡ below ++ f ∷ [] → f.middle ≡ Some m → IsEnding below m
    ending-run below f m e mid = go finished.way finished.done finished.whole finished.stack finished.held finished.todo_is
      where
        go : (way : Way) (done : Shape) → plug way done ≡ s → IsStack at way (size_of done) frames → Holds at None link done → ahead way ≡ todo → IsEnding below m
        go top done whole stack held todo_is = absurd (not-snoc below f (sym stack ∙ e))
        go (up Lesser i k far rest) done whole stack held todo_is =
            let same = snoc-same stack.0 below stack.1 f (sym stack.2 ∙ e) in
            let none : f.middle ≡ None = ap (λ (f : Frame). f.middle) (sym same.1) ∙ stack.3 in absurd cc
        go (up Greater i k far rest) done whole stack held todo_is =
            let same = snoc-same stack.0 below stack.1 f (sym stack.2 ∙ e) in
            let some : f.middle ≡ Some i = ap (λ (f : Frame). f.middle) (sym same.1) ∙ stack.3.0 in
            let is_m : i ≡ m = cc in
            let turned : size_of done + 1 + size_of far ≡ size_of far + 1 + size_of done = omega arith in
            subst (λ (m : ℕ). IsEnding below m) is_m (record {
              rest = rest;
              l = far;
              k = k;
              r = done;
              n = stack.3.1;
              whole = whole;
              stack = rw (same.0, turned) at stack.5;
              found = stack.3.2;
              back = stack.3.3;
              rank = stack.3.4;
              lesser = stack.3.5;
              greater = held;
              todo_is = todo_is;
            })

    module _ {below : List Frame} {m : ℕ} (ending : IsEnding below m) where
      alone-ending : (j : ℕ) → times_way j ending.rest + (times_in j ending.l + here j m + times_in j ending.r) ≤ 1
      alone-ending = apart ending.rest (node ending.l m ending.k ending.r) plan ending.whole

      pub ending-there : is_some (at m) ≡ true
      ending-there = ap is_some ending.found

      pub ending-link-there : (i : ℕ) → link ≡ Some i → is_some (at i) ≡ true
      ending-link-there i e = occupied-link at None link ending.r i ending.greater e

      module _ {new : Slots} (found : new m ≡ Some (record (ending.n) { greater = link })) (stays : (j : ℕ) → 0 < times_way j ending.rest + times_in j ending.l → new j ≡ at j)
          (held : Holds new (Some m) link ending.r) where
        pub IsFinished-ended : IsFinished new below s (Some m) todo
        IsFinished-ended = record {
          way = ending.rest;
          done = node ending.l m ending.k ending.r;
          whole = ending.whole;
          stack = IsStack-frame at new ending.rest (size_of ending.l + 1 + size_of ending.r) below (λ j inside. stays j (omega arith)) ending.stack;
          held = (
            record (ending.n) { greater = link },
            refl,
            found,
            ending.back,
            ending.rank,
            Holds-frame at new ending.l (Some m) ending.n.lesser (λ j inside. stays j (omega arith)) ending.lesser,
            held,
          );
          todo_is = ending.todo_is;
        }

      -- by two writes
      module _ {T : Type 0} {first second third : Chain T} {written new : Slots} (write : Writes m (λ n. record n { greater = link }) at written first second)
          (hung : Hangs link (Some m) written new second third) where
        alone_r : (j : ℕ) → here j m + times_in j ending.r ≤ 1
        alone_r j = omega (arith, alone-ending j)

        pub IsFinished-written : IsFinished new below s (Some m) todo
        IsFinished-written =
            IsFinished-ended (hung-written write hung ending.r ending.greater alone_r ending.n ending.found)
            (λ j inside. hung-stays write hung ending.r ending.greater alone_r j (omega (arith, alone-ending j))) (Holds-hung write hung ending.r ending.greater alone_r)

-- an entry that is met is finished, if it has no greater side
module _ {at : Slots} {q : ℕ} {s : Shape} (plan : IsPlan at q s) {below : List Frame} (f : Frame) {x len : ℕ} {todo : List ℕ} (met : IsUnopened at (below ++ f ∷ []) s len todo) where
  pub IsFinished-met : f.middle ≡ Some x → option_map (λ (n : TreeLinks ℕ). n.greater) (at x) ≡ Some None → len ≡ 0 → IsFinished at below s (Some x) todo
  IsFinished-met middle bare none =
      let finished = IsFinished-empty plan met none in
      let ending = ending-run plan finished below f x refl middle in
      let found = ending.found in
      let none_there : ending.n.greater ≡ None = grind (arith, found, bare) in
      IsFinished-ended plan finished ending (subst (λ (link : Option ℕ). at x ≡ Some (record (ending.n) { greater = link })) none_there found) (λ j inside. refl)
      (Holds-empty ending.r ending.greater)
    where
      Holds-empty : (t : Shape) → Holds at None None t → Holds at (Some x) None t
      Holds-empty missing h = refl
      Holds-empty (node l i k r) h = absurd (none-some i h.1)

-- the plan stays if no node is removed
pub IsPlan-kept : {old new : Slots} {q : ℕ} {s : Shape} → ((j : ℕ) → is_some (new j) ≡ is_some (old j)) → IsPlan old q s → IsPlan new q s
IsPlan-kept same plan = record { half = plan.half; few = plan.few; once = plan.once; there = λ j some. same j ∙ plan.there j some }

-- the top rank, computed from the count of leading zeros
pub IsTop-leading : (n : ℕ) → n < 2 ^ 64 → IsTop n (64 - count_leading_zeros 64 (n - 2) + 1)
IsTop-leading n fits =
    let h = leading_length 64 (n - 2) (omega arith) in
    (h.0, omega (arith, h.1), (omega (arith, h.2), λ j less small. omega (arith, h.3, small, one-le-pow j 2 (omega arith), pow_mono {i = suc j} {j = h.0} (omega arith), two-pow-succ j)))

IsTop-same : (n p q : ℕ) → IsTop n p → IsTop n q → p ≡ q
IsTop-same n p q a b =
    ⊎_elim (λ (less : a.0 < b.0). absurd (b.2.1 a.0 less a.2.0))
    (λ (more : b.0 ≤ a.0). ⊎_elim (λ (less : b.0 < a.0). absurd (a.2.1 b.0 less b.2.0)) (λ (same : a.0 ≤ b.0). omega (arith, a.1, b.1)) (cases_lt b.0 a.0)) (cases_lt a.0 b.0)

-- the successor of an entry in a list
pub following-at : (z : ℕ) (front back : List ℕ) → times z front ≡ 0 → following z (front ++ z ∷ back) ≡ list_head back
following-at z [] back none = rw (eq-eqb z z refl) refl
following-at z (x ∷ xs) back none = grind (arith, common_steps, following-at z xs back)

-- a list to be rebuilt
module _ (at : Slots) (order : List ℕ) (n top_rank : ℕ) (len : n ≡ length order) (fits : n < 2 ^ 64) (once : IsOnce order) (there : (j : ℕ) → 0 < times j order → is_some (at j) ≡ true) (top_is : IsTop n top_rank) where
  pub planned : (s : Shape) × (walk s ≡ order) × IsRebuilt s × IsPlan at top_rank s
  planned =
      let r = rebuilt_exists order in
      let size : size_of r.0 ≡ n = size_of-walk r.0 ∙ ap length r.1 ∙ sym len in
      let same = IsTop-same (size_of r.0) r.2.0 top_rank r.2.1 (rw (← size) at top_is) in
      let count = λ (j : ℕ). sym (times-walk j r.0) ∙ ap (times j) r.1 in (
        r.0,
        r.1,
        r.2,
        record {
          half = rw same at r.2.2;
          few = omega (arith, size);
          once = λ j. omega (arith, once j, count j);
          there = λ j some. there j (omega (arith, some, count j));
        },
      )

module _ {at : Slots} {s : Shape} {order : List ℕ} where
  -- at the start no run is open
  pub IsOpening-start : (walk s ≡ order) → (n : ℕ) → n ≡ length order → (frames : List Frame) → frames ≡ [] → IsOpening at frames s n order
  IsOpening-start walked n len frames none =
      let size : n ≡ size_of s = omega (arith, len, size_of-walk s, ap length walked) in
      record {
        unopened = record { way = top; run = s; whole = refl; stack = none; size = size; todo_is = append-nil (walk s) ∙ walked };
        facing = inr tt;
      }

  module _ {frames : List Frame} {link target : Option ℕ} {position : ℕ} (passing : IsPassing at frames s order link position target) where
    -- the next entry
    pub record IsTarget (x : ℕ) : Type 0 where
      pub rest : List ℕ
      pub split : order ≡ passing.met ++ x ∷ rest
      pub ready : IsWaiting at frames s link (x ∷ rest)

    pub target_of : (x : ℕ) → target ≡ Some x → IsTarget x
    target_of x e = go passing.todo passing.split passing.ready (sym passing.target_is ∙ e)
      where
        go : (todo : List ℕ) → order ≡ passing.met ++ todo → IsWaiting at frames s link todo → list_head todo ≡ Some x → IsTarget x
        go [] split ready h = absurd cc
        go (y ∷ rest) split ready h =
            let same : y ≡ x = cc in
            record { rest = rest; split = rw same at split; ready = rw same at ready }

    pub target-there : {q x : ℕ} → IsPlan at q s → walk s ≡ order → IsTarget x → is_some (at x) ≡ true
    target-there {q} {x} plan walked is =
        plan.there x (omega (arith, times-walk x s, ap (times x) walked, ap (times x) is.split, times-append x passing.met (x ∷ is.rest), here-same x))

    pub target-some : position < length order → is_some target ≡ true
    target-some less = go passing.todo passing.split passing.target_is
      where
        go : (todo : List ℕ) → order ≡ passing.met ++ todo → target ≡ list_head todo → is_some target ≡ true
        go [] split h = absurd (omega (arith, passing.count, ap length split, length-append passing.met []))
        go (y ∷ rest) split h = rw h refl

    -- at the end the link leads to the whole tree
    pub Holds-passed : length order ≤ position → Holds at None link s
    Holds-passed all = go passing.ready.finished.way passing.ready.facing passing.ready.finished.whole (passing.ready.finished.todo_is ∙ none passing.todo passing.split) passing.ready.finished.held
      where
        none : (todo : List ℕ) → order ≡ passing.met ++ todo → todo ≡ []
        none [] split = refl
        none (y ∷ rest) split = absurd (omega (arith, passing.count, ap length split, length-append passing.met (y ∷ rest)))

        go : (way : Way) → IsFacing way → plug way passing.ready.finished.done ≡ s → ahead way ≡ [] → Holds at None link passing.ready.finished.done → Holds at None link s
        go top facing whole e held = rw whole at held
        go (up Lesser i k far rest) facing whole e held = absurd cc
        go (up Greater i k far rest) facing whole e held = absurd facing

-- one more entry is met
module _ {at : Slots} {s : Shape} {order : List ℕ} {frames : List Frame} {link target : Option ℕ} {position x : ℕ}
    (passing : IsPassing at frames s order link position target) (is : IsTarget passing x) (once : IsOnce order) {next : Option ℕ} (next_is : next ≡ following x order) where
  pub IsPassing-next : {new : Slots} {frames' : List Frame} {link' : Option ℕ} → IsWaiting new frames' s link' is.rest → IsPassing new frames' s order link' (position + 1) next
  IsPassing-next ready = record {
    met = passing.met ++ x ∷ [];
    todo = is.rest;
    split = is.split ∙ sym (append_assoc passing.met (x ∷ []) is.rest);
    count = omega (arith, passing.count, length-append passing.met (x ∷ []));
    target_is = next_is ∙ ap (following x) is.split ∙ following-at x passing.met is.rest (omega (arith, once x, ap (times x) is.split, times-append x passing.met (x ∷ is.rest), here-same x));
    ready = ready;
  }
