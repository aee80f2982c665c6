-- A row as the list of its keys and names.
use Rattle.std.proofs.Common.{◌≡◌, ℕ, zero, suc, ◌+◌, ◌<◌, ◌≤◌, List, [], ◌∷◌, ◌++◌, length, map, set, take, drop, get_or, arith, ap, sym, ◌∙◌, refl, Some, slice_get}
use Rattle.std.specs.List.{zip, insert, remove, HoldsAt}
use Rattle.std.proofs.lemmas.List.{drop-drop}
use Rattle.std.proofs.lemmas.Slice.Zip.{length-zip}

module _ {K I : Type 0} where
  pub long : (ks : List K) (ns : List I) (row : List (K × I)) → zip ks ns ≡ row → length ks ≤ 31 → length ns ≡ 64 → length row ≡ length ks
  long ks ns row e few many = sym (ap length e) ∙ length-zip ks ns ∙ omega arith

  -- names behind the keys don't count
  pub same_front : (ks : List K) (ns rest : List I) (m : ℕ) → length ks ≤ m → m ≤ length ns → zip ks (take m ns ++ rest) ≡ zip ks ns
  same_front [] ns rest m h l = refl
  same_front (k ∷ ks) ns rest zero h l = absurd (omega arith)
  same_front (k ∷ ks) [] rest (suc m) h l = absurd (omega arith)
  same_front (k ∷ ks) (n ∷ ns) rest (suc m) h l = ap (λ (row : List (K × I)). (k, n) ∷ row) (same_front ks ns rest m (omega arith) (omega arith))

  put_in : (ks : List K) (ns : List I) (at : ℕ) (k : K) (n : I) → at ≤ length ks → length ks ≤ at + 31 → at + 32 ≤ length ns
      → zip (insert ks at k) (take at ns ++ (n ∷ take 31 (drop at ns)) ++ drop 32 (drop at ns)) ≡ insert (zip ks ns) at (k, n)
  put_in ks ns zero k n h few many = ap (λ (row : List (K × I)). (k, n) ∷ row) (same_front ks ns (drop 32 ns) 31 (omega arith) (omega arith))
  put_in [] ns (suc at) k n h few many = absurd (omega arith)
  put_in (j ∷ ks) [] (suc at) k n h few many = absurd (omega arith)
  put_in (j ∷ ks) (m ∷ ns) (suc at) k n h few many =
      ap (λ (row : List (K × I)). (j, m) ∷ row) (put_in ks ns at k n (omega arith) (omega arith) (omega arith))

  taken_out : (ks : List K) (ns : List I) (at : ℕ) → at < length ks → length ks ≤ at + 32 → at + 32 ≤ length ns
      → zip (remove ks at) (take at ns ++ take 31 (drop 1 (drop at ns)) ++ drop 31 (drop at ns)) ≡ remove (zip ks ns) at
  taken_out [] ns at h few many = absurd (omega arith)
  taken_out (k ∷ ks) [] at h few many = absurd (omega arith)
  taken_out (k ∷ ks) (n ∷ ns) zero h few many = same_front ks ns (drop 30 ns) 31 (omega arith) (omega arith)
  taken_out (k ∷ ks) (n ∷ ns) (suc at) h few many =
      ap (λ (row : List (K × I)). (k, n) ∷ row) (taken_out ks ns at (omega arith) (omega arith) (omega arith))

  pub entry_read : (ks : List K) (ns : List I) (at : ℕ) (k : K) (n : I) → at < length ks → at < length ns → k ≡ get_or ks at k
      → HoldsAt (λ m. m ≡ n) ns at → slice_get (zip ks ns) at ≡ Some (k, n)
  entry_read [] ns at k n h l e f = absurd (omega arith)
  entry_read (j ∷ ks) [] at k n h l e f = absurd (omega arith)
  entry_read (j ∷ ks) (m ∷ ns) zero k n h l e f = let g : m ≡ n = f m in cc
  entry_read (j ∷ ks) (m ∷ ns) (suc at) k n h l e f = entry_read ks ns at k n (omega arith) (omega arith) e f

  pub put_at : (ks is : List K) (ns ms : List I) (row : List (K × I)) (at : ℕ) (k : K) (n : I) → zip ks ns ≡ row
      → at ≤ length ks → length ks ≤ 30 → length ns ≡ 64 → is ≡ insert ks at k
      → ms ≡ take at ns ++ n ∷ take 31 (drop at ns) ++ drop (at + 32) ns → zip is ms ≡ insert row at (k, n)
  put_at ks is ns ms row at k n v h few many e f =
      ap (λ (l : List K). zip l ms) e ∙ ap (λ (l : List I). zip (insert ks at k) l) (f ∙ ap (λ (l : List I). take at ns ++ n ∷ take 31 (drop at ns) ++ l) (sym (drop-drop 32 at ns)))
      ∙ put_in ks ns at k n h (omega arith) (omega arith) ∙ ap (λ (l : List (K × I)). insert l at (k, n)) v

  pub taken_at : (ks is : List K) (ns ms : List I) (row : List (K × I)) (at : ℕ) → zip ks ns ≡ row
      → at < length ks → length ks ≤ 31 → length ns ≡ 64 → is ≡ remove ks at
      → ms ≡ take at ns ++ take 31 (drop (at + 1) ns) ++ drop (at + 31) ns → zip is ms ≡ remove row at
  taken_at ks is ns ms row at v h few many e f =
      ap (λ (l : List K). zip l ms) e ∙ ap (λ (l : List I). zip (remove ks at) l) (f ∙ ap (λ (l : List I). take at ns ++ take 31 l ++ drop (at + 31) ns) (sym (drop-drop 1 at ns)) ∙ ap (λ (l : List I). take at ns ++ take 31 (drop 1 (drop at ns)) ++ l) (sym (drop-drop 31 at ns)))
      ∙ taken_out ks ns at h (omega arith) (omega arith) ∙ ap (λ (l : List (K × I)). remove l at) v

  pushed_behind : (ks : List K) (ns : List I) (k : K) (n : I) → length ks < length ns
      → zip (ks ++ k ∷ []) (set ns (length ks) n) ≡ zip ks ns ++ (k, n) ∷ []
  pushed_behind ks [] k n h = absurd (omega arith)
  pushed_behind [] (m ∷ ns) k n h = refl
  pushed_behind (j ∷ ks) (m ∷ ns) k n h = ap (λ (row : List (K × I)). (j, m) ∷ row) (pushed_behind ks ns k n (omega arith))

  popped_off : (ks : List K) (ns : List I) (k : K) (n x : I) → length ks < length ns → n ≡ get_or ns (length ks) n
      → zip (ks ++ k ∷ []) ns ≡ zip ks (set ns (length ks) x) ++ (k, n) ∷ []
  popped_off ks [] k n x h e = absurd (omega arith)
  popped_off [] (m ∷ ns) k n x h e = ap (λ (m : I). (k, m) ∷ []) (sym e)
  popped_off (j ∷ ks) (m ∷ ns) k n x h e = ap (λ (row : List (K × I)). (j, m) ∷ row) (popped_off ks ns k n x (omega arith) e)

  pub push_at : (ks is : List K) (ns : List I) (row : List (K × I)) (at : ℕ) (k : K) (n : I) → zip ks ns ≡ row → at ≡ length ks
      → at < length ns → is ≡ ks ++ k ∷ [] → zip is (set ns at n) ≡ row ++ (k, n) ∷ []
  push_at ks is ns row at k n v e h f =
      ap (λ (l : List K). zip l (set ns at n)) f ∙ ap (λ (i : ℕ). zip (ks ++ k ∷ []) (set ns i n)) e
      ∙ pushed_behind ks ns k n (omega arith) ∙ ap (λ (l : List (K × I)). l ++ (k, n) ∷ []) v

  pub pop_at : (ks is : List K) (ns : List I) (row : List (K × I)) (at : ℕ) (k : K) (n x : I) → zip ks ns ≡ row → at ≡ length is
      → at < length ns → ks ≡ is ++ k ∷ [] → n ≡ get_or ns at n → row ≡ zip is (set ns at x) ++ (k, n) ∷ []
  pop_at ks is ns row at k n x v e h f r =
      sym v ∙ ap (λ (l : List K). zip l ns) f
      ∙ popped_off is ns k n x (omega arith) (r ∙ ap (λ (i : ℕ). get_or ns i n) e)
      ∙ ap (λ (i : ℕ). zip is (set ns i x) ++ (k, n) ∷ []) (sym e)

  pub firsts : (ks : List K) (ns : List I) → length ks ≤ length ns → map (λ (e : K × I). e.0) (zip ks ns) ≡ ks
  firsts [] ns h = refl
  firsts (k ∷ ks) [] h = absurd (omega arith)
  firsts (k ∷ ks) (n ∷ ns) h = ap (λ (l : List K). k ∷ l) (firsts ks ns (omega arith))

  pub seconds : (ks : List K) (ns : List I) → length ks ≤ length ns → map (λ (e : K × I). e.1) (zip ks ns) ≡ take (length ks) ns
  seconds [] ns h = refl
  seconds (k ∷ ks) [] h = absurd (omega arith)
  seconds (k ∷ ks) (n ∷ ns) h = ap (λ (l : List I). n ∷ l) (seconds ks ns (omega arith))

  pub renamed : (ks : List K) (ns : List I) (at : ℕ) (n : I) → at < length ks
      → map (λ (e : K × I). e.1) (zip ks (set ns at n)) ≡ set (map (λ (e : K × I). e.1) (zip ks ns)) at n
  renamed [] ns at n h = absurd (omega arith)
  renamed (k ∷ ks) [] at n h = refl
  renamed (k ∷ ks) (m ∷ ns) zero n h = refl
  renamed (k ∷ ks) (m ∷ ns) (suc at) n h = ap (λ (l : List I). m ∷ l) (renamed ks ns at n (omega arith))

  cloned : (ks : List K) (ns : List I) (at : ℕ) (k x : K) (n : I) → at < length ks → at < length ns → k ≡ x → x ≡ get_or ks at x → n ≡ get_or ns at n
      → take at (zip ks ns) ++ (k, n) ∷ [] ≡ take (at + 1) (zip ks ns)
  cloned [] ns at k x n h l same e f = absurd (omega arith)
  cloned (j ∷ ks) [] at k x n h l same e f = absurd (omega arith)
  cloned (j ∷ ks) (m ∷ ns) zero k x n h l same e f = ap (λ (y : K). (y, n) ∷ []) (same ∙ e) ∙ ap (λ (i : I). (j, i) ∷ []) f
  cloned (j ∷ ks) (m ∷ ns) (suc at) k x n h l same e f =
      let place : suc at + 1 ≡ suc (at + 1) = omega arith in
      ap (λ (row : List (K × I)). (j, m) ∷ row) (cloned ks ns at k x n (omega arith) (omega arith) same e f) ∙ ap (λ (i : ℕ). take i ((j, m) ∷ zip ks ns)) (sym place)

  -- the clone of one more entry
  pub cloned_next : (ks : List K) (ns : List I) (row front after : List (K × I)) (at : ℕ) (k x : K) (n : I) → zip ks ns ≡ row → at < length ks → at < length ns → k ≡ x
      → x ≡ get_or ks at x → n ≡ get_or ns at n → front ≡ take at row → after ≡ front ++ (k, n) ∷ [] → after ≡ take (at + 1) row
  cloned_next ks ns row front after at k x n v h l same e f is done =
      done ∙ ap (λ (r : List (K × I)). r ++ (k, n) ∷ []) (is ∙ ap (take at) (sym v)) ∙ cloned ks ns at k x n h l same e f ∙ ap (take (at + 1)) v
