-- What the calls of a compression keep of the links.
use Rattle.std.proofs.Common.{◌≡◌, ℕ, List, [], ◌∷◌, ◌++◌, map, sym, ap, ◌∙◌, arith, map-id, append-nil}
use Rattle.std.proofs.lemmas.Grind.{common_steps}
use Rattle.std.specs.List.{FoldsTo}
use Rattle.arena_base.specs.{Compression.CompressionStep, Compression.IsCompression, Walk.entries_rising, Arena.Arena}
use Rattle.arena_base.proofs.CallerLemmas.{calls-retold}
use Rattle.chain_base.specs.{Compression.entries_rising as chain_rising, Compression.IsCompression as IsChainCompression, Chain.Chain, Naming.MapsItem, Naming.CompressesItems, Link.Link}

module _ {P X M B : Type 0} (numbers : P → ℕ × ℕ) (step : M → P → X → P → X → M → Type 0) (g : ℕ) (part : X → B) (keeps : (m : M) (p : P) (x : X) (q : P) (y : X) (n : M) → step m p x q y n → part y ≡ part x) (n : M) (ys : List X) where
  -- a part that each call keeps
  pub calls-keep : (es : List (ℕ × ℕ × X)) (m : M) (xs : List X) → FoldsTo {P = M × _} (CompressionStep numbers step g) (m, xs) es (n, ys)
      → map part ys ≡ map part xs ++ map (λ e. part e.2) es
  calls-keep [] m xs same = ap (λ (s : M × List X). map part s.1) (sym same) ∙ sym (append-nil (map part xs))
  calls-keep (e ∷ es) m xs calls = grind (arith, common_steps, calls-keep es calls.0.0 calls.0.1 calls.2)

module _ {P T M N : Type 0} (numbers : P → ℕ × ℕ) (step : M → P → T → P → T → M → Type 0) (g : ℕ) (inner : N → M) (n : N)
    (old new : Arena (Link T)) (c : IsCompression numbers (λ m p x q y m'. MapsItem step (inner m) p x q y (inner m')) g n old new) where
  pub compresses-items : CompressesItems numbers step g (inner n) old new
  compresses-items =
      let below : N → P → Link T → P → Link T → N → Type 0 = λ m p x q y m'. MapsItem step (inner m) p x q y (inner m') in
      let es = entries_rising old 0 in
      record {
        links = c.items;
        last = inner c.last;
        calls = calls-retold numbers below step g inner (λ (l : Link T). l.item) (λ m p x q y m' s. s.called) es n c.last [] c.items c.calls;
        before = calls-keep numbers below g (λ (l : Link T). l.prev) (λ m p x q y m' s. s.before) c.last c.items es n [] c.calls;
        behind = calls-keep numbers below g (λ (l : Link T). l.next) (λ m p x q y m' s. s.behind) c.last c.items es n [] c.calls;
        after = c.after;
      }

-- a compression in states of one kind is one in states of another
module _ {P T M F : Type 0} (numbers : P → ℕ × ℕ) (below : M → P → T → P → T → M → Type 0) (above : F → P → T → P → T → F → Type 0) (g : ℕ)
    (state : M → F) (like : (m : M) (p : P) (x : T) (q : P) (y : T) (n : M) → below m p x q y n → above (state m) p x q y (state n))
    (m : M) (old new : Chain T) where
  pub compression-retold : IsChainCompression numbers below g m old new → IsChainCompression numbers above g (state m) old new
  compression-retold c =
      let es = chain_rising old in
      let calls = calls-retold numbers below above g state (λ x. x) like es m c.last [] c.items c.calls in
      record { items = c.items; last = state c.last; calls = rw (map-id es, map-id c.items) at calls; after = c.after }
