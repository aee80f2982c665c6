-- What a closure writes to the values of entries.
use Rattle.std.specs.Prelude.{◌≡◌, Bool, true, false, List, [], ◌∷◌}
use Rattle.std.specs.{Fn.Called, Borrow.Bor, Borrow.MutBor}
use denote.Param.Members.{Mut}
use Rattle.listing.specs.Chain.{Entry}
use Rattle.sorted_arena.specs.Sorted.{key_of, value_of}

module _ {F K V : Type 0} (g : Mut F (Bor K × (MutBor V × Unit {0})) (Unit {0} × (MutBor V × Unit {0}))) where
  -- a call of the closure for the key of an entry, and its value to be written, may leave v there, and the closure in the state f'
  pub record Writes (f : F) (e : Entry (K × V)) (v : V) (f' : F) : Type 0 where
    pub key : Bor K
    pub value : MutBor V
    pub shows_key : key.now ≡ key_of e
    pub shows_value : value.now ≡ value_of e
    pub left : MutBor V
    pub called : Called g f (key, (value, tt)) (tt, (left, tt)) f'
    pub leaves : left.now ≡ v

  -- the closure was called for an entry that passes the test, and for no other
  abbrev pub WritesIf : Bool → F → Entry (K × V) → V → F → Type 0
  WritesIf true f e v f' = Writes f e v f'
  WritesIf false f e v f' = (v ≡ value_of e) × (f' ≡ f)

  -- The closure was called once for each entry that passes a test, in order. The entries have the values that it left there; their pointers
  -- and keys stay, and the other entries.
  abbrev pub WritesEach : (Entry (K × V) → Bool) → F → List (Entry (K × V)) → List (Entry (K × V)) → Type 0
  WritesEach test f [] new = new ≡ []
  WritesEach test f (e ∷ es) new = (v : V) × (f' : F) × (rest : List (Entry (K × V))) × WritesIf (test e) f e v f'
      × WritesEach test f' es rest × (new ≡ record e { item = (key_of e, v) } ∷ rest)
