-- What a closure answers for an entry.
use Rattle.std.specs.Prelude.{◌≡◌, ℕ, Bool}
use Rattle.std.specs.{Fn.FnOnceReturns, Fn.Called, Borrow.Bor}
use denote.Param.Members.{Once, Mut}
use Rattle.listing.specs.Chain.{Entry}
use Rattle.sorted_arena.specs.Sorted.{key_of, value_of, pointer_of}

-- the closure may answer so for a reference to this key and one to this value
abbrev pub AnswersAt : {F K V : Type 0} → Once F (Bor K × (Bor V × Unit {0})) Bool → F → K → V → Bool → Type 0
AnswersAt {K = K} {V = V} g f k v answer = (p : Bor K) × (q : Bor V) × FnOnceReturns g f (p, (q, tt)) answer × (p.now ≡ k) × (q.now ≡ v)

-- a call of the closure for the key and the value of this entry may answer so and leave it in the state f'
pub record AnswersFor {F K V : Type 0} (g : Mut F (Bor K × (Bor V × Unit {0})) Bool) (f : F) (e : Entry (K × V)) (answer : Bool) (f' : F) : Type 0 where
  pub key : Bor K
  pub value : Bor V
  pub shows_key : key.now ≡ key_of e
  pub shows_value : value.now ≡ value_of e
  pub called : Called g f (key, (value, tt)) answer f'

-- the same of a closure that is given the pointer of the entry too, which has these numbers
pub record AnswersForEntry {F P K V : Type 0} (numbers : P → ℕ × ℕ) (g : Mut F (P × (Bor K × (Bor V × Unit {0}))) Bool) (f : F) (e : Entry (K × V)) (answer : Bool) (f' : F) : Type 0 where
  pub pointer : P
  pub key : Bor K
  pub value : Bor V
  pub shows_pointer : numbers pointer ≡ pointer_of e
  pub shows_key : key.now ≡ key_of e
  pub shows_value : value.now ≡ value_of e
  pub called : Called g f (pointer, (key, (value, tt))) answer f'
