-- How a key and a value are written.
use Rattle.serde.specs.Event.{Log, InSeq, Then}

-- a key and then a value, as a list of two
abbrev pub WritesPair : {K V : Type 0} → (K → Log → Log → Type 0) → (V → Log → Log → Type 0) → K × V → Log → Log → Type 0
WritesPair key value pair = InSeq 2 (Then (key pair.0) (value pair.1))
