-- The texts of a picture: keys cut to what fits, and characters as XML has them.
use Rattle.std.specs.Prelude.{◌≡◌, ⊤, Option, Some, None, ℕ, Bool, not, ◌-◌, ◌==◌, ◌||◌, ◌&&◌, nat_lt, nat_le, if◌then◌else◌, List, [], ◌∷◌, ◌++◌, length, codes, encode_utf8, take, flat_map}
use Rattle.std.specs.Str.{chars}
use Rattle.triple_ord.specs.Chain.{Entry}
use Rattle.tree_picture.specs.declared.picture.TheConstants.{KEY_CHARS}

-- the bytes of `…`
abbrev pub ellipsis : List ℕ
ellipsis = encode_utf8 8230

-- a text of at most so many characters, or all but the last of these and an ellipsis
abbrev pub shortened_text : ℕ → List ℕ → List ℕ
shortened_text most text =
    if nat_le (length (chars text)) most then text else flat_map encode_utf8 (take (most - 1) (chars text)) ++ ellipsis

-- XML has no such character: a control character other than tab, line feed and carriage return, or U+FFFE or U+FFFF
abbrev pub is_foreign : ℕ → Bool
is_foreign c = (nat_lt c 32 && (not (c == 9) && (not (c == 10) && not (c == 13)))) || ((c == 65534) || (c == 65535))

-- a character as XML text: by an entity if it marks something up, and U+FFFD for one that XML doesn't have
abbrev pub entity_of : ℕ → List ℕ
entity_of c =
    if c == 38 then codes "&amp;" else (if c == 60 then codes "&lt;" else (if c == 62 then codes "&gt;" else
    (if c == 34 then codes "&quot;" else (if c == 39 then codes "&apos;" else
    (if is_foreign c then encode_utf8 65533 else encode_utf8 c)))))

-- a text as XML text
abbrev pub escaped : List ℕ → List ℕ
escaped text = flat_map entity_of (chars text)

-- a key whose text is known is shown by it, shortened
abbrev pub Shows : Option (List ℕ) → List ℕ → Type 0
Shows None shown = ⊤
Shows (Some text) shown = shown ≡ shortened_text KEY_CHARS text

-- each entry's key is shown, in order; `output` is the text of a key, if it is known
abbrev pub ShowEach : {T K : Type 0} → (K → Option (List ℕ)) → (T → K) → List (Entry T) → List (List ℕ) → Type 0
ShowEach output key [] [] = ⊤
ShowEach output key (e ∷ es) (shown ∷ rest) = Shows (output (key e.item)) shown × ShowEach output key es rest
ShowEach output key [] (shown ∷ rest) = ⊥
ShowEach output key (e ∷ es) [] = ⊥
