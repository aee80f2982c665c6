-- What one read or write after another does to the known bytes of a device.
use Rattle.std.proofs.Common.{ℕ, List, ◌++◌, Option, None, Some, sym, ◌∙◌, ap, append_assoc}
use Rattle.std.specs.Io.KnownBytes.{Appends, Consumes}

pub Appends-append : (old mid new : Option (List ℕ)) (xs ys : List ℕ) → Appends old mid xs → Appends mid new ys → Appends old new (xs ++ ys)
Appends-append None mid new xs ys h k = tt
Appends-append (Some a) None new xs ys h k = absurd h
Appends-append (Some a) (Some b) None xs ys h k = absurd k
Appends-append (Some a) (Some b) (Some c) xs ys h k = k ∙ ap (λ t. t ++ ys) h ∙ append_assoc a xs ys

pub Consumes-append : (old mid new : Option (List ℕ)) (xs ys : List ℕ) → Consumes old mid xs → Consumes mid new ys → Consumes old new (xs ++ ys)
Consumes-append None mid new xs ys h k = tt
Consumes-append (Some a) None new xs ys h k = absurd h
Consumes-append (Some a) (Some b) None xs ys h k = absurd k
Consumes-append (Some a) (Some b) (Some c) xs ys h k = h ∙ ap (λ t. xs ++ t) k ∙ sym (append_assoc xs ys c)
