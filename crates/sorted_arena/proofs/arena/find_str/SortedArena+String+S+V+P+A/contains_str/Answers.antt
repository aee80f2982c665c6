use Rattle.std.proofs.Common.{◌≡◌, ◌∙◌, Option, Some, None, is_some, refl, ap}
use Rattle.std.specs.Option.{option_map}
use Rattle.sorted_arena.proofs.arena.find_str.SortedArena+String+S+V+P+A.contains_str.Goals as goal

some-mapped : {X Y : Type 0} (f : X → Y) (o : Option X) → is_some o ≡ is_some (option_map f o)
some-mapped f None = refl
some-mapped f (Some x) = refl

pub returns : goal.returns
returns g c k same = c.is_some.ensures ∙ some-mapped g.P.BasePtr.numbers c.find_str.result ∙ ap is_some (c.find_str.ensures k same).value
