use Rattle.std.proofs.Common.{rules}
use Rattle.sorted_arena.proofs.arena.find_str.SortedArena+String+S+V+P+A.find_str.Goals as goal

-- the closure compares as a string of these bytes does
pub returns : goal.returns
returns g c k same = c.find_by.ensures.finds k (λ x answer says. rw same (search rules))
