-- What an agenda is: a listing of jobs by their deadlines, in the order in which they leave. Its pointers are its tickets.
use Rattle.std.specs.Prelude.{◌≡◌, ℕ, ◌+◌, ◌≤◌, List, Option, Some, None}
use Rattle.std.specs.{Borrow.Bor, Option.option_map, Ordering.nat_cmp}
-- how many jobs an agenda can have, the greatest generation of a ticket, and the generation after one
pub use Rattle.listing.specs.PlainPointer.{most_entries, greatest_generation, generation_after}
-- the greatest index among jobs, or 0 if there are none
pub use Rattle.listing.specs.Chain.{greatest_index}
-- the item at a pointer among entries, the entries without the one of an index, and those from it on
pub use Rattle.listing.specs.Chain.{item_of, without, from_index}
-- the words for what an agenda is, and for what a call makes of it
pub use Rattle.listing.specs.Listing.{Listing, Entry, IsDistinct, get, count, key_of, value_of, entry_of, pointer_of, first_item, first_item_until, put_behind}
pub use Rattle.listing.specs.Listing.{with_left, with_rest, entries_until, entries_above, Updates, Keeps, IsFree, IsSound, AreSorted}
unfoldable pub use Rattle.listing.specs.Listing.{with_entry, with_key, with_passing, without_entry, without_first}

-- an agenda: an entry's key is the deadline of its job, and its value is the job
abbrev pub Agenda : Type 0 → Type 0
Agenda J = Listing (ℕ × J)

module _ {J : Type 0} where
  -- so many more jobs fit without growing
  abbrev pub HasRoomFor : ℕ → Agenda J → Type 0
  HasRoomFor n a = count a + n ≤ a.capacity

  -- a job as it is shown: its ticket, its deadline, and a reference to it
  abbrev pub shown_job : (ℕ × ℕ) × ℕ × Bor J → Entry (ℕ × J)
  shown_job x = entry_of x.0 (x.1, x.2.now)

  -- a job as a call gives it: its ticket, its deadline and itself
  abbrev pub given_job : (ℕ × ℕ) × ℕ × J → Entry (ℕ × J)
  given_job x = entry_of x.0 (x.1, x.2)

  -- the deadline of the first job
  abbrev pub first_deadline : List (Entry (ℕ × J)) → Option ℕ
  first_deadline es = option_map (λ job. job.0) (first_item es)

  -- the first job with its deadline, where that is at most `now`
  abbrev pub first_due : ℕ → List (Entry (ℕ × J)) → Option (ℕ × J)
  first_due now es = first_item_until nat_cmp now es

  -- A call gives the job of the ticket t another deadline under the ticket u: the job leaves and comes again.
  pub record Reschedules (old : Agenda J) (t u : ℕ × ℕ) (deadline : ℕ) (new : Agenda J) : Type 0 where
    pub left : ℕ × J
    pub named : Some left ≡ get old t
    pub free : IsFree (without_entry greatest_generation old t) u
    pub after : new ≡ with_entry nat_cmp most_entries (without_entry greatest_generation old t) u (deadline, left.1)

  -- from old to new, a job with its deadline has left: the ticket that named it names nothing, and every other names what it named
  pub record Leaves (old new : Agenda J) (left : ℕ × J) : Type 0 where
    pub ticket : ℕ × ℕ
    pub named : get old ticket ≡ Some left
    pub updates : Updates old new ticket None
