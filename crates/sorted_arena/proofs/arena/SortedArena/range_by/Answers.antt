use Rattle.std.proofs.Common.{◌≡◌, ◌∙◌, Option, Some, None, IfSome, IsSome, true, false, refl, sym}
use Rattle.std.specs.{Option.option_map, Ordering.is_ge, Ordering.is_gt, Ordering.ordering_index}
use Rattle.sorted_arena.specs.{Sorted.get, Sorted.key_of, Sorted.first_where}
use Rattle.sorted_arena.proofs.Comparing.{rises, rises-key}
use Rattle.sorted_arena.proofs.Enclosing.{in-order-stretch, seen, equal-gives, equal-ordered, equal-between}
use Rattle.sorted_arena.proofs.arena.SortedArena.range_by.Goals as goal

numbered : {P Q : Type 0} (f : P → Q) (R : Q → Type 0) (o : Option P) → IfSome o (λ p. R (f p)) → IfSome (option_map f o) R
numbered f R None is = tt
numbered f R (Some p) is = is

pub from_until-requires : goal.from_until-requires
from_until-requires g c sound =
    let listed = rw c.pairs.ensures.view at c.pairs.ensures.sound in
    let named : IfSome c.first_from_in-first.result (λ p. IsSome (get c.args.self.now (g.P.BasePtr.numbers p))) = rw c.pairs.ensures.view (c.first_from_in-first.ensures.named listed) in
    in-order-stretch c.args.self.now.entries sound.distinct _ _ (numbered g.P.BasePtr.numbers _ c.first_from_in-first.result named) (sym c.is_forward_to.ensures ∙ c.if-is_forward_to.true)

pub from_until-requires-else-is_forward_to : goal.from_until-requires-else-is_forward_to
from_until-requires-else-is_forward_to g c sound = in-order-stretch c.args.self.now.entries sound.distinct None None tt refl

pub returns-then-is_forward_to-clause-entries : goal.returns-then-is_forward_to-clause-entries
returns-then-is_forward_to-clause-entries g c =
    let sound = c.from_until.ensures.sound in
    let es = c.args.self.now.entries in
    record {
      entries = λ order compares up.
          let rising = rises (λ e. ordering_index (order (key_of e))) es up in
          let first = seen g.P.BasePtr.numbers _ _ _ _ _ c.pairs.ensures.view (c.first_from_in-first.ensures.first order compares) sound.distinct rising in
          let end = seen g.P.BasePtr.numbers _ _ _ _ _ c.pairs-2.ensures.view (c.first_behind_in-end.ensures.first order compares) sound.distinct rising in
          c.from_until.ensures.entries ∙ equal-gives order es sound.distinct rising _ _ first end;
      sound = sound;
      chains = c.from_until.ensures.chains;
    }

pub returns-then-is_forward_to-clause-equal : goal.returns-then-is_forward_to-clause-equal
returns-then-is_forward_to-clause-equal g c k compares =
    let sound = c.from_until.ensures.sound in
    let es = c.args.self.now.entries in
    let order = λ (x : g.row.K.Denot). g.K.Ord.cmp x k in
    let rising = rises-key g.K.Ord.cmp g.met.K.Ord.total es sound.sorted k in
    let first = seen g.P.BasePtr.numbers _ _ _ _ _ c.pairs.ensures.view (c.first_from_in-first.ensures.first order compares) sound.distinct rising in
    let end = seen g.P.BasePtr.numbers _ _ _ _ _ c.pairs-2.ensures.view (c.first_behind_in-end.ensures.first order compares) sound.distinct rising in
    c.from_until.ensures.entries ∙ equal-gives order es sound.distinct rising _ _ first end ∙ equal-between g.K.Ord.cmp g.met.K.Ord.total k es

pub returns-clause-entries : goal.returns-clause-entries
returns-clause-entries g c =
    let sound = c.from_until-else-is_forward_to.ensures.sound in
    let es = c.args.self.now.entries in
    record {
      entries = λ order compares up.
          let rising = rises (λ e. ordering_index (order (key_of e))) es up in
          let first = seen g.P.BasePtr.numbers _ _ _ _ _ c.pairs.ensures.view (c.first_from_in-first.ensures.first order compares) sound.distinct rising in
          let end = seen g.P.BasePtr.numbers _ _ _ _ _ c.pairs-2.ensures.view (c.first_behind_in-end.ensures.first order compares) sound.distinct rising in
          absurd (let both : true ≡ false = sym (equal-ordered order es sound.distinct rising _ _ first end) ∙ sym c.is_forward_to.ensures ∙ c.if-is_forward_to.false in cc);
      sound = sound;
      chains = c.from_until-else-is_forward_to.ensures.chains;
    }

pub returns-clause-equal : goal.returns-clause-equal
returns-clause-equal g c k compares =
    let sound = c.from_until-else-is_forward_to.ensures.sound in
    let es = c.args.self.now.entries in
    let order = λ (x : g.row.K.Denot). g.K.Ord.cmp x k in
    let rising = rises-key g.K.Ord.cmp g.met.K.Ord.total es sound.sorted k in
    let first = seen g.P.BasePtr.numbers _ _ _ _ _ c.pairs.ensures.view (c.first_from_in-first.ensures.first order compares) sound.distinct rising in
    let end = seen g.P.BasePtr.numbers _ _ _ _ _ c.pairs-2.ensures.view (c.first_behind_in-end.ensures.first order compares) sound.distinct rising in
    absurd (let both : true ≡ false = sym (equal-ordered order es sound.distinct rising _ _ first end) ∙ sym c.is_forward_to.ensures ∙ c.if-is_forward_to.false in cc)
