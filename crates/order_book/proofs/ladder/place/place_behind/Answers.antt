use Rattle.std.proofs.Common.{◌≡◌, ◌≤◌, ℕ, ◌∷◌, ◌++◌, [], Some, sym, ap, subst, ◌∙◌}
use Rattle.std.specs.Prelude.{IsSome}
use Rattle.chain_base.specs.Chain.{Entry, entry_at, insert_after, insert_before, times, first_pointer}
use Rattle.order_book.specs.declared.ladder.Resting.{Resting}
use Rattle.order_book.proofs.Places.{distinct-front, last-occupied, none-before, put-behind, put-first}
use Rattle.order_book.proofs.Rows.{Orders}
use Rattle.order_book.proofs.ladder.place.place_behind.Goals as goal

pub returns-in-Some-clause-can : goal.returns-in-Some-clause-can
returns-in-Some-clause-can g c =
    subst (λ (es : Orders g.row.T.Denot). IsSome (entry_at es c.in-Some.last)) (sym c.requires.cut) (last-occupied c.requires.front c.requires.back c.in-Some.last (c.requires.last ∙ c.in-Some.is))

pub returns-in-Some-clause-placed : goal.returns-in-Some-clause-placed
returns-in-Some-clause-placed g c = λ at distinct e.
    ap (λ (es : Orders g.row.T.Denot). insert_after c.in-Some.last e es) at.cut
    ∙ put-behind e at.front at.back c.in-Some.last (at.last ∙ c.in-Some.is) (distinct-front at.front at.back (subst (λ (es : Orders g.row.T.Denot). (i : _) → times i es ≤ 1) at.cut distinct) c.in-Some.last)

module _ {T : Type 0} where
  -- in front of the first entry
  first-put : (e : Entry (Resting T)) (es : Orders T) (p : ℕ × ℕ) (i : ℕ) → Some p ≡ first_pointer es → i ≡ p.0 → insert_before i e es ≡ e ∷ es
  first-put e [] p i first is = absurd (cc)
  first-put e (f ∷ es) p i first is =
      let here : p ≡ (f.index, f.generation) = cc in
      ap (λ (j : ℕ). insert_before j e (f ∷ es)) (is ∙ ap (λ (q : ℕ × ℕ). q.0) here) ∙ put-first e f es

pub returns-in-Some-first-clause-placed : goal.returns-in-Some-first-clause-placed
returns-in-Some-first-clause-placed g c = λ at distinct e.
    let none : at.front ≡ [] = none-before at.front (at.last ∙ c.in_default.is) in
    let whole : c.args.orders.now.entries ≡ at.back = at.cut ∙ ap (λ (xs : Orders g.row.T.Denot). xs ++ at.back) none in
    ap (λ (es : Orders g.row.T.Denot). insert_before c.inx.result e es) whole
    ∙ first-put e at.back c.in-Some-first.first c.inx.result (c.in-Some-first.ensures ∙ ap first_pointer whole) c.inx.ensures ∙ ap (λ (xs : Orders g.row.T.Denot). xs ++ e ∷ at.back) (sym none)

pub returns-in-None-clause-placed : goal.returns-in-None-clause-placed
returns-in-None-clause-placed g c = λ at distinct e.
    let none : at.front ≡ [] = none-before at.front (at.last ∙ c.in_default.is) in
    ap (λ (xs : Orders g.row.T.Denot). e ∷ xs) (at.cut ∙ ap (λ (xs : Orders g.row.T.Denot). xs ++ at.back) none) ∙ ap (λ (xs : Orders g.row.T.Denot). xs ++ e ∷ at.back) (sym none)
