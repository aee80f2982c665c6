use Rattle.std.proofs.Common.{◌∙◌, sym, ap, None}
use Rattle.sorted_arena.specs.Layout.{pointer_among}
use Rattle.sorted_arena.proofs.Cutting.{absent, there, prev-absent, prev-linked, unlinked}
use Rattle.sorted_arena.proofs.pairs.prev_in.Goals as goal

pub returns-then-not-contains : goal.returns-then-not-contains
returns-then-not-contains g c distinct =
    sym (prev-absent None c.args.pairs.now.list.entries (g.P.BasePtr.numbers c.args.p) distinct (absent _ _ c.contains.ensures.value c.if-not-contains.true))

pub returns-in_err-link : goal.returns-in_err-link
returns-in_err-link g c distinct =
    absurd (unlinked c.args.pairs.now.list.entries distinct (g.P.BasePtr.numbers c.args.p) (there _ _ c.contains.ensures.value c.if-not-contains.false)
    (rw c.inx.ensures at c.in_err-link.ensures.value))

pub returns : goal.returns
returns g c distinct =
    c.pointer_at.ensures ∙ ap (pointer_among c.args.pairs.now.list.entries) c.prev.ensures.value
    ∙ prev-linked c.args.pairs.now.list.entries distinct (g.P.BasePtr.numbers c.args.p) (there _ _ c.contains.ensures.value c.if-not-contains.false) _ _
    (rw c.inx.ensures at c.in_ok-link.ensures.value)
