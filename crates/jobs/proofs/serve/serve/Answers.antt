use Rattle.std.proofs.Common.{◌≡◌, [], Result, Ok, Err, OnOk, string_bytes, rules, ap, subst}
use Rattle.std.specs.Io.KnownBytes.{Appends}
use Rattle.jobs.specs.Serving.{WritesFront}
use Rattle.jobs.proofs.Come.{begun, taken, committed, told_all, served_all, served, in_flight, cut_short}
use Rattle.jobs.proofs.serve.serve.Goals as goal
use Rattle.jobs.proofs.serve.serve.Goals.{then-not-contains+in_ok-commit+in_ok-write_answers, else-not-contains}

on_ok : {A E P Q : Type 0} (r : Result A E) → OnOk r P → (P → Q) → OnOk r Q
on_ok (Ok x) p f = f p
on_ok (Err e) p f = tt

pub lines-init : goal.lines-init
lines-init g c = begun g.S.Store c.args.style (g.W.Write.contents c.args.out.now) (string_bytes c.new.result) (search rules)

pub returns-in_err-take-in-Ok-clause-served : goal.returns-in_err-take-in-Ok-clause-served
returns-in_err-take-in-Ok-clause-served g c = served g.S.Store c.args.style c.take.new.store c.lines.invariant c.take.ensures.clean c.take.ensures.crash

pub returns-in-Err-clause-served : goal.returns-in-Err-clause-served
returns-in-Err-clause-served g c = served g.S.Store c.args.style c.lines.store c.lines.invariant (λ clean. clean) (λ trees h. h)

pub returns-in_err-commit-clause-served : goal.returns-in_err-commit-clause-served
returns-in_err-commit-clause-served g c =
    let mid = taken g.S.Store c.args.style c.take.new.store (string_bytes c.take.new.self.answers) c.lines.invariant c.in_ok-take-in-Ok.ensures.step c.take.ensures.clean c.take.ensures.crash in
    in_flight g.S.Store c.args.style c.commit.new.store mid c.commit.ensures.clean c.commit.ensures.crash

pub returns-in_err-write_answers-clause-served : goal.returns-in_err-write_answers-clause-served
returns-in_err-write_answers-clause-served g c =
    let contents = g.W.Write.contents in
    let mid = taken g.S.Store c.args.style c.take.new.store (string_bytes c.take.new.self.answers) c.lines.invariant c.in_ok-take-in-Ok.ensures.step c.take.ensures.clean c.take.ensures.crash in
    let done = committed g.S.Store c.args.style c.commit.new.store (string_bytes c.commit.new.self.answers) mid (ap string_bytes c.commit.ensures.answers) c.in_ok-commit.ensures.same
    c.commit.ensures.clean c.in_ok-commit.ensures.durable in
    cut_short g.S.Store c.args.style (contents c.write_answers.new.out) done
    (subst (WritesFront (contents c.lines.out) (contents c.write_answers.new.out)) c.as_bytes.ensures.value c.write_answers.ensures.front)

pub lines-preserved : goal.lines-preserved
lines-preserved g c =
    let contents = g.W.Write.contents in
    let mid = taken g.S.Store c.args.style c.take.new.store (string_bytes c.take.new.self.answers) c.lines.invariant c.in_ok-take-in-Ok.ensures.step c.take.ensures.clean c.take.ensures.crash in
    elim c.if-not-contains.branch [
      | then-not-contains+in_ok-commit+in_ok-write_answers w ↦
          let done = committed g.S.Store c.args.style w.commit.new.store (string_bytes w.commit.new.self.answers) mid (ap string_bytes w.commit.ensures.answers) w.in_ok-commit.ensures.same
          w.commit.ensures.clean w.in_ok-commit.ensures.durable in
          let written = subst (Appends (contents c.lines.out) (contents w.write_answers.new.out)) w.as_bytes.ensures.value w.in_ok-write_answers.ensures.all in
          let cleared : string_bytes w.clear-then-not-contains.new.self ≡ [] = search rules in
          rw (w.store-is, w.out-is, w.batch-is) (told_all g.S.Store c.args.style (contents w.write_answers.new.out) (string_bytes w.clear-then-not-contains.new.self) done written cleared)
      | else-not-contains w ↦ rw (w.store-is, w.out-is, w.batch-is) mid
    ]

pub returns-in_err-commit-2-clause-served : goal.returns-in_err-commit-2-clause-served
returns-in_err-commit-2-clause-served g c = in_flight g.S.Store c.args.style c.commit-2.new.store c.lines.invariant c.commit-2.ensures.clean c.commit-2.ensures.crash

pub returns-clause-all : goal.returns-clause-all
returns-clause-all g c =
    let contents = g.W.Write.contents in
    let done = committed g.S.Store c.args.style c.commit-2.new.store (string_bytes c.commit-2.new.self.answers) c.lines.invariant (ap string_bytes c.commit-2.ensures.answers)
    c.in_ok-commit-2.ensures.same c.commit-2.ensures.clean c.in_ok-commit-2.ensures.durable in
    on_ok c.write_answers-2.result c.write_answers-2.ensures.all (λ written. served_all g.S.Store c.args.style (contents c.write_answers-2.new.out) done
    (subst (Appends (contents c.lines.out) (contents c.write_answers-2.new.out)) c.as_bytes-2.ensures.value written))

pub returns-clause-served : goal.returns-clause-served
returns-clause-served g c =
    let contents = g.W.Write.contents in
    let done = committed g.S.Store c.args.style c.commit-2.new.store (string_bytes c.commit-2.new.self.answers) c.lines.invariant (ap string_bytes c.commit-2.ensures.answers)
    c.in_ok-commit-2.ensures.same c.commit-2.ensures.clean c.in_ok-commit-2.ensures.durable in
    cut_short g.S.Store c.args.style (contents c.write_answers-2.new.out) done
    (subst (WritesFront (contents c.lines.out) (contents c.write_answers-2.new.out)) c.as_bytes-2.ensures.value c.write_answers-2.ensures.front)
