use Rattle.std.proofs.Common.{◌≡◌, ◌∙◌, ℕ, Bool, true, false, Bor, Some, is_some, refl, sym, ap, subst}
use Rattle.std.specs.{Fn.Called, Ordering.nat_cmp}
use denote.Param.Members.{Mut}
use Rattle.listing.specs.{Chain.first_pointer, Listing.behind_first}
use Rattle.listing.proofs.CallerLemmas.{removed-sound}
use Rattle.agenda.specs.{Agenda.Entry, Agenda.pointer_of, Agenda.greatest_generation, Agenda.most_entries, Answer.AnswersForJob}
use Rattle.agenda.proofs.Retaining.{cut-found, cut-left, cut-without}
use Rattle.agenda.proofs.agenda.Agenda.ask.Goals as goal

-- what the test answers for a ticket, a deadline and a reference to a job, it answers for the entry
answered : {F J : Type 0} (m : Mut F ((ℕ × ℕ) × (ℕ × (Bor J × Unit {0}))) Bool) (f f' : F) (answer : Bool) (t : ℕ × ℕ) (deadline : ℕ) (job : Bor J) (e : Entry (ℕ × J))
    → pointer_of e ≡ t → Some (deadline, job.now) ≡ Some e.item → Called m f (t, (deadline, (job, tt))) answer f' → AnswersForJob m f e answer f'
answered {J = J} m f f' answer t deadline job e named shown called =
    let same : (deadline, job.now) ≡ e.item = cc in
    record {
      job = job;
      shows_job = ap (λ (y : ℕ × J). y.1) same;
      called = subst (λ (d : ℕ). Called m f (pointer_of e, (d, (job, tt))) answer f') (ap (λ (y : ℕ × J). y.0) same) (subst (λ (p : ℕ × ℕ). Called m f (p, (deadline, (job, tt))) answer f') (sym named) called);
    }

pub behind-next-requires : goal.behind-next-requires
behind-next-requires g c = ap is_some (cut-found greatest_generation c.args.self.now c.requires.sound.distinct c.args.ticket c.requires.named)

pub unreachable-requires : goal.unreachable-requires
unreachable-requires g c =
    let none = c.in-None.ensures in
    let some = cut-found greatest_generation c.args.self.now c.requires.sound.distinct c.args.ticket c.requires.named in
    absurd (cc)

pub returns-then-f-clause-asks : goal.returns-then-f-clause-asks
returns-then-f-clause-asks g c at =
    let distinct = c.requires.sound.distinct in
    let found = cut-found greatest_generation c.args.self.now distinct c.args.ticket at in
    record {
      answer = true;
      asked = answered g.F.FnMut c.args.f.now c.f.new.self true c.args.ticket c.in-Some.deadline c.in-Some.job at.entry at.named (c.in-Some.ensures ∙ found) c.if-f.ensures;
      left = refl;
      next_is = c.behind-next.ensures ∙ ap (λ (es : _). first_pointer (behind_first es)) (cut-left greatest_generation c.args.self.now distinct c.args.ticket at);
    }

pub returns-clause-asks : goal.returns-clause-asks
returns-clause-asks g c at =
    let distinct = c.requires.sound.distinct in
    let found = cut-found greatest_generation c.args.self.now distinct c.args.ticket at in
    record {
      answer = false;
      asked = answered g.F.FnMut c.args.f.now c.f.new.self false c.args.ticket c.in-Some.deadline c.in-Some.job at.entry at.named (c.in-Some.ensures ∙ found) c.if-f.ensures;
      left = c.cancel.ensures.after ∙ cut-without greatest_generation c.args.self.now distinct c.args.ticket at (ap is_some found);
      next_is = c.behind-next.ensures ∙ ap (λ (es : _). first_pointer (behind_first es)) (cut-left greatest_generation c.args.self.now distinct c.args.ticket at);
    }

pub returns-clause-still_sound : goal.returns-clause-still_sound
returns-clause-still_sound g c = rw c.cancel.ensures.after (removed-sound nat_cmp most_entries greatest_generation c.args.self.now c.args.ticket c.requires.sound)
