-- How far serving has come.
use Rattle.std.proofs.Common.{◌≡◌, ◌⊎◌, inl, inr, ℕ, List, [], ◌∷◌, ◌++◌, Option, refl, sym, ap, ◌∙◌, subst, append_assoc}
use Rattle.std.proofs.lemmas.List.{append-nil}
use Rattle.std.specs.Io.KnownBytes.{Appends}
use Rattle.sqlite_trees.specs.Tree.{Trees}
use Rattle.sqlite_trees.specs.View.{IsClean}
use Rattle.sqlite_trees.specs.declared.store.Store as trees
use Rattle.line_service.specs.declared.style.Style.{Style}
use Rattle.agenda_store.specs.Plan.{Plan}
use Rattle.agenda_store.specs.Table.{TreesStandFor, rows_of}
use Rattle.agenda_store.specs.Store.{Store}
use Rattle.agenda_store.specs.Requests.{IsSettled}
use Rattle.std.specs.Io.{StartsWith}
use Rattle.jobs.specs.Serving.{Step, AnswersLine, AreAnswered, texts_of, plan_after, Serves, ServesAll, TakesLine, WritesFront}
use Rattle.jobs.proofs.Steps.{plan_after_more, answered_more, texts_more, appends_none, appends_more, starts_self, starts_more}

module _ {S : Type 0} (g : trees.Ghosts S) (style : Style) where
  abbrev Clean : Store S → Type 0
  Clean store = IsClean (g.view (rows_of store.table))

  -- no crash leaves what it could not leave before
  abbrev pub Keeps : Store S → Store S → Type 0
  Keeps old new = (trees : Trees) → g.recovers (rows_of new.table) trees → g.recovers (rows_of old.table) trees

  -- each crash leaves this plan
  abbrev pub Lasts : Store S → Plan → Type 0
  Lasts store plan = (trees : Trees) → g.recovers (rows_of store.table) trees → TreesStandFor trees plan

  -- The lines of `told` are answered, and those of `flying`, whose answers are kept, aren't yet.
  pub record HasCome (first store : Store S) (unwritten written : Option (List ℕ)) (answers : List ℕ) : Type 0 where
    pub told : List Step
    pub flying : List Step
    pub answered : AreAnswered style first.plan (told ++ flying)
    pub plan : store.plan ≡ plan_after first.plan (told ++ flying)
    pub clean : Clean store → Clean first
    pub lasts : Clean store → IsSettled g first → Lasts store (plan_after first.plan told)
    pub answers_are : answers ≡ texts_of flying
    pub writes : Appends unwritten written (texts_of told)

  -- The same, and the lines of `flying` are committed.
  pub record HasCommitted (first store : Store S) (unwritten written : Option (List ℕ)) (answers : List ℕ) : Type 0 where
    pub told : List Step
    pub flying : List Step
    pub answered : AreAnswered style first.plan (told ++ flying)
    pub plan : store.plan ≡ plan_after first.plan (told ++ flying)
    pub clean : Clean store → Clean first
    pub lasts : Clean store → Lasts store (plan_after first.plan (told ++ flying))
    pub answers_are : answers ≡ texts_of flying
    pub writes : Appends unwritten written (texts_of told)

  module _ {first : Store S} where
    pub begun : (written : Option (List ℕ)) (answers : List ℕ) → answers ≡ [] → HasCome first first written written answers
    begun written answers none = record {
      told = [];
      flying = [];
      answered = tt;
      plan = refl;
      clean = λ clean. clean;
      lasts = λ clean settled. settled;
      answers_are = none;
      writes = appends_none written;
    }

    pub taken : {old : Store S} (new : Store S) {unwritten written : Option (List ℕ)} {before : List ℕ} (after : List ℕ) → HasCome first old unwritten written before
        → TakesLine style old.plan new.plan before after → (Clean new → Clean old) → Keeps old new → HasCome first new unwritten written after
    taken {old} new {unwritten} {written} {before} after was one clean keeps =
        let step : Step = record { command = one.command; text = one.text; plan = new.plan } in
        let same : was.told ++ (was.flying ++ step ∷ []) ≡ (was.told ++ was.flying) ++ step ∷ [] = sym (append_assoc was.told was.flying (step ∷ [])) in
        record {
          told = was.told;
          flying = was.flying ++ step ∷ [];
          answered = subst (AreAnswered style first.plan) (sym same)
              (answered_more style first.plan (was.told ++ was.flying) step was.answered (subst (λ (p : Plan). AnswersLine style one.command p new.plan one.text) was.plan one.answers));
          plan = sym (ap (plan_after first.plan) same ∙ plan_after_more first.plan (was.told ++ was.flying) step);
          clean = λ c. was.clean (clean c);
          lasts = λ c settled trees h. was.lasts (clean c) settled trees (keeps trees h);
          answers_are = one.is ∙ ap (λ (l : List ℕ). l ++ one.text) was.answers_are ∙ sym (texts_more was.flying (step ∷ []) ∙ ap (λ (l : List ℕ). texts_of was.flying ++ l) (append-nil one.text));
          writes = was.writes;
        }

    pub committed : {old : Store S} (new : Store S) {unwritten written : Option (List ℕ)} {answers : List ℕ} (now : List ℕ) → HasCome first old unwritten written answers
        → now ≡ answers → new.plan ≡ old.plan → (Clean new → Clean old) → (Clean new → Lasts new old.plan) → HasCommitted first new unwritten written now
    committed {old} new {unwritten} {written} {answers} now was kept same clean durable = record {
      told = was.told;
      flying = was.flying;
      answered = was.answered;
      plan = same ∙ was.plan;
      clean = λ c. was.clean (clean c);
      lasts = λ c trees h. subst (TreesStandFor trees) was.plan (durable c trees h);
      answers_are = kept ∙ was.answers_are;
      writes = was.writes;
    }

    pub told_all : {store : Store S} {unwritten mid : Option (List ℕ)} (written : Option (List ℕ)) {answers : List ℕ} (after : List ℕ)
        → HasCommitted first store unwritten mid answers → Appends mid written answers → after ≡ [] → HasCome first store unwritten written after
    told_all {store} {unwritten} {mid} written {answers} after was more none =
        let both : texts_of (was.told ++ was.flying) ≡ texts_of was.told ++ answers =
        texts_more was.told was.flying ∙ ap (λ (l : List ℕ). texts_of was.told ++ l) (sym was.answers_are) in
        let steps : (was.told ++ was.flying) ++ [] ≡ was.told ++ was.flying = append-nil (was.told ++ was.flying) in
        record {
          told = was.told ++ was.flying;
          flying = [];
          answered = subst (AreAnswered style first.plan) (sym steps) was.answered;
          plan = was.plan ∙ ap (plan_after first.plan) (sym steps);
          clean = was.clean;
          lasts = λ c settled. was.lasts c;
          answers_are = none;
          writes = subst (Appends unwritten written) (sym both) (appends_more unwritten mid written (texts_of was.told) answers was.writes more);
        }

    pub served_all : {store : Store S} {unwritten mid : Option (List ℕ)} (written : Option (List ℕ)) {answers : List ℕ} → HasCommitted first store unwritten mid answers
        → Appends mid written answers → ServesAll g style first store unwritten written
    unfolding told_all
    served_all {store} {unwritten} {mid} written {answers} was more =
        let now = told_all written [] was more refl in
        record {
          told = was.told ++ was.flying;
          answered = was.answered;
          writes = now.writes;
          lasts = λ c settled. was.lasts c;
        }

    pub served : {old : Store S} (new : Store S) {unwritten written : Option (List ℕ)} {answers : List ℕ} → HasCome first old unwritten written answers
        → (Clean new → Clean old) → Keeps old new → Serves g style first new unwritten written
    served {old} new {unwritten} {written} was clean keeps = record {
      told = was.told;
      flying = was.flying;
      answered = was.answered;
      text = texts_of was.told;
      writes = was.writes;
      front = starts_self (texts_of was.told);
      lasts = λ c settled trees h. inl (was.lasts (clean c) settled trees (keeps trees h));
    }

    pub in_flight : {old : Store S} (new : Store S) {unwritten written : Option (List ℕ)} {answers : List ℕ} → HasCome first old unwritten written answers
        → (Clean new → Clean old) → (Clean new → (trees : Trees) → g.recovers (rows_of new.table) trees → TreesStandFor trees old.plan ⊎ g.recovers (rows_of old.table) trees)
        → Serves g style first new unwritten written
    in_flight {old} new {unwritten} {written} was clean crash = record {
      told = was.told;
      flying = was.flying;
      answered = was.answered;
      text = texts_of was.told;
      writes = was.writes;
      front = starts_self (texts_of was.told);
      lasts = λ c settled trees h. elim (crash c trees h) [
        | inl plan ↦ inr (subst (TreesStandFor trees) was.plan plan)
        | inr before ↦ inl (was.lasts (clean c) settled trees before)
      ];
    }

    pub cut_short : {store : Store S} {unwritten mid : Option (List ℕ)} (written : Option (List ℕ)) {answers : List ℕ} → HasCommitted first store unwritten mid answers
        → WritesFront mid written answers → Serves g style first store unwritten written
    cut_short {store} {unwritten} {mid} written {answers} was part =
        let both : texts_of (was.told ++ was.flying) ≡ texts_of was.told ++ answers =
        texts_more was.told was.flying ∙ ap (λ (l : List ℕ). texts_of was.told ++ l) (sym was.answers_are) in
        let steps : (was.told ++ was.flying) ++ [] ≡ was.told ++ was.flying = append-nil (was.told ++ was.flying) in
        record {
          told = was.told ++ was.flying;
          flying = [];
          answered = subst (AreAnswered style first.plan) (sym steps) was.answered;
          text = texts_of was.told ++ part.text;
          writes = appends_more unwritten mid written (texts_of was.told) part.text was.writes part.writes;
          front = subst (λ (l : List ℕ). StartsWith l (texts_of was.told ++ part.text)) (sym both) (starts_more (texts_of was.told) answers part.text part.front);
          lasts = λ c settled trees h. inl (was.lasts c trees h);
        }
