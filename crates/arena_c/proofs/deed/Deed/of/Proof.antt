-- The box comes apart into its address and its allocator, and what it owned goes to the deed.
use Rattle.std.proofs.Common.{◌≡◌, List, [], ◌∷◌, ◌++◌, refl, sym, ap, ◌∙◌, subst}
use mir.Syntax.{Args, a_type, dcons, dnil}
use mir.Raw.{raw as bare}
use mir.Val.{Val, vstruct, of_list}
use mir.MapTy.{inst_fn}
use base.Logic.{SProp, ent, never, id⊢, fst∗}
use base.Fml.{ftrue, fsep, flft}
use prog.Wp.{WpFn}
use types.Logic.{sem}
use types.Kit.{‵, raw, ◌⊛◌, some, later, ◌$◌, ◌∵◌, !, qed, move, drop, split, split3, join, fsplit, fjoin, fpick, pick, suffices, use1, await, rewrite, feq_l, done}
use types.Run.{stop, fld, of_opd, no_more, and_then, returns, enter}
use types.ByLocal.{alloc_all, pass_all, free_all, look_at, get, get_in, sets, lands_as}
use types.Part.{agg, sub, whole}
use contract.Monad.{fact}
use contract.Running.{tables}
use denote.Exit.{no}
use denote.RattleType.{RattleType, owns}
use denote.Signature.{types_at, plain}
use denote.Builtin.{RawPtr}
use denote.RawPtr.{Ptr, block_ptr, null_ptr, ptr_val, in_a_block}
use denote.Steps.{nothing, only, heard}
use denote.Param.{bounded}
use denote.Struct.Tuple.{Tuple}
use denote.Triple.Spec.{triple_of}
use denote.Triple.Call.{calls_at}
use denote.Triple.Table.{framed}
use denote.Triple.Walked.{Stays, stay_dropped, walk_of, says, ends_at}
use Rattle.std.proofs.alloc.Calls.{token, Goes-blank, handle_tells}
use Rattle.std_alloc.specs.Box.Ownership.{box_owns}
use Rattle.std_alloc.proofs.BoxSteps.Form as box
use Rattle.std_alloc.proofs.BoxSteps.Steps.{box_out, box_in}
use Rattle.std.proofs.raw_atomic.Walks.{proved_at}
use Rattle.std_alloc.specs.contracts.boxed.Box.into_raw_with_allocator as callee
use Rattle.std_alloc.proofs.boxed.Box.into_raw_with_allocator.Met.{met}
use Rattle.arena_c.specs.contracts.deed.Deed as deed
use Rattle.arena_c.specs.contracts.deed.Deed.of.{ended, clauses}
use Rattle.arena_c.specs.contracts.deed.Deed.of.Key.{name as #self}
use Rattle.arena_c.proofs.deed.Deed.of.Statement.{statement}
use Rattle.arena_c.proofs.deed.Deed.of.Code as code

pub of_spec : {M : Type 1} → statement M
of_spec 𝓤 𝓛 𝓜 𝓡 wired T A LT LA g d drops glue allocates meets glued =
    let H = 𝓛.H in let 𝓣 = tables 𝓤 H 𝓜 𝓡 𝓡.env in
    let E : box.Bx = record { row = T; laws = LT; al = record { row = A; laws = LA; g = g; d = d; drops = drops } } in
    let En = ended T A g d drops glue in let c = clauses T A g d drops glue 𝓛 𝓜.mem 𝓡.returns in
    let inst : Args = bounded (a_type ∷ a_type ∷ []) (T, (A, tt)) (dcons d (dcons drops (dcons glue dnil))) in let fn = inst_fn inst code.function in
    let stays : Stays En.signature.params En.kept = (stay_dropped (plain (λ _. box.B E)) no, tt) in
    let To : RattleType = deed.the_row (box.R E) (box.P E) g in
    proved_at 𝓛 En stays c 𝓜 𝓡 (Goes-blank 𝓛 2 (plain (λ _. box.B E)) no (λ κs x f. tt), tt) (#self inst) fn (code.unfolded 𝓤 H 𝓜 𝓡 wired (T, (A, tt)) d drops glue) (λ z are.
    let κs = z.0.0 in let qs = z.0.1 in let x = z.0.3.0 in let Post : Val → SProp 𝓤 = (walk_of 𝓛 En stays c).post z in let Run : List Val → SProp 𝓤 = λ ws. WpFn 𝓤 H 𝓣.C 𝓣.Λ fn ws Post in
    let alive = ‵ (flft κs.0 qs.0) ⊛ ‵ (flft κs.1.0 qs.1.0) ⊛ ‵ ftrue in
    qed 𝓛 ((alive ⊛ ‵ (owns (types_at En.signature.params κs) z.0.3 z.0.4)) ∷ raw ((c κs z.0.3).requires z.1) ∷ []) ∵ split ! $ move ! (1 ∷ []) $ fsplit ! $
    box_out E ! x z.0.4.0 (λ b o h e ws fits. box_in E ! x b o x.value e refl $
    -- [the box; true; the tokens; the requires]
    let w : Val = box.word E h b o in let k = triple_of 𝓛 (callee.signature T A g d drops glue) (callee.spec T A g d drops glue 𝓛 𝓜.mem 𝓡.returns) in
    let y : k.Ghost = ((κs, qs, tt, (x, tt), (w ∷ [], tt)), tt) in let Pair : RattleType = Tuple (RawPtr ∷ box.P E ∷ []) in
    fjoin ! $ move ! (1 ∷ 0 ∷ []) $ join ! $ join ! $ use1 𝓛 (raw (k.pre y)) (id⊢ 𝓤 _) $
    suffices ! (Run (w ∷ [])) (subst (λ (us : List Val). ent 𝓤 (Run (w ∷ [])) (Run us)) (sym (λ i. ws i ++ [])) (id⊢ 𝓤 (Run (w ∷ [])))) $
    enter ! 𝓣.C 𝓣.Λ fn (w ∷ []) Post $ alloc_all ! (λ l. pass_all ! refl (box.box_typed E h b o fits, tt) $ sets ! (of_opd ! (get ! refl)) refl (box.box_typed E h b o fits) $
    calls_at ! (framed 𝓤 H 𝓜 𝓣) k (met 𝓤 𝓛 𝓜 𝓡 (code.calls-std_alloc::boxed::Box::into_raw_with_allocator 𝓡.env wired) T A LT LA g d drops glue allocates meets glued) y (and_then ! (get ! refl) (no_more !)) (λ u.
    use1 𝓛 (later (some (λ (r : Ptr × A.Denot). (alive ⊛ ‵ (Pair.own_val r (u ∷ []))) ⊛ some (λ (_ : (Unit {0} × (Unit {0} × Unit {0})) × Unit {0}). ‵ (fsep (fsep ftrue (fsep ftrue ftrue)) ftrue) ⊛ (raw (fact 𝓤 (r.1 ≡ x.alloc)) ⊛ ‵ (box_owns (token E.al x.alloc) (box.R E) r.0 x.value)))))) (id⊢ 𝓤 _) $
    await ! tt $ pick ! (λ r. split ! $ move ! (1 ∷ []) $ pick ! (λ _. split3 ! $ drop ! $ heard ! (r.1 ≡ x.alloc) (λ same.
    in_a_block ! r.0 (λ p. box_owns (token E.al x.alloc) (box.R E) p x.value) (fst∗ 𝓤 (never 𝓤) (sem 𝓛 (token E.al x.alloc (bare (box.τ E)) null_ptr))) (λ b' o' e'.
    -- [what the box owned, at the address; the tokens with the pair]
    move ! (1 ∷ []) $ split ! $ move ! (1 ∷ []) $ fpick ! (λ vss. fsplit ! $ feq_l ! (λ is_pair. fsplit ! $ feq_l ! (λ is_ptr. fsplit ! $ rewrite ! 0 (λ (s : A.Denot). ‵ (A.own_val s vss.1.0)) same refl $
    handle_tells E.al ! x.alloc vss.1.0 (λ h' is_handle fits'.
    let w' : Val = box.word E h' b' o' in let good = box.box_typed E h' b' o' fits' in
    let made : To.Denot = record { at = block_ptr b' o'; alloc = x.alloc; value = x.value } in
    lands_as ! (ap only (is_pair ∙ (λ j. vstruct (of_list ((is_ptr ∙ ap (λ (p : Ptr). ptr_val p ∷ []) e') j ++ (is_handle j ++ []))) ∷ []))) refl good $
    sets ! (of_opd ! (get_in ! (fld ! refl (stop !)) (sub ! 0 refl (whole !)))) refl (tt, tt) $ sets ! (of_opd ! (get_in ! (fld ! refl (stop !)) (sub ! 1 refl (whole !)))) refl fits' $ sets ! (of_opd ! (get ! refl)) refl fits' $
    sets ! (agg ! (and_then ! (get ! refl) (and_then ! (get ! refl) (no_more !)))) refl good $ returns ! (look_at ! 0 refl) $ free_all ! refl $
    -- [the allocator; true; the tokens; what the box owned]
    move ! (3 ∷ []) $ fsplit ! $ box_in E ! (record { ptr = block_ptr b' o'; alloc = x.alloc; value = x.value }) b' o' x.value refl refl $ use1 𝓛 (‵ (To.own_val made (w' ∷ []))) (id⊢ 𝓤 _) $
    move ! (1 ∷ []) $ drop ! $ suffices ! _ (ends_at 𝓛 En stays c z w' made ((tt, (tt, tt)), tt) (tt, tt)) $ says ! refl $
    nothing ! $ nothing ! $ fjoin ! $ join ! $ move ! (1 ∷ 0 ∷ []) $ join ! $ done !))))))))))))
