-- `get_inx_mut` by hand: it asks `occupied` whether there is an entry, and wraps the result of `pair_mut`. The write comes back as
-- `pair_mut` says. If nothing is found, the container is unchanged.
use Rattle.std.proofs.Common.{◌≡◌, ℕ, List, [], ◌∷◌, refl, sym, ap, lit<, MutBor, Bool, ◌∙◌, Option, Some, None, is_some, false, true}
use Rattle.std.proofs.{Common.arith, Common.subst, raw_atomic.Walks.proved, raw_atomic.Walks.leaves, VecSteps.Element.Some-of, VecSteps.Element.none_of, VecSteps.Shapes.after}
use Rattle.arena_base.proofs.{items_mut.ItemsMut.get_inx_mut.Statement.statement, items_mut.occupied.Met.met as test_met}
use base.{Fml.ftrue, Fml.fres, Logic.id⊢, Logic.emp}
use contract.{BorrowLft.◌⊑◌, Monad.fact, Monad.fact_i, Running.tables}
use denote.Steps.{nothing, heard, peeks, only}
use denote.Triple.Walked.{Stays, walk_of, stay_dropped, Goes-dropped, Goes-spent_ref}
use denote.{Exit.no, Floats.is_true, Follow.follows, Follow.follows_by, Laws.shows, Laws.Is, Param.param, Param.copied, Param.bounded, Param.Laws.copied_laws, Param.Laws.copied_copy, Ref.MutRef}
use denote.{Ref.mut_vals, Ref.mut_Tells, Signature.mut_ref_to, Signature.plain, Signature.type_at, Struct.Declared.shape, Struct.Struct.within, Struct.Tuple.tuple_type, Triple.Call.calls_at}
use denote.{Triple.Clauses.lasts, Triple.Clauses.Lasts, Triple.Entry.alive, Triple.Spec.triple_of, Triple.Table.framed}
use lib.Ieee.Bits.{is_false}
use mathlib.{Core.List.◌++◌}
use mir.Val.{vptr, vbool, Val, vstruct, of_list}
use mir.{Facts.yes_and, MapTy.inst_fn, Syntax.named, Syntax.Fn, Syntax.a_type, Syntax.dcons, Syntax.dnil}
use types.ByLocal.{alloc_all, pass_all, free_all, look_at, get, get_in, through, sets, sets_last, lands_as, env}
use types.Kit.{‵, raw, ◌⊛◌, some, later, at_ret, ◌$◌, ◌∵◌, !, qed, by, move, keep, drop, use0, use1, use2, split, join, fsplit, fsplit3, fjoin, fpick, fpack, feq_l, feq_i, pick, await, rewrite}
use types.Run.{enter, of_opd, addr, lit, stop, fld, no_more, and_then, first, branches, exec, returns}
use types.{Match.live, Part.agg, Part.whole, Part.sub}
use Rattle.arena_base.specs.contracts.items_mut.ItemsMut.get_inx_mut as f
use Rattle.arena_base.proofs.items_mut.ItemsMut.get_inx_mut.Code as code
use Rattle.arena_base.specs.contracts.items_mut.occupied as test
use Rattle.arena_base.specs.contracts.items_mut.ItemsMut.pair_mut as pair

is_none : {X : Type 0} (o : Option X) → is_some o ≡ false → None ≡ o
is_none o e = grind arith

pub get_inx_mut_spec : {M : Type 1} → statement M
unfolding follows_by
get_inx_mut_spec {M} 𝓤 𝓛 𝓜 𝓡 wired S P T I G LS LP LT LI LG CP CI CG
    s s' p p' pc pc' pe pe' pq pq' i i' ic ic' ie ie' iq iq' g g' gc gc' ge ge' gq gq'
    ms mp mpc mpe mpq mi mic mie miq mg mgc mge mgq =
    let Container = param 0 S in let Inx = copied 3 I in let Gen = copied 4 G in let Item = param 2 T in
    let copy_inx = copied_copy 3 I CI in let copy_gen = copied_copy 4 G CG in
    let En = f.ended S P T I G s s' p p' pc pc' pe pe' pq pq' i i' ic ic' ie ie' iq iq' g g' gc gc' ge ge' gq gq' in
    let c = f.clauses S P T I G s s' p p' pc pc' pe pe' pq pq' i i' ic ic' ie ie' iq iq' g g' gc gc' ge ge' gq gq' 𝓛 𝓜.mem 𝓡.returns in
    let hs : Stays En.signature.params En.kept = (
      stay_dropped (mut_ref_to (0 ∷ []) tt (plain (λ _. Container))) no,
      (stay_dropped (plain (λ _. Inx)) no, tt),
    ) in
    let W = walk_of 𝓛 En hs c in
    let types = bounded (a_type ∷ a_type ∷ a_type ∷ a_type ∷ a_type ∷ []) (S, (P, (T, (I, (G, tt))))) (dcons s' (dcons p' (dcons pc' (dcons pe' (dcons pq'
    (dcons i' (dcons ic' (dcons ie' (dcons iq' (dcons g' (dcons gc' (dcons ge' (dcons gq' dnil))))))))))))) in
    let fn : Fn = inst_fn types code.function in
    proved 𝓛 En hs c 𝓜 𝓡 (
      Goes-spent_ref 𝓛 6 (0 ∷ []) tt (plain (λ _. Container)),
      (Goes-dropped 𝓛 6 (plain (λ _. Inx)) no (λ κs x w. refl), tt),
    )
    (f.Key.name types) fn (code.unfolded 𝓤 𝓛.H 𝓜 𝓡 wired (S, (P, (T, (I, (G, tt))))) s' p' pc' pe' pq' i' ic' ie' iq' g' gc' ge' gq')
    (λ κs. (mut_vals, ((λ x. copy_inx.val x ∷ []), tt))) (λ κs. (mut_Tells (named 0) κs.0 Container, (copy_inx.tells, tt)))
    (λ κs qs bounds a _ are.
    let r = a.0 in let n = a.1.0 in let vs = mut_vals r in let w = copy_inx.val n in let number = i.number n in
    let Lent = MutRef (named 0) κs.0 Item in let Two = type_at (pair.signature S P T I G).result κs in
    let Out = type_at En.signature.result κs in let Ref = MutRef (named 0) κs.0 Container in
    let x : W.Ghost = ((κs, qs, bounds, a, (vs, (w ∷ [], tt))), tt) in
    let fits = (((copied_laws 3 I LI).lawful 𝓛).typed n (w ∷ []) are.1.0).0 in
    let Test = triple_of 𝓛 (test.signature S P T I G) (test.spec S P T I G s s' p p' pc pc' pe pe' pq pq' i
    i' ic ic' ie ie' iq iq' g g' gc gc' ge ge' gq gq' 𝓛 𝓜.mem 𝓡.returns) in
    let z : Test.Ghost = ((κs, qs, (bounds.0, tt), a, (vs, (w ∷ [], tt))), tt) in let Alive = raw (alive 𝓛 En.signature κs qs) in
    let LivesS = κs.1.0 ⊑ S.lives in let LivesP = κs.1.1.0 ⊑ P.lives in let LivesT = κs.1.1.1.0 ⊑ T.lives in
    let LivesI = κs.1.1.1.1.0 ⊑ I.lives in let LivesG = κs.1.1.1.1.1.0 ⊑ G.lives in
    qed 𝓛 ((Alive ⊛ ‵ (Ref.own_val r vs) ⊛ ‵ (Inx.own_val n (w ∷ [])) ⊛ ‵ ftrue)
    ∷ (raw (fact 𝓤 LivesS) ⊛ raw (fact 𝓤 LivesP) ⊛ raw (fact 𝓤 LivesT) ⊛ raw (fact 𝓤 LivesI) ⊛ raw (fact 𝓤 LivesG) ⊛ ‵ ftrue) ∷ []) ∵
    move ! (1 ∷ []) $ split ! $ heard ! _ (λ livesS. split ! $ heard ! _ (λ livesP. split ! $ heard ! _ (λ livesT. split ! $
    heard ! _ (λ livesI. split ! $ heard ! _ (λ livesG.
    -- [nothing; the tokens and the arguments]
    use0 𝓛 (raw (fact 𝓤 LivesG)) (fact_i 𝓤 _ (emp 𝓤) livesG) $ join ! $ use0 𝓛 (raw (fact 𝓤 LivesI)) (fact_i 𝓤 _ (emp 𝓤) livesI) $ join ! $
    use0 𝓛 (raw (fact 𝓤 LivesT)) (fact_i 𝓤 _ (emp 𝓤) livesT) $ join ! $ use0 𝓛 (raw (fact 𝓤 LivesP)) (fact_i 𝓤 _ (emp 𝓤) livesP) $ join ! $
    use0 𝓛 (raw (fact 𝓤 LivesS)) (fact_i 𝓤 _ (emp 𝓤) livesS) $ join ! $
    move ! (1 ∷ []) $ split ! $ move ! (1 ∷ []) $ split ! $ move ! (1 ∷ []) $ split ! $
    use1 𝓛 (‵ (Inx.own_val n (w ∷ [])) ⊛ ‵ (Inx.own_val n (w ∷ []))) ((copy_inx.copies _ 𝓤 𝓛).twice n (w ∷ [])) $ split ! $
    -- [the index; the index; nothing; the reference; the tokens; what lives]
    move ! (0 ∷ 2 ∷ []) $ join ! $ move ! (2 ∷ 0 ∷ []) $ join ! $ move ! (2 ∷ 0 ∷ []) $ join ! $ move ! (0 ∷ 2 ∷ []) $
    use2 𝓛 (raw (Test.pre z)) (id⊢ 𝓤 _) $ enter ! _ _ _ _ _ $ alloc_all ! (λ l. pass_all ! refl ((tt, tt), (fits, tt)) $
    sets ! (addr ! (through ! refl (stop !))) refl (tt, tt) $
    -- [what is asked; the index]
    calls_at ! (framed 𝓤 𝓛.H 𝓜 (tables 𝓤 𝓛.H 𝓜 𝓡 𝓡.env)) Test (test_met 𝓤 𝓛 𝓜 𝓡 (code.calls-arena_base::items_mut::occupied 𝓡.env wired)
    S P T I G LS LP LT LI LG CP CI CG s s' p p' pc pc' pe pe' pq pq' i i' ic ic' ie ie' iq iq' g g' gc gc' ge ge' gq gq' ms mp mpc mpe mpq mi mic mie miq mg mgc mge
    mgq) z
    (and_then ! (get ! refl) (and_then ! (get ! refl) (no_more !))) (λ v.
    let TestEnd = test.ended S P T I G s s' p p' pc pc' pe pe' pq pq' i i' ic ic' ie ie' iq iq' g g' gc gc' ge ge' gq gq' in
    use1 𝓛 (later (some (λ (b : Bool × MutBor S.Denot). (Alive ⊛ ‵ ((type_at (test.signature S P T I G).result κs).own_val b (v ∷ []))) ⊛
    some (λ (ws : Lasts TestEnd κs a). ‵ (lasts TestEnd κs a ws) ⊛ raw (fact 𝓤 (b.1.ghost_name ≡ r.ghost_name)) ⊛
    raw (fact 𝓤 (b.1.now ≡ r.now)) ⊛ raw (fact 𝓤 (b.0 ≡ is_some (s.entry_at r.now number))))))) (id⊢ 𝓤 _) $
    await ! tt $ pick ! (λ b. split ! $ split ! $ move ! (1 ∷ []) $
    -- [the pair; the tokens; the rest; the index]
    fpick ! (λ us. fsplit ! $ feq_l ! (λ is_v. fsplit ! $ feq_l ! (λ is_has. fsplit ! $ peeks ! Ref _ (shows 𝓛 Ref) b.1 us.1.0 (λ is_ref.
    let told = mut_Tells (named 0) κs.0 Container b.1 us.1.0 is_ref in
    let is_word : v ≡ vstruct (of_list (vbool b.0 ∷ vptr b.1.ref_ptr.0 b.1.ref_ptr.1 ∷ [])) = ap only is_v ∙ ap (λ (ns : List Val).
    vstruct (of_list (ns ++ (us.1.0 ++ [])))) is_has ∙ ap (λ (ns : List Val). vstruct (of_list (vbool b.0 ∷ (ns ++ [])))) told in
    lands_as ! is_word refl (tt, (tt, (tt, tt))) $
    -- [the reference; nothing; the tokens; the rest; the index]
    move ! (3 ∷ []) $ pick ! (λ ws. split ! $ drop ! $ split ! $ heard ! _ (λ same_reference. split ! $ heard ! _ (λ same. heard ! _ (λ is.
    rewrite ! 0 (λ (ns : List Val). ‵ (Ref.own_val b.1 ns)) told refl $
    -- [the reference; nothing; the tokens; the index]
    sets ! (of_opd ! (get_in ! (fld ! refl (stop !)) (sub ! 0 refl (whole !)))) refl (tt, tt) $
    sets ! (of_opd ! (get_in ! (fld ! refl (stop !)) (sub ! 1 refl (whole !)))) refl (tt, tt) $
    sets ! (of_opd ! (get ! refl)) refl (tt, tt) $ first ! $ branches ! (get ! refl)
    (λ t.
    let found : is_some (s.entry_at b.1.now number) ≡ true = ap (λ (m : S.Denot). is_some (s.entry_at m number)) same ∙ sym is ∙ is_true
    b.0 t in
    let Pair = triple_of 𝓛 (pair.signature S P T I G) (pair.spec S P T I G s s' p p' pc pc' pe pe' pq pq' i
    i' ic ic' ie ie' iq iq' g g' gc gc' ge ge' gq gq' 𝓛 𝓜.mem 𝓡.returns) in
    let PairEnd = pair.ended S P T I G s s' p p' pc pc' pe pe' pq pq' i i' ic ic' ie ie' iq iq' g g' gc gc' ge ge' gq gq' in
    let y : Pair.Ghost = ((κs, qs, bounds, (b.1, (n, tt)), (mut_vals b.1, (w ∷ [], tt))), tt) in
    sets ! (addr ! (through ! refl (stop !))) refl (tt, tt) $
    move ! (3 ∷ 1 ∷ []) $ join ! $ move ! (1 ∷ 0 ∷ []) $ join ! $ move ! (1 ∷ 0 ∷ []) $ join ! $
    use0 𝓛 (raw (fact 𝓤 (is_some (s.entry_at b.1.now number) ≡ true))) (fact_i 𝓤 _ (emp 𝓤) found) $
    use0 𝓛 (raw (fact 𝓤 LivesG)) (fact_i 𝓤 _ (emp 𝓤) livesG) $ join ! $ use0 𝓛 (raw (fact 𝓤 LivesI)) (fact_i 𝓤 _ (emp 𝓤) livesI) $ join ! $
    use0 𝓛 (raw (fact 𝓤 LivesT)) (fact_i 𝓤 _ (emp 𝓤) livesT) $ join ! $ use0 𝓛 (raw (fact 𝓤 LivesP)) (fact_i 𝓤 _ (emp 𝓤) livesP) $ join ! $
    use0 𝓛 (raw (fact 𝓤 LivesS)) (fact_i 𝓤 _ (emp 𝓤) livesS) $ join ! $ move ! (1 ∷ 0 ∷ []) $ use2 𝓛 (raw (Pair.pre y)) (id⊢ 𝓤 _) $
    calls_at ! (framed 𝓤 𝓛.H 𝓜 (tables 𝓤 𝓛.H 𝓜 𝓡 𝓡.env)) Pair ms.pair_mut y
    (and_then ! (get ! refl) (and_then ! (get ! refl) (no_more !))) (λ v'.
    use1 𝓛 (later (some (λ (e : G.Denot × MutBor T.Denot). (Alive ⊛ ‵ (Two.own_val e (v' ∷ []))) ⊛
    some (λ (ws' : Lasts PairEnd κs (b.1, (n, tt))). ‵ (lasts PairEnd κs (b.1, (n, tt)) ws') ⊛
    ‵ (follows Container Item b.1.ghost_name e.1.ghost_name (s.written b.1.now number))
    ⊛ raw (fact 𝓤 (s.entry_at b.1.now number ≡ Some (g.number e.0, e.1.now))))))) (id⊢ 𝓤 _) $
    await ! tt $ pick ! (λ e. split ! $ split ! $ move ! (1 ∷ []) $
    -- [the pair; the tokens; the rest]
    fpick ! (λ us'. fsplit ! $ feq_l ! (λ is_v'. fsplit ! $ peeks ! Gen _ (shows 𝓛 Gen) e.0 us'.0 (λ is_gen. move ! (1 ∷ []) $ fsplit ! $
    peeks ! Lent _ (shows 𝓛 Lent) e.1 us'.1.0 (λ is_lent.
    let era = copy_gen.val e.0 in let era_is : us'.0 ≡ era ∷ [] = copy_gen.tells e.0 us'.0 is_gen in
    let era_fits = (((copied_laws 4 G LG).lawful 𝓛).typed e.0 (era ∷ []) (subst (λ (ns : List Val). Is Gen e.0 ns) era_is is_gen)).0 in
    let word = vstruct (of_list (era ∷ vptr e.1.ref_ptr.0 e.1.ref_ptr.1 ∷ [])) in
    let is_pair : v' ≡ word = ap only is_v' ∙ ap (λ (ns : List Val). vstruct (of_list (ns ++ (us'.1.0 ++ [])))) era_is ∙ ap (λ (ns : List
    Val). vstruct (of_list (era ∷ (ns ++ [])))) (mut_Tells (named 0) κs.0 Item e.1 us'.1.0 is_lent) in
    let typed = yes_and _ true era_fits.0 tt in
    -- [the reference; nothing; the generation; the tokens; the rest]
    lands_as ! is_pair refl (typed, (era_fits.1, (tt, tt))) $
    sets_last ! (agg ! (and_then ! (lit ! tt) (and_then ! (get ! refl) (no_more !)))) refl (
      yes_and _ true typed tt,
      (
        record { fits = lit< tt },
        ((era_fits.1, (tt, tt)), tt),
      ),
    ) $ exec ! (tables 𝓤 𝓛.H 𝓜 𝓡 𝓡.env).C (tables 𝓤 𝓛.H 𝓜 𝓡 𝓡.env).Λ (env fn.locals l) (after 6 fn.body) (at_ret _ (W.post x)) $
    sets ! (of_opd ! (get ! refl)) refl (yes_and _ true typed tt, (record { fits = lit< tt }, ((era_fits.1, (tt, tt)), tt))) $
    returns ! (look_at ! 0 refl) $ free_all ! refl $ keep ! (0 ∷ 1 ∷ 2 ∷ 3 ∷ 4 ∷ []) $
    fjoin ! $ move ! (1 ∷ 0 ∷ []) $ fjoin ! $ feq_i ! (List Val) (word ∷ []) (vstruct (of_list (us'.0 ++ (us'.1.0 ++ []))) ∷ []) (ap (λ
    (u : Val). u ∷ []) (sym is_pair) ∙ is_v') $ fjoin ! $
    fpack ! (List Val × (List Val × Unit {0})) (within (shape (tuple_type (Gen ∷ Lent ∷ []))) (e.0, (e.1, tt)) (word ∷ [])) us' $
    use1 𝓛 (‵ (Out.own_val (Some e) (live 1 (of_list (word ∷ [])) ∷ []))) (Some-of 𝓛 Two e word) $
    -- [the result; the tokens; the rest]
    move ! (2 ∷ []) $ pick ! (λ ws'. split ! $ drop ! $ split ! $ move ! (1 ∷ []) $ heard ! _ (λ value.
    -- [what follows; the result; the tokens]
    rewrite ! 0 (λ (γ : ℕ). ‵ (follows Container Item γ e.1.ghost_name (s.written b.1.now number))) same_reference refl $
    rewrite ! 0 (λ (m : S.Denot). ‵ (follows Container Item r.ghost_name e.1.ghost_name (s.written m number))) same refl $
    use0 𝓛 (raw (fact 𝓤 (Some (g.number e.0, e.1.now) ≡ s.entry_at r.now number))) (fact_i 𝓤 _ (emp 𝓤) (subst (λ (m : S.Denot). Some
    (g.number e.0, e.1.now) ≡ s.entry_at m number) same (sym value))) $
    move ! (1 ∷ 0 ∷ []) $ join ! $ nothing ! $ nothing ! $ fjoin ! $ nothing ! $ fjoin ! $
    move ! (3 ∷ 0 ∷ 2 ∷ 1 ∷ []) $ by ! (leaves 𝓛 En hs c x (live 1 (of_list (word ∷ []))) (Some e) (tt, (tt, tt)) (tt, (tt, tt))))))))))))
    (λ t.
    let missing = sym is ∙ is_false b.0 t in
    sets_last ! (agg ! (and_then ! (lit ! tt) (no_more !))) refl (tt, (record { fits = lit< tt }, tt)) $
    exec ! (tables 𝓤 𝓛.H 𝓜 𝓡 𝓡.env).C (tables 𝓤 𝓛.H 𝓜 𝓡 𝓡.env).Λ (env fn.locals l) (after 6 fn.body) (at_ret _ (W.post x)) $
    sets ! (of_opd ! (get ! refl)) refl (tt, (record { fits = lit< tt }, tt)) $
    returns ! (look_at ! 0 refl) $ free_all ! refl $ keep ! (0 ∷ 2 ∷ []) $ fsplit3 ! $ keep ! (1 ∷ 3 ∷ []) $
    use1 𝓛 (‵ (fres b.1.ghost_name (Container.coded.code b.1.now))) (𝓛.names.obs-res b.1.ghost_name (Container.coded.code b.1.now)) $
    rewrite ! 0 (λ (γ : ℕ). ‵ (fres γ (Container.coded.code b.1.now))) same_reference refl $
    rewrite ! 0 (λ (m : S.Denot). ‵ (fres r.ghost_name (Container.coded.code m))) same refl $
    use0 𝓛 (raw (fact 𝓤 (None ≡ s.entry_at r.now number))) (fact_i 𝓤 _ (emp 𝓤) (is_none (s.entry_at r.now number) missing)) $
    move ! (1 ∷ 0 ∷ []) $ join ! $ use0 𝓛 (‵ (Out.own_val None (live 0 (of_list []) ∷ []))) (none_of 𝓛 Two) $
    nothing ! $ nothing ! $ fjoin ! $ nothing ! $ fjoin ! $
    move ! (3 ∷ 0 ∷ 1 ∷ 2 ∷ []) $ by ! (leaves 𝓛 En hs c x (live 0 (of_list [])) None (tt, (tt, tt)) (tt, (tt, tt)))))))))))))))))))))
