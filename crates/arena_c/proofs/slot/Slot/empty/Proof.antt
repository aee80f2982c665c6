-- A slot with no address and this allocator owns nothing else.
use Rattle.std.proofs.Common.{List, [], ◌∷◌, ◌++◌, refl, sym, subst}
use mir.Val.{Val, vstruct, of_list}
use base.Logic.{SProp, ent, emp, id⊢}
use base.Fml.{ftrue, fsep}
use prog.Wp.{WpFn}
use types.Kit.{‵, raw, ◌⊛◌, ◌$◌, ◌∵◌, !, qed, move, drop, use1, join, split, fsplit, fjoin, fpack, feq_i, suffices, done}
use types.Run.{no_more, and_then, of_opd, lit, returns, enter}
use types.ByLocal.{alloc_all, pass_all, free_all, look_at, get, sets}
use types.Part.{agg}
use contract.Running.{tables}
use denote.Exit.{yes}
use denote.Signature.{type_at}
use denote.Steps.{nothing}
use denote.Triple.Walked.{says, Stays, stay_dropped, walk_of, ends_at, Goes-dropped}
use Rattle.std.proofs.raw_atomic.Walks.{proved_at}
use Rattle.std_alloc.proofs.BoxSteps.Form as box
use Rattle.std.proofs.Common.{lit<}
use Rattle.std.proofs.alloc.Calls.{handle_tells}
use Rattle.std.specs.Prelude.{None}
use denote.RattleType.{Valss}
use denote.Builtin.{RawPtr}
use denote.RawPtr.{null_ptr, ptr_val}
use denote.Struct.Struct.{within}
use denote.Struct.Owning.{shape}
use Rattle.std_alloc.proofs.ResultValues.{and_tt}
use Rattle.std_heap.specs.contracts.Global as heap
use Rattle.arena_c.proofs.Owned.{E, AnAllocator}
use Rattle.arena_c.specs.contracts.slot.Slot.empty.{ended, clauses, signature}
use Rattle.arena_c.specs.contracts.slot.Slot.empty.Key.{name as #self}
use Rattle.arena_c.proofs.slot.Slot.empty.Statement.{statement}
use Rattle.arena_c.proofs.slot.Slot.empty.Code as code

abbrev stays : Stays ended.signature.params ended.kept
stays = (stay_dropped AnAllocator yes, tt)

pub empty_spec : {M : Type 1} → statement M
empty_spec 𝓤 𝓛 𝓜 𝓡 wired =
    let H = 𝓛.H in let 𝓣 = tables 𝓤 H 𝓜 𝓡 𝓡.env in let c = clauses 𝓛 𝓜.mem 𝓡.returns in let fn = code.function in
    proved_at 𝓛 ended stays c 𝓜 𝓡 (Goes-dropped 𝓛 0 AnAllocator yes (λ κs x f. refl), tt) #self fn (code.unfolded 𝓤 H 𝓜 𝓡 wired) (λ z are.
    let Post : Val → SProp 𝓤 = (walk_of 𝓛 ended stays c).post z in let Run : List Val → SProp 𝓤 = λ ws. WpFn 𝓤 H 𝓣.C 𝓣.Λ fn ws Post in
    let a = z.0.3.0 in let To = type_at signature.result tt in let made : To.Denot = record { at = null_ptr; alloc = a; held = None } in
    qed 𝓛 ((‵ ftrue ⊛ ‵ (fsep ((heap.the_row).own_val a z.0.4.0) ftrue)) ∷ raw (emp 𝓤) ∷ []) ∵ split ! $ drop ! $ fsplit ! $
    handle_tells E.al ! a z.0.4.0 (λ h is fits.
    let w : Val = vstruct (of_list (ptr_val null_ptr ∷ h ∷ [])) in
    -- [the allocator; true; the requires]
    move ! (1 ∷ 2 ∷ []) $ drop ! $ drop ! $
    suffices ! (Run (h ∷ [])) (subst (λ (us : List Val). ent 𝓤 (Run (h ∷ [])) (Run us)) (sym (λ i. is i ++ [])) (id⊢ 𝓤 (Run (h ∷ [])))) $
    enter ! 𝓣.C 𝓣.Λ fn (h ∷ []) Post $ alloc_all ! (λ l. pass_all ! refl (fits, tt) $
    sets ! (of_opd ! (lit ! tt)) refl (tt, record { fits = lit< tt }) $ sets ! (agg ! (and_then ! (get ! refl) (and_then ! (get ! refl) (no_more !)))) refl (and_tt _ fits.0, (record { fits = lit< tt }, (fits.1, tt))) $ returns ! (look_at ! 0 refl) $ free_all ! refl $
    -- [the allocator]
    nothing ! $ nothing ! $ move ! (2 ∷ 0 ∷ []) $ fjoin ! $ feq_i ! (List Val) (ptr_val null_ptr ∷ []) (ptr_val null_ptr ∷ []) refl $ fjoin ! $ feq_i ! (List Val) (w ∷ []) (w ∷ []) refl $ fjoin ! $
    fpack ! (Valss (RawPtr ∷ box.P E ∷ [])) (within (shape (box.owning E)) (null_ptr, (a, tt)) (w ∷ [])) (ptr_val null_ptr ∷ [], (h ∷ [], tt)) $ fjoin ! $ use1 𝓛 (‵ (To.own_val made (w ∷ []))) (id⊢ 𝓤 _) $
    suffices ! _ (ends_at 𝓛 ended stays c z w made (tt, tt) (tt, tt)) $ says ! refl $
    nothing ! $ nothing ! $ fjoin ! $ join ! $ nothing ! $ join ! $ done !)))
