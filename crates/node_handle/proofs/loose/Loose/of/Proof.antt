-- A box is taken apart: the call gives its pointer and its allocator, which are put side by side.
use Rattle.std.proofs.Common.{◌≡◌, List, [], ◌∷◌, ◌++◌, refl, sym, ap, ◌∙◌, subst}
use mir.Syntax.{a_type, dcons, dnil}
use mir.Raw.{raw as bare}
use mir.Val.{Val, vptr, vstruct, of_list}
use mir.MapTy.{inst_fn}
use base.Logic.{SProp, ent, emp, never, id⊢, fst∗}
use base.Fml.{flft, ftrue}
use prog.Wp.{WpFn}
use types.Logic.{sem}
use types.Kit.{‵, raw, ◌⊛◌, some, later, ◌$◌, ◌∵◌, !, qed, by, move, keep, drop, split, split3, join, fsplit, fjoin, fpick, pick, suffices, use0, use1, await, rewrite, feq_l}
use types.Run.{stop, fld, of_opd, no_more, and_then, returns, enter}
use types.ByLocal.{alloc_all, pass_all, free_all, look_at, get, get_in, sets, lands_as}
use types.Part.{agg, sub, whole}
use contract.Monad.{fact, fact_i}
use contract.Running.{tables}
use denote.Builtin.{RawPtr}
use denote.Exit.{no}
use denote.Param.{bounded, layout, param}
use denote.Param.Laws.{param_laws}
use denote.RattleType.{RattleType, owns}
use denote.RawPtr.{Ptr, block_ptr, in_a_block, null_ptr, ptr_val}
use denote.Signature.{plain, types_at}
use denote.Steps.{heard, nothing, only}
use denote.Struct.Tuple.{Tuple}
use denote.Triple.Call.{calls_at}
use denote.Triple.Clauses.{Lasts, lasts}
use denote.Triple.Spec.{triple_of}
use denote.Triple.Walked.{Stays, stay_dropped, walk_of}
use Rattle.core.proofs.alloc.Calls.{Goes-blank, handle_tells}
use Rattle.core.proofs.atomic.Steps.{fm}
use Rattle.std.proofs.raw_atomic.Walks.{leaves, proved_at}
use Rattle.std_alloc.proofs.BoxSteps.Form as box
use Rattle.std_alloc.proofs.BoxSteps.Steps.{box_in, box_out}
use Rattle.std_alloc.proofs.boxed.Box.into_raw_with_allocator.Met.{met}
use Rattle.std_alloc.specs.contracts.boxed.Box.into_raw_with_allocator as apart
use Rattle.node_handle.proofs.Parts.{block, parts_close, two, two_fit}
use Rattle.node_handle.proofs.loose.Loose.of.Code as code
use Rattle.node_handle.proofs.loose.Loose.of.Statement.{statement}
use Rattle.node_handle.specs.contracts.loose.Loose.of.{clauses, ended}
use Rattle.node_handle.specs.contracts.loose.Loose.of.Key.{name as #self}

pub of_spec : {M : Type 1} → statement M
of_spec 𝓤 𝓛 𝓜 𝓡 wired T A L LA g d drop_value drop_alloc allocates drops frees =
    let H = 𝓛.H in let 𝓣 = tables 𝓤 H 𝓜 𝓡 𝓡.env in
    let R : RattleType = param 0 T in let Z : RattleType = param 1 A in let LZ = param_laws 1 A LA in
    let types = bounded (a_type ∷ a_type ∷ []) (T, (A, tt)) (dcons d (dcons drop_value (dcons drop_alloc dnil))) in
    let fn = inst_fn types code.function in let En = ended T A g d drop_value drop_alloc in
    let c = clauses T A g d drop_value drop_alloc 𝓛 𝓜.mem 𝓡.returns in
    let B : box.Bx = record { row = T; laws = L; al = record { row = A; laws = LA; g = g; d = d; drops = drop_alloc } } in
    let hs : Stays En.signature.params En.kept = (stay_dropped (plain (λ _. box.B B)) no, tt) in
    proved_at 𝓛 En hs c 𝓜 𝓡 (Goes-blank 𝓛 2 (plain (λ _. box.B B)) no (λ κs x f. tt), tt) (#self types) fn
    (code.unfolded 𝓤 H 𝓜 𝓡 wired (T, (A, tt)) d drop_value drop_alloc) (λ z are.
    let κs = z.0.0 in let qs = z.0.1 in let v = z.0.3.0 in let a = v.alloc in
    let Post : Val → SProp 𝓤 = (walk_of 𝓛 En hs c).post z in let Run : List Val → SProp 𝓤 = λ ws. WpFn 𝓤 H 𝓣.C 𝓣.Λ fn ws Post in
    let tokens = ‵ (flft κs.0 qs.0) ⊛ ‵ (flft κs.1.0 qs.1.0) ⊛ ‵ ftrue in
    qed 𝓛 ((tokens ⊛ ‵ (owns (types_at En.signature.params κs) z.0.3 z.0.4)) ∷ raw ((c κs z.0.3).requires z.1) ∷ []) ∵
    split ! $ move ! (1 ∷ []) $ fsplit ! $
    -- the box is looked into for its machine words, and closed again
    box_out B ! v z.0.4.0 (λ b o h e ws fits. box_in B ! v b o v.value e refl $
    let w : Val = box.word B h b o in let typed = two_fit R Z LZ g b o h fits in
    let k = triple_of 𝓛 (apart.signature T A g d drop_alloc drop_value) (apart.spec T A g d drop_alloc drop_value 𝓛 𝓜.mem 𝓡.returns) in
    let y : k.Ghost = ((κs, qs, tt, (v, tt), (w ∷ [], tt)), tt) in let Both = Tuple (RawPtr ∷ Z ∷ []) in
    fjoin ! $ move ! (1 ∷ 0 ∷ []) $ join ! $ join ! $ use1 𝓛 (raw (k.pre y)) (id⊢ 𝓤 _) $
    suffices ! (Run (w ∷ [])) (subst (λ (us : List Val). ent 𝓤 (Run (w ∷ [])) (Run us)) (sym (λ i. ws i ++ [])) (id⊢ 𝓤 (Run (w ∷ [])))) $
    enter ! 𝓣.C 𝓣.Λ fn (w ∷ []) Post $ alloc_all ! (λ l. pass_all ! refl (typed, tt) $
    sets ! (of_opd ! (get ! refl)) refl typed $
    calls_at ! (fm 𝓛 𝓜 𝓡) k
    (met 𝓤 𝓛 𝓜 𝓡 (code.calls-std_alloc::boxed::Box::into_raw_with_allocator 𝓡.env wired) T A L LA g d drop_alloc drop_value allocates frees drops)
    y (and_then ! (get ! refl) (no_more !)) (λ u.
    -- what the call gives: the pointer, the allocator of the box, and the right to its block
    use1 𝓛 (later (some (λ (r : Both.Denot). (tokens ⊛ ‵ (Both.own_val r (u ∷ []))) ⊛
    some (λ (ls : Lasts (apart.ended T A g d drop_alloc drop_value) κs y.0.3). ‵ (lasts (apart.ended T A g d drop_alloc drop_value) κs y.0.3 ls)
    ⊛ (raw (fact 𝓤 (r.1 ≡ a)) ⊛ ‵ (block R Z LZ g a r.0 v.value)))))) (id⊢ 𝓤 _) $
    await ! tt $ pick ! (λ r. split ! $ move ! (1 ∷ []) $ pick ! (λ _. split3 ! $ drop ! $ heard ! (r.1 ≡ a) (λ same.
    in_a_block ! r.0 (λ p. block R Z LZ g a p v.value) (fst∗ 𝓤 (never 𝓤) (sem 𝓛 (g.dealloc_token a (bare (layout T)) null_ptr))) (λ b' o' lies.
    move ! (1 ∷ []) $ split ! $ move ! (1 ∷ []) $ fpick ! (λ each. fsplit ! $ feq_l ! (λ all. fsplit ! $ feq_l ! (λ one. fsplit ! $
    rewrite ! 0 (λ (x : A.Denot). ‵ (A.own_val x each.1.0)) same refl $ handle_tells B.al ! a each.1.0 (λ h' other fits'.
    let made = two_fit R Z LZ g b' o' h' fits' in
    lands_as ! (ap only (all ∙ (λ i. vstruct (of_list ((one ∙ ap (λ (p : Ptr). ptr_val p ∷ []) lies) i ++ (other i ++ []))) ∷ []))) refl made $
    sets ! (of_opd ! (get_in ! (fld ! refl (stop !)) (sub ! 0 refl (whole !)))) refl (tt, tt) $
    sets ! (of_opd ! (get_in ! (fld ! refl (stop !)) (sub ! 1 refl (whole !)))) refl fits' $
    sets ! (of_opd ! (get ! refl)) refl fits' $
    sets ! (agg ! (and_then ! (get ! refl) (and_then ! (get ! refl) (no_more !)))) refl made $
    move ! (3 ∷ 0 ∷ []) $ parts_close R Z LZ g ! b' o' h' a v.value $
    use0 𝓛 (raw (fact 𝓤 (v.value ≡ v.value))) (fact_i 𝓤 (v.value ≡ v.value) (emp 𝓤) refl) $ nothing ! $ nothing ! $ fjoin ! $
    returns ! (look_at ! 0 refl) $ free_all ! refl $ keep ! (4 ∷ 0 ∷ 2 ∷ 1 ∷ []) $
    by ! (leaves 𝓛 En hs c z (two (vptr b' o') h') (record { at = block_ptr b' o'; alloc = a; value = v.value }) ((tt, (tt, tt)), tt) (tt, tt))))))))))))))
