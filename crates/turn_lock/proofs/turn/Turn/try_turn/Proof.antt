-- The call at the lock hands its two arguments, exchanged, to the call at the pass, and what that promises is what it
-- promises.
use Rattle.std.proofs.Common.{[], ◌∷◌, refl}
use mir.Syntax.{a_type, dcons, dnil, named}
use mir.MapTy.{inst_fn}
use base.Logic.{id⊢}
use types.Kit.{‵, raw, ◌⊛◌, some, later, ◌$◌, ◌∵◌, !, qed, by, move, keep, drop, split, join, fsplit, fjoin, pick, use1, await}
use types.Run.{stop, addr, no_more, and_then, returns, enter}
use types.ByLocal.{alloc_all, pass_all, free_all, look_at, get, through, sets, lands_as}
use contract.Running.{tables}
use denote.Builtin.{RefOf, RefMutOf}
use denote.Exit.{yes, no}
use denote.Laws.{Is, shows}
use denote.Param.{param, bounded}
use denote.Param.Laws.{param_laws}
use denote.RattleType.{owns}
use denote.Ref.{mut_vals, shr_vals, mut_Tells, shr_Tells}
use denote.Signature.{plain, type_at, types_at, named_lft}
use denote.Steps.{peeks, nothing}
use denote.Triple.Call.{calls_at}
use denote.Triple.Clauses.{Lasts, at_exit, lasts}
use denote.Triple.Entry.{Res, alive}
use denote.Triple.Spec.{triple_of}
use denote.Triple.Table.{framed}
use denote.Triple.Walked.{Stays, stay_dropped, walk_of, Goes-dropped}
use Rattle.std.proofs.raw_atomic.Walks.{proved, leaves}
use Rattle.std.proofs.result.Result.TheLaws as result
use Rattle.turn_lock.proofs.held.Busy.TheLaws as busy
use Rattle.turn_lock.proofs.held.Held.TheLaws as held
use Rattle.turn_lock.specs.contracts.held.Busy as Busy
use Rattle.turn_lock.specs.contracts.held.Held as Held
use Rattle.turn_lock.specs.contracts.pass.Pass as Pass
use Rattle.turn_lock.specs.contracts.turn.Turn as Turn
use Rattle.turn_lock.specs.contracts.turn.Turn.try_turn as f
use Rattle.turn_lock.specs.contracts.pass.Pass.try_turn as g
use Rattle.turn_lock.proofs.pass.Pass.try_turn.Met.{met}
use Rattle.turn_lock.proofs.turn.Turn.try_turn.Statement.{statement}
use Rattle.turn_lock.proofs.turn.Turn.try_turn.Code as code

pub try_turn_spec : {M : Type 1} → statement M
try_turn_spec 𝓤 𝓛 𝓜 𝓡 wired X Y Z LX LY LZ S d dd bound drops =
    let T = param 0 X in let E = param 1 Y in let F = param 2 Z in
    let En = f.ended X Y Z S d dd in
    let Eg = g.ended X Y Z S d dd in
    let 𝓣 = tables 𝓤 𝓛.H 𝓜 𝓡 𝓡.env in
    let inst = bounded (a_type ∷ a_type ∷ a_type ∷ []) (X, (Y, (Z, tt))) (dcons d (dcons dd dnil)) in
    let fn = inst_fn inst code.function in
    let c = f.clauses X Y Z S d dd 𝓛 𝓜.mem 𝓡.returns in
    let cg = g.clauses X Y Z S d dd 𝓛 𝓜.mem 𝓡.returns in
    let G = triple_of 𝓛 (g.signature X Y Z S d dd) (g.spec X Y Z S d dd 𝓛 𝓜.mem 𝓡.returns) in
    let lock = RefOf (0 ∷ []) tt (plain (λ _. Turn.the_row T E F S)) (λ _. tt) in
    let pass = RefMutOf (0 ∷ []) tt (plain (λ _. Pass.the_row T E F S)) (λ _. tt) in
    let hs : Stays En.signature.params En.kept = (stay_dropped lock yes, (stay_dropped pass no, tt)) in
    proved 𝓛 En hs c 𝓜 𝓡 (Goes-dropped 𝓛 4 lock yes (λ κs x w. refl), (Goes-dropped 𝓛 4 pass no (λ κs x w. refl), tt))
    (f.Key.name inst) fn (code.unfolded 𝓤 𝓛.H 𝓜 𝓡 wired (X, (Y, (Z, tt))) d dd)
    (λ κs. (shr_vals, (mut_vals, tt))) (λ κs. (shr_Tells (named 0) κs.0 (Turn.the_row T E F S), (mut_Tells (named 0) κs.0 (Pass.the_row T E F S), tt)))
    (λ κs qs bounds a n are.
    let y : (walk_of 𝓛 En hs c).Ghost = ((κs, qs, bounds, a, (shr_vals a.0, (mut_vals a.1.0, tt))), n) in
    let z : G.Ghost = ((κs, qs, bounds, (a.1.0, (a.0, tt)), (mut_vals a.1.0, (shr_vals a.0, tt))), n) in
    let Out = type_at En.signature.result κs in
    let laws = result.the_row_laws (Held.the_row (named_lft 4 0 tt κs) T E F S) Busy.the_row (held.the_row_laws (named_lft 4 0 tt κs) T E F S (param_laws 0 X LX) (param_laws 1 Y LY) (param_laws 2 Z LZ)) busy.the_row_laws in
    qed 𝓛 ((raw (alive 𝓛 En.signature κs qs) ⊛ ‵ (owns (types_at En.signature.params κs) a y.0.4)) ∷ raw ((c κs a).requires n) ∷ []) ∵
    split ! $ move ! (1 ∷ []) $ fsplit ! $ move ! (1 ∷ []) $ fsplit ! $
    -- [what the pass owns; nothing; what the lock owns; the tokens; the `requires`]
    move ! (2 ∷ 1 ∷ []) $ fjoin ! $ move ! (1 ∷ 0 ∷ []) $ fjoin ! $ move ! (1 ∷ 0 ∷ []) $ join ! $ join ! $
    use1 𝓛 (raw (G.pre z)) (id⊢ 𝓤 _) $
    enter ! _ _ _ _ _ $ alloc_all ! (λ l. pass_all ! refl ((tt, tt), ((tt, tt), tt)) $
    sets ! (addr ! (through ! refl (stop !))) refl (tt, tt) $
    calls_at ! (framed 𝓤 𝓛.H 𝓜 𝓣) G (met 𝓤 𝓛 𝓜 𝓡 (code.calls-turn_lock::pass::Pass::try_turn 𝓡.env wired) X Y Z LX LY LZ S d dd bound drops) z
    (and_then ! (get ! refl) (and_then ! (get ! refl) (no_more !))) (λ v.
    use1 𝓛 (later (some (λ (r : Res Eg.signature κs). (raw (alive 𝓛 Eg.signature κs qs) ⊛ ‵ (Out.own_val r (v ∷ []))) ⊛ some (λ (ws : Lasts Eg κs z.0.3). ‵ (lasts Eg κs z.0.3 ws) ⊛ raw ((cg κs z.0.3).ensures n r (at_exit Eg κs z.0.3 ws)))))) (id⊢ 𝓤 _) $
    await ! tt $ pick ! (λ r. split ! $ split ! $ move ! (2 ∷ []) $ pick ! (λ ws. split ! $ drop ! $
    -- [the `ensures`; the tokens; the result; the locals]
    move ! (2 ∷ []) $ peeks ! Out (Is Out) (shows 𝓛 Out) r (v ∷ []) (λ is.
    lands_as ! refl refl ((laws.lawful 𝓛).typed r (v ∷ []) is).0 $
    returns ! (look_at ! 0 refl) $ free_all ! refl $
    nothing ! $ nothing ! $ fjoin ! $ nothing ! $ fjoin ! $
    -- [nothing of the parameters; the result; the `ensures`; the tokens]
    keep ! (3 ∷ 0 ∷ 1 ∷ 2 ∷ []) $ by ! (leaves 𝓛 En hs c y v r (tt, (tt, tt)) (tt, (tt, tt)))))))))
