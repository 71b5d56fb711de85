-- `allocate` calls `refuses_next`, and then either ends with `Err` or calls `inner`. Both methods go through a `&self`, of
-- which the walk makes a second one first: one is for `refuses_next`, and the other narrows to a `&` to `inner`.
use Rattle.std.proofs.Common.{◌≡◌, ◌^◌, Bool, true, false, List, [], ◌∷◌, Ok, Err, refl, ap, w64}
use mir.Syntax.{Fn}
use mir.MapTy.{inst_fn}
use mir.Val.{Val, vint}
use base.Logic.{id⊢, emp}
use base.Fml.{ftrue, fsep, flft}
use prog.Memory.{size, align, capped}
use contract.BorrowLft.{◌⊑◌, ⊑_trans}
use contract.Monad.{fact, fact_i}
use contract.Running.{tables}
use types.Kit.{‵, raw, ◌⊛◌, some, later, prop, at_ret, Sq, ◌$◌, ◌∵◌, !, qed, move, keep, drop, use0, use1, use2, split, join, pick, fsplit, fjoin, feq_i, feq_l, flt_i, suffices, group, await, done}
use types.Part.{agg}
use types.Run.{stop, fld, addr, lit, no_more, and_then, first, branches, skips, exec, returns, returns_within, enter}
use types.ByLocal.{alloc_all, pass_all, free_all, look_at, get, through, sets, lands_as, env}
use denote.Builtin.{bool, usize, RefOf}
use denote.Exit.{yes}
use denote.Opens.{shr_dup}
use denote.Param.{param}
use denote.Param.Laws.{param_laws}
use denote.Plain.{uint_vals, uint_Tells}
use denote.RattleType.{owns}
use denote.RawPtr.{block_ptr}
use denote.Ref.{shr_vals}
use denote.Signature.{plain, types_at}
use denote.Steps.{heard, nothing, only}
use denote.Triple.Call.{calls_at}
use denote.Triple.Spec.{triple_of}
use denote.Triple.Table.{framed}
use denote.Triple.Walked.{Stays, stay_dropped, walk_of, ends_at, Goes-dropped}
use Rattle.std.proofs.VecSteps.Shapes.{after}
use Rattle.std.specs.Allocator.{block_if_ok}
use Rattle.std.proofs.alloc.Calls.{Al, seen, token, Answer, answer_val, Answer-typed, Answer-Ok, Answer-err, Takes, at_takes, Answered, Takes-goes, Takes-gives, answers}
use Rattle.std.proofs.raw_atomic.Walks.{proved}
use Rattle.test_kit.proofs.Inner.{arguments, Whole, inner_at, inner_seen}
use Rattle.test_kit.proofs.Refusing.TheLaws.{the_row_laws}
use Rattle.test_kit.specs.contracts.Refusing.refuses_next as next
use Rattle.test_kit.proofs.Refusing.refuses_next.Met.{met}
use Rattle.test_kit.specs.contracts.RefusingAllocator.allocate as f
use Rattle.test_kit.proofs.RefusingAllocator.allocate.Statement.{statement}
use Rattle.test_kit.proofs.RefusingAllocator.allocate.Code as code

pub allocate_spec : {M : Type 1} → statement M
allocate_spec 𝓤 𝓛 𝓜 𝓡 wired Y L g d dd takes drops =
    let Z : Al = record { row = Y; laws = L; g = g; d = d; drops = dd } in
    let e : Fn = inst_fn (arguments Z) code.function in
    let T = f.ended Y g d dd in
    let stays : Stays T.signature.params T.kept = (stay_dropped _ yes, (stay_dropped _ yes, (stay_dropped _ yes, tt))) in
    let c = f.clauses Y g d dd 𝓛 𝓜.mem 𝓡.returns in let 𝓣 = tables 𝓤 𝓛.H 𝓜 𝓡 𝓡.env in
    let number = Goes-dropped 𝓛 2 (plain (λ _. usize)) yes (λ κs x w. refl) in
    proved 𝓛 T stays c 𝓜 𝓡 (Goes-dropped 𝓛 2 (RefOf (0 ∷ []) tt (plain (λ _. Whole Z)) (λ _. tt)) yes (λ κs x w. refl), (number, (number, tt)))
    (f.Key.name (arguments Z)) e (code.unfolded 𝓤 𝓛.H 𝓜 𝓡 wired (Y, tt) d dd)
    (λ κs. (shr_vals, (uint_vals w64, (uint_vals w64, tt)))) (λ κs. ((λ r vs s. s.0), (uint_Tells w64, (uint_Tells w64, tt)))) (λ κs qs bounds a τ are.
    let W = walk_of 𝓛 T stays c in let y : W.Ghost = ((κs, qs, bounds, a, (shr_vals a.0, (vint w64 a.1.0 ∷ [], (vint w64 a.1.1.0 ∷ [], tt)))), τ) in
    let κ = κs.0 in let h = a.0.now in let b = a.0.ref_ptr.0 in let o = a.0.ref_ptr.1 in let p = inner_at Z b o in
    let Said : Type 0 = (capped (size τ) ≡ a.1.0) × (capped (align τ) ≡ a.1.1.0) in
    let tokens = ‵ (flft κ qs.0) ⊛ ‵ (flft κs.1.0 qs.1.0) ⊛ ‵ ftrue in
    -- each way out: the tokens, the answer, and the block that comes with it, if any
    let out : (r : Answer.Denot) (v : Val) → Sq 𝓛 (tokens ∷ ‵ (Answer.own_val r (v ∷ [])) ∷ ‵ (block_if_ok (token Z h.inner) τ r) ∷ []) (prop (W.post y v)) = λ r v.
    suffices ! _ (ends_at 𝓛 T stays c y v r (tt, (tt, (tt, tt))) (tt, (tt, (tt, tt)))) $
    nothing ! $ nothing ! $ fjoin ! $ nothing ! $ fjoin ! $ nothing ! $ fjoin ! $ move ! (1 ∷ 0 ∷ 2 ∷ []) $ group ! 3 $ done ! in
    qed 𝓛 ((tokens ⊛ ‵ (owns (types_at T.signature.params κs) a y.0.4)) ∷ (raw (fact 𝓤 (κs.1.0 ⊑ Y.lives)) ⊛ raw (fact 𝓤 Said)) ∷ []) ∵
    move ! (1 ∷ []) $ split ! $ heard ! _ (λ long. heard ! _ (λ said. split ! $ move ! (1 ∷ []) $ fsplit ! $ fsplit ! $ move ! (1 ∷ []) $
    shr_dup ! (Whole Z) (the_row_laws (param 0 Y) (param_laws 0 Y L)).shr_laws h b o κ $ keep ! (0 ∷ 1 ∷ 4 ∷ []) $
    use1 𝓛 (‵ (seen Z κ p h.inner)) (inner_seen Z 𝓛 κ h b o) $
    -- [a `&` to `inner`; a `&` to the whole; the tokens]
    enter ! _ _ _ _ _ $ alloc_all ! (λ l. pass_all ! refl ((tt, tt), ((tt, record { fits = are.1.0.1 }), ((tt, record { fits = are.1.1.0.1 }), tt))) $
    -- the call of `refuses_next`: its `requires` is the bound on the lifetime, it is lent the whole, and it has the size
    let G = triple_of 𝓛 (next.signature Y) (next.spec Y g d dd 𝓛 𝓜.mem 𝓡.returns) in
    let z : G.Ghost = ((κs, qs, bounds, (a.0, (a.1.0, tt)), (shr_vals a.0, (vint w64 a.1.0 ∷ [], tt))), tt) in
    nothing ! $ use0 𝓛 (raw (fact 𝓤 (κs.1.0 ⊑ Y.lives))) (fact_i 𝓤 _ (emp 𝓤) long) $ join ! $
    nothing ! $ flt_i ! a.1.0 (2 ^ 64) are.1.0.1 $ feq_i ! (List Val) (vint w64 a.1.0 ∷ []) (vint w64 a.1.0 ∷ []) refl $ fjoin ! $ fjoin ! $
    move ! (3 ∷ []) $ feq_i ! (List Val) (shr_vals a.0) (shr_vals a.0) refl $ fjoin ! $ fjoin ! $
    move ! (3 ∷ 0 ∷ []) $ join ! $ join ! $ use1 𝓛 (raw (G.pre z)) (id⊢ 𝓤 _) $
    calls_at ! (framed 𝓤 𝓛.H 𝓜 𝓣) G (met 𝓤 𝓛 𝓜 𝓡 (code.calls-test_kit::Refusing::refuses_next 𝓡.env wired) Y L g d dd takes drops) z (and_then ! (get ! refl) (and_then ! (get ! refl) (no_more !))) (λ v.
    use1 𝓛 (later (some (λ (r : Bool). (tokens ⊛ ‵ (bool.own_val r (v ∷ []))) ⊛ some (λ (ws : Unit {0} × (Unit {0} × Unit {0})). ‵ (fsep ftrue (fsep ftrue ftrue)) ⊛ ‵ ftrue)))) (id⊢ 𝓤 _) $
    await ! tt $ pick ! (λ refused. split ! $ split ! $ move ! (1 ∷ []) $ feq_l ! (λ is. move ! (1 ∷ []) $ drop ! $
    lands_as ! (ap only is) refl (tt, tt) $
    -- [the tokens; a `&` to `inner`]
    first ! $ branches ! (get ! refl)
    (λ is_refused. sets ! (agg ! (no_more !)) refl (tt, tt) $
    sets ! (agg ! (and_then ! (lit ! tt) (and_then ! (get ! refl) (no_more !)))) refl (Answer-typed false 0 0) $
    returns_within ! (W.post y) refl (look_at ! 0 refl) $ free_all ! refl $ move ! (1 ∷ []) $ drop ! $
    nothing ! $ use0 𝓛 (‵ (Answer.own_val (Err (record {})) (answer_val false 0 0 ∷ []))) (Answer-err 𝓛) $ move ! (2 ∷ []) $ out (Err (record {})) _)
    (λ goes_through. skips ! $ exec ! 𝓣.C 𝓣.Λ (env e.locals l) (after 2 e.body) (at_ret _ (W.post y)) $
    sets ! (addr ! (through ! refl (fld ! refl (stop !)))) refl (tt, tt) $
    -- the call of `inner.allocate`, with the caller's size and alignment
    let A = Takes Z 𝓛 𝓜.mem 𝓡.returns in let q = at_takes Z 𝓛 𝓜.mem 𝓡.returns κ qs.0 p h.inner a.1.0 a.1.1.0 τ in
    split ! $ move ! (2 ∷ 0 ∷ []) $
    use2 𝓛 (raw (A.pre q)) (Takes-goes Z 𝓛 𝓜.mem 𝓡.returns κ qs.0 p h.inner (⊑_trans κ κs.1.0 Y.lives bounds.0 long) a.1.0 a.1.1.0 τ said.0 said.1 are.1.0.1 are.1.1.0.1) $
    calls_at ! (framed 𝓤 𝓛.H 𝓜 𝓣) A (takes.allocate dd) q (and_then ! (get ! refl) (and_then ! (get ! refl) (and_then ! (get ! refl) (no_more !)))) (λ v.
    use1 𝓛 (later (raw (Answered Z 𝓛 𝓜.mem 𝓡.returns h.inner τ v) ⊛ ‵ (flft κ qs.0))) (Takes-gives Z 𝓛 𝓜.mem 𝓡.returns κ qs.0 p h.inner a.1.0 a.1.1.0 τ v) $ await ! tt $ split ! $
    move ! (1 ∷ 2 ∷ []) $ join ! $ move ! (1 ∷ []) $ answers Z ! 𝓜.mem 𝓡.returns h.inner τ v
    (λ b o is. fjoin ! $ lands_as ! is refl (Answer-typed true b o) $ returns ! (look_at ! 0 refl) $ free_all ! refl $
    use0 𝓛 (‵ (Answer.own_val (Ok (block_ptr b o)) (answer_val true b o ∷ []))) (Answer-Ok 𝓛 b o) $ move ! (2 ∷ []) $ out (Ok (block_ptr b o)) _)
    (λ is. nothing ! $ lands_as ! is refl (Answer-typed false 0 0) $ returns ! (look_at ! 0 refl) $ free_all ! refl $
    use0 𝓛 (‵ (Answer.own_val (Err (record {})) (answer_val false 0 0 ∷ []))) (Answer-err 𝓛) $ move ! (2 ∷ []) $ out (Err (record {})) _))))))))))
