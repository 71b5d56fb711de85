-- `deallocate` calls `count_freed`, and then `inner.deallocate`, so the walk hands on the block as it got it. Both methods go
-- through a `&self`, of which the walk makes a second one first: one is for `count_freed`, and the other narrows to a `&` to
-- `inner`.
use Rattle.std.proofs.Common.{◌≡◌, ◌^◌, List, [], ◌∷◌, refl, ap, w64}
use mir.Syntax.{Fn}
use mir.MapTy.{inst_fn}
use mir.Val.{Val, vunit, vint}
use base.Logic.{id⊢, fst∗, never, emp}
use base.Fml.{Fml, ftrue, fsep, flft}
use prog.Memory.{size, align, capped}
use prog.Wp.{WpFn}
use contract.BorrowLft.{◌⊑◌, ⊑_trans}
use contract.Monad.{fact, fact_i}
use contract.Running.{tables}
use types.Logic.{sem}
use types.Kit.{‵, raw, ◌⊛◌, some, later, given, prop, ◌$◌, ◌∵◌, !, qed, move, keep, drop, use0, use1, split, split3, join, pick, learn, fsplit, fjoin, feq_i, feq_l, flt_i, regoal, suffices, group, await, done}
use types.Run.{stop, fld, addr, of_opd, unit_lit, no_more, and_then, returns, enter}
use types.ByLocal.{alloc_all, pass_all, free_all, look_at, get, through, sets, lands_as}
use denote.Builtin.{unit, usize, RawPtr, RefOf}
use denote.Exit.{yes}
use denote.Opens.{shr_dup}
use denote.Param.{param}
use denote.Param.Laws.{param_laws}
use denote.Plain.{uint_vals, uint_Tells}
use denote.RattleType.{owns}
use denote.RawPtr.{Ptr, block_ptr, null_ptr, room_for, in_a_block, rawptr_vals, rawptr_Tells}
use denote.Ref.{shr_vals}
use denote.Signature.{plain, types_at}
use denote.Steps.{heard, nothing, only}
use denote.Triple.Call.{calls_at}
use denote.Triple.Spec.{triple_of}
use denote.Triple.Table.{framed}
use denote.Triple.Walked.{Stays, stay_dropped, walk_of, ends_at, Goes-dropped}
use Rattle.std.proofs.alloc.Calls.{Al, seen, token, Gives, at_gives, Gives-goes, Gives-Gives}
use Rattle.std.proofs.raw_atomic.Walks.{proved}
use Rattle.test_kit.proofs.Inner.{arguments, Whole, inner_at, inner_seen}
use Rattle.test_kit.proofs.Refusing.TheLaws.{the_row_laws}
use Rattle.test_kit.specs.contracts.Refusing.count_freed as freed
use Rattle.test_kit.proofs.Refusing.count_freed.Met.{met}
use Rattle.test_kit.specs.contracts.RefusingAllocator.deallocate as f
use Rattle.test_kit.proofs.RefusingAllocator.deallocate.Statement.{statement}
use Rattle.test_kit.proofs.RefusingAllocator.deallocate.Code as code

pub deallocate_spec : {M : Type 1} → statement M
deallocate_spec 𝓤 𝓛 𝓜 𝓡 wired Y L g d dd gives drops =
    let Z : Al = record { row = Y; laws = L; g = g; d = d; drops = dd } in
    let e : Fn = inst_fn (arguments Z) code.function in
    let T = f.ended Y g d dd in
    let stays : Stays T.signature.params T.kept = (stay_dropped _ yes, (stay_dropped _ yes, (stay_dropped _ yes, (stay_dropped _ yes, tt)))) in
    let c = f.clauses Y g d dd 𝓛 𝓜.mem 𝓡.returns in let W = walk_of 𝓛 T stays c in let 𝓣 = tables 𝓤 𝓛.H 𝓜 𝓡 𝓡.env in
    let number = Goes-dropped 𝓛 2 (plain (λ _. usize)) yes (λ κs x w. refl) in
    proved 𝓛 T stays c 𝓜 𝓡 (
      Goes-dropped 𝓛 2 (RefOf (0 ∷ []) tt (plain (λ _. Whole Z)) (λ _. tt)) yes (λ κs x w. refl),
      (Goes-dropped 𝓛 2 (plain (λ _. RawPtr)) yes (λ κs x w. refl), (number, (number, tt))),
    )
    (f.Key.name (arguments Z)) e (code.unfolded 𝓤 𝓛.H 𝓜 𝓡 wired (Y, tt) d dd)
    (λ κs. (shr_vals, (rawptr_vals, (uint_vals w64, (uint_vals w64, tt)))))
    (λ κs. ((λ r vs s. s.0), (rawptr_Tells, (uint_Tells w64, (uint_Tells w64, tt))))) (λ κs qs bounds a τ are.
    let κ = κs.0 in let h = a.0.now in let p = inner_at Z a.0.ref_ptr.0 a.0.ref_ptr.1 in let n = a.1.1.0 in let m = a.1.1.1.0 in
    let y : Ptr → W.Ghost = λ x. ((κs, qs, bounds, (a.0, (x, (n, (m, tt)))), (shr_vals a.0, (rawptr_vals x, (vint w64 n ∷ [], (vint w64 m ∷ [], tt))))), τ) in
    let tokens = ‵ (flft κ qs.0) ⊛ ‵ (flft κs.1.0 qs.1.0) ⊛ ‵ ftrue in
    let Said : Type 0 = (capped (size τ) ≡ n) × (capped (align τ) ≡ m) in
    let Block : Ptr → Fml = λ x. fsep (room_for τ x) (token Z h.inner τ x) in
    qed 𝓛 ((tokens ⊛ ‵ (owns (types_at T.signature.params κs) a (y a.1.0).0.4)) ∷ (raw (fact 𝓤 (κs.1.0 ⊑ Y.lives)) ⊛ raw (fact 𝓤 Said) ⊛ ‵ (Block a.1.0)) ∷ []) ∵
    move ! (1 ∷ []) $ split3 ! $ heard ! _ (λ long. heard ! _ (λ said.
    -- a block has memory, so its pointer is not null
    in_a_block ! a.1.0 Block (fst∗ 𝓤 (never 𝓤) (sem 𝓛 (token Z h.inner τ null_ptr))) (λ b o is.
    regoal ! (λ x. prop (WpFn 𝓤 𝓛.H 𝓣.C 𝓣.Λ e (W.args (y x)) (W.post (y x)))) is refl $
    fsplit ! $ move ! (2 ∷ []) $ split ! $ move ! (1 ∷ []) $ fsplit ! $ fsplit ! $ move ! (1 ∷ []) $
    shr_dup ! (Whole Z) (the_row_laws (param 0 Y) (param_laws 0 Y L)).shr_laws h a.0.ref_ptr.0 a.0.ref_ptr.1 κ $ keep ! (0 ∷ 1 ∷ 4 ∷ 5 ∷ 6 ∷ []) $
    use1 𝓛 (‵ (seen Z κ p h.inner)) (inner_seen Z 𝓛 κ h a.0.ref_ptr.0 a.0.ref_ptr.1) $
    -- [a `&` to `inner`; a `&` to the whole; the tokens; the block's memory; the right to free it]
    enter ! _ _ _ _ _ $ alloc_all ! (λ l. pass_all ! refl ((tt, tt), ((tt, tt), ((tt, record { fits = are.1.1.0.1 }), ((tt, record { fits = are.1.1.1.0.1 }), tt)))) $
    -- the call of `count_freed`: its `requires` is the bound on the lifetime, it is lent the whole, and it has the size
    let F = triple_of 𝓛 (freed.signature Y) (freed.spec Y g d dd 𝓛 𝓜.mem 𝓡.returns) in
    let w : F.Ghost = ((κs, qs, bounds, (a.0, (n, tt)), (shr_vals a.0, (vint w64 n ∷ [], tt))), tt) in
    nothing ! $ use0 𝓛 (raw (fact 𝓤 (κs.1.0 ⊑ Y.lives))) (fact_i 𝓤 _ (emp 𝓤) long) $ join ! $
    nothing ! $ flt_i ! n (2 ^ 64) are.1.1.0.1 $ feq_i ! (List Val) (vint w64 n ∷ []) (vint w64 n ∷ []) refl $ fjoin ! $ fjoin ! $
    move ! (3 ∷ []) $ feq_i ! (List Val) (shr_vals a.0) (shr_vals a.0) refl $ fjoin ! $ fjoin ! $
    move ! (3 ∷ 0 ∷ []) $ join ! $ join ! $ use1 𝓛 (raw (F.pre w)) (id⊢ 𝓤 _) $
    calls_at ! (framed 𝓤 𝓛.H 𝓜 𝓣) F (met 𝓤 𝓛 𝓜 𝓡 (code.calls-test_kit::Refusing::count_freed 𝓡.env wired) Y L g d dd gives drops) w (and_then ! (get ! refl) (and_then ! (get ! refl) (no_more !))) (λ u.
    use1 𝓛 (later (some (λ (r : Unit {0}). (tokens ⊛ ‵ (unit.own_val r (u ∷ []))) ⊛ some (λ (ws : Unit {0} × (Unit {0} × Unit {0})). ‵ (fsep ftrue (fsep ftrue ftrue)) ⊛ ‵ ftrue)))) (id⊢ 𝓤 _) $
    await ! tt $ pick ! (λ none. split ! $ split ! $ move ! (1 ∷ []) $ feq_l ! (λ is_unit. move ! (1 ∷ []) $ drop ! $
    lands_as ! (ap only is_unit) refl (tt, tt) $ move ! (1 ∷ []) $
    -- [a `&` to `inner`; the tokens; the block's memory; the right to free it]
    sets ! (addr ! (through ! refl (fld ! refl (stop !)))) refl (tt, tt) $
    let G = Gives Z 𝓛 𝓜.mem 𝓡.returns in let z = at_gives Z 𝓛 𝓜.mem 𝓡.returns κ qs.0 p h.inner b o n m τ in
    move ! (1 ∷ []) $ split ! $ move ! (3 ∷ 4 ∷ 2 ∷ 0 ∷ []) $ group ! 4 $ use1 𝓛 (raw (G.pre z))
    (Gives-goes Z 𝓛 𝓜.mem 𝓡.returns κ qs.0 p h.inner (⊑_trans κ κs.1.0 Y.lives bounds.0 long) b o n m τ said.0 said.1 are.1.1.0.1 are.1.1.1.0.1) $
    calls_at ! (framed 𝓤 𝓛.H 𝓜 𝓣) G (gives.deallocate dd) z (and_then ! (get ! refl) (and_then ! (get ! refl) (and_then ! (get ! refl) (and_then ! (get ! refl) (no_more !))))) (λ v.
    use1 𝓛 (later (given (v ≡ vunit) (‵ (flft κ qs.0)))) (Gives-Gives Z 𝓛 𝓜.mem 𝓡.returns κ qs.0 p h.inner b o n m τ v) $ await ! tt $ learn ! (λ unit. join ! $
    lands_as ! unit refl (tt, tt) $ sets ! (of_opd ! (unit_lit !)) refl (tt, tt) $ returns ! (look_at ! 0 refl) $ free_all ! refl $
    suffices ! _ (ends_at 𝓛 T stays c (y (block_ptr b o)) vunit tt (tt, (tt, (tt, (tt, tt)))) (tt, (tt, (tt, (tt, tt))))) $
    nothing ! $ feq_i ! (List Val) (vunit ∷ []) (vunit ∷ []) refl $
    nothing ! $ nothing ! $ fjoin ! $ nothing ! $ fjoin ! $ nothing ! $ fjoin ! $ nothing ! $ fjoin ! $ move ! (3 ∷ 0 ∷ 1 ∷ []) $ group ! 3 $ done !))))))))))
