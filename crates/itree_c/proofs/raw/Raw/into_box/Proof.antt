-- a box is made of its raw parts
use Rattle.itree_c.proofs.Steps.{◌≡◌, List, [], ◌∷◌, ◌++◌, refl, sym, ap, ◌∙◌, subst, Option, Some, None, Bool, not, a_type, dcons, dnil, Val, vptr, inst_fn, SProp, ent, emp, id⊢, ftrue, flft, WpFn, ‵, raw, ◌⊛◌, some, later, at_ret, ◌$◌, ◌∵◌, !, qed, by, move, keep, drop, split, split3, join, fsplit, fjoin, pick, suffices, use0, use1, await, rewrite, feq_i, stop, fld, of_opd, no_more, and_then, first, blocks, exec, returns, enter, alloc_all, pass_all, free_all, look_at, get, get_in, sets, lands_last, env, sub, whole, fact, fact_i, ◌⊑◌, tables, IsSome, no, RattleType, owns, types_at, plain, block_ptr, nothing, only, heard, layout, bounded, Lasts, lasts, triple_of, calls_at_last, Stays, stay_dropped, walk_of, Goes-blank, after, framed, T, has_ty, WT, box_out, box_in, proved_at, leaves}
use Rattle.std.proofs.BoxSteps.Form as box
use Rattle.std.specs.contracts.boxed.Box.from_raw as callee
use Rattle.std.proofs.boxed.Box.from_raw.Met.{met}
use Rattle.itree_c.specs.contracts.raw.Raw as made
use Rattle.itree_c.specs.contracts.raw.Raw.into_box.{ended, clauses}
use Rattle.itree_c.specs.contracts.raw.Raw.into_box.Key.{name as #self}
use Rattle.itree_c.proofs.raw.Raw.into_box.Statement.{statement}
use Rattle.itree_c.proofs.raw.Raw.into_box.Code as code

some_is : {X : Type 0} (v : Option X) → IsSome v → (x : X) × (v ≡ Some x)
some_is (Some x) is = (x, refl)
some_is None is = absurd (subst (λ (b : Bool). T (not b)) is tt)

pub into_box_spec : {M : Type 1} → statement M
into_box_spec 𝓤 𝓛 𝓜 𝓡 wired X A L LA g d dd allocator md =
    let H = 𝓛.H in let 𝓣 = tables 𝓤 H 𝓜 𝓡 𝓡.env in let En = ended X A g d dd in
    let c = clauses X A g d dd 𝓛 𝓜.mem 𝓡.returns in
    let E : box.Bx = record { row = X; laws = L; al = record { row = A; laws = LA; g = g; d = d; drops = dd } } in
    let inst = bounded (a_type ∷ a_type ∷ []) (X, (A, tt)) (dcons d (dcons dd dnil)) in
    let fn = inst_fn inst code.function in
    let B : RattleType = box.B E in let R : RattleType = made.the_row (box.R E) (box.P E) g in
    let hs : Stays En.signature.params En.kept = (stay_dropped (plain (λ _. R)) no, tt) in
    proved_at 𝓛 En hs c 𝓜 𝓡 (Goes-blank 𝓛 2 (plain (λ _. R)) no (λ κs x f. tt), tt) (#self inst) fn (code.unfolded 𝓤 H 𝓜 𝓡 wired (X, (A, tt)) d dd) (λ z are.
    let κs = z.0.0 in let qs = z.0.1 in let a = z.0.3.0.alloc in
    let Post : Val → SProp 𝓤 = (walk_of 𝓛 En hs c).post z in let Run : List Val → SProp 𝓤 = λ ws.
    WpFn 𝓤 H 𝓣.C 𝓣.Λ fn ws Post in
    let raw_at : Option X.Denot → R.Denot = λ v. record { at = z.0.3.0.at; alloc = a; value = v } in
    let lives = ‵ (flft κs.0 qs.0) ⊛ ‵ (flft κs.1.0 qs.1.0) ⊛ ‵ ftrue in
    let K = triple_of 𝓛 (callee.signature X A g d dd) (callee.spec X A g d dd 𝓛 𝓜.mem 𝓡.returns) in
    qed 𝓛 ((lives ⊛ ‵ (owns (types_at En.signature.params κs) z.0.3 z.0.4)) ∷ raw ((c κs z.0.3).requires z.1) ∷ []) ∵
    move ! (1 ∷ []) $
    use1 𝓛 (raw (fact 𝓤 (κs.0 ⊑ X.lives)) ⊛ raw (fact 𝓤 (κs.1.0 ⊑ A.lives)) ⊛ raw (fact 𝓤 (IsSome z.0.3.0.value)))
    (id⊢ 𝓤 _) $ split3 ! $ move ! (2 ∷ []) $ heard ! (IsSome z.0.3.0.value) (λ some_value.
    let there = some_is z.0.3.0.value some_value in let x = there.0 in
    let boxed : B.Denot = record { ptr = z.0.3.0.at; alloc = a; value = x } in
    move ! (2 ∷ []) $ split ! $ move ! (1 ∷ []) $ fsplit ! $ rewrite ! 0 (λ (v : Option X.Denot).
    ‵ (R.own_val (raw_at v) z.0.4.0)) there.1 refl $
    use1 𝓛 (‵ (B.own_val boxed z.0.4.0)) (id⊢ 𝓤 _) $ box_out E ! boxed z.0.4.0 (λ b o h e ws fits. fjoin ! $
    -- [what the box owns; the handle; nothing; the tokens; that the types live]
    let w : Val = box.word E h b o in let y : K.Ghost = ((κs, qs, tt, (a, (block_ptr b o, tt)), (h ∷ [], (vptr b o ∷ [], tt))), x) in
    move ! (5 ∷ 0 ∷ []) $ join ! $ move ! (4 ∷ 0 ∷ []) $ join ! $
    move ! (2 ∷ []) $ feq_i ! (List Val) (vptr b o ∷ []) (vptr b o ∷ []) refl $ fjoin ! $ move ! (2 ∷ 0 ∷ []) $
    fjoin ! $ move ! (2 ∷ 0 ∷ []) $ join ! $ join ! $ use1 𝓛 (raw (K.pre y)) (id⊢ 𝓤 _) $
    suffices ! (Run (w ∷ [])) (subst (λ (us : List Val). ent 𝓤 (Run (w ∷ [])) (Run us)) (sym (λ i.
    ws i ++ [])) (id⊢ 𝓤 (Run (w ∷ [])))) $
    enter ! 𝓣.C 𝓣.Λ fn (w ∷ []) Post $ alloc_all ! (λ l. pass_all ! refl (box.box_typed E h b o fits, tt) $
    let Ev = env fn.locals l in
    sets ! (of_opd ! (get_in ! (fld ! refl (stop !)) (sub ! 0 refl (whole !)))) refl (tt, tt) $
    sets ! (of_opd ! (get_in ! (fld ! refl (stop !)) (sub ! 1 refl (whole !)))) refl fits $
    first ! $ blocks ! $ sets ! (of_opd ! (get ! refl)) refl fits $
    calls_at_last ! (framed 𝓤 H 𝓜 𝓣) K (met 𝓤 𝓛 𝓜 𝓡 (code.calls-std_alloc::boxed::Box::from_raw 𝓡.env wired) X A L LA
    g d dd allocator md) y (and_then ! (get ! refl) (and_then ! (get ! refl) (no_more !))) (λ u.
    use1 𝓛 (later (some (λ (r : B.Denot). (lives ⊛ ‵ (B.own_val r (u ∷ []))) ⊛ some (λ (ls : Lasts (callee.ended X A
    g d dd) κs y.0.3). ‵ (lasts (callee.ended X A g d dd) κs y.0.3 ls)
    ⊛ (raw (fact 𝓤 (r.value ≡ x)) ⊛ raw (fact 𝓤 (r.alloc ≡ a))))))) (id⊢ 𝓤 _) $
    await ! tt $ pick ! (λ r. split ! $ move ! (1 ∷ []) $ pick ! (λ _. split3 ! $ drop ! $
    heard ! (r.value ≡ x) (λ same. drop ! $ split ! $ move ! (1 ∷ []) $
    box_out E ! r (u ∷ []) (λ b' o' h' e' us fits'. box_in E ! r b' o' r.value e' refl $
    rewrite ! 0 (λ (xs : List Val). ‵ (B.own_val r xs)) (sym us) refl $
    let good : T (has_ty (layout B) u) × WT u = subst (λ (s : Val).
    T (has_ty (layout B) s) × WT s) (sym (ap only us)) (box.box_typed E h' b' o' fits') in
    lands_last ! refl good $ exec ! 𝓣.C 𝓣.Λ Ev (after 3 fn.body) (at_ret Ev Post) $
    sets ! (of_opd ! (get ! refl)) refl good $
    use0 𝓛 (raw (fact 𝓤 (Some r.value ≡ z.0.3.0.value))) (fact_i 𝓤 (Some r.value ≡ z.0.3.0.value) (emp 𝓤) (ap Some
    same ∙ sym there.1)) $ nothing ! $ nothing ! $ fjoin ! $
    returns ! (look_at ! 0 refl) $ free_all ! refl $ keep ! (3 ∷ 0 ∷ 2 ∷ 1 ∷ []) $
    by ! (leaves 𝓛 En hs c z u r ((tt, (tt, tt)), tt) (tt, tt)))))))))))
