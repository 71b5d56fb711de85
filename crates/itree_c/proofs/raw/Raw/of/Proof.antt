-- the raw parts own what the box owned
use Rattle.itree_c.proofs.Steps.{◌≡◌, List, [], ◌∷◌, ◌++◌, refl, sym, ap, ◌∙◌, subst, Some, a_type, dcons, dnil, bare, Val, vstruct, of_list, inst_fn, SProp, ent, emp, never, id⊢, fst∗, ftrue, fsep, flft, WpFn, sem, ‵, raw, ◌⊛◌, some, later, ◌$◌, ◌∵◌, !, qed, by, move, keep, drop, split, split3, join, fsplit, fjoin, fpick, pick, suffices, use0, use1, await, rewrite, feq_l, stop, fld, of_opd, no_more, and_then, returns, enter, alloc_all, pass_all, free_all, look_at, get, get_in, sets, lands_as, agg, sub, whole, fact, fact_i, tables, no, RattleType, owns, types_at, plain, Ptr, RawPtr, block_ptr, null_ptr, ptr_val, in_a_block, nothing, only, heard, bounded, Tuple, triple_of, calls_at, Stays, stay_dropped, walk_of, token, handle_tells, Goes-blank, framed, box_owns, box_out, box_in, proved_at, leaves}
use Rattle.std.proofs.BoxSteps.Form as box
use Rattle.std.specs.contracts.boxed.Box.into_raw_with_allocator as callee
use Rattle.std.proofs.boxed.Box.into_raw_with_allocator.Met.{met}
use Rattle.itree_c.specs.contracts.raw.Raw as made
use Rattle.itree_c.specs.contracts.raw.Raw.of.{ended, clauses}
use Rattle.itree_c.specs.contracts.raw.Raw.of.Key.{name as #self}
use Rattle.itree_c.proofs.raw.Raw.of.Statement.{statement}
use Rattle.itree_c.proofs.raw.Raw.of.Code as code

pub of_spec : {M : Type 1} → statement M
of_spec 𝓤 𝓛 𝓜 𝓡 wired T A L LA g d dd dx allocator md glue =
    let H = 𝓛.H in let 𝓣 = tables 𝓤 H 𝓜 𝓡 𝓡.env in let En = ended T A g d dd dx in
    let c = clauses T A g d dd dx 𝓛 𝓜.mem 𝓡.returns in
    let E : box.Bx = record { row = T; laws = L; al = record { row = A; laws = LA; g = g; d = d; drops = dd } } in
    let inst = bounded (a_type ∷ a_type ∷ []) (T, (A, tt)) (dcons d (dcons dd (dcons dx dnil))) in
    let fn = inst_fn inst code.function in
    let B : RattleType = box.B E in let R : RattleType = made.the_row (box.R E) (box.P E) g in
    let hs : Stays En.signature.params En.kept = (stay_dropped (plain (λ _. B)) no, tt) in
    proved_at 𝓛 En hs c 𝓜 𝓡 (Goes-blank 𝓛 2 (plain (λ _. B)) no (λ κs x f. tt), tt) (#self inst) fn (code.unfolded 𝓤 H 𝓜 𝓡 wired (T, (A, tt)) d dd dx) (λ z are.
    let κs = z.0.0 in let qs = z.0.1 in let v = z.0.3.0 in let a = v.alloc in
    let Post : Val → SProp 𝓤 = (walk_of 𝓛 En hs c).post z in let Run : List Val → SProp 𝓤 = λ ws.
    WpFn 𝓤 H 𝓣.C 𝓣.Λ fn ws Post in
    let lives = ‵ (flft κs.0 qs.0) ⊛ ‵ (flft κs.1.0 qs.1.0) ⊛ ‵ ftrue in
    let K = triple_of 𝓛 (callee.signature T A g d dd dx) (callee.spec T A g d dd dx 𝓛 𝓜.mem 𝓡.returns) in
    qed 𝓛 ((lives ⊛ ‵ (owns (types_at En.signature.params κs) z.0.3 z.0.4)) ∷ raw ((c κs z.0.3).requires z.1) ∷ []) ∵
    split ! $ move ! (1 ∷ []) $ fsplit ! $
    box_out E ! v z.0.4.0 (λ b o h e ws fits. box_in E ! v b o v.value e refl $
    let w : Val = box.word E h b o in let good = box.box_typed E h b o fits in
    let y : K.Ghost = ((κs, qs, tt, (v, tt), (w ∷ [], tt)), tt) in
    fjoin ! $ move ! (1 ∷ 0 ∷ []) $ join ! $ join ! $ use1 𝓛 (raw (K.pre y)) (id⊢ 𝓤 _) $
    suffices ! (Run (w ∷ [])) (subst (λ (us : List Val). ent 𝓤 (Run (w ∷ [])) (Run us)) (sym (λ i.
    ws i ++ [])) (id⊢ 𝓤 (Run (w ∷ [])))) $
    enter ! 𝓣.C 𝓣.Λ fn (w ∷ []) Post $ alloc_all ! (λ l. pass_all ! refl (good, tt) $
    sets ! (of_opd ! (get ! refl)) refl good $
    calls_at ! (framed 𝓤 H 𝓜 𝓣) K (met 𝓤 𝓛 𝓜 𝓡 (code.calls-std_alloc::boxed::Box::into_raw_with_allocator 𝓡.env
    wired) T A L LA g d dd dx allocator md glue) y (and_then ! (get ! refl) (no_more !)) (λ u.
    use1 𝓛 (later (some (λ (r : Ptr × A.Denot). (lives ⊛ ‵ ((Tuple (RawPtr ∷ box.P E ∷ [])).own_val r (u ∷ []))) ⊛
    some (λ (_ : (Unit {0} × (Unit {0} × Unit {0})) × Unit {0}).
    ‵ (fsep (fsep ftrue (fsep ftrue ftrue)) ftrue) ⊛ (raw (fact 𝓤 (r.1 ≡ a)) ⊛ ‵ (box_owns (token E.al a) (box.R E)
    r.0 v.value)))))) (id⊢ 𝓤 _) $
    await ! tt $ pick ! (λ r. split ! $ move ! (1 ∷ []) $ pick ! (λ _. split3 ! $ drop ! $ heard ! (r.1 ≡ a) (λ same.
    in_a_block ! r.0 (λ p. box_owns (token E.al a) (box.R E) p v.value) (fst∗ 𝓤 (never 𝓤) (sem 𝓛 (token E.al a (bare
    (box.τ E)) null_ptr))) (λ b' o' e'.
    -- [what the box owns; the tokens and the pair]
    move ! (1 ∷ []) $ split ! $ move ! (1 ∷ []) $ fpick ! (λ vss. fsplit ! $ feq_l ! (λ eu. fsplit ! $
    feq_l ! (λ ep. fsplit ! $
    rewrite ! 0 (λ (s : A.Denot). ‵ (A.own_val s vss.1.0)) same refl $ handle_tells E.al ! a vss.1.0 (λ h' eh fits'.
    let w' : Val = box.word E h' b' o' in let good' = box.box_typed E h' b' o' fits' in
    let boxed : B.Denot = record { ptr = block_ptr b' o'; alloc = a; value = v.value } in
    let parts : R.Denot = record { at = block_ptr b' o'; alloc = a; value = Some v.value } in
    lands_as ! (ap only (eu ∙ (λ j. vstruct (of_list ((ep ∙ ap (λ (p : Ptr).
    ptr_val p ∷ []) e') j ++ (eh j ++ []))) ∷ []))) refl good' $
    sets ! (of_opd ! (get_in ! (fld ! refl (stop !)) (sub ! 0 refl (whole !)))) refl (tt, tt) $
    sets ! (of_opd ! (get_in ! (fld ! refl (stop !)) (sub ! 1 refl (whole !)))) refl fits' $
    sets ! (of_opd ! (get ! refl)) refl fits' $
    sets ! (agg ! (and_then ! (get ! refl) (and_then ! (get ! refl) (no_more !)))) refl good' $
    returns ! (look_at ! 0 refl) $ free_all ! refl $
    -- [the handle; nothing; the tokens; what the box owns]
    move ! (3 ∷ []) $ fsplit ! $ box_in E ! boxed b' o' v.value refl refl $
    use1 𝓛 (‵ (R.own_val parts (w' ∷ []))) (id⊢ 𝓤 _) $ move ! (1 ∷ []) $ drop ! $
    use0 𝓛 (raw (fact 𝓤 (parts.value ≡ Some v.value))) (fact_i 𝓤 (parts.value ≡ Some v.value) (emp 𝓤) refl) $
    nothing ! $ nothing ! $ fjoin ! $
    keep ! (3 ∷ 0 ∷ 2 ∷ 1 ∷ []) $ by ! (leaves 𝓛 En hs c z w' parts ((tt, (tt, tt)), tt) (tt, tt))))))))))))))
