-- null owns nothing
use Rattle.itree_c.proofs.Steps.{◌≡◌, List, [], ◌∷◌, ◌++◌, refl, sym, subst, None, lit<, a_type, dcons, dnil, Val, vnull, vstruct, vcons, vnil, inst_fn, SProp, ent, id⊢, ftrue, flft, WpFn, ‵, raw, ◌⊛◌, ◌$◌, ◌∵◌, !, qed, by, move, keep, split, fsplit, fjoin, fpack, feq_i, suffices, use0, use1, lit, of_opd, no_more, and_then, returns, enter, alloc_all, pass_all, free_all, look_at, get, sets, agg, fact, fact_i, tables, no, RattleType, Valss, owns, types_at, plain, Ptr, RawPtr, null_ptr, nothing, within, shape, bounded, Stays, stay_dropped, walk_of, emp, has_ty, α, handle_tells, Goes-blank, and_tt, proved_at, leaves}
use Rattle.std.proofs.BoxSteps.Form as box
use Rattle.itree_c.specs.contracts.raw.Raw as made
use Rattle.itree_c.specs.contracts.raw.Raw.null.{ended, clauses}
use Rattle.itree_c.specs.contracts.raw.Raw.null.Key.{name as #self}
use Rattle.itree_c.proofs.raw.Raw.null.Statement.{statement}
use Rattle.itree_c.proofs.raw.Raw.null.Code as code

pub null_spec : {M : Type 1} → statement M
null_spec 𝓤 𝓛 𝓜 𝓡 wired T A L LA g d dd allocator md =
    let H = 𝓛.H in let 𝓣 = tables 𝓤 H 𝓜 𝓡 𝓡.env in let En = ended T A g d dd in
    let c = clauses T A g d dd 𝓛 𝓜.mem 𝓡.returns in
    let E : box.Bx = record { row = T; laws = L; al = record { row = A; laws = LA; g = g; d = d; drops = dd } } in
    let inst = bounded (a_type ∷ a_type ∷ []) (T, (A, tt)) (dcons d (dcons dd dnil)) in
    let fn = inst_fn inst code.function in
    let R : RattleType = made.the_row (box.R E) (box.P E) g in
    let hs : Stays En.signature.params En.kept = (stay_dropped (plain (λ _. box.P E)) no, tt) in
    proved_at 𝓛 En hs c 𝓜 𝓡 (Goes-blank 𝓛 2 (plain (λ _. box.P E)) no (λ κs x f. tt), tt) (#self inst) fn (code.unfolded 𝓤 H 𝓜 𝓡 wired (T, (A, tt)) d dd) (λ z are.
    let κs = z.0.0 in let qs = z.0.1 in let a = z.0.3.0 in let Post : Val → SProp 𝓤 = (walk_of 𝓛 En hs c).post z in
    let Run : List Val → SProp 𝓤 = λ ws. WpFn 𝓤 H 𝓣.C 𝓣.Λ fn ws Post in
    let lives = ‵ (flft κs.0 qs.0) ⊛ ‵ (flft κs.1.0 qs.1.0) ⊛ ‵ ftrue in
    qed 𝓛 ((lives ⊛ ‵ (owns (types_at En.signature.params κs) z.0.3 z.0.4)) ∷ raw ((c κs z.0.3).requires z.1) ∷ []) ∵
    split ! $ move ! (1 ∷ []) $ fsplit ! $
    handle_tells E.al ! a z.0.4.0 (λ h eh fits.
    let w : Val = vstruct (vcons vnull (vcons h vnil)) in let parts : R.Denot = record {
      at = null_ptr;
      alloc = a;
      value = None;
    } in
    suffices ! (Run (h ∷ [])) (subst (λ (us : List Val). ent 𝓤 (Run (h ∷ [])) (Run us)) (sym (λ i.
    eh i ++ [])) (id⊢ 𝓤 (Run (h ∷ [])))) $
    enter ! 𝓣.C 𝓣.Λ fn (h ∷ []) Post $ alloc_all ! (λ l. pass_all ! refl (fits, tt) $
    sets ! (of_opd ! (get ! refl)) refl fits $
    sets ! (agg ! (and_then ! (lit ! tt) (and_then ! (get ! refl) (no_more !)))) refl (and_tt (has_ty (α E.al) h) fits.0, (record { fits = lit< tt }, (fits.1, tt))) $ returns ! (look_at ! 0 refl) $ free_all ! refl $
    -- [the handle; nothing; the tokens; nothing]
    feq_i ! Ptr null_ptr null_ptr refl $ nothing ! $ move ! (2 ∷ 0 ∷ []) $ fjoin ! $
    feq_i ! (List Val) (vnull ∷ []) (vnull ∷ []) refl $ fjoin ! $ feq_i ! (List Val) (w ∷ []) (w ∷ []) refl $
    fjoin ! $
    fpack ! (Valss (RawPtr ∷ box.P E ∷ [])) (within (shape (made.the_type (box.R E) (box.P E) g)) (null_ptr, (a, tt)) (w ∷ [])) (vnull ∷ [], (h ∷ [], tt)) $ fjoin ! $
    use1 𝓛 (‵ (R.own_val parts (w ∷ []))) (id⊢ 𝓤 _) $
    use0 𝓛 (raw (fact 𝓤 (parts.value ≡ None))) (fact_i 𝓤 (parts.value ≡ None) (emp 𝓤) refl) $ nothing ! $ nothing ! $
    fjoin ! $
    keep ! (4 ∷ 0 ∷ 2 ∷ 1 ∷ []) $ by ! (leaves 𝓛 En hs c z w parts (tt, tt) (tt, tt)))))
