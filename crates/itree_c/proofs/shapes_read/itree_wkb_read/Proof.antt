-- the handle is the pointer of what was made, of two lists and three numbers
use Rattle.itree_c.proofs.Steps.{ℤ, List, [], ◌∷◌, ◌++◌, length, refl, sym, subst, named, Val, vptr, vint, of_z, w32, w64, has_ty, WT, T, SProp, ent, id⊢, full_share, ftrue, flft, WpFn, ‵, raw, ◌⊛◌, some, later, ◌$◌, ◌∵◌, !, qed, by, move, keep, drop, split, split3, join, fsplit, fsplit3, fjoin, fjoin3, pick, suffices, use1, await, rewrite, feq_i, feq_l, of_opd, stop, fld, store, no_more, and_then, returns, enter, assigns, alloc_all, pass_all, free_all, look_at, get, get_in, sets, lands_as, through, sub, whole, fact, tables, yes, Is, shows, u8, i32, i64, usize, sint_Lawful, layout, peeks, cell_at, RattleType, owns, types_at, plain, SliceRefOf, ShrSlice, slice_val, Ptr, RawPtr, ptr_val, nothing, heard, opens, closes, Lasts, lasts, triple_of, calls_at, framed, Stays, stay_dropped, stay_ref, walk_of, Goes-dropped, Goes-ref, handle_tells, proved_at, leaves}
use Rattle.itree_c.proofs.HandleLemmas.{Z, al, R, Two, status_word, parts_out, made_in}
use Rattle.itree_c.specs.Shapes.{AnswersShapes}
use Rattle.itree_c.specs.contracts.polygon_lists.PolygonLists.{the_row as held_row}
use Rattle.itree_c.specs.contracts.shapes_read.all_shapes as callee
use Rattle.itree_c.proofs.shapes_read.all_shapes.Met.{met}
use Rattle.itree_c.specs.contracts.shapes_read.itree_wkb_read.{ended, clauses}
use Rattle.itree_c.specs.contracts.shapes_read.itree_wkb_read.Key.{name as #self}
use Rattle.itree_c.proofs.shapes_read.itree_wkb_read.Statement.{statement}
use Rattle.itree_c.proofs.shapes_read.itree_wkb_read.Code as code

pub itree_wkb_read_spec : {M : Type 1} → statement M
itree_wkb_read_spec 𝓤 𝓛 𝓜 𝓡 wired =
    let H = 𝓛.H in let 𝓣 = tables 𝓤 H 𝓜 𝓡 𝓡.env in let c = clauses 𝓛 𝓜.mem 𝓡.returns in let fn = code.function in
    let slice_1 = SliceRefOf (0 ∷ []) tt (plain (λ _. u8)) (λ _. tt) in
    let slice_2 = SliceRefOf (1 ∷ []) tt (plain (λ _. usize)) (λ _. tt) in
    let hs : Stays ended.signature.params ended.kept = (stay_dropped (plain (λ _. Z)) yes, (stay_dropped slice_1 yes, (stay_dropped slice_2 yes, (stay_dropped (plain (λ _. i64)) yes, (stay_dropped (plain (λ _. i64)) yes, (stay_dropped (plain (λ _. i32)) yes, (stay_ref (2 ∷ []) tt (plain (λ _. RawPtr)), tt))))))) in
    proved_at 𝓛 ended hs c 𝓜 𝓡 (Goes-dropped 𝓛 3 (plain (λ _. Z)) yes (λ κs x f. refl), (Goes-dropped 𝓛 3 slice_1 yes (λ κs x f. refl), (Goes-dropped 𝓛 3 slice_2 yes (λ κs x f. refl), (Goes-dropped 𝓛 3 (plain (λ _. i64)) yes (λ κs x f. refl), (Goes-dropped 𝓛 3 (plain (λ _. i64)) yes (λ κs x f. refl), (Goes-dropped 𝓛 3 (plain (λ _. i32)) yes (λ κs x f. refl), (Goes-ref 𝓛 3 2 tt (plain (λ _. RawPtr)), tt))))))) #self fn (code.unfolded 𝓤 H 𝓜 𝓡 wired) (λ z are.
    let κ = z.0.0.0 in let κ2 = z.0.0.1.0 in let ν = z.0.0.1.1.0 in let q = z.0.1.0 in let q2 = z.0.1.1.0 in let q' = z.0.1.1.1.0 in
    let a = z.0.3.0 in let s1 = z.0.3.1.0 in let s2 = z.0.3.1.1.0 in
    let x = z.0.3.1.1.1.0 in let y = z.0.3.1.1.1.1.0 in let exponent = z.0.3.1.1.1.1.1.0 in let m = z.0.3.1.1.1.1.1.1.0 in
    let mb = m.ref_ptr.0 in let mo = m.ref_ptr.1 in
    let sv1 : Val = slice_val s1.ref_ptr (length s1.now) in let sv2 : Val = slice_val s2.ref_ptr (length s2.now) in
    let xv : Val = vint w64 (of_z w64 x) in let yv : Val = vint w64 (of_z w64 y) in let ev : Val = vint w32 (of_z w32 exponent) in
    let Sl1 : RattleType = ShrSlice (named 0) κ u8 in let Sl2 : RattleType = ShrSlice (named 1) κ2 usize in
    let Post : Val → SProp 𝓤 = (walk_of 𝓛 ended hs c).post z in let Run : List Val → SProp 𝓤 = λ ws.
    WpFn 𝓤 H 𝓣.C 𝓣.Λ fn ws Post in
    let K = triple_of 𝓛 callee.signature (callee.spec 𝓛 𝓜.mem 𝓡.returns) in
    qed 𝓛 (((‵ (flft κ q) ⊛ ‵ (flft κ2 q2) ⊛ ‵ (flft ν q') ⊛ ‵ ftrue) ⊛ ‵ (owns (types_at ended.signature.params z.0.0) z.0.3 z.0.4))
    ∷ raw ((c z.0.0 z.0.3).requires z.1) ∷ []) ∵ split ! $ move ! (1 ∷ []) $ fsplit3 ! $
    -- [the allocator; the first list; the other parameters; the tokens; nothing]
    handle_tells al ! a z.0.4.0 (λ h eh fits. rewrite ! 1 (λ (vs : List Val). ‵ (Sl1.own_val s1 vs)) are.1.0.0.0 refl $
    move ! (2 ∷ []) $ fsplit ! $ rewrite ! 0 (λ (vs : List Val). ‵ (Sl2.own_val s2 vs)) are.1.1.0.0.0 refl $
    -- [the second list; the other parameters; the allocator; the first list; the tokens; nothing]
    move ! (1 ∷ []) $ fsplit3 ! $ peeks ! i64 (Is i64) (shows 𝓛 i64) x z.0.4.1.1.1.0 (λ is_x.
    rewrite ! 0 (λ (ws : List Val). ‵ (i64.own_val x ws)) is_x.0 refl $
    -- [x; y; the other parameters; the second list; the allocator; the first list; the tokens; nothing]
    move ! (1 ∷ []) $ peeks ! i64 (Is i64) (shows 𝓛 i64) y z.0.4.1.1.1.1.0 (λ is_y.
    rewrite ! 0 (λ (ws : List Val). ‵ (i64.own_val y ws)) is_y.0 refl $
    -- [y; x; the other parameters; …]
    move ! (2 ∷ []) $ fsplit ! $ peeks ! i32 (Is i32) (shows 𝓛 i32) exponent z.0.4.1.1.1.1.1.0 (λ is_exponent.
    rewrite ! 0 (λ (ws : List Val). ‵ (i32.own_val exponent ws)) is_exponent.0 refl $
    let typed_x : T (has_ty (layout i64) xv) × WT xv = ((sint_Lawful 𝓛 w64).typed x _ (refl, is_x.1)).0 in
    let typed_y : T (has_ty (layout i64) yv) × WT yv = ((sint_Lawful 𝓛 w64).typed y _ (refl, is_y.1)).0 in
    let typed_exponent : T (has_ty (layout i32) ev) × WT ev = ((sint_Lawful 𝓛 w32).typed exponent _ (refl, is_exponent.1)).0 in
    let g : K.Ghost = (((κ, (κ2, tt)), (q, (q2, tt)), tt, (a, (s1, (s2, (x, (y, (exponent, tt)))))), (h ∷ [], (sv1 ∷ [], (sv2 ∷ [], (xv ∷ [], (yv ∷ [], (ev ∷ [], tt))))))), tt) in
    let us : List Val = h ∷ sv1 ∷ sv2 ∷ xv ∷ yv ∷ ev ∷ vptr mb mo ∷ [] in
    -- [the exponent; the reference; y; x; the second list; the allocator; the first list; the tokens; nothing]
    nothing ! $ move ! (1 ∷ 0 ∷ []) $ fjoin ! $ move ! (2 ∷ 0 ∷ []) $ fjoin ! $ move ! (2 ∷ 0 ∷ []) $ fjoin ! $
    move ! (2 ∷ 0 ∷ []) $ fjoin ! $ move ! (3 ∷ 0 ∷ []) $ fjoin ! $ move ! (2 ∷ 0 ∷ []) $ fjoin ! $
    -- [the arguments; the reference; the tokens; nothing]
    move ! (2 ∷ []) $ split3 ! $ move ! (2 ∷ []) $ split ! $
    -- [the token of ν; nothing; the tokens of κ and κ2; the arguments; the reference; nothing]
    move ! (3 ∷ 1 ∷ []) $ join ! $ move ! (2 ∷ 0 ∷ []) $ join ! $ move ! (0 ∷ 2 ∷ []) $ join ! $
    nothing ! $ move ! (1 ∷ 0 ∷ []) $ join ! $ use1 𝓛 (raw (K.pre g)) (id⊢ 𝓤 _) $
    -- [what the call asks for; the token of ν; the reference; nothing]
    suffices ! (Run us) (subst (λ (vs : List Val). ent 𝓤 (Run us) (Run vs)) (sym (λ i.
    eh i ++ (are.1.0.0.0 i ++ (are.1.1.0.0.0 i ++ (is_x.0 i ++ (is_y.0 i ++ (is_exponent.0 i ++ (are.1.1.1.1.1.1.0.0 i ++ [])))))))) (id⊢ 𝓤 (Run us))) $
    enter ! 𝓣.C 𝓣.Λ fn us Post $ alloc_all ! (λ l. pass_all ! refl (fits, ((tt, (tt, (record { fits = are.1.0.0.1.0 }, tt))), ((tt, (tt, (record { fits = are.1.1.0.0.1.0 }, tt))), (typed_x, (typed_y, (typed_exponent, ((tt, tt), tt))))))) $
    calls_at ! (framed 𝓤 H 𝓜 𝓣) K (met 𝓤 𝓛 𝓜 𝓡 (code.calls-itree_c::shapes_read::all_shapes 𝓡.env wired)) g (and_then !
    (get ! refl) (and_then ! (get ! refl) (and_then ! (get ! refl) (and_then ! (get ! refl) (and_then ! (get ! refl) (and_then ! (get ! refl) (no_more !))))))) (λ v.
    use1 𝓛 (later (some (λ (r : ℤ × (R held_row).Denot). ((‵ (flft κ q) ⊛ ‵ (flft κ2 q2) ⊛ ‵ ftrue) ⊛ ‵ ((Two held_row).own_val r (v ∷ []))) ⊛ some (λ (ws :
    Lasts callee.ended (κ, (κ2, tt)) g.0.3). ‵ (lasts callee.ended (κ, (κ2, tt)) g.0.3 ws) ⊛ raw (fact 𝓤 (AnswersShapes s1.now s2.now x y exponent r.0 r.1.value)))))) (id⊢ 𝓤 _) $
    await ! tt $ pick ! (λ r. split ! $ move ! (1 ∷ []) $ pick ! (λ ws. split ! $ drop ! $
    heard ! (AnswersShapes s1.now s2.now x y exponent r.0 r.1.value) (λ told. split ! $ move ! (1 ∷ []) $
    -- [the pair; the tokens of κ and κ2; the token of ν; the reference; nothing]
    parts_out held_row ! r v (λ is.
    let p : Ptr = r.1.at in let vp : Val = ptr_val p in let u : Val = status_word held_row r.0 in
    lands_as ! is.is refl is.good $
    sets ! (of_opd ! (get_in ! (fld ! refl (stop !)) (sub ! 0 refl (whole !)))) refl is.status $
    sets ! (of_opd ! (get_in ! (fld ! refl (fld ! refl (stop !))) (sub ! 0 refl (sub ! 1 refl (whole !))))) refl is.at $
    sets ! (of_opd ! (get ! refl)) refl is.at $
    -- [what the box owns; the status; the tokens; the token of ν; the reference; nothing]
    move ! (4 ∷ []) $ fsplit ! $ fsplit3 ! $ move ! (1 ∷ 2 ∷ 7 ∷ []) $
    opens ! tt RawPtr mb mo (λ ms. move ! (1 ∷ []) $ feq_l ! (λ em. rewrite ! 0 (λ (ws : List Val).
    ‵ (cell_at full_share RawPtr.mir ws mb mo)) em refl $
    assigns ! (of_opd ! (get ! refl)) (through ! refl (stop !)) (store ! 0 refl is.at) $
    feq_i ! (List Val) (vp ∷ []) (vp ∷ []) refl $ move ! (1 ∷ 0 ∷ []) $ closes ! tt RawPtr p (vp ∷ []) mb mo $
    sets ! (of_opd ! (get ! refl)) refl is.status $ returns ! (look_at ! 0 refl) $ free_all ! refl $
    -- [two parts of the reference; the token of ν; its first part; nothing; what the box owns; the status; the tokens;
    -- nothing]
    move ! (3 ∷ 0 ∷ 1 ∷ []) $ fjoin3 ! $ nothing ! $ move ! (1 ∷ 0 ∷ []) $ fjoin ! $ nothing ! $ fjoin ! $
    nothing ! $ fjoin ! $ nothing ! $ fjoin ! $ nothing ! $ fjoin ! $ nothing ! $ fjoin ! $ nothing ! $ fjoin ! $
    move ! (5 ∷ []) $ split3 ! $ move ! (4 ∷ 2 ∷ []) $ join ! $ move ! (2 ∷ 0 ∷ []) $ join ! $
    move ! (1 ∷ 0 ∷ []) $ join ! $
    -- [the tokens; the parameters; nothing; what the box owns; the status; nothing]
    move ! (3 ∷ []) $ made_in held_row ! (AnswersShapes s1.now s2.now x y exponent r.0) p r.1.value told $
    keep ! (1 ∷ 2 ∷ 4 ∷ 0 ∷ []) $ by ! (leaves 𝓛 ended hs c z u r.0 (tt, (tt, (tt, (tt, (tt, (tt, (p, tt))))))) (tt, (tt, (tt, (tt, (tt, (tt, (tt, tt)))))))))))))))))))))
