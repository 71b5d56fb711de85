-- the handle is the pointer of what was made, of a window and two lists
use Rattle.itree_c.proofs.Steps.{ℤ, List, [], ◌∷◌, ◌++◌, length, refl, sym, subst, named, Val, vptr, w64, vint, WT, SProp, ent, id⊢, full_share, ftrue, flft, WpFn, ‵, raw, ◌⊛◌, some, later, ◌$◌, ◌∵◌, !, qed, by, move, keep, drop, split, join, fsplit, fsplit3, fjoin, fjoin3, pick, suffices, use1, await, rewrite, feq_i, feq_l, of_opd, stop, fld, store, no_more, and_then, returns, enter, assigns, alloc_all, pass_all, free_all, look_at, get, get_in, sets, lands_as, through, sub, whole, fact, tables, yes, usize, cell_at, RattleType, owns, types_at, plain, SliceRefOf, ShrSlice, slice_val, Ptr, RawPtr, ptr_val, nothing, heard, opens, closes, Lasts, lasts, triple_of, calls_at, framed, Stays, stay_dropped, stay_ref, walk_of, Goes-dropped, Goes-ref, handle_tells, proved_at, leaves}
use denote.Builtin.{RefOf}
use denote.Ref.{ShrRef}
use Rattle.itree_c.proofs.HandleLemmas.{Z, al, R, Two, status_word, parts_out, made_in}
use Rattle.itree_c.specs.Tiles.{AnswersCrop}
use Rattle.plane.specs.contracts.point.Point.{the_row as point_row}
use Rattle.tiles.specs.contracts.window.Window.{the_row as window_row}
use Rattle.itree_c.specs.contracts.chains.Chains.{the_row as held_row}
use Rattle.itree_c.specs.contracts.cropped.all_cropped as callee
use Rattle.itree_c.proofs.cropped.all_cropped.Met.{met}
use Rattle.itree_c.specs.contracts.cropped.itree_crop.{ended, clauses}
use Rattle.itree_c.specs.contracts.cropped.itree_crop.Key.{name as #self}
use Rattle.itree_c.proofs.cropped.itree_crop.Statement.{statement}
use Rattle.itree_c.proofs.cropped.itree_crop.Code as code

pub itree_crop_spec : {M : Type 1} → statement M
itree_crop_spec 𝓤 𝓛 𝓜 𝓡 wired =
    let H = 𝓛.H in let 𝓣 = tables 𝓤 H 𝓜 𝓡 𝓡.env in let c = clauses 𝓛 𝓜.mem 𝓡.returns in let fn = code.function in
    let seen = RefOf (0 ∷ []) tt (plain (λ _. window_row)) (λ _. tt) in
    let points = SliceRefOf (0 ∷ []) tt (plain (λ _. point_row)) (λ _. tt) in let places = SliceRefOf (0 ∷ []) tt (plain (λ _. usize)) (λ _. tt) in
    let hs : Stays ended.signature.params ended.kept = (stay_dropped (plain (λ _. Z)) yes, (stay_dropped seen yes, (stay_dropped points yes, (stay_dropped places yes, (stay_ref (1 ∷ []) tt (plain (λ _. RawPtr)), tt))))) in
    proved_at 𝓛 ended hs c 𝓜 𝓡 (Goes-dropped 𝓛 2 (plain (λ _. Z)) yes (λ κs x f. refl), (Goes-dropped 𝓛 2 seen yes (λ κs x f. refl), (Goes-dropped 𝓛 2 points yes (λ κs x f. refl), (Goes-dropped 𝓛 2 places yes (λ κs x f. refl), (Goes-ref 𝓛 2 1 tt (plain (λ _. RawPtr)), tt))))) #self fn (code.unfolded 𝓤 H 𝓜 𝓡 wired) (λ z are.
    let κs = z.0.0 in let qs = z.0.1 in let κ = κs.0 in let q = qs.0 in let ν = κs.1.0 in let q' = qs.1.0 in
    let a = z.0.3.0 in
    let d = z.0.3.1.0 in let dv : Val = vptr d.ref_ptr.0 d.ref_ptr.1 in
    let s1 = z.0.3.1.1.0 in let sv1 : Val = slice_val s1.ref_ptr (length s1.now) in
    let s2 = z.0.3.1.1.1.0 in let sv2 : Val = slice_val s2.ref_ptr (length s2.now) in
    let m = z.0.3.1.1.1.1.0 in let mb = m.ref_ptr.0 in let mo = m.ref_ptr.1 in
    let Seen : RattleType = ShrRef (named 0) κ window_row in
    let Points : RattleType = ShrSlice (named 0) κ point_row in let Places : RattleType = ShrSlice (named 0) κ usize in
    let Post : Val → SProp 𝓤 = (walk_of 𝓛 ended hs c).post z in let Run : List Val → SProp 𝓤 = λ ws. WpFn 𝓤 H 𝓣.C 𝓣.Λ fn ws Post in
    let K = triple_of 𝓛 callee.signature (callee.spec 𝓛 𝓜.mem 𝓡.returns) in
    qed 𝓛 (((‵ (flft κ q) ⊛ ‵ (flft ν q') ⊛ ‵ ftrue) ⊛ ‵ (owns (types_at ended.signature.params z.0.0) z.0.3 z.0.4))
    ∷ raw ((c z.0.0 z.0.3).requires z.1) ∷ []) ∵ split ! $ move ! (1 ∷ []) $ fsplit ! $
    -- [the allocator; the other parameters; the tokens; nothing]. One parameter after another is taken out, and stands before
    -- those out already.
    handle_tells al ! a z.0.4.0 (λ h eh fits.
    move ! (1 ∷ []) $ fsplit ! $ rewrite ! 0 (λ (vs : List Val). ‵ (Seen.own_val d vs)) are.1.0.0 refl $
    move ! (1 ∷ []) $ fsplit ! $ rewrite ! 0 (λ (vs : List Val). ‵ (Points.own_val s1 vs)) are.1.1.0.0.0 refl $
    move ! (1 ∷ []) $ fsplit ! $ rewrite ! 0 (λ (vs : List Val). ‵ (Places.own_val s2 vs)) are.1.1.1.0.0.0 refl $
    move ! (1 ∷ []) $
    let f1 : WT (vint w64 (length s1.now)) = record { fits = are.1.1.0.0.1.0 } in let f2 : WT (vint w64 (length s2.now)) = record { fits = are.1.1.1.0.0.1.0 } in
    let y : K.Ghost = (((κ, tt), (q, tt), tt, (a, (d, (s1, (s2, tt)))), (h ∷ [], (dv ∷ [], (sv1 ∷ [], (sv2 ∷ [], tt))))), tt) in
    let us : List Val = h ∷ dv ∷ sv1 ∷ sv2 ∷ vptr mb mo ∷ [] in
    -- [the reference; the last parameter; …; the allocator; the tokens; nothing]
    nothing ! $ move ! (2 ∷ 0 ∷ []) $ fjoin ! $ move ! (2 ∷ 0 ∷ []) $ fjoin ! $ move ! (2 ∷ 0 ∷ []) $ fjoin ! $ move ! (2 ∷ 0 ∷ []) $ fjoin ! $
    -- [the arguments; the reference; the tokens; nothing]
    move ! (2 ∷ []) $ split ! $ move ! (1 ∷ []) $ split ! $ move ! (2 ∷ 1 ∷ []) $ join ! $
    -- [the callee's tokens; the token of ν; the arguments; the reference; nothing]
    move ! (0 ∷ 2 ∷ []) $ join ! $ nothing ! $ move ! (1 ∷ 0 ∷ []) $ join ! $ use1 𝓛 (raw (K.pre y)) (id⊢ 𝓤 _) $
    -- [what the call asks for; the token of ν; the reference; nothing]
    suffices ! (Run us) (subst (λ (vs : List Val). ent 𝓤 (Run us) (Run vs)) (sym (λ i. (eh i ++ (are.1.0.0 i ++ (are.1.1.0.0.0 i ++ (are.1.1.1.0.0.0 i ++ (are.1.1.1.1.0.0 i ++ []))))))) (id⊢ 𝓤 (Run us))) $
    enter ! 𝓣.C 𝓣.Λ fn us Post $ alloc_all ! (λ l. pass_all ! refl (fits, ((tt, tt), ((tt, (tt, (f1, tt))), ((tt, (tt, (f2, tt))), ((tt, tt), tt))))) $
    calls_at ! (framed 𝓤 H 𝓜 𝓣) K (met 𝓤 𝓛 𝓜 𝓡 (code.calls-itree_c::cropped::all_cropped 𝓡.env wired)) y (and_then ! (get ! refl) (and_then ! (get ! refl) (and_then ! (get ! refl) (and_then ! (get ! refl) (no_more !))))) (λ v.
    use1 𝓛 (later (some (λ (r : ℤ × (R held_row).Denot). ((‵ (flft κ q) ⊛ ‵ ftrue) ⊛ ‵ ((Two held_row).own_val r (v ∷ []))) ⊛ some (λ (ws : Lasts callee.ended y.0.0 y.0.3).
    ‵ (lasts callee.ended y.0.0 y.0.3 ws) ⊛ raw (fact 𝓤 (AnswersCrop d.now s1.now s2.now r.0 r.1.value)))))) (id⊢ 𝓤 _) $
    await ! tt $ pick ! (λ r. split ! $ move ! (1 ∷ []) $ pick ! (λ ws. split ! $ drop ! $ heard ! (AnswersCrop d.now s1.now s2.now r.0 r.1.value) (λ told. split ! $ move ! (1 ∷ []) $
    -- [the answer; the tokens; the token of ν; the reference; nothing]
    parts_out held_row ! r v (λ is.
    let p : Ptr = r.1.at in let vp : Val = ptr_val p in let u : Val = status_word held_row r.0 in
    lands_as ! is.is refl is.good $
    sets ! (of_opd ! (get_in ! (fld ! refl (stop !)) (sub ! 0 refl (whole !)))) refl is.status $
    sets ! (of_opd ! (get_in ! (fld ! refl (fld ! refl (stop !))) (sub ! 0 refl (sub ! 1 refl (whole !))))) refl is.at $
    sets ! (of_opd ! (get ! refl)) refl is.at $
    -- [what the box owns; the status; the tokens; the token of ν; the reference; nothing]
    move ! (4 ∷ []) $ fsplit ! $ fsplit3 ! $ move ! (1 ∷ 2 ∷ 7 ∷ []) $
    opens ! tt RawPtr mb mo (λ ms. move ! (1 ∷ []) $ feq_l ! (λ em. rewrite ! 0 (λ (ws : List Val). ‵ (cell_at full_share RawPtr.mir ws mb mo)) em refl $
    assigns ! (of_opd ! (get ! refl)) (through ! refl (stop !)) (store ! 0 refl is.at) $
    feq_i ! (List Val) (vp ∷ []) (vp ∷ []) refl $ move ! (1 ∷ 0 ∷ []) $ closes ! tt RawPtr p (vp ∷ []) mb mo $
    sets ! (of_opd ! (get ! refl)) refl is.status $ returns ! (look_at ! 0 refl) $ free_all ! refl $
    -- [two parts of the reference; the token of ν; its first part; nothing; what the box owns; the status; the tokens; …]
    move ! (3 ∷ 0 ∷ 1 ∷ []) $ fjoin3 ! $ nothing ! $ move ! (1 ∷ 0 ∷ []) $ fjoin ! $
    nothing ! $ fjoin ! $ nothing ! $ fjoin ! $ nothing ! $ fjoin ! $ nothing ! $ fjoin ! $
    -- [the parameters; the token of ν; nothing; what the box owns; the status; the tokens; …]
    move ! (5 ∷ []) $ split ! $ move ! (3 ∷ 1 ∷ []) $ join ! $ move ! (1 ∷ 0 ∷ []) $ join ! $
    -- [the tokens; the parameters; nothing; what the box owns; the status; …]
    move ! (3 ∷ []) $ made_in held_row ! (AnswersCrop d.now s1.now s2.now r.0) p r.1.value told $
    keep ! (1 ∷ 2 ∷ 4 ∷ 0 ∷ []) $ by ! (leaves 𝓛 ended hs c z u r.0 (tt, (tt, (tt, (tt, (p, tt))))) (tt, (tt, (tt, (tt, (tt, tt))))))))))))))))
