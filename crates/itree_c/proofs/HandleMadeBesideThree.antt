-- What a call does that makes a handle of a struct of points and of where these stop, of a list of points besides, and by three
-- numbers, the last of them unsigned: the struct is made of two lists.
use Rattle.itree_c.proofs.Steps.{ℤ, List, [], ◌∷◌, ◌++◌, length, refl, sym, subst, named, Val, vptr, vint, of_z, w32, w64, has_ty, WT, T, SProp, emp, ent, id⊢, full_share, ftrue, flft, WpFn, ‵, raw, ◌⊛◌, some, later, ◌$◌, ◌∵◌, !, qed, by, move, keep, drop, split, join, fsplit, fsplit3, fjoin, fjoin3, pick, suffices, use1, use2, await, rewrite, feq_i, feq_l, of_opd, stop, fld, store, no_more, and_then, returns, enter, assigns, alloc_all, pass_all, free_all, look_at, get, get_in, sets, lands_as, through, sub, whole, agg, fact, tables, yes, Is, shows, i32, usize, sint_Lawful, uint_Lawful, u32, layout, peeks, cell_at, RattleType, owns as owned_all, types_at, plain, Option, SliceRefOf, ShrSlice, slice_val, Ptr, RawPtr, ptr_val, nothing, heard, opens, closes, Lasts, lasts, triple_of, calls_at, framed, sem, sep, ex, Stays, stay_dropped, stay_ref, walk_of, Goes-dropped, Goes-ref, handle_tells, proved_at, leaves, ty_ptr}
use Rattle.std.specs.Prelude.{ℕ}
use seplogic.Ra.Ura.{Ura}
use mir.Syntax.{Callee, Fn, aggregate, assign, call, copy, deref, field, local, mut, place, return, rv_opd, seq, ty_int, ty_ref, value_local}
use contract.Running.{Running}
use denote.Builtin.{RefMutOf}
use denote.Ref.{NamedLft}
use denote.Signature.{named_lft}
use denote.Triple.Clauses.{Clauses, Ended, closing}
use denote.Triple.Spec.{Meets}
use prog.Model.{Model}
use prog.Wp.{Closed}
use types.Logic.{Logic}
use Rattle.itree_c.proofs.HandleLemmas.{Z, al, R, Two, owns, status_word, parts_out, made_in}
use Rattle.itree_c.proofs.HandleMadeBy.{Listed, both, some_lft}
use Rattle.plane.specs.contracts.point.Point.{the_row as point_row}
use Rattle.plane.specs.declared.point.Point.{Point}

module _ (held : RattleType) (A : Listed) where
  -- the code, over the private call
  abbrev pub make_three_code : Callee → Fn
  make_three_code callee =
      let points = local (layout (ShrSlice (named 0) [] point_row)) value_local in let ends = local (layout (ShrSlice (named 0) [] usize)) value_local in let number = local (ty_int w32) value_local in
      record {
        lifetimes = 2;
        outlives = [];
        ty_params = [];
        givens = 0;
        params = 8;
        locals = number ∷ local (layout Z) value_local ∷ points ∷ ends ∷ points ∷ number ∷ number ∷ number ∷ local (ty_ref (named 1) mut ty_ptr) value_local
            ∷ number ∷ local ty_ptr value_local ∷ local (layout (Two held)) value_local ∷ local (layout (A.row some_lft)) value_local ∷ local ty_ptr value_local ∷ [];
        body = seq (assign (place 12 []) (aggregate (copy (place 2 []) ∷ copy (place 3 []) ∷ [])))
            (seq (call callee (copy (place 1 []) ∷ copy (place 12 []) ∷ copy (place 4 []) ∷ copy (place 5 []) ∷ copy (place 6 []) ∷ copy (place 7 []) ∷ []) (place 11 []))
            (seq (assign (place 9 []) (rv_opd (copy (place 11 (field 0 ∷ [])))))
            (seq (assign (place 10 []) (rv_opd (copy (place 11 (field 1 ∷ field 0 ∷ [])))))
            (seq (assign (place 13 []) (rv_opd (copy (place 10 []))))
            (seq (assign (place 8 (deref ty_ptr ∷ [])) (rv_opd (copy (place 13 []))))
            (seq (assign (place 0 []) (rv_opd (copy (place 9 [])))) return))))));
      }

  -- what the private call takes and answers, and what is handed over
  abbrev pub call_three_ended : Ended
  call_three_ended = record {
    signature = record { lifetimes = 1; outlives = []; params = plain (λ κs. Z) ∷ plain (λ κs. A.row (named_lft 1 0 tt κs)) ∷ SliceRefOf (0 ∷ []) tt (plain (λ κs. point_row)) (λ κs. tt) ∷ plain (λ κs. i32) ∷ plain (λ κs. i32) ∷ plain (λ κs. u32) ∷ []; result = plain (λ κs. Two held) };
    kept = (yes, (yes, (yes, (yes, (yes, (yes, tt))))));
  }

  abbrev pub make_three_ended : Ended
  make_three_ended =
      let points = SliceRefOf (0 ∷ []) tt (plain (λ κs. point_row)) (λ κs. tt) in let ends = SliceRefOf (0 ∷ []) tt (plain (λ κs. usize)) (λ κs. tt) in
      record {
        signature = record { lifetimes = 2; outlives = []; params = plain (λ κs. Z) ∷ points ∷ ends ∷ points ∷ plain (λ κs. i32) ∷ plain (λ κs. i32) ∷ plain (λ κs. u32) ∷ RefMutOf (1 ∷ []) tt (plain (λ κs. RawPtr)) (λ κs. tt) ∷ []; result = plain (λ κs. i32) };
        kept = (yes, (yes, (yes, (yes, (yes, (yes, (yes, (yes, tt))))))));
      }

module _ {M : Type 1} {𝓤 : Ura M} (𝓛 : Logic 𝓤) (held : RattleType) (A : Listed) (Answers : (l : NamedLft) → (A.row l).Denot → List Point → ℤ → ℤ → ℕ → ℤ → Option held.Denot → Type 0) where
  -- the status and the box are an answer for the struct, the list and the numbers
  abbrev pub call_three_clauses : Clauses 𝓤 (call_three_ended held A)
  call_three_clauses = λ κs a. record {
    ghost = Unit {0};
    requires = λ _. emp 𝓤;
    ensures = λ _ result _. fact 𝓤 (Answers (named_lft 1 0 tt κs) a.1.0 a.1.1.0.now a.1.1.1.0 a.1.1.1.1.0 a.1.1.1.1.1.0 result.0 result.1.value);
  }

  -- and what the handle owns
  abbrev pub make_three_clauses : Clauses 𝓤 (make_three_ended held A)
  make_three_clauses = λ κs a. record {
    ghost = Unit {0};
    requires = λ _. emp 𝓤;
    ensures = λ _ result end. ex 𝓤 (λ (made : Option held.Denot). sep 𝓤
        (fact 𝓤 (let l = named_lft 2 0 tt κs in Answers l (A.listed l a.1.0 a.1.1.0) a.1.1.1.0.now a.1.1.1.1.0 a.1.1.1.1.1.0 a.1.1.1.1.1.1.0 result made)) (sem 𝓛 (owns held end.1.1.1.1.1.1.1.0.now made)));
  }

  -- A call of this code meets the clauses, if the private call meets its own.
  pub makes_three : (𝓜 : Model 𝓤 𝓛.H) (𝓡 : Running 𝓤 𝓛.H 𝓜) (callee : Callee) → Meets 𝓛 (call_three_ended held A).signature ((tables 𝓤 𝓛.H 𝓜 𝓡 𝓡.env).C callee) (closing 𝓛 (call_three_ended held A) call_three_clauses)
      → (k : Callee) → Closed 𝓤 𝓛.H (tables 𝓤 𝓛.H 𝓜 𝓡 𝓡.env).C (tables 𝓤 𝓛.H 𝓜 𝓡 𝓡.env).Λ k (make_three_code held A callee)
      → Meets 𝓛 (make_three_ended held A).signature ((tables 𝓤 𝓛.H 𝓜 𝓡 𝓡.env).C k) (closing 𝓛 (make_three_ended held A) make_three_clauses)
  makes_three 𝓜 𝓡 callee called k closed =
      let H = 𝓛.H in let 𝓣 = tables 𝓤 H 𝓜 𝓡 𝓡.env in let c = make_three_clauses in let fn = make_three_code held A callee in let ended = make_three_ended held A in let callee_ended = call_three_ended held A in
      let points = SliceRefOf (0 ∷ []) tt (plain (λ _. point_row)) (λ _. tt) in let places = SliceRefOf (0 ∷ []) tt (plain (λ _. usize)) (λ _. tt) in
      let hs : Stays ended.signature.params ended.kept = (stay_dropped (plain (λ _. Z)) yes, (stay_dropped points yes, (stay_dropped places yes, (stay_dropped points yes, (stay_dropped (plain (λ _. i32)) yes, (stay_dropped (plain (λ _. i32)) yes, (stay_dropped (plain (λ _. u32)) yes, (stay_ref (1 ∷ []) tt (plain (λ _. RawPtr)), tt)))))))) in
      proved_at 𝓛 ended hs c 𝓜 𝓡 (Goes-dropped 𝓛 2 (plain (λ _. Z)) yes (λ κs x f. refl), (Goes-dropped 𝓛 2 points yes (λ κs x f. refl), (Goes-dropped 𝓛 2 places yes (λ κs x f. refl), (Goes-dropped 𝓛 2 points yes (λ κs x f. refl), (Goes-dropped 𝓛 2 (plain (λ _. i32)) yes (λ κs x f. refl), (Goes-dropped 𝓛 2 (plain (λ _. i32)) yes (λ κs x f. refl), (Goes-dropped 𝓛 2 (plain (λ _. u32)) yes (λ κs x f. refl), (Goes-ref 𝓛 2 1 tt (plain (λ _. RawPtr)), tt)))))))) k fn closed (λ z are.
      let κs = z.0.0 in let qs = z.0.1 in let κ = κs.0 in let q = qs.0 in let ν = κs.1.0 in let q' = qs.1.0 in let l = named_lft 2 0 tt κs in
      let a = z.0.3.0 in
      let s1 = z.0.3.1.0 in let sv1 : Val = slice_val s1.ref_ptr (length s1.now) in
      let s2 = z.0.3.1.1.0 in let sv2 : Val = slice_val s2.ref_ptr (length s2.now) in
      let s3 = z.0.3.1.1.1.0 in let sv3 : Val = slice_val s3.ref_ptr (length s3.now) in
      let n1 = z.0.3.1.1.1.1.0 in let nv1 : Val = vint w32 (of_z w32 n1) in
      let n2 = z.0.3.1.1.1.1.1.0 in let nv2 : Val = vint w32 (of_z w32 n2) in
      let n3 = z.0.3.1.1.1.1.1.1.0 in let nv3 : Val = vint w32 n3 in
      let m = z.0.3.1.1.1.1.1.1.1.0 in let mb = m.ref_ptr.0 in let mo = m.ref_ptr.1 in
      let Points : RattleType = ShrSlice (named 0) κ point_row in let Places : RattleType = ShrSlice (named 0) κ usize in
      let x = A.listed l s1 s2 in let xv : Val = both sv1 sv2 in
      let Post : Val → SProp 𝓤 = (walk_of 𝓛 ended hs c).post z in let Run : List Val → SProp 𝓤 = λ ws. WpFn 𝓤 H 𝓣.C 𝓣.Λ fn ws Post in
      let K = triple_of 𝓛 callee_ended.signature (closing 𝓛 callee_ended call_three_clauses) in
      let Answer : ℤ → Option held.Denot → Type 0 = Answers l x s3.now n1 n2 n3 in
      qed 𝓛 (((‵ (flft κ q) ⊛ ‵ (flft ν q') ⊛ ‵ ftrue) ⊛ ‵ (owned_all (types_at ended.signature.params z.0.0) z.0.3 z.0.4))
      ∷ raw ((c z.0.0 z.0.3).requires z.1) ∷ []) ∵ split ! $ move ! (1 ∷ []) $ fsplit ! $
      -- [the allocator; the other parameters; the tokens; nothing]. One parameter after another is taken out, before those out.
      handle_tells al ! a z.0.4.0 (λ h eh fits.
      move ! (1 ∷ []) $ fsplit ! $ rewrite ! 0 (λ (vs : List Val). ‵ (Points.own_val s1 vs)) are.1.0.0.0 refl $
      move ! (1 ∷ []) $ fsplit ! $ rewrite ! 0 (λ (vs : List Val). ‵ (Places.own_val s2 vs)) are.1.1.0.0.0 refl $
      move ! (1 ∷ []) $ fsplit ! $ rewrite ! 0 (λ (vs : List Val). ‵ (Points.own_val s3 vs)) are.1.1.1.0.0.0 refl $
      move ! (1 ∷ []) $ fsplit ! $ peeks ! i32 (Is i32) (shows 𝓛 i32) n1 z.0.4.1.1.1.1.0 (λ is1. rewrite ! 0 (λ (vs : List Val). ‵ (i32.own_val n1 vs)) is1.0 refl $
      move ! (1 ∷ []) $ fsplit ! $ peeks ! i32 (Is i32) (shows 𝓛 i32) n2 z.0.4.1.1.1.1.1.0 (λ is2. rewrite ! 0 (λ (vs : List Val). ‵ (i32.own_val n2 vs)) is2.0 refl $
      move ! (1 ∷ []) $ fsplit ! $ peeks ! u32 (Is u32) (shows 𝓛 u32) n3 z.0.4.1.1.1.1.1.1.0 (λ is3. rewrite ! 0 (λ (vs : List Val). ‵ (u32.own_val n3 vs)) is3.0 refl $
      move ! (1 ∷ []) $
      let typed1 : T (has_ty (layout i32) nv1) × WT nv1 = ((sint_Lawful 𝓛 w32).typed n1 _ (refl, is1.1)).0 in
      let typed2 : T (has_ty (layout i32) nv2) × WT nv2 = ((sint_Lawful 𝓛 w32).typed n2 _ (refl, is2.1)).0 in
      let typed3 : T (has_ty (layout u32) nv3) × WT nv3 = ((uint_Lawful 𝓛 w32).typed n3 _ (refl, is3.1)).0 in
      let f1 : WT (vint w64 (length s1.now)) = record { fits = are.1.0.0.1.0 } in let f2 : WT (vint w64 (length s2.now)) = record { fits = are.1.1.0.0.1.0 } in
      let f3 : WT (vint w64 (length s3.now)) = record { fits = are.1.1.1.0.0.1.0 } in
      let y : K.Ghost = (((κ, tt), (q, tt), tt, (a, (x, (s3, (n1, (n2, (n3, tt)))))), (h ∷ [], (xv ∷ [], (sv3 ∷ [], (nv1 ∷ [], (nv2 ∷ [], (nv3 ∷ [], tt))))))), tt) in
      let us : List Val = h ∷ sv1 ∷ sv2 ∷ sv3 ∷ nv1 ∷ nv2 ∷ nv3 ∷ vptr mb mo ∷ [] in
      -- [the reference; the last parameter; …; the allocator; the tokens; nothing]
      nothing ! $ move ! (2 ∷ 0 ∷ []) $ fjoin ! $ move ! (2 ∷ 0 ∷ []) $ fjoin ! $ move ! (2 ∷ 0 ∷ []) $ fjoin ! $ move ! (2 ∷ 0 ∷ []) $ fjoin ! $
      move ! (3 ∷ 2 ∷ []) $ use2 𝓛 (‵ ((A.row l).own_val x (xv ∷ []))) (A.packed 𝓛 l s1 s2 sv1 sv2) $ fjoin ! $ move ! (2 ∷ 0 ∷ []) $ fjoin ! $
      -- [the arguments; the reference; the tokens; nothing]
      move ! (2 ∷ []) $ split ! $ move ! (1 ∷ []) $ split ! $ move ! (2 ∷ 1 ∷ []) $ join ! $
      -- [the callee's tokens; the token of ν; the arguments; the reference; nothing]
      move ! (0 ∷ 2 ∷ []) $ join ! $ nothing ! $ move ! (1 ∷ 0 ∷ []) $ join ! $ use1 𝓛 (raw (K.pre y)) (id⊢ 𝓤 _) $
      -- [what the call asks for; the token of ν; the reference; nothing]
      suffices ! (Run us) (subst (λ (vs : List Val). ent 𝓤 (Run us) (Run vs)) (sym (λ i. (eh i ++ (are.1.0.0.0 i ++ (are.1.1.0.0.0 i ++ (are.1.1.1.0.0.0 i ++ (is1.0 i ++ (is2.0 i ++ (is3.0 i ++ (are.1.1.1.1.1.1.1.0.0 i ++ [])))))))))) (id⊢ 𝓤 (Run us))) $
      enter ! 𝓣.C 𝓣.Λ fn us Post $ alloc_all ! (λ l. pass_all ! refl (fits, ((tt, (tt, (f1, tt))), ((tt, (tt, (f2, tt))), ((tt, (tt, (f3, tt))), (typed1, (typed2, (typed3, ((tt, tt), tt)))))))) $
      sets ! (agg ! (and_then ! (get ! refl) (and_then ! (get ! refl) (no_more !)))) refl (A.good s1.ref_ptr s2.ref_ptr (length s1.now) (length s2.now) f1 f2) $
      calls_at ! (framed 𝓤 H 𝓜 𝓣) K called y (and_then ! (get ! refl) (and_then ! (get ! refl) (and_then ! (get ! refl) (and_then ! (get ! refl) (and_then ! (get ! refl) (and_then ! (get ! refl) (no_more !))))))) (λ v.
      use1 𝓛 (later (some (λ (r : ℤ × (R held).Denot). ((‵ (flft κ q) ⊛ ‵ ftrue) ⊛ ‵ ((Two held).own_val r (v ∷ []))) ⊛ some (λ (ws : Lasts callee_ended y.0.0 y.0.3).
      ‵ (lasts callee_ended y.0.0 y.0.3 ws) ⊛ raw (fact 𝓤 (Answer r.0 r.1.value)))))) (id⊢ 𝓤 _) $
      await ! tt $ pick ! (λ r. split ! $ move ! (1 ∷ []) $ pick ! (λ ws. split ! $ drop ! $ heard ! (Answer r.0 r.1.value) (λ told. split ! $ move ! (1 ∷ []) $
      -- [the answer; the tokens; the token of ν; the reference; nothing]
      parts_out held ! r v (λ is.
      let p : Ptr = r.1.at in let vp : Val = ptr_val p in let u : Val = status_word held r.0 in
      lands_as ! is.is refl is.good $
      sets ! (of_opd ! (get_in ! (fld ! refl (stop !)) (sub ! 0 refl (whole !)))) refl is.status $
      sets ! (of_opd ! (get_in ! (fld ! refl (fld ! refl (stop !))) (sub ! 0 refl (sub ! 1 refl (whole !))))) refl is.at $
      sets ! (of_opd ! (get ! refl)) refl is.at $
      -- [what the box owns; the status; the tokens; the token of ν; the reference; nothing]
      move ! (4 ∷ []) $ fsplit ! $ fsplit3 ! $ move ! (1 ∷ 2 ∷ 7 ∷ []) $
      opens ! tt RawPtr mb mo (λ ms. move ! (1 ∷ []) $ feq_l ! (λ em. rewrite ! 0 (λ (ws : List Val). ‵ (cell_at full_share RawPtr.mir ws mb mo)) em refl $
      assigns ! (of_opd ! (get ! refl)) (through ! refl (stop !)) (store ! 0 refl is.at) $
      feq_i ! (List Val) (vp ∷ []) (vp ∷ []) refl $ move ! (1 ∷ 0 ∷ []) $ closes ! tt RawPtr p (vp ∷ []) mb mo $
      sets ! (of_opd ! (get ! refl)) refl is.status $ returns ! (look_at ! 0 refl) $ free_all ! refl $
      -- [two parts of the reference; the token of ν; its first part; nothing; what the box owns; the status; the tokens; …]
      move ! (3 ∷ 0 ∷ 1 ∷ []) $ fjoin3 ! $ nothing ! $ move ! (1 ∷ 0 ∷ []) $ fjoin ! $
      nothing ! $ fjoin ! $ nothing ! $ fjoin ! $ nothing ! $ fjoin ! $ nothing ! $ fjoin ! $ nothing ! $ fjoin ! $ nothing ! $ fjoin ! $ nothing ! $ fjoin ! $
      -- [the parameters; the token of ν; nothing; what the box owns; the status; the tokens; …]
      move ! (5 ∷ []) $ split ! $ move ! (3 ∷ 1 ∷ []) $ join ! $ move ! (1 ∷ 0 ∷ []) $ join ! $
      -- [the tokens; the parameters; nothing; what the box owns; the status; …]
      move ! (3 ∷ []) $ made_in held ! (Answer r.0) p r.1.value told $
      keep ! (1 ∷ 2 ∷ 4 ∷ 0 ∷ []) $ by ! (leaves 𝓛 ended hs c z u r.0 (tt, (tt, (tt, (tt, (tt, (tt, (tt, (p, tt)))))))) (tt, (tt, (tt, (tt, (tt, (tt, (tt, (tt, tt))))))))))))))))))))))
