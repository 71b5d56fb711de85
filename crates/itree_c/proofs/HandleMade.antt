-- What the calls share that make a handle of one list: a private call answers a status and the parts of a box, and the pointer
-- is handed out.
use Rattle.itree_c.proofs.Steps.{ℤ, List, [], ◌∷◌, ◌++◌, length, refl, sym, subst, named, Val, vptr, SProp, emp, ent, id⊢, full_share, ftrue, flft, WpFn, ‵, raw, ◌⊛◌, some, later, ◌$◌, ◌∵◌, !, qed, by, move, keep, drop, split, split3, join, fsplit, fsplit3, fjoin, fjoin3, pick, suffices, use1, await, rewrite, feq_i, feq_l, of_opd, stop, fld, store, no_more, and_then, returns, enter, assigns, alloc_all, pass_all, free_all, look_at, get, get_in, sets, lands_as, through, sub, whole, fact, tables, yes, cell_at, i32, layout, RattleType, owns as owned_all, types_at, plain, SliceRefOf, ShrSlice, slice_val, MutRef, Option, Ptr, RawPtr, ptr_val, nothing, heard, opens, closes, Lasts, lasts, triple_of, calls_at, framed, sem, sep, ex, Stays, stay_dropped, stay_ref, walk_of, Goes-dropped, Goes-ref, handle_tells, proved_at, leaves, ty_ptr, w32}
use seplogic.Ra.Ura.{Ura}
use mir.Syntax.{Callee, Fn, assign, call, copy, deref, field, local, mut, place, return, rv_opd, seq, ty_int, ty_ref, value_local}
use contract.Running.{Running}
use denote.Builtin.{One, RefMutOf}
use denote.Triple.Clauses.{Clauses, Ended, closing}
use denote.Triple.Spec.{Meets}
use prog.Model.{Model}
use prog.Wp.{Closed}
use types.Logic.{Logic}
use Rattle.itree_c.proofs.HandleLemmas.{Z, al, R, Two, owns, status_word, parts_out, made_in}

module _ (held item : RattleType) (one : One item.mir) where
  -- the code, over the private call
  abbrev pub make_code : Callee → Fn
  make_code callee = record {
    lifetimes = 2;
    outlives = [];
    ty_params = [];
    givens = 0;
    params = 3;
    locals = local (ty_int w32) value_local ∷ local (layout Z) value_local ∷ local (layout (ShrSlice (named 0) [] item)) value_local ∷ local (ty_ref (named 1) mut ty_ptr) value_local
        ∷ local (ty_int w32) value_local ∷ local ty_ptr value_local ∷ local (layout (Two held)) value_local ∷ local ty_ptr value_local ∷ [];
    body = seq (call callee (copy (place 1 []) ∷ copy (place 2 []) ∷ []) (place 6 []))
        (seq (assign (place 4 []) (rv_opd (copy (place 6 (field 0 ∷ [])))))
        (seq (assign (place 5 []) (rv_opd (copy (place 6 (field 1 ∷ field 0 ∷ [])))))
        (seq (assign (place 7 []) (rv_opd (copy (place 5 []))))
        (seq (assign (place 3 (deref ty_ptr ∷ [])) (rv_opd (copy (place 7 []))))
        (seq (assign (place 0 []) (rv_opd (copy (place 4 [])))) return)))));
  }

  -- what the private call takes and answers, and what is handed over
  abbrev pub call_ended : Ended
  call_ended = record {
    signature = record { lifetimes = 1; outlives = []; params = plain (λ κs. Z) ∷ SliceRefOf (0 ∷ []) tt (plain (λ κs. item)) (λ κs. one) ∷ []; result = plain (λ κs. Two held) };
    kept = (yes, (yes, tt));
  }

  abbrev pub make_ended : Ended
  make_ended = record {
    signature = record { lifetimes = 2; outlives = []; params = plain (λ κs. Z) ∷ SliceRefOf (0 ∷ []) tt (plain (λ κs. item)) (λ κs. one) ∷ RefMutOf (1 ∷ []) tt (plain (λ κs. RawPtr)) (λ κs. tt) ∷ []; result = plain (λ κs. i32) };
    kept = (yes, (yes, (yes, tt)));
  }

module _ {M : Type 1} {𝓤 : Ura M} (𝓛 : Logic 𝓤) (held item : RattleType) (one : One item.mir) (Answers : List item.Denot → ℤ → Option held.Denot → Type 0) where
  -- the status and the box are an answer for the list
  abbrev pub call_clauses : Clauses 𝓤 (call_ended held item one)
  call_clauses = λ κs a. record { ghost = Unit {0}; requires = λ _. emp 𝓤; ensures = λ _ result _. fact 𝓤 (Answers a.1.0.now result.0 result.1.value) }

  -- and what the handle owns
  abbrev pub make_clauses : Clauses 𝓤 (make_ended held item one)
  make_clauses = λ κs a. record {
    ghost = Unit {0};
    requires = λ _. emp 𝓤;
    ensures = λ _ result end. ex 𝓤 (λ (made : Option held.Denot). sep 𝓤 (fact 𝓤 (Answers a.1.0.now result made)) (sem 𝓛 (owns held end.1.1.0.now made)));
  }

  -- A call of this code meets the clauses, if the private call meets its own.
  pub makes : (𝓜 : Model 𝓤 𝓛.H) (𝓡 : Running 𝓤 𝓛.H 𝓜) (callee : Callee) → Meets 𝓛 (call_ended held item one).signature ((tables 𝓤 𝓛.H 𝓜 𝓡 𝓡.env).C callee) (closing 𝓛 (call_ended held item one) call_clauses)
      → (k : Callee) → Closed 𝓤 𝓛.H (tables 𝓤 𝓛.H 𝓜 𝓡 𝓡.env).C (tables 𝓤 𝓛.H 𝓜 𝓡 𝓡.env).Λ k (make_code held item one callee)
      → Meets 𝓛 (make_ended held item one).signature ((tables 𝓤 𝓛.H 𝓜 𝓡 𝓡.env).C k) (closing 𝓛 (make_ended held item one) make_clauses)
  makes 𝓜 𝓡 callee called k closed =
      let H = 𝓛.H in let 𝓣 = tables 𝓤 H 𝓜 𝓡 𝓡.env in let c = make_clauses in let fn = make_code held item one callee in let ended = make_ended held item one in let callee_ended = call_ended held item one in
      let slice_of = SliceRefOf (0 ∷ []) tt (plain (λ _. item)) (λ _. one) in
      let hs : Stays ended.signature.params ended.kept = (stay_dropped (plain (λ _. Z)) yes, (stay_dropped slice_of yes, (stay_ref (1 ∷ []) tt (plain (λ _. RawPtr)), tt))) in
      proved_at 𝓛 ended hs c 𝓜 𝓡 (Goes-dropped 𝓛 2 (plain (λ _. Z)) yes (λ κs x f. refl), (Goes-dropped 𝓛 2 slice_of yes (λ κs x f. refl), (Goes-ref 𝓛 2 1 tt (plain (λ _. RawPtr)), tt))) k fn closed (λ z are.
      let κ = z.0.0.0 in let ν = z.0.0.1.0 in let q = z.0.1.0 in let q' = z.0.1.1.0 in let a = z.0.3.0 in
      let s = z.0.3.1.0 in let m = z.0.3.1.1.0 in
      let mb = m.ref_ptr.0 in let mo = m.ref_ptr.1 in let n = length s.now in let sv : Val = slice_val s.ref_ptr n in
      let Sl : RattleType = ShrSlice (named 0) κ item in
      let Post : Val → SProp 𝓤 = (walk_of 𝓛 ended hs c).post z in let Run : List Val → SProp 𝓤 = λ ws.
      WpFn 𝓤 H 𝓣.C 𝓣.Λ fn ws Post in
      let K = triple_of 𝓛 callee_ended.signature (closing 𝓛 callee_ended call_clauses) in
      qed 𝓛 (((‵ (flft κ q) ⊛ ‵ (flft ν q') ⊛ ‵ ftrue) ⊛ ‵ (owned_all (types_at ended.signature.params z.0.0) z.0.3 z.0.4))
      ∷ raw ((c z.0.0 z.0.3).requires z.1) ∷ []) ∵ split ! $ move ! (1 ∷ []) $ fsplit3 ! $
      handle_tells al ! a z.0.4.0 (λ h eh fits. rewrite ! 1 (λ (vs : List Val). ‵ (Sl.own_val s vs)) are.1.0.0.0 refl $
      let y : K.Ghost = (((κ, tt), (q, tt), tt, (a, (s, tt)), (h ∷ [], (sv ∷ [], tt))), tt) in
      let us : List Val = h ∷ sv ∷ vptr mb mo ∷ [] in
      nothing ! $ move ! (2 ∷ 0 ∷ []) $ fjoin ! $ move ! (1 ∷ 0 ∷ []) $ fjoin ! $ move ! (2 ∷ []) $ split3 ! $
      move ! (0 ∷ 2 ∷ []) $ join ! $ move ! (0 ∷ 2 ∷ []) $ join ! $
      nothing ! $ move ! (1 ∷ 0 ∷ []) $ join ! $ use1 𝓛 (raw (K.pre y)) (id⊢ 𝓤 _) $
      -- [what the call asks for; the token of ν; the reference; nothing]
      suffices ! (Run us) (subst (λ (vs : List Val). ent 𝓤 (Run us) (Run vs)) (sym (λ i.
      eh i ++ (are.1.0.0.0 i ++ (are.1.1.0.0 i ++ [])))) (id⊢ 𝓤 (Run us))) $
      enter ! 𝓣.C 𝓣.Λ fn us Post $ alloc_all ! (λ l. pass_all ! refl (fits, ((tt, (tt, (record { fits = are.1.0.0.1.0 }, tt))), ((tt, tt), tt))) $
      calls_at ! (framed 𝓤 H 𝓜 𝓣) K called y (and_then !
      (get ! refl) (and_then ! (get ! refl) (no_more !))) (λ v.
      use1 𝓛 (later (some (λ (r : ℤ × (R held).Denot). ((‵ (flft κ q) ⊛ ‵ ftrue) ⊛ ‵ ((Two held).own_val r (v ∷ []))) ⊛ some (λ (ws :
      Lasts callee_ended (κ, tt) y.0.3). ‵ (lasts callee_ended (κ, tt) y.0.3 ws) ⊛ raw (fact 𝓤 (Answers s.now r.0 r.1.value)))))) (id⊢ 𝓤 _) $
      await ! tt $ pick ! (λ r. split ! $ move ! (1 ∷ []) $ pick ! (λ ws. split ! $ drop ! $
      heard ! (Answers s.now r.0 r.1.value) (λ told. split ! $ move ! (1 ∷ []) $
      -- [the pair; the token of κ; the token of ν; the reference; nothing]
      parts_out held ! r v (λ is.
      let p : Ptr = r.1.at in let vp : Val = ptr_val p in let u : Val = status_word held r.0 in
      lands_as ! is.is refl is.good $
      sets ! (of_opd ! (get_in ! (fld ! refl (stop !)) (sub ! 0 refl (whole !)))) refl is.status $
      sets ! (of_opd ! (get_in ! (fld ! refl (fld ! refl (stop !))) (sub ! 0 refl (sub ! 1 refl (whole !))))) refl is.at $
      sets ! (of_opd ! (get ! refl)) refl is.at $
      -- [what the box owns; the status; the token of κ; the token of ν; the reference; nothing]
      move ! (4 ∷ []) $ fsplit ! $ fsplit3 ! $ move ! (1 ∷ 2 ∷ 7 ∷ []) $
      opens ! tt RawPtr mb mo (λ ms. move ! (1 ∷ []) $ feq_l ! (λ em. rewrite ! 0 (λ (ws : List Val).
      ‵ (cell_at full_share RawPtr.mir ws mb mo)) em refl $
      assigns ! (of_opd ! (get ! refl)) (through ! refl (stop !)) (store ! 0 refl is.at) $
      feq_i ! (List Val) (vp ∷ []) (vp ∷ []) refl $ move ! (1 ∷ 0 ∷ []) $ closes ! tt RawPtr p (vp ∷ []) mb mo $
      sets ! (of_opd ! (get ! refl)) refl is.status $ returns ! (look_at ! 0 refl) $ free_all ! refl $
      -- [two parts of the reference; the token of ν; its first part; nothing; what the box owns; the status; the tokens; nothing]
      move ! (3 ∷ 0 ∷ 1 ∷ []) $ fjoin3 ! $ nothing ! $ move ! (1 ∷ 0 ∷ []) $ fjoin ! $ nothing ! $ fjoin ! $
      nothing ! $ fjoin ! $
      move ! (5 ∷ []) $ split ! $ move ! (3 ∷ 1 ∷ []) $ join ! $ move ! (1 ∷ 0 ∷ []) $ join ! $
      -- [the tokens; the parameters; nothing; what the box owns; the status; nothing]
      move ! (3 ∷ []) $ made_in held ! (Answers s.now r.0) p r.1.value told $
      keep ! (1 ∷ 2 ∷ 4 ∷ 0 ∷ []) $ by ! (leaves 𝓛 ended hs c z u r.0 (tt, (tt, (p, tt))) (tt, (tt, (tt, tt))))))))))))))
