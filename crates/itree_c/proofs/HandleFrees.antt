-- What the calls share that give back a handle: the pointer and the allocator become the parts of a box, which a private call
-- drops.
use Rattle.itree_c.proofs.Steps.{List, [], ◌∷◌, ◌++◌, refl, sym, ap, ◌∙◌, subst, Some, T, bare, Val, vptr, vunit, has_ty, WT, SProp, ent, emp, id⊢, never, fst∗, ftrue, WpFn, sem, ‵, raw, ◌⊛◌, some, later, ◌$◌, ◌∵◌, !, qed, by, move, keep, drop, split, join, fsplit3, fjoin, pick, suffices, use0, use1, await, feq_i, feq_l, of_opd, unit_lit, no_more, and_then, returns, enter, alloc_all, pass_all, free_all, look_at, get, sets, lands_as, agg, fact, fact_i, tables, yes, owns as owned_all, types_at, plain, unit, Ptr, RawPtr, block_ptr, null_ptr, ptr_val, in_a_block, nothing, only, lone, layout, Lasts, lasts, triple_of, calls_at, framed, Stays, stay_dropped, walk_of, Goes-dropped, handle_tells, and_tt, proved_at, leaves, IsSome, ghosts}
use Rattle.itree_c.proofs.HandleLemmas.{Z, al, R, owns, parts_word, parts_in}
use seplogic.Ra.Ura.{Ura}
use mir.Syntax.{Callee, Fn, aggregate, assign, call, copy, local, opd_unit, place, return, rv_opd, seq, ty_ptr, ty_unit, value_local}
use contract.Running.{Running}
use denote.RattleType.{RattleType}
use denote.Triple.Clauses.{Clauses, Ended, closing}
use denote.Triple.Spec.{Meets}
use prog.Model.{Model}
use prog.Wp.{Closed}
use types.Logic.{Logic}

module _ (held : RattleType) where
  -- the code, over a private call that drops the box
  abbrev pub free_code : Callee → Fn
  free_code drop = record {
    lifetimes = 0;
    outlives = [];
    ty_params = [];
    givens = 0;
    params = 2;
    locals = local ty_unit value_local ∷ local (layout Z) value_local ∷ local ty_ptr value_local ∷ local ty_unit value_local ∷ local ty_ptr value_local ∷ local (layout (R held)) value_local ∷ [];
    body = seq (assign (place 4 []) (rv_opd (copy (place 2 []))))
        (seq (assign (place 5 []) (aggregate (copy (place 4 []) ∷ copy (place 1 []) ∷ [])))
        (seq (call drop (copy (place 5 []) ∷ []) (place 3 []))
        (seq (assign (place 0 []) (rv_opd opd_unit)) return)));
  }

  -- what the private call takes, and what is handed over
  abbrev pub drop_ended : Ended
  drop_ended = record { signature = record { lifetimes = 0; outlives = []; params = plain (λ κs. R held) ∷ []; result = plain (λ κs. unit) }; kept = (yes, tt) }

  abbrev pub free_ended : Ended
  free_ended = record { signature = record { lifetimes = 0; outlives = []; params = plain (λ κs. Z) ∷ plain (λ κs. RawPtr) ∷ []; result = plain (λ κs. unit) }; kept = (yes, (yes, tt)) }

module _ {M : Type 1} {𝓤 : Ura M} (𝓛 : Logic 𝓤) (held : RattleType) where
  -- there is a box
  abbrev pub drop_clauses : Clauses 𝓤 (drop_ended held)
  drop_clauses = λ κs a. record { ghost = Unit {0}; requires = λ _. fact 𝓤 (IsSome a.0.value); ensures = λ _ _ _. emp 𝓤 }

  -- the handle leads to something, which is used up
  abbrev pub free_clauses : Clauses 𝓤 (free_ended held)
  free_clauses = λ κs a. record { ghost = held.Denot; requires = λ x. sem 𝓛 (owns held a.1.0 (Some x)); ensures = λ _ _ _. emp 𝓤 }

  -- A call of this code meets the clauses, if the private call meets its own.
  pub frees : (𝓜 : Model 𝓤 𝓛.H) (𝓡 : Running 𝓤 𝓛.H 𝓜) (drop : Callee) → Meets 𝓛 (drop_ended held).signature ((tables 𝓤 𝓛.H 𝓜 𝓡 𝓡.env).C drop) (closing 𝓛 (drop_ended held) drop_clauses)
      → (k : Callee) → Closed 𝓤 𝓛.H (tables 𝓤 𝓛.H 𝓜 𝓡 𝓡.env).C (tables 𝓤 𝓛.H 𝓜 𝓡 𝓡.env).Λ k (free_code held drop)
      → Meets 𝓛 (free_ended held).signature ((tables 𝓤 𝓛.H 𝓜 𝓡 𝓡.env).C k) (closing 𝓛 (free_ended held) free_clauses)
  frees 𝓜 𝓡 dropper dropped k closed =
      let H = 𝓛.H in let 𝓣 = tables 𝓤 H 𝓜 𝓡 𝓡.env in let c = free_clauses in let fn = free_code held dropper in let ended = free_ended held in let callee = drop_ended held in
      let hs : Stays ended.signature.params ended.kept = (stay_dropped (plain (λ _. Z)) yes, (stay_dropped (plain (λ _. RawPtr)) yes, tt)) in
      proved_at 𝓛 ended hs c 𝓜 𝓡 (Goes-dropped 𝓛 0 (plain (λ _. Z)) yes (λ κs x f. refl), (Goes-dropped 𝓛 0 (plain (λ _. RawPtr)) yes (λ κs x f. refl), tt)) k fn closed (λ z are.
      let a = z.0.3.0 in let p : Ptr = z.0.3.1.0 in let x = z.1 in
      let Post : Val → SProp 𝓤 = (walk_of 𝓛 ended hs c).post z in let Run : List Val → SProp 𝓤 = λ ws.
      WpFn 𝓤 H 𝓣.C 𝓣.Λ fn ws Post in
      let K = triple_of 𝓛 callee.signature (closing 𝓛 callee drop_clauses) in
      qed 𝓛 ((‵ ftrue ⊛ ‵ (owned_all (types_at ended.signature.params z.0.0) z.0.3 z.0.4)) ∷ raw ((c z.0.0 z.0.3).requires
      z.1) ∷ []) ∵ split ! $ move ! (1 ∷ []) $ fsplit3 ! $
      handle_tells al ! a z.0.4.0 (λ h eh fits. move ! (1 ∷ []) $ feq_l ! (λ ep. move ! (3 ∷ []) $
      use1 𝓛 (‵ (owns held p (Some x))) (id⊢ 𝓤 _) $
      in_a_block ! p (λ q. owns held q (Some x)) (fst∗ 𝓤 (never 𝓤) (sem 𝓛 (ghosts.dealloc_token a (bare (lone
      held.mir)) null_ptr))) (λ b o e.
      -- [the value in its memory; the handle; nothing; nothing]
      let w : Val = parts_word h b o in
      let good : T (has_ty (layout (R held)) w) × WT w = (and_tt (has_ty (layout Z) h) fits.0, (tt, (fits.1, tt))) in
      let made : (R held).Denot = record { at = block_ptr b o; alloc = a; value = Some x } in
      let y : K.Ghost = ((tt, tt, tt, (made, tt), (w ∷ [], tt)), tt) in let us : List Val = h ∷ vptr b o ∷ [] in
      move ! (1 ∷ 0 ∷ []) $ parts_in held ! a h b o x $ nothing ! $ move ! (1 ∷ 0 ∷ []) $ fjoin ! $ nothing ! $ join ! $
      use0 𝓛 (raw (fact 𝓤 (IsSome made.value))) (fact_i 𝓤 (IsSome made.value) (emp 𝓤) refl) $ move ! (1 ∷ 0 ∷ []) $
      join ! $ use1 𝓛 (raw (K.pre y)) (id⊢ 𝓤 _) $
      suffices ! (Run us) (subst (λ (vs : List Val). ent 𝓤 (Run us) (Run vs)) (sym (λ i.
      eh i ++ ((ep ∙ ap (λ (q : Ptr). ptr_val q ∷ []) e) i ++ []))) (id⊢ 𝓤 (Run us))) $
      enter ! 𝓣.C 𝓣.Λ fn us Post $ alloc_all ! (λ l. pass_all ! refl (fits, ((tt, tt), tt)) $
      sets ! (of_opd ! (get ! refl)) refl (tt, tt) $ sets ! (agg ! (and_then ! (get ! refl) (and_then ! (get ! refl)
      (no_more !)))) refl good $
      calls_at ! (framed 𝓤 H 𝓜 𝓣) K dropped y (and_then ! (get ! refl) (no_more !)) (λ v.
      use1 𝓛 (later (some (λ (r : Unit {0}). (‵ ftrue ⊛ ‵ (unit.own_val r (v ∷ []))) ⊛ some (λ (ws : Lasts callee
      tt y.0.3). ‵ (lasts callee tt y.0.3 ws) ⊛ ‵ ftrue)))) (id⊢ 𝓤 _) $
      await ! tt $ pick ! (λ r. split ! $ split ! $ drop ! $ feq_l ! (λ is_unit. pick ! (λ ws. split ! $ drop ! $
      drop ! $
      lands_as ! (ap only is_unit) refl (tt, tt) $ sets ! (of_opd ! (unit_lit !)) refl (tt, tt) $
      returns ! (look_at ! 0 refl) $ free_all ! refl $
      feq_i ! (List Val) (vunit ∷ []) (vunit ∷ []) refl $ nothing ! $ nothing ! $ fjoin ! $ nothing ! $ fjoin ! $
      keep ! (2 ∷ 0 ∷ 1 ∷ 3 ∷ []) $
      by ! (leaves 𝓛 ended hs c z vunit tt (tt, (tt, tt)) (tt, (tt, tt))))))))))))
