-- What the calls share that read behind a handle: each writes one field, where a list begins, and answers another, how long
-- the list is.
use Rattle.itree_c.proofs.Steps.{◌≡◌, List, [], ◌∷◌, ◌++◌, refl, sym, ap, ◌∙◌, subst, Some, w64, T, ty_ptr, Val, vint, vptr, has_ty, WT, SProp, ent, emp, id⊢, full_share, fat, ftrue, flft, WpFn, ‵, raw, ◌⊛◌, ◌$◌, ◌∵◌, !, qed, by, move, keep, split, join, fsplit, fsplit3, fjoin, fjoin3, suffices, use0, use1, rewrite, feq_i, feq_l, of_opd, stop, fld, load, store, returns, enter, assigns, alloc_all, pass_all, free_all, look_at, get, sets, through, sub, whole, look_in, fact, fact_i, tables, yes, Is, cell_at, owns as owned_all, types_at, plain, Ptr, RawPtr, ptr_val, rawptr_Lawful, nothing, owned, opens, closes, usize, uint_Makes, Stays, stay_dropped, stay_ref, walk_of, Goes-dropped, Goes-ref, proved_at, leaves, named, vstruct, sem, sep}
use Rattle.std.specs.Prelude.{ℕ}
use mathlib.Core.Option.{some}
use seplogic.Ra.Ura.{Ura}
use mir.Syntax.{Fn, Ty, Sym, Tys, Callee, ty_struct, ty_int, ty_ref, mut, local, value_local, place, deref, field, copy, rv_opd, assign, seq, return}
use mir.Val.{Vals}
use mir.Fields.{get_v}
use borrow.Table.OneValue.{One}
use contract.Running.{Running}
use denote.Builtin.{RefMutOf}
use denote.Param.{layout}
use denote.RattleType.{RattleType}
use denote.Triple.Clauses.{Ended, Clauses, closing}
use denote.Triple.Spec.{Meets}
use prog.Memory.{field_at}
use prog.Model.{Model}
use prog.Wp.{Closed}
use types.Logic.{Logic}
use Rattle.itree_c.proofs.HandleLemmas.{held_out, held_in, owns}

-- the code: field i of what the handle leads to is written, and field j is the answer
abbrev pub read_code : Ty → ℕ → ℕ → Fn
read_code τ i j = record {
  lifetimes = 1;
  outlives = [];
  ty_params = [];
  givens = 0;
  params = 2;
  locals = local (ty_int w64) value_local ∷ local ty_ptr value_local ∷ local (ty_ref (named 0) mut ty_ptr) value_local ∷ local ty_ptr value_local ∷ local ty_ptr value_local ∷ [];
  body = seq (assign (place 3 []) (rv_opd (copy (place 1 []))))
      (seq (assign (place 4 []) (rv_opd (copy (place 3 (deref τ ∷ field i ∷ [])))))
      (seq (assign (place 2 (deref ty_ptr ∷ [])) (rv_opd (copy (place 4 []))))
      (seq (assign (place 0 []) (rv_opd (copy (place 3 (deref τ ∷ field j ∷ []))))) return)));
}

-- what is handed over, and what comes back
abbrev pub read_ended : Ended
read_ended = record {
  signature = record { lifetimes = 1; outlives = []; params = plain (λ κs. RawPtr) ∷ RefMutOf (0 ∷ []) tt (plain (λ κs. RawPtr)) (λ κs. tt) ∷ []; result = plain (λ κs. usize) };
  kept = (yes, (yes, tt));
}

module _ {M : Type 1} {𝓤 : Ura M} (𝓛 : Logic 𝓤) (held : RattleType) (size : held.Denot → ℕ) (start : held.Denot → Ptr) where
  -- the handle owns what it leads to, before and behind the call, which answers how long the list is, and writes where it begins
  abbrev pub read_clauses : Clauses 𝓤 read_ended
  read_clauses = λ κs a. record {
    ghost = held.Denot;
    requires = λ x. sem 𝓛 (owns held a.0 (Some x));
    ensures = λ x result end. sep 𝓤 (sem 𝓛 (owns held a.0 (Some x))) (fact 𝓤 ((result ≡ size x) × (end.1.0.now ≡ start x)));
  }

  -- A call of this code meets the clauses, where its two fields are the list's.
  pub reads : (𝓜 : Model 𝓤 𝓛.H) (𝓡 : Running 𝓤 𝓛.H 𝓜) → One held → (word_of : held.Denot → Val) → ((x : held.Denot) (vs : List Val) → Is held x vs → vs ≡ word_of x ∷ [])
      → (i j : ℕ) {ν : Sym} {τs : Tys} {ws : held.Denot → Vals} → layout held ≡ ty_struct ν τs → ((x : held.Denot) → word_of x ≡ vstruct (ws x))
      → {d d' : ℕ} → field_at 0 τs i ≡ some (ty_ptr, d) → field_at 0 τs j ≡ some (ty_int w64, d')
      → (first : held.Denot → Ptr) (count : held.Denot → ℕ) → ((x : held.Denot) → get_v (ws x) i ≡ ptr_val (first x)) → ((x : held.Denot) → get_v (ws x) j ≡ vint w64 (count x))
      → ((x : held.Denot) → WT (word_of x) → WT (vint w64 (count x))) → ((x : held.Denot) → (count x ≡ size x) × (first x ≡ start x))
      → (k : Callee) → Closed 𝓤 𝓛.H (tables 𝓤 𝓛.H 𝓜 𝓡 𝓡.env).C (tables 𝓤 𝓛.H 𝓜 𝓡 𝓡.env).Λ k (read_code (ty_struct ν τs) i j)
      → Meets 𝓛 read_ended.signature ((tables 𝓤 𝓛.H 𝓜 𝓡 𝓡.env).C k) (closing 𝓛 read_ended read_clauses)
  reads 𝓜 𝓡 one word_of is_word i j {ν} {τs} {ws} is_struct is_fields e e' first count is_first is_count fits told k closed =
      let H = 𝓛.H in let 𝓣 = tables 𝓤 H 𝓜 𝓡 𝓡.env in let fn = read_code (ty_struct ν τs) i j in let ended = read_ended in let c = read_clauses in
      let hs : Stays ended.signature.params ended.kept = (stay_dropped (plain (λ _. RawPtr)) yes, (stay_ref (0 ∷ []) tt (plain (λ _. RawPtr)), tt)) in
      proved_at 𝓛 ended hs c 𝓜 𝓡 (Goes-dropped 𝓛 1 (plain (λ _. RawPtr)) yes (λ κs x f. refl), (Goes-ref 𝓛 1 0 tt (plain (λ _. RawPtr)), tt)) k fn closed (λ z are.
      let κ = z.0.0.0 in let q = z.0.1.0 in let p : Ptr = z.0.3.0 in let m = z.0.3.1.0 in let x = z.1 in
      let mb = m.ref_ptr.0 in let mo = m.ref_ptr.1 in
      let Post : Val → SProp 𝓤 = (walk_of 𝓛 ended hs c).post z in let Run : List Val → SProp 𝓤 = λ ws.
      WpFn 𝓤 H 𝓣.C 𝓣.Λ fn ws Post in
      qed 𝓛 (((‵ (flft κ q) ⊛ ‵ ftrue) ⊛ ‵ (owned_all (types_at ended.signature.params z.0.0) z.0.3 z.0.4)) ∷ raw ((c z.0.0
      z.0.3).requires z.1) ∷ []) ∵ split ! $ move ! (1 ∷ []) $ fsplit ! $
      feq_l ! (λ ep. fsplit ! $ move ! (3 ∷ []) $ use1 𝓛 (‵ (owns held p (Some x))) (id⊢ 𝓤 _) $
      held_out held ! one word_of is_word p x (λ b o at good.
      -- [what is held, in its memory; what it owns; the right to free it; the reference; nothing; the token of κ]
      rewrite ! 0 (λ (τ : Ty). ‵ (fat full_share τ b o (word_of x))) is_struct refl $ rewrite ! 0 (λ (w : Val). ‵ (fat full_share (ty_struct ν τs) b o w)) (is_fields x) refl $
      let us : List Val = vptr b o ∷ vptr mb mo ∷ [] in let vp : Val = get_v (ws x) i in let vn : Val = get_v (ws x) j in
      let gp : T (has_ty ty_ptr vp) × WT vp = subst (λ (v : Val). T (has_ty ty_ptr v) × WT v) (sym (is_first x)) ((rawptr_Lawful 𝓛).typed (first x) _ refl).0 in
      let gn : T (has_ty (ty_int w64) vn) × WT vn = subst (λ (v : Val). T (has_ty (ty_int w64) v) × WT v) (sym (is_count x)) (tt, fits x good.1) in
      suffices ! (Run us) (subst (λ (vs : List Val). ent 𝓤 (Run us) (Run vs)) (sym (λ l. (ep ∙ ap (λ (at : Ptr).
      ptr_val at ∷ []) at) l ++ (are.1.0.0 l ++ []))) (id⊢ 𝓤 (Run us))) $
      enter ! 𝓣.C 𝓣.Λ fn us Post $ alloc_all ! (λ l. pass_all ! refl ((tt, tt), ((tt, tt), tt)) $
      sets ! (of_opd ! (get ! refl)) refl (tt, tt) $
      move ! (3 ∷ []) $ fsplit3 ! $ move ! (7 ∷ []) $ split ! $ move ! (3 ∷ 4 ∷ 0 ∷ []) $
      opens ! tt RawPtr mb mo (λ ms. move ! (1 ∷ []) $ feq_l ! (λ em. rewrite ! 0 (λ (ws : List Val).
      ‵ (cell_at full_share RawPtr.mir ws mb mo)) em refl $
      -- [what is written; the open reference, in three; nothing; its first part; the machine value; what it owns; the
      -- right to free it; nothing]
      sets ! (of_opd ! (load ! (through ! refl (fld ! e (stop !))) (look_in ! 6 (sub ! i e (whole !))))) refl gp $
      assigns ! (of_opd ! (get ! refl)) (through ! refl (stop !)) (store ! 0 refl gp) $
      sets ! (of_opd ! (load ! (through ! refl (fld ! e' (stop !))) (look_in ! 6 (sub ! j e' (whole !))))) refl gn $
      feq_i ! (List Val) (vp ∷ []) (ptr_val (first x) ∷ []) (ap (λ (v : Val). v ∷ []) (is_first x)) $ move ! (1 ∷ 0 ∷ []) $ closes ! tt RawPtr (first x) (vp ∷ []) mb mo $
      returns ! (look_at ! 0 refl) $ free_all ! refl $
      move ! (5 ∷ []) $ rewrite ! 0 (λ (w : Val). ‵ (fat full_share (ty_struct ν τs) b o w)) (sym (is_fields x)) refl $ rewrite ! 0 (λ (τ : Ty). ‵ (fat full_share τ b o (word_of x))) (sym is_struct) refl $
      move ! (0 ∷ 6 ∷ 7 ∷ []) $ held_in held ! one p x (word_of x) b o at $
      -- [what the handle owns; two parts of the reference; the token; nothing; its first part; nothing]
      move ! (5 ∷ 1 ∷ 2 ∷ []) $ fjoin3 ! $ nothing ! $ move ! (1 ∷ 0 ∷ []) $ fjoin ! $ nothing ! $ fjoin ! $
      move ! (2 ∷ 3 ∷ []) $ join ! $
      owned ! usize (Is usize) (uint_Makes 𝓛 w64) (count x) (vn ∷ []) (ap (λ (v : Val). v ∷ []) (is_count x), (fits x good.1).fits) $
      let Told : Type 0 = (count x ≡ size x) × (first x ≡ start x) in
      use0 𝓛 (raw (fact 𝓤 Told)) (fact_i 𝓤 Told (emp 𝓤) (told x)) $ move ! (4 ∷ 0 ∷ []) $
      join ! $
      keep ! (2 ∷ 3 ∷ 1 ∷ 0 ∷ []) $ by ! (leaves 𝓛 ended hs c z vn (count x) (tt, (first x, tt)) (tt, (tt, tt)))))))))
