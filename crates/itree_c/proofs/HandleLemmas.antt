-- What the calls share that have to do with a handle: the status and the parts of a box that a private call answers, and
-- what the box owns, which the handle leads to.
--
-- A handle of another kind takes:
--   a type as `Pairs`, and in `specs` what a handle of it owns, as `owns_pairs`, and what its call answers, as
--   `AnswersAll`;
--   a private call that answers `(i32, Raw<Kind, Global>)`, as `all_meetings`: it is proved as ever;
--   an export with the clause `made`, as `itree_meetings_all`, and a proof over the row of the kind: `makes` (HandleMade)
--   where the private call takes one list, `makes_by` (HandleMadeBy) where it takes two structs of points and of where
--   these stop, and two numbers, `makes_beside` (HandleMadeBeside) where it takes one such struct, a list of points and a
--   number, `makes_three` (HandleMadeBesideThree) where it takes three numbers beside these, and `makes_of` (HandleMadeOf)
--   where it takes none. Another export has a walk of its own, as `itree_meetings_between`: behind the private call
--   `parts_out` takes the answer apart, and at the end `made_in` makes the clause of what is owned;
--   `reads` (HandleReads) for each list that is read of it, and `frees` (HandleFrees) for what frees it. `held_out` opens
--   what the handle owns, and `held_in` closes it.
-- The walks take the names of the toolchain's logic from `Steps`.
use Rattle.std.proofs.Common.{◌≡◌, ℕ, ℤ, List, [], ◌∷◌, ◌++◌, refl, sym, ap, ◌∙◌, Bool, true, false, ◌&&◌, w32, Option, Some}
use lib.Dec.{T}
use seplogic.Ra.Ura.{Ura}
use mir.Raw.{raw as bare}
use mir.Syntax.{impl, tnil, dnil, ty_ptr}
use mir.Val.{Val, vint, vptr, vstruct, vcons, vnil, of_list, of_z, has_ty, WT}
use base.Fml.{Fml, fat}
use base.Fraction.{full_share}
use base.Logic.{emp, sep, ex, ex_i, never, fst∗, id⊢}
use borrow.Table.OneValue.{One, part_in, part_out}
use types.Logic.{Logic, sem}
use types.Kit.{Goal, Item, Seq, Step, step, ‵, raw, some, ◌⊛◌, ◌$◌, drop, move, pick, split, feq_i, fjoin, fpack, fsplit, fsplit3, fpick, feq_l, join, use0, use1, use2, rewrite}
use types.Run.{well_typed}
use contract.Monad.{fact, fact_i}
use denote.Builtin.{i32}
use denote.Laws.{Is, shows}
use denote.Memory.{lone, part_at}
use denote.Param.{layout}
use denote.RattleType.{RattleType, Valss}
use denote.RawPtr.{Ptr, RawPtr, block_ptr, null_ptr, in_a_block, ptr_val, rawptr_Lawful}
use denote.Signed.{sint_Lawful}
use denote.Steps.{nothing, only, peeks}
use denote.Struct.Owning.{shape}
use denote.Struct.Struct.{within}
use denote.Struct.Tuple.{Tuple}
use Rattle.std.proofs.ResultValues.{and_tt}
use Rattle.std.proofs.alloc.Calls.{Al, handle_tells}
use Rattle.std.proofs.alloc.Global.TheLaws as heap_laws
use Rattle.std.specs.contracts.alloc.Global as heap
use Rattle.std.specs.contracts.impls.GlobalAllocator.TheImpl.{ghosts}
use Rattle.itree_c.specs.Raw.{owns_at}
use Rattle.itree_c.specs.contracts.raw.Raw as parts

-- the process's allocator
abbrev pub Z : RattleType
Z = heap.the_row

abbrev pub al : Al
al = record { row = Z; laws = heap_laws.the_row_laws; g = ghosts; d = impl [] tnil dnil; drops = impl [] tnil dnil }

-- the parts of a box in a block, by what the machine has of the allocator
abbrev pub parts_word : Val → ℕ → ℕ → Val
parts_word h b o = vstruct (vcons (vptr b o) (vcons h vnil))

pub both_tt : (x y : Bool) → T x → T y → T (x && (y && true))
both_tt true true s t = tt
both_tt true false s t = absurd t
both_tt false y s t = absurd s

module _ (held : RattleType) where
  -- the parts of a box of such a value
  abbrev pub R : RattleType
  R = parts.the_row held Z ghosts

  -- and a status before them
  abbrev pub Two : RattleType
  Two = Tuple (i32 ∷ R ∷ [])

  -- what lies at the pointer, with the right to free it, or that it is null
  abbrev pub owns : Ptr → Option held.Denot → Fml
  owns = owns_at (ghosts.dealloc_token (record { memory = record { seal = tt } })) held

  abbrev pub right_to_free : Ptr → Fml
  right_to_free = ghosts.dealloc_token (record { memory = record { seal = tt } }) (bare (lone held.mir))

  -- the answer as the machine has it, by what it has of the allocator
  abbrev pub status_word : ℤ → Val
  status_word status = vint w32 (of_z w32 status)

  abbrev pub word : ℤ × R.Denot → Val → Val
  word r h = vstruct (vcons (status_word r.0) (vcons (vstruct (vcons (ptr_val r.1.at) (vcons h vnil))) vnil))

  -- the value is this answer, and it and its parts are of their types
  pub record IsWord (r : ℤ × R.Denot) (v : Val) : Type 0 where
    pub h : Val
    pub is : v ≡ word r h
    pub good : T (has_ty (layout Two) (word r h)) × WT (word r h)
    pub status : T (has_ty (layout i32) (status_word r.0)) × WT (status_word r.0)
    pub at : T (has_ty ty_ptr (ptr_val r.1.at)) × WT (ptr_val r.1.at)

module _ (held : RattleType) {M : Type 1} {𝓤 : Ura M} {𝓛 : Logic 𝓤} {K : Type 0} {Γ : List (Item 𝓤)} {G : Goal 𝓤 𝓛.H} where
  -- An answer is [what the box owns; the status].
  pub parts_out : K → (r : ℤ × (R held).Denot) (v : Val)
      → (IsWord held r v → Seq K 𝓛 (‵ (owns held r.1.at r.1.value) ∷ ‵ (i32.own_val r.0 (status_word held r.0 ∷ [])) ∷ Γ) G)
      → Seq K 𝓛 (‵ ((Two held).own_val r (v ∷ [])) ∷ Γ) G
  parts_out t r v k =
      fpick t (λ vss. fsplit t $ feq_l t (λ ev. fsplit3 t $ peeks t i32 (Is i32) (shows 𝓛 i32) r.0 vss.0 (λ is.
      rewrite t 0 (λ (ws : List Val). ‵ (i32.own_val r.0 ws)) is.0 refl $ move t (1 ∷ []) $
      fsplit t $ fpick t (λ uss. fsplit t $ feq_l t (λ ew. fsplit t $ feq_l t (λ ep. fsplit t $
      handle_tells al t r.1.alloc uss.1.0 (λ h eh fits.
      let p : Ptr = r.1.at in let vp : Val = ptr_val p in let w : Val = vstruct (vcons vp (vcons h vnil)) in
      let at : T (has_ty ty_ptr vp) × WT vp = ((rawptr_Lawful 𝓛).typed p _ refl).0 in
      let status = ((sint_Lawful 𝓛 w32).typed r.0 _ (refl, is.1)).0 in
      let good : T (has_ty (layout (R held)) w) × WT w = (both_tt (has_ty ty_ptr vp) (has_ty (layout Z) h) at.0 fits.0, (at.1, (fits.1, tt))) in
      let both : T (has_ty (layout (Two held)) (word held r h)) × WT (word held r h) = (and_tt _ good.0, (status.1, (good.1, tt))) in
      let is_parts : vss.1.0 ≡ w ∷ [] = ew ∙ (λ j. vstruct (of_list (ep j ++ (eh j ++ []))) ∷ []) in
      let is_word : v ≡ word held r h = ap only (ev ∙ (λ j. vstruct (of_list (is.0 j ++ (is_parts j ++ []))) ∷ [])) in
      -- [the handle; nothing; what it owns; the status; nothing]
      drop t $ drop t $ move t (2 ∷ []) $ drop t $
      k (record { h = h; is = is_word; good = both; status = status; at = at }))))))))

  -- What a handle owns is [the memory with the value in it; what the value owns; the right to free it]. The value's machine
  -- value is told by the row's laws (`lowered`, and `val_is` of `lowers`).
  pub held_out : K → One held → (word_of : held.Denot → Val) → ((x : held.Denot) (vs : List Val) → Is held x vs → vs ≡ word_of x ∷ []) → (p : Ptr) (x : held.Denot)
      → ((b o : ℕ) → p ≡ block_ptr b o → T (has_ty (layout held) (word_of x)) × WT (word_of x) → Seq K 𝓛 (‵ (fat full_share (layout held) b o (word_of x)) ∷ ‵ (held.own_val x (word_of x ∷ [])) ∷ ‵ (right_to_free held (block_ptr b o)) ∷ Γ) G)
      → Seq K 𝓛 (‵ (owns held p (Some x)) ∷ Γ) G
  held_out t one word_of is_word p x k =
      in_a_block t p (λ at. owns held at (Some x)) (fst∗ 𝓤 (never 𝓤) (sem 𝓛 (right_to_free held null_ptr))) (λ b o e. fsplit t $
      use1 𝓛 (some (λ (v : Val). ‵ (fat full_share (layout held) b o v) ⊛ ‵ (held.own_val x (v ∷ [])))) (part_out 𝓛 held one full_share x b o) $ pick t (λ v. split t $ move t (1 ∷ []) $
      peeks t held (Is held) (shows 𝓛 held) x (v ∷ []) (λ is.
      let ev : v ≡ word_of x = ap only (is_word x (v ∷ []) is) in
      rewrite t 0 (λ (u : Val). ‵ (held.own_val x (u ∷ []))) ev refl $
      rewrite t 1 (λ (u : Val). ‵ (fat full_share (layout held) b o u)) ev refl $ move t (1 ∷ []) $
      well_typed t (λ good. k b o e good))))

  -- And back.
  pub held_in : K → One held → (p : Ptr) (x : held.Denot) (v : Val) (b o : ℕ) → p ≡ block_ptr b o
      → Step K 𝓛 (‵ (owns held p (Some x)) ∷ Γ) G (‵ (fat full_share (layout held) b o v) ∷ ‵ (held.own_val x (v ∷ [])) ∷ ‵ (right_to_free held (block_ptr b o)) ∷ Γ) G
  held_in t one p x v b o e = step (λ s.
      use2 𝓛 (‵ (part_at held full_share x b o)) (part_in 𝓛 held one full_share x b o v) $ fjoin t $
      use1 𝓛 (‵ (owns held (block_ptr b o) (Some x))) (id⊢ 𝓤 _) $ rewrite t 0 (λ (at : Ptr). ‵ (owns held at (Some x))) (sym e) refl $ s)

  -- What it owns in a block and the allocator are the parts of a box again.
  pub parts_in : K → (a : Z.Denot) (h : Val) (b o : ℕ) (x : held.Denot)
      → Step K 𝓛 (‵ ((R held).own_val (record { at = block_ptr b o; alloc = a; value = Some x }) (parts_word h b o ∷ [])) ∷ Γ) G
      (‵ (Z.own_val a (h ∷ [])) ∷ ‵ (owns held (block_ptr b o) (Some x)) ∷ Γ) G
  parts_in t a h b o x = step (λ s.
      let w : Val = parts_word h b o in
      nothing t $ move t (1 ∷ 0 ∷ []) $ fjoin t $ feq_i t (List Val) (vptr b o ∷ []) (vptr b o ∷ []) refl $ fjoin t $
      feq_i t (List Val) (w ∷ []) (w ∷ []) refl $ fjoin t $
      fpack t (Valss (RawPtr ∷ Z ∷ [])) (within (shape (parts.the_type held Z ghosts)) (block_ptr b o, (a, tt)) (w ∷ [])) (vptr b o ∷ [], (h ∷ [], tt)) $ fjoin t $
      use1 𝓛 (‵ ((R held).own_val (record { at = block_ptr b o; alloc = a; value = Some x }) (w ∷ []))) (id⊢ 𝓤 _) $ s)

  -- What is owned at the end of a call is what its clause says.
  pub made_in : K → (Answers : Option held.Denot → Type 0) (at : Ptr) (value : Option held.Denot) → Answers value
      → Step K 𝓛 (raw (ex 𝓤 (λ (made : Option held.Denot). sep 𝓤 (fact 𝓤 (Answers made)) (sem 𝓛 (owns held at made)))) ∷ Γ) G (‵ (owns held at value) ∷ Γ) G
  made_in t Answers at value told = step (λ s.
      use0 𝓛 (raw (fact 𝓤 (Answers value))) (fact_i 𝓤 (Answers value) (emp 𝓤) told) $ join t $
      use1 𝓛 (raw (ex 𝓤 (λ (made : Option held.Denot). sep 𝓤 (fact 𝓤 (Answers made)) (sem 𝓛 (owns held at made)))))
      (ex_i 𝓤 (λ (made : Option held.Denot). sep 𝓤 (fact 𝓤 (Answers made)) (sem 𝓛 (owns held at made))) value) $ s)
