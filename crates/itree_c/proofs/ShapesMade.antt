-- Shapes are made of their points and of where their rings and they stop, and groups of places and of where they stop.
use Rattle.itree_c.proofs.Steps.{List, [], ◌∷◌, refl, T, has_ty, WT, w64, vint, layout, Val, vstruct, vcons, vnil, ent, sep, sem, ‵, ◌⊛◌, ◌$◌, ◌∵◌, !, qed, by, move, split, split3, feq_i, fjoin, fpack, nothing, id⊢, Valss, usize, ShrSlice, slice_val, within}
use Rattle.std.specs.Prelude.{ℕ}
use seplogic.Ra.Ura.{Ura}
use denote.Ref.{Bor, NamedLft}
use denote.Struct.Declared.{shape}
use types.Logic.{Logic}
use Rattle.itree_c.proofs.HandleMadeBy.{both, some_lft}
use Rattle.layers.specs.contracts.shapes.Groups as groups
use Rattle.layers.specs.contracts.shapes.Shapes as shapes
use Rattle.plane.specs.contracts.point.Point.{the_row as point_row}
use Rattle.plane.specs.declared.point.Point.{Point}

abbrev pub three : Val → Val → Val → Val
three v w u = vstruct (vcons v (vcons w (vcons u vnil)))

pub shapes_good : (p p' p'' : ℕ × ℕ) (n n' n'' : ℕ) → WT (vint w64 n) → WT (vint w64 n') → WT (vint w64 n'') → T (has_ty (layout (shapes.the_row some_lft)) (three (slice_val p n) (slice_val p' n') (slice_val p'' n''))) × WT (three (slice_val p n) (slice_val p' n') (slice_val p'' n''))
shapes_good p p' p'' n n' n'' f f' f'' = (tt, ((tt, (f, tt)), ((tt, (f', tt)), ((tt, (f'', tt)), tt))))

pub groups_good : (p p' : ℕ × ℕ) (n n' : ℕ) → WT (vint w64 n) → WT (vint w64 n') → T (has_ty (layout (groups.the_row some_lft)) (both (slice_val p n) (slice_val p' n'))) × WT (both (slice_val p n) (slice_val p' n'))
groups_good p p' n n' f f' = (tt, ((tt, (f, tt)), ((tt, (f', tt)), tt)))

module _ {M : Type 1} {𝓤 : Ura M} (𝓛 : Logic 𝓤) (l : NamedLft) where
  pub shapes_packed : (s : Bor (List Point)) (s' s'' : Bor (List ℕ)) (v w u : Val)
      → ent 𝓤 (sep 𝓤 (sem 𝓛 ((ShrSlice l.mir l.lft point_row).own_val s (v ∷ []))) (sep 𝓤 (sem 𝓛 ((ShrSlice l.mir l.lft usize).own_val s' (w ∷ []))) (sem 𝓛 ((ShrSlice l.mir l.lft usize).own_val s'' (u ∷ [])))))
      (sem 𝓛 ((shapes.the_row l).own_val (record { points = s; ring_ends = s'; shape_ends = s'' }) (three v w u ∷ [])))
  shapes_packed s s' s'' v w u =
      let Points = ShrSlice l.mir l.lft point_row in let Ends = ShrSlice l.mir l.lft usize in
      qed 𝓛 ((‵ (Points.own_val s (v ∷ [])) ⊛ ‵ (Ends.own_val s' (w ∷ [])) ⊛ ‵ (Ends.own_val s'' (u ∷ []))) ∷ []) ∵ split3 ! $
      nothing ! $ move ! (3 ∷ 0 ∷ []) $ fjoin ! $ move ! (2 ∷ 0 ∷ []) $ fjoin ! $ move ! (1 ∷ 0 ∷ []) $ fjoin ! $
      feq_i ! (List Val) (three v w u ∷ []) (three v w u ∷ []) refl $ fjoin ! $
      fpack ! (Valss (Points ∷ Ends ∷ Ends ∷ [])) (within (shape (shapes.the_type l)) (s, (s', (s'', tt))) (three v w u ∷ [])) (v ∷ [], (w ∷ [], (u ∷ [], tt))) $ by ! (id⊢ 𝓤 _)

  pub groups_packed : (s s' : Bor (List ℕ)) (v w : Val)
      → ent 𝓤 (sep 𝓤 (sem 𝓛 ((ShrSlice l.mir l.lft usize).own_val s (v ∷ []))) (sem 𝓛 ((ShrSlice l.mir l.lft usize).own_val s' (w ∷ []))))
      (sem 𝓛 ((groups.the_row l).own_val (record { places = s; ends = s' }) (both v w ∷ [])))
  groups_packed s s' v w =
      let Places = ShrSlice l.mir l.lft usize in
      qed 𝓛 ((‵ (Places.own_val s (v ∷ [])) ⊛ ‵ (Places.own_val s' (w ∷ []))) ∷ []) ∵ split ! $
      nothing ! $ move ! (2 ∷ 0 ∷ []) $ fjoin ! $ move ! (1 ∷ 0 ∷ []) $ fjoin ! $
      feq_i ! (List Val) (both v w ∷ []) (both v w ∷ []) refl $ fjoin ! $
      fpack ! (Valss (Places ∷ Places ∷ [])) (within (shape (groups.the_type l)) (s, (s', tt)) (both v w ∷ [])) (v ∷ [], (w ∷ [], tt)) $ by ! (id⊢ 𝓤 _)
