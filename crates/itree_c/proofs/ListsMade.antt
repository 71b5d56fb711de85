-- Rings, and lines, are made of their points and of where they stop.
use Rattle.itree_c.proofs.Steps.{List, [], ◌∷◌, refl, Val, ‵, ◌⊛◌, ◌$◌, ◌∵◌, !, qed, by, move, split, feq_i, fjoin, fpack, nothing, id⊢, Valss, usize, ShrSlice, within}
use Rattle.itree_c.proofs.HandleMadeBy.{Listed, both}
use denote.Struct.Declared.{shape}
use Rattle.layers.specs.contracts.lines.Lines
use Rattle.overlay.specs.contracts.rings.Rings
use Rattle.plane.specs.contracts.point.Point.{the_row as point_row}

abbrev pub rings : Listed
rings = record {
  row = λ l. Rings.the_row l;
  listed = λ l s s'. record { points = s; ends = s' };
  good = λ p p' n n' f f'. (tt, ((tt, (f, tt)), ((tt, (f', tt)), tt)));
  packed = λ {M} {𝓤} 𝓛 l s s' v w.
      let Points = ShrSlice l.mir l.lft point_row in let Ends = ShrSlice l.mir l.lft usize in
      qed 𝓛 ((‵ (Points.own_val s (v ∷ [])) ⊛ ‵ (Ends.own_val s' (w ∷ []))) ∷ []) ∵ split ! $
      nothing ! $ move ! (2 ∷ 0 ∷ []) $ fjoin ! $ move ! (1 ∷ 0 ∷ []) $ fjoin ! $
      feq_i ! (List Val) (both v w ∷ []) (both v w ∷ []) refl $ fjoin ! $
      fpack ! (Valss (Points ∷ Ends ∷ [])) (within (shape (Rings.the_type l)) (s, (s', tt)) (both v w ∷ [])) (v ∷ [], (w ∷ [], tt)) $ by ! (id⊢ 𝓤 _);
}

abbrev pub lines : Listed
lines = record {
  row = λ l. Lines.the_row l;
  listed = λ l s s'. record { points = s; ends = s' };
  good = λ p p' n n' f f'. (tt, ((tt, (f, tt)), ((tt, (f', tt)), tt)));
  packed = λ {M} {𝓤} 𝓛 l s s' v w.
      let Points = ShrSlice l.mir l.lft point_row in let Ends = ShrSlice l.mir l.lft usize in
      qed 𝓛 ((‵ (Points.own_val s (v ∷ [])) ⊛ ‵ (Ends.own_val s' (w ∷ []))) ∷ []) ∵ split ! $
      nothing ! $ move ! (2 ∷ 0 ∷ []) $ fjoin ! $ move ! (1 ∷ 0 ∷ []) $ fjoin ! $
      feq_i ! (List Val) (both v w ∷ []) (both v w ∷ []) refl $ fjoin ! $
      fpack ! (Valss (Points ∷ Ends ∷ [])) (within (shape (Lines.the_type l)) (s, (s', tt)) (both v w ∷ [])) (v ∷ [], (w ∷ [], tt)) $ by ! (id⊢ 𝓤 _);
}
