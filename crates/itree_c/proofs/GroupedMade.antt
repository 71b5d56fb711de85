-- Grouped shapes are made of the shapes and of their groups.
use Rattle.itree_c.proofs.Steps.{List, [], ◌∷◌, refl, T, has_ty, WT, layout, Val, ent, sep, sem, ‵, ◌⊛◌, ◌$◌, ◌∵◌, !, qed, by, move, split, feq_i, fjoin, fpack, nothing, id⊢, Valss, and_tt, within}
use seplogic.Ra.Ura.{Ura}
use denote.Ref.{NamedLft}
use denote.Struct.Declared.{shape}
use types.Logic.{Logic}
use Rattle.itree_c.proofs.HandleLemmas.{both_tt}
use Rattle.itree_c.proofs.HandleMadeBy.{both, some_lft}
use Rattle.layers.specs.contracts.shapes.GroupedShapes as grouped
use Rattle.layers.specs.contracts.shapes.Groups as groups
use Rattle.layers.specs.contracts.shapes.Shapes as shapes
use Rattle.layers.specs.declared.shapes.Groups.{Groups}
use Rattle.layers.specs.declared.shapes.Shapes.{Shapes}

pub grouped_good : (v w : Val) → T (has_ty (layout (shapes.the_row some_lft)) v) × WT v → T (has_ty (layout (groups.the_row some_lft)) w) × WT w → T (has_ty (layout (grouped.the_row some_lft)) (both v w)) × WT (both v w)
grouped_good v w one other = (both_tt _ _ one.0 other.0, (one.1, (other.1, tt)))

module _ {M : Type 1} {𝓤 : Ura M} (𝓛 : Logic 𝓤) (l : NamedLft) where
  pub grouped_packed : (s : Shapes) (g : Groups) (v w : Val)
      → ent 𝓤 (sep 𝓤 (sem 𝓛 ((shapes.the_row l).own_val s (v ∷ []))) (sem 𝓛 ((groups.the_row l).own_val g (w ∷ []))))
      (sem 𝓛 ((grouped.the_row l).own_val (record { shapes = s; groups = g }) (both v w ∷ [])))
  grouped_packed s g v w =
      qed 𝓛 ((‵ ((shapes.the_row l).own_val s (v ∷ [])) ⊛ ‵ ((groups.the_row l).own_val g (w ∷ []))) ∷ []) ∵ split ! $
      nothing ! $ move ! (2 ∷ 0 ∷ []) $ fjoin ! $ move ! (1 ∷ 0 ∷ []) $ fjoin ! $
      feq_i ! (List Val) (both v w ∷ []) (both v w ∷ []) refl $ fjoin ! $
      fpack ! (Valss (shapes.the_row l ∷ groups.the_row l ∷ [])) (within (shape (grouped.the_type l)) ((grouped.the_type l).to (record { shapes = s; groups = g })) (both v w ∷ [])) (v ∷ [], (w ∷ [], tt)) $ by ! (id⊢ 𝓤 _)
