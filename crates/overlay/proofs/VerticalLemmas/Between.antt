-- The vertical edges between next ends, one after another.
use Rattle.std.proofs.Common.{◌≡◌, ◌++◌, ◌∷◌, [], ◌+ℤ◌, ℤ, List, Option, Some, None, sym, ap, ◌∙◌, append_assoc}
use Rattle.std.specs.Option.{option_to_list}
use Rattle.plane.specs.declared.edge.Edge.{Edge}
use Rattle.overlay.specs.Fill.Verticals.{vertical_between, verticals_between}
use Rattle.overlay.specs.declared.fill.verticals.End.{End}

module _ (edges all : List Edge) (sum next : ℤ) (last end : End) (ends : List End) (added : next ≡ (sum +ℤ end.change)) (before : edges ++ verticals_between sum last (end ∷ ends) ≡ all) where
  -- one more edge is there
  pub between-more : (edge : Edge) → vertical_between sum last end ≡ Some edge → (edges ++ edge ∷ []) ++ verticals_between next end ends ≡ all
  between-more edge is =
      ap (λ z. (edges ++ edge ∷ []) ++ verticals_between z end ends) added
      ∙ append_assoc edges (edge ∷ []) (verticals_between (sum +ℤ end.change) end ends)
      ∙ ap (λ (one : Option Edge). edges ++ (option_to_list one ++ verticals_between (sum +ℤ end.change) end ends)) (sym is)
      ∙ before

  -- or none
  pub between-none : vertical_between sum last end ≡ None → edges ++ verticals_between next end ends ≡ all
  between-none is =
      ap (λ z. edges ++ verticals_between z end ends) added
      ∙ ap (λ (one : Option Edge). edges ++ (option_to_list one ++ verticals_between (sum +ℤ end.change) end ends)) (sym is)
      ∙ before
