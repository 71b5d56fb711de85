-- Furthest corners of edges along a ring, one after another.
use Rattle.std.proofs.Common.{◌∙◌, ◌≡◌, ◌<◌, ◌+◌, ℕ, ap, get_or, length, List, subst}
use Rattle.plane.specs.declared.edge.Edge.{Edge}
use Rattle.plane.specs.declared.point.Point.{Point}
use Rattle.offset.specs.Near.{IsOfFurthest}
use Rattle.offset.specs.Raw.{nowhere}
use Rattle.offset.specs.Shape.{next_place, sides}
use Rattle.offset.proofs.ShapeLemmas.{next-inside}

-- The place for the next edge is that for the edge of the next number, while there is one.
pub next-turn : (ring corners : List Point) (index next : ℕ) (edge : Edge) (near : ℕ) → next ≡ next_place index (length ring) → edge ≡ get_or (sides ring) next nowhere → IsOfFurthest corners edge near
    → index + 1 < length ring → IsOfFurthest corners (get_or (sides ring) (index + 1) nowhere) near
next-turn ring corners index next edge near is stands found inside =
    subst (λ (e : Edge). IsOfFurthest corners e near) (stands ∙ ap (λ (n : ℕ). get_or (sides ring) n nowhere) (is ∙ next-inside index (length ring) inside)) found
