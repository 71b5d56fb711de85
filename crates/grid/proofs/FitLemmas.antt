-- Grids of one scale after the other.
use Rattle.std.proofs.Common.{◌≡◌, ℕ, ◌<◌, ◌≤◌, sym, subst}
use Rattle.grid.specs.declared.position.Position.{Position}
use Rattle.grid.specs.declared.units.Grid.{Grid}
use Rattle.grid.specs.Fit.{IsFinest, IsGridOfScale, IsMiddle, IsScale, last_place}
use Rattle.grid.specs.Grid.{scale_of}

-- the first scale on which both axes are narrow is the finest
pub first_is_finest : (low high : Position) (scale : ℕ) (grid : Grid) → IsGridOfScale low high scale grid → 52 ≤ scale
    → last_place low.x ≤ scale → last_place low.y ≤ scale → last_place high.x ≤ scale → last_place high.y ≤ scale
    → ((other : ℕ) → other < scale → IsScale low high other → ⊥) → IsFinest low high grid
first_is_finest low high scale grid of normal low_x low_y high_x high_y none =
    let at : scale ≡ scale_of grid = sym of.unit in
    let is : IsScale low high scale = record {
      normal = normal;
      low_x = low_x;
      low_y = low_y;
      high_x = high_x;
      high_y = high_y;
      x = of.narrow_x;
      y = of.narrow_y;
    } in
    record {
      scale = subst (λ (s : ℕ). IsScale low high s) at is;
      finest = subst (λ (s : ℕ). (other : ℕ) → other < s → IsScale low high other → ⊥) at none;
      x = subst (λ (s : ℕ). IsMiddle s low.x high.x grid.x) at of.x;
      y = subst (λ (s : ℕ). IsMiddle s low.y high.y grid.y) at of.y;
    }
