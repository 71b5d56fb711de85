-- How the points of a cropped ring are pushed. For private contracts.
use Rattle.std.specs.Int.{int_max, int_min}
use Rattle.std.specs.Prelude.{◌≤ℤ◌, ◌≡◌, ◌≢◌, ◌↔◌, ◌⊎◌, ◌++◌, ◌∷◌, ℤ, [], List, All, get_or}
use Rattle.plane.specs.declared.point.Point.{Point}
use Rattle.tiles.specs.Window.{AreBeyond}
use Rattle.tiles.specs.declared.window.Window.{Window}

-- The sides of the window stand in order.
pub record HasSides (window : Window) : Type 0 where
  pub across : window.left ≤ℤ window.right
  pub up : window.low ≤ℤ window.high

-- The window reaches as far as the points do: none of its sides lies beyond a line that all points keep to.
pub record IsExtent (extent : Window) (points : List Point) : Type 0 where
  pub left : (z : ℤ) → All (λ point. z ≤ℤ point.x) points ↔ (z ≤ℤ extent.left)
  pub low : (z : ℤ) → All (λ point. z ≤ℤ point.y) points ↔ (z ≤ℤ extent.low)
  pub right : (z : ℤ) → All (λ point. point.x ≤ℤ z) points ↔ (extent.right ≤ℤ z)
  pub high : (z : ℤ) → All (λ point. point.y ≤ℤ z) points ↔ (extent.high ≤ℤ z)

-- The point of the window and its sides that is nearest to the point on both axes.
abbrev pub clamped : Window → Point → Point
clamped window point = record {
  x = int_min (int_max point.x window.left) window.right;
  y = int_min (int_max point.y window.low) window.high;
}

-- What an edge goes to: both of its ends lie beyond one side and are clamped, or it stays as it is.
abbrev pub GoesTo : Window → Point → Point → Point → Point → Type 0
GoesTo window from to start end =
    (AreBeyond window from to × (start ≡ clamped window from) × (end ≡ clamped window to)) ⊎ ((¬ (AreBeyond window from to)) × (start ≡ from) × (end ≡ to))

-- The three points stand on the line along one side of the window.
abbrev pub AreAlongSide : Window → Point → Point → Point → Type 0
AreAlongSide window one other third =
    ((one.x ≡ window.left) × (other.x ≡ window.left) × (third.x ≡ window.left)) ⊎ ((one.x ≡ window.right) × (other.x ≡ window.right) × (third.x ≡ window.right))
    ⊎ ((one.y ≡ window.low) × (other.y ≡ window.low) × (third.y ≡ window.low)) ⊎ ((one.y ≡ window.high) × (other.y ≡ window.high) × (third.y ≡ window.high))

-- So the edge from the first to the last does in the place of those over the second, and doesn't lie beyond a side.
abbrev pub IsBetween : Window → Point → Point → Point → Type 0
IsBetween window one other third = AreAlongSide window one other third × ¬ (AreBeyond window one third)

-- The last point of the chain went, if it stood between two others along a side, or the chain stayed as it was.
abbrev pub IsShortened : Window → Point → List Point → List Point → Type 0
IsShortened window next chain kept =
    (kept ≡ chain) ⊎ ((front : List Point) × (one : Point) × (other : Point) × (chain ≡ front ++ one ∷ other ∷ [])
    × IsBetween window one other next × (kept ≡ front ++ one ∷ []))

-- The point stands behind the chain, or stood there already.
abbrev pub IsPushed : Point → List Point → List Point → Type 0
IsPushed point chain after =
    ((front : List Point) × (chain ≡ front ++ point ∷ []) × (after ≡ chain))
    ⊎ (((front : List Point) (last : Point) → chain ≡ front ++ last ∷ [] → last ≢ point) × (after ≡ chain ++ point ∷ []))

-- The chain goes on to the point.
abbrev pub GoesOn : Window → Point → List Point → List Point → Type 0
GoesOn window point chain after = (kept : List Point) × IsShortened window point chain kept × IsPushed point kept after

-- It goes on over what the edge goes to.
abbrev pub GoesOver : Window → Point → Point → List Point → List Point → Type 0
GoesOver window from to chain after =
    (start : Point) × (end : Point) × (mid : List Point) × GoesTo window from to start end × GoesOn window start chain mid × GoesOn window end mid after

-- What is left of a closed chain: the last point is the first again and goes, or isn't.
abbrev pub IsClosedUp : List Point → List Point → Type 0
IsClosedUp chain ring =
    ((last : Point) × (chain ≡ ring ++ last ∷ []) × ((default : Point) → get_or chain 0 default ≡ last))
    ⊎ (((front : List Point) (last default : Point) → chain ≡ front ++ last ∷ [] → get_or chain 0 default ≢ last) × (ring ≡ chain))
