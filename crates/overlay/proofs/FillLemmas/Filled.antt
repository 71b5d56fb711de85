-- The kept edges wind once around each point that is inside, and around no other.
use Rattle.std.proofs.Common.{◌≡◌, ◌++◌, ℤ, pos, Bool, true, false, cond, List, refl, ap, ap₂, sym, ◌∙◌}
use Rattle.std.specs.Int.{int_div_euclid}
use Rattle.std.specs.List.{Contains}
use Rattle.plane.specs.declared.edge.Edge.{Edge}
use Rattle.plane.specs.Meet.Edges.{RationalPoint}
use Rattle.overlay.specs.declared.fill.pieces.Piece.{Piece}
use Rattle.overlay.specs.declared.fill.rules.FillRule.{FillRule}
use Rattle.overlay.specs.declared.fill.rules.FillRule.TheVariants.{EvenOdd, NonZero, Positive, Negative}
use Rattle.overlay.specs.declared.fill.rules.Operation.{Operation}
use Rattle.overlay.specs.declared.fill.rules.Operation.TheVariants.{Union, Intersection, Difference, Xor}
use Rattle.overlay.specs.Fill.Counts.{Counts, is_over, is_lower_on, kept_edges}
use Rattle.overlay.specs.Fill.Filled.{AreNoded}
use Rattle.overlay.specs.Fill.Pieces.{total, AreJoined, ArePieces}
use Rattle.overlay.specs.Fill.Rules.{is_inside, operate, is_result}
use Rattle.noding.specs.Windings.{winding, IsClosed, count}
use Rattle.overlay.proofs.FillLemmas.Premises.{onwards, meet-pieces}
use Rattle.overlay.proofs.FillLemmas.Stacked.{stacked}
use Rattle.overlay.proofs.FillLemmas.Uncrossed.{uncrossed}
use Rattle.overlay.proofs.FillLemmas.Under.{under_over, lower_under}
use Rattle.overlay.proofs.FillLemmas.Wound.{winding-total, winding-kept}
use Rattle.noding.proofs.SnapLemmas.Rounding.{Floor, floor_is}
use Rattle.noding.proofs.SnapLemmas.Counted.{is_counted}

-- ---- no operation is inside where both are not

-- a point that nothing winds around is inside by no rule
is_inside-none : (rule : FillRule) → is_inside rule (pos 0) ≡ false
is_inside-none EvenOdd = refl
is_inside-none NonZero = refl
is_inside-none Positive = refl
is_inside-none Negative = refl

operate-none : (operation : Operation) → operate operation false false ≡ false
operate-none Union = refl
operate-none Intersection = refl
operate-none Difference = refl
operate-none Xor = refl

pub is_result-none : (rule : FillRule) (operation : Operation) → is_result rule operation (pos 0) (pos 0) ≡ false
is_result-none rule operation = ap (λ a. operate operation a a) (is_inside-none rule) ∙ operate-none operation

-- ---- the pieces under a point are low on the stretch that it is over

module _ (subject clip : List Edge) (closed : IsClosed subject) (clip_closed : IsClosed clip) (noded : AreNoded (subject ++ clip)) (pieces : List Piece) (are : ArePieces subject clip pieces) (point : RationalPoint) where
  -- the whole x at which the stretch starts
  abbrev x_of : ℤ
  x_of = int_div_euclid point.x (pos point.n)

  floor : Floor point.n point.x x_of
  floor = floor_is point.n point.x point.positive

  abbrev under : Piece → Bool
  under piece = is_counted piece.edge point

  over : (p : Piece) → Contains pieces p → under p ≡ true → is_over x_of p.edge ≡ true
  over p among is_here = under_over point x_of floor p.edge is_here

  down : (p q : Piece) → Contains pieces p → Contains pieces q → is_over x_of p.edge ≡ true → under q ≡ true → is_lower_on x_of p.edge q.edge ≡ true → under p ≡ true
  down p q first second is_over_too is_here less =
      lower_under point x_of floor p.edge q.edge (onwards subject clip noded pieces are p first) (onwards subject clip noded pieces are q second)
      (uncrossed p.edge q.edge (meet-pieces subject clip noded pieces are p q first second)) is_over_too is_here less

  -- edges wind around the point as their pieces under the point weigh
  wound : (edges : List Edge) (weigh : Piece → ℤ) → AreJoined edges weigh pieces → winding edges point ≡ total (λ piece. cond (under piece) (weigh piece) (pos 0)) pieces
  wound edges weigh joined = winding-total edges point ∙ joined (λ edge. is_counted edge point)

  -- The kept edges wind around the point once if it is inside, else not at all.
  pub filled : (inside : Counts → Bool) → inside (record { subject = pos 0; clip = pos 0 }) ≡ false
      → winding (kept_edges inside subject clip pieces) point ≡ count (inside (record { subject = winding subject point; clip = winding clip point }))
  filled inside outside =
      winding-kept inside subject clip point pieces are.onwards
      ∙ stacked subject clip closed clip_closed noded pieces are x_of under over down inside outside
      ∙ sym (ap₂ (λ a b. count (inside (record { subject = a; clip = b }))) (wound subject (λ piece. piece.subject) are.joined) (wound clip (λ piece. piece.clip) are.clip_joined))
