-- What a group of points gains: by chains that do for all of its points, and by its two halves.
use Rattle.std.proofs.Common.{◌≡◌, ◌↔◌, ◌⊎◌, ℕ, List, ◌++◌, inl, inr, IsTrue, ℤ, sym, ◌∙◌, subst}
use Rattle.std.specs.List.{All}
use Rattle.std.proofs.lemmas.List.Elements.{All-contains, Contains-append_cases, Contains-append_left, Contains-append_right}
use Rattle.i_tree.proofs.RootLemmas.Joined.{AllPairs-across}
use Rattle.plane.specs.declared.edge.Edge.{Edge}
use Rattle.plane.specs.Meet.Edges.{RationalPoint}
use Rattle.plane.specs.Pairs.Points.{Gains}
use Rattle.plane.proofs.PairsLemmas.Points.{Gains-same, Gains-then}
use Rattle.overlay.specs.declared.fill.rules.FillRule.{FillRule}
use Rattle.overlay.specs.Fill.Rules.{is_inside}
use Rattle.noding.specs.Windings.{winding}
use Rattle.layers.specs.declared.around.chains.Chain.{Chain}
use Rattle.layers.specs.declared.around.extents.Extent.{Extent}
use Rattle.layers.specs.declared.around.placed.Placed.{Placed}
use Rattle.layers.specs.declared.points.Border.{Border}
use Rattle.layers.specs.declared.points.Border.TheVariants.{Closed, Open, HalfOpen}
use Rattle.layers.specs.Around.{LiesIn, halved}
use Rattle.layers.specs.Chains.{AreApart, AreSameAround, AreSameIn, IsInExtent, LiesInChains, edges_in}

-- the other way round they are the same too
turned : (point : RationalPoint) (edges others : List Edge) → AreSameAround point edges others → AreSameAround point others edges
turned point edges others same = record { turns = sym same.turns; touches = (same.touches.1, same.touches.0) }

inside_too : (rule : FillRule) (point : RationalPoint) (edges others : List Edge) → AreSameAround point edges others → IsTrue (is_inside rule (winding edges point)) → IsTrue (is_inside rule (winding others point))
inside_too rule point edges others same inside = subst (λ (turns : ℤ). IsTrue (is_inside rule turns)) same.turns inside

-- what lies in a shape with the one edges lies in one with the others
pub LiesIn-same : (rule : FillRule) (border : Border) (point : RationalPoint) (edges others : List Edge) → AreSameAround point edges others → LiesIn rule border point edges → LiesIn rule border point others
LiesIn-same rule Closed point edges others same (inl inside) = inl (inside_too rule point edges others same inside)
LiesIn-same rule Closed point edges others same (inr on) = inr (same.touches.0 on)
LiesIn-same rule Open point edges others same (inside, off) = (inside_too rule point edges others same inside, λ on. off (same.touches.1 on))
LiesIn-same rule HalfOpen point edges others same inside = inside_too rule point edges others same inside

module _ (rule : FillRule) (border : Border) where
  -- by chains that do for a box with all points of the group
  kept_too : (group : List Placed) (extent : Extent) (kept chains : List Chain) → All (λ placed. IsInExtent extent placed.point) group → AreSameIn extent kept chains → (i j : ℕ) → LiesInChains rule border group chains i j ↔ LiesInChains rule border group kept i j
  kept_too group extent kept chains within same i j = (
    λ lies.
        let inside = All-contains (λ (one : Placed). IsInExtent extent one.point) group lies.placed within lies.listed in
        let around = turned (halved lies.placed.point) (edges_in j kept) (edges_in j chains) (same j lies.placed.point inside) in
        record { placed = lies.placed; listed = lies.listed; is = lies.is; lies = LiesIn-same rule border (halved lies.placed.point) (edges_in j chains) (edges_in j kept) around lies.lies },
    λ lies.
        let inside = All-contains (λ (one : Placed). IsInExtent extent one.point) group lies.placed within lies.listed in
        record { placed = lies.placed; listed = lies.listed; is = lies.is; lies = LiesIn-same rule border (halved lies.placed.point) (edges_in j kept) (edges_in j chains) (same j lies.placed.point inside) lies.lies },
  )

  pub Gains-kept : (group : List Placed) (extent : Extent) (kept chains : List Chain) (before after : List (ℕ × ℕ)) → All (λ placed. IsInExtent extent placed.point) group → AreSameIn extent kept chains → Gains (LiesInChains rule border group kept) before after → Gains (LiesInChains rule border group chains) before after
  Gains-kept group extent kept chains before after within same =
      Gains-same (LiesInChains rule border group kept) (LiesInChains rule border group chains) (kept_too group extent kept chains within same) before after

  -- what lies in a shape is of the one half or of the other
  of_halves : (front behind : List Placed) (chains : List Chain) (i j : ℕ) → LiesInChains rule border (front ++ behind) chains i j ↔ (LiesInChains rule border front chains i j ⊎ LiesInChains rule border behind chains i j)
  of_halves front behind chains i j = (
    λ lies. elim (Contains-append_cases front behind lies.placed lies.listed) [
      | inl here ↦ inl (record { placed = lies.placed; listed = here; is = lies.is; lies = lies.lies })
      | inr there ↦ inr (record { placed = lies.placed; listed = there; is = lies.is; lies = lies.lies })
    ],
    λ lies. elim lies [
      | inl here ↦ record { placed = here.placed; listed = Contains-append_left front behind here.placed here.listed; is = here.is; lies = here.lies }
      | inr there ↦ record { placed = there.placed; listed = Contains-append_right front behind there.placed there.listed; is = there.is; lies = there.lies }
    ],
  )

  -- and of one of them alone
  of_one_half : (front behind : List Placed) (chains : List Chain) → AreApart (front ++ behind) → (i j : ℕ) → LiesInChains rule border front chains i j → LiesInChains rule border behind chains i j → ⊥
  of_one_half front behind chains apart i j here there =
      let R : Placed → Placed → Type 0 = λ one later. one.place ≡ later.place → ⊥ in
      let across = AllPairs-across R front behind apart in
      let others = All-contains (λ (one : Placed). All (R one) behind) front here.placed across here.listed in
      All-contains (R here.placed) behind there.placed others there.listed (here.is ∙ sym there.is)

  pub Gains-halves : (front behind : List Placed) (chains : List Chain) (before now after : List (ℕ × ℕ)) → AreApart (front ++ behind) → Gains (LiesInChains rule border front chains) before now → Gains (LiesInChains rule border behind chains) now after → Gains (LiesInChains rule border (front ++ behind) chains) before after
  Gains-halves front behind chains before now after apart =
      Gains-then (LiesInChains rule border front chains) (LiesInChains rule border behind chains) (LiesInChains rule border (front ++ behind) chains)
      (of_one_half front behind chains apart) (of_halves front behind chains) before now after
