-- More edges: what is hot among some of them, or moves or is moved, is so among all.
use Rattle.std.proofs.Common.{inl, inr, suc, zero, List, ℕ, ℤ}
use Rattle.std.specs.List.{Contains}
use Rattle.plane.specs.declared.edge.Edge.{Edge}
use Rattle.noding.specs.Chains.{IsHot}
use Rattle.noding.specs.Local.{IsMoved, MovesInRound}

module _ (some all : List Edge) (among : (edge : Edge) → Contains some edge → Contains all edge) where
  pub IsHot-more : (x y : ℤ) → IsHot some x y → IsHot all x y
  IsHot-more x y (inl (edge, held, end)) = inl (edge, among edge held, end)
  IsHot-more x y (inr (one, other, first, second, cross)) = inr (one, other, among one first, among other second, cross)

  moves-more : (round : ℕ) (x y : ℤ) → MovesInRound some round x y → MovesInRound all round x y
  moves-more zero x y (one, other, first, second, cross) = (one, other, among one first, among other second, cross)
  moves-more (suc round) x y (hot, (edge, held, passes, (a, b, moves, passes_there, beside))) =
      (IsHot-more x y hot, (edge, among edge held, passes, (a, b, moves-more round a b moves, passes_there, beside)))

  pub IsMoved-more : (edge : Edge) → IsMoved some edge → IsMoved all edge
  IsMoved-more edge (x, y, (round, moves), passes, beside) = (x, y, (round, moves-more round x y moves), passes, beside)
