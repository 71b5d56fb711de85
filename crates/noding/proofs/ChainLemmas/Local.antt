-- Edges that cross at points with fractions, as they are found.
use Rattle.std.proofs.Common.{arith, pos, ◌≡◌, ◌++◌, ◌∷◌, [], ℤ, Bool, true, false, List, Some, refl, sym, subst, ◌∙◌}
use Rattle.std.specs.Bool.{MatchBool}
use Rattle.std.specs.List.{slice_get}
use Rattle.std.proofs.lemmas.Option.{same_Some}
use Rattle.plane.specs.declared.edge.Edge.{Edge}
use Rattle.plane.specs.declared.point.Point.{Point}
use Rattle.noding.specs.declared.crossings.Crossing.{Crossing}
use Rattle.plane.specs.Meet.Kinds.{HasPoint}
use Rattle.plane.proofs.MeetLemmas.Identities.{identity, number, times}
use Rattle.noding.specs.Chains.{CrossAt, IsEnd}
use Rattle.plane.specs.Gains.{GainsThese}
use Rattle.noding.specs.Local.{CrossBeside, IsPointBeside}
use Rattle.noding.proofs.ChainLemmas.Crossings.{end-of_edge}
use Rattle.plane.proofs.GainsLemmas.{gains-none, gains-only}
use Rattle.noding.proofs.SnapLemmas.Crossing.{CrossAt-exchanged, CrossAt-unique}
use Rattle.noding.proofs.SnapLemmas.Rounding.{whole}
use Rattle.noding.proofs.SnapLemmas.Local.{common_whole}

-- what two tests say of both, where the first holds, and where it doesn't
pub both_tested : (test : Bool) (A B : Type 0) → A → MatchBool test B (¬ B) → MatchBool test (A × B) (¬ (A × B))
both_tested true A B first second = (first, second)
both_tested false A B first second = λ both. second both.1

pub first_fails : (test : Bool) (A B : Type 0) → MatchBool test A (¬ A) → test ≡ false → MatchBool test (A × B) (¬ (A × B))
first_fails true A B is same = absurd (cc)
first_fails false A B is same = λ both. is both.0

-- edges that cross at a point that doesn't lie on both cross beside it
pub CrossBeside-of : (one other : Edge) (x y : ℤ) → CrossAt one other x y → ¬ (HasPoint one x y × HasPoint other x y) → CrossBeside one other x y
CrossBeside-of one other x y (slanted, (point, of_one, of_other, rounds)) none =
    (slanted, (point, of_one, of_other, rounds, λ at. none ((point, of_one, at), (point, of_other, at))))

CrossAt-beside : (one other : Edge) (x y : ℤ) → CrossBeside one other x y → CrossAt one other x y
CrossAt-beside one other x y (slanted, (point, of_one, of_other, rounds, beside)) = (slanted, (point, of_one, of_other, rounds))

pub beside_whole : (one other : Edge) (x y : ℤ) → HasPoint one x y → HasPoint other x y → ¬ (CrossBeside one other x y)
beside_whole one other x y on other_on (slanted, (point, of_one, of_other, rounds, beside)) = beside (common_whole one other point x y slanted of_one of_other on other_on)

-- those that cross at one that does cross beside none
pub no_beside-whole : (one other : Edge) (x y : ℤ) → CrossAt one other x y → HasPoint one x y × HasPoint other x y → (point : Point) → ¬ (CrossBeside one other point.x point.y)
no_beside-whole one other x y cross both point found =
    let (same_x, same_y) = CrossAt-unique one other point.x point.y x y (CrossAt-beside one other point.x point.y found) cross in
    beside_whole one other x y both.0 both.1 (subst (λ (a : ℤ). CrossBeside one other a y) same_x (subst (λ (b : ℤ). CrossBeside one other point.x b) same_y found))

module _ (edges : List Edge) (crossing : Crossing) (one other : Edge) (first : slice_get edges crossing.one ≡ Some one) (second : slice_get edges crossing.other ≡ Some other) where
  -- a crossing beside its point
  pub gains-beside : (before after : List Point) → CrossBeside one other crossing.point.x crossing.point.y → after ≡ before ++ crossing.point ∷ [] → GainsThese (IsPointBeside edges crossing) before after
  gains-beside before after cross =
      gains-only (IsPointBeside edges crossing) before after crossing.point (record { one = one; other = other; first = first; second = second; cross = cross; is = refl }) (λ point at. at.is)

  -- one whose point lies on both edges
  pub gains-on_both : (before : List Point) → HasPoint one crossing.point.x crossing.point.y × HasPoint other crossing.point.x crossing.point.y → GainsThese (IsPointBeside edges crossing) before before
  gains-on_both before (on, other_on) =
      gains-none (IsPointBeside edges crossing) before
      (λ point at.
      let one_is : one ≡ at.one = same_Some _ _ (sym first ∙ at.first) in
      let other_is : other ≡ at.other = same_Some _ _ (sym second ∙ at.second) in
      beside_whole at.one at.other crossing.point.x crossing.point.y (subst (λ (e : Edge). HasPoint e crossing.point.x crossing.point.y) one_is on)
      (subst (λ (e : Edge). HasPoint e crossing.point.x crossing.point.y) other_is other_on) at.cross)

-- ---- whichever is named first, and ends

pub CrossBeside-exchanged : (one other : Edge) (x y : ℤ) → CrossBeside one other x y → CrossBeside other one x y
CrossBeside-exchanged one other x y (slanted, (point, of_one, of_other, rounds, beside)) =
    ((CrossAt-exchanged one other x y (slanted, (point, of_one, of_other, rounds))).0, (point, of_other, of_one, rounds, beside))

-- an edge has its ends
pub has_end : (edge : Edge) (x y : ℤ) → IsEnd edge x y → HasPoint edge x y
has_end edge x y end = (whole x y, end-of_edge edge x y end, record { x_is = identity (number x) (times (number (pos 1)) (number x)) (omega arith); y_is = identity (number y) (times (number (pos 1)) (number y)) (omega arith) })
