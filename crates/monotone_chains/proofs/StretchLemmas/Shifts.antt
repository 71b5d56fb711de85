-- The point that stands for a point where long stretches are replaced by their chords.
use Rattle.std.proofs.Common.{◌≡◌, ◌⊎◌, inl, inr, ⊎_elim, ◌<◌, List, [], ◌∷◌, length, reverse, arith, refl, subst}
use Rattle.std.specs.List.{All, AllPairs, Contains}
use Rattle.std.proofs.lemmas.Bool.{cases_lt}
use Rattle.std.proofs.lemmas.Int.{by_lt_z, ints}
use Rattle.std.proofs.lemmas.List.{length-reverse}
use Rattle.std.proofs.lemmas.List.Elements.{All-cons, All-contains, All-nil}
use Rattle.i_tree.proofs.RootLemmas.Lists.{Contains-here, Contains-there}
use Rattle.plane.specs.declared.edge.Edge.{Edge}
use Rattle.plane.specs.declared.point.Point.{Point}
use Rattle.plane.specs.Meet.Edges.{RationalPoint}
use Rattle.noding.specs.Windings.{pieces, winding}
use Rattle.monotone_chains.specs.Stretches.{AreClear, IsLong, IsStretch, Rises, chord}
use Rattle.monotone_chains.proofs.StretchLemmas.Aside.{edge-aside, points-aside}
use Rattle.monotone_chains.proofs.StretchLemmas.Boxes.{ClearIfLong, clear-any, long-ways}
use Rattle.monotone_chains.proofs.StretchLemmas.Columns.{AreAside, IsMoved, rising-aside, winding-aside}
use Rattle.monotone_chains.proofs.StretchLemmas.Lowered.{IsShiftOf, moved-itself, shift-rising}
use Rattle.monotone_chains.proofs.StretchLemmas.Placed.{LiesIn}
use Rattle.monotone_chains.proofs.StretchLemmas.Reverse.{Contains-reversed, Rises-reverse}
use Rattle.monotone_chains.proofs.StretchLemmas.Turned.{turned-back}

-- A stretch counts for the one point what its chord counts for the other.
abbrev pub Matches : List Point → RationalPoint → RationalPoint → Type 0
Matches points point other = winding (pieces points) point ≡ winding (chord points ∷ []) other

-- The other point stands in the point's column. For it the chord of each long stretch counts what the stretch counts for the point,
-- and what lies along a stretch of a single edge counts the same for both.
pub record IsShift (all : List (List Point)) (point other : RationalPoint) : Type 0 where
  pub moved : IsMoved point other
  pub long : (s : List Point) → Contains all s → IsLong s → Matches s point other
  pub short : (edge : Edge) (t : List Point) → Contains all t → ¬ (IsLong t) → LiesIn t edge → winding (edge ∷ []) point ≡ winding (edge ∷ []) other

-- ---- an element that passes, or none

find_or : {X : Type 0} (P Q : X → Type 0) → ((x : X) → P x ⊎ Q x) → (xs : List X) → ((x : X) × Contains xs x × P x) ⊎ All Q xs
find_or P Q decide [] = inr (All-nil Q)
find_or P Q decide (x ∷ xs) =
    ⊎_elim (λ here. inl (x, Contains-here x xs, here))
    (λ not_here. ⊎_elim (λ (y, held, there). inl (y, Contains-there x xs y held, there)) (λ none. inr (All-cons Q x xs not_here none)) (find_or P Q decide xs))
    (decide x)

-- ---- a long stretch in the order along which x rises

record InOrder (s : List Point) : Type 0 where
  points : List Point
  rises : Rises points
  some : 0 < length points
  of : (p : Point) → Contains points p → Contains s p
  matches : (point other : RationalPoint) → Matches points point other → Matches s point other

in_order : (s : List Point) → IsStretch s → IsLong s → InOrder s
in_order s is long = ⊎_elim
    (λ rises. record {
      points = s;
      rises = rises;
      some = omega (arith, long);
      of = λ p held. held;
      matches = λ point other same. same;
    })
    (λ falls. record {
      points = reverse s;
      rises = Rises-reverse s falls;
      some = (let same = length-reverse s in omega (arith, same, long));
      of = λ p held. Contains-reversed s p held;
      matches = λ point other same. turned-back s point other (omega (arith, long)) same;
    })
    (long-ways s is long)

-- ---- all stretches

module _ (all : List (List Point)) (each : All IsStretch all) (clear : AllPairs ClearIfLong all) (point : RationalPoint) where
  is_stretch : (s : List Point) → Contains all s → IsStretch s
  is_stretch s among = All-contains IsStretch all s each among

  -- where all match, the point stands for itself
  itself : All (λ s. IsLong s → Matches s point point) all → IsShift all point point
  itself match = record {
    moved = moved-itself point;
    long = λ s among long. All-contains (λ (t : List Point). IsLong t → Matches t point point) all s match among long;
    short = λ edge t among short lies. refl;
  }

  module _ (s : List Point) (among : Contains all s) (long : IsLong s) (r : InOrder s) (other : RationalPoint) (shift : IsShiftOf r.points point other) where
    clear_of : (t : List Point) → Contains all t → (s ≡ t) ⊎ AreClear s t
    clear_of t among_too = ⊎_elim inl (λ if_long. inr (if_long (inl long))) (clear-any all clear s t among among_too)

    others : (t : List Point) → Contains all t → IsLong t → AreClear s t → Matches t point other
    others t among_too long_too apart =
        let order = in_order t (is_stretch t among_too) long_too in
        order.matches point other (rising-aside order.points order.rises point other shift.moved order.some (narrower order (points-aside s r.points r.of r.some point other shift t apart)))
      where
        narrower : (order : InOrder t) → AreAside t point other → AreAside order.points point other
        narrower order (inl (inl left)) = inl (inl (λ q held. left q (order.of q held)))
        narrower order (inl (inr right)) = inl (inr (λ q held. right q (order.of q held)))
        narrower order (inr told) = inr (record {
          u = told.u;
          v = told.v;
          k = told.k;
          beyond = λ q held. told.beyond q (order.of q held);
          at_point = told.at_point;
          at_other = told.at_other;
        })

    shifted : IsShift all point other
    shifted = record {
      moved = shift.moved;
      long = λ t among_too long_too. ⊎_elim (λ same. subst (λ (u : List Point). Matches u point other) same (r.matches point other shift.same)) (others t among_too long_too) (clear_of t among_too);
      short = λ edge t among_too short lies. winding-aside point other shift.moved edge
          (⊎_elim (λ same. absurd (short (subst IsLong same long))) (λ apart. edge-aside s r.points r.of r.some point other shift t (is_stretch t among_too) apart edge lies) (clear_of t among_too));
    }

  abbrev Differs : List Point → Type 0
  Differs s = IsLong s × (¬ (Matches s point point))

  decide : (s : List Point) → Differs s ⊎ (IsLong s → Matches s point point)
  decide s = ⊎_elim
      (λ long. by_lt_z (winding (pieces s) point) (winding (chord s ∷ []) point)
      (λ less. inl (long, λ same. omega (arith, ints, less, same)))
      (λ from. by_lt_z (winding (chord s ∷ []) point) (winding (pieces s) point)
      (λ more. inl (long, λ same. omega (arith, ints, more, same)))
      (λ upto. inr (λ _. omega (arith, ints, from, upto)))))
      (λ short. inr (λ long. absurd (omega (arith, short, long))))
      (cases_lt 2 (length s))

  -- each point has one that stands for it
  pub shift-of : (other : RationalPoint) × IsShift all point other
  shift-of = ⊎_elim found (λ match. (point, itself match)) (find_or Differs (λ s. IsLong s → Matches s point point) decide all)
    where
      found : (s : List Point) × Contains all s × Differs s → (other : RationalPoint) × IsShift all point other
      found (s, among, (long, differ)) =
          let r = in_order s (is_stretch s among) long in
          let (other, shift) = shift-rising r.points r.rises r.some point (λ same. differ (r.matches point point same)) in
          (other, shifted s among long r other shift)
