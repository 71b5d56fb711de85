-- The pieces of points along which x rises or falls.
use Rattle.std.proofs.Common.{◌≡◌, ◌≢◌, ◌⊎◌, inl, inr, ⊎_elim, ℕ, zero, suc, ◌<◌, ◌≤◌, ◌≤ℤ◌, ◌<ℤ◌, List, [], ◌∷◌, length, get_or, refl, sym, ap, ◌∙◌, subst, arith}
use Rattle.std.specs.List.{AllPairs, Contains}
use Rattle.std.proofs.lemmas.Bool.{cases_lt}
use Rattle.std.proofs.lemmas.Int.{ints}
use Rattle.std.proofs.lemmas.List.Elements.{Contains-get_or}
use Rattle.plane.specs.declared.edge.Edge.{Edge}
use Rattle.plane.specs.declared.point.Point.{Point}
use Rattle.plane.specs.Meet.Edges.{IsOf, RationalPoint}
use Rattle.overlay.specs.Fill.Filled.{HaveSameEnds}
use Rattle.noding.specs.Meeting.{MeetAtEnds}
use Rattle.plane.specs.Ends.{edge_between, end_of, start_of}
use Rattle.noding.specs.Windings.{pieces}
use Rattle.monotone_chains.specs.Stretches.{Falls, Rises}
use Rattle.noding.proofs.SnapLemmas.Hobby.Ends.{exchange_meet}
use Rattle.monotone_chains.proofs.StretchLemmas.Boxes.{AllPairs-any}
use Rattle.monotone_chains.proofs.StretchLemmas.NodedSides.{AreBeside, beside-meet}

-- ---- the pieces of points

-- a piece goes from the point at its place to the next
pub at-pieces : (points : List Point) (k : ℕ) (p : Point) (d : Edge) → k < length (pieces points) → (suc k < length points) × (get_or (pieces points) k d ≡ edge_between (get_or points k p) (get_or points (suc k) p))
at-pieces [] k p d within = absurd (omega (arith, within))
at-pieces (a ∷ []) k p d within = absurd (omega (arith, within))
at-pieces (a ∷ b ∷ points) zero p d within = (omega arith, refl)
at-pieces (a ∷ b ∷ points) (suc k) p d within = let (inside, is) = at-pieces (b ∷ points) k p d (omega (arith, within)) in (omega (arith, inside), is)

-- its ends are two of them
pub piece-points : (points : List Point) (piece : Edge) → Contains (pieces points) piece → Contains points (start_of piece) × Contains points (end_of piece)
piece-points points piece (k, within, is) =
    let (inside, at) = at-pieces points k (start_of piece) piece within in
    subst (λ (e : Edge). Contains points (start_of e) × Contains points (end_of e)) (sym at ∙ is)
    (Contains-get_or points k (start_of piece) (omega (arith, inside)), Contains-get_or points (suc k) (start_of piece) inside)

-- ---- where x rises or falls

-- the other edge comes behind the one, both rightwards or both leftwards
abbrev pub Follows : Edge → Edge → Type 0
Follows one other = (one.x0 <ℤ one.x1) × (one.x1 ≤ℤ other.x0) × (other.x0 <ℤ other.x1) ⊎ (one.x1 <ℤ one.x0) × (other.x0 ≤ℤ one.x1) × (other.x1 <ℤ other.x0)

follows-beside : (one other : Edge) → Follows one other → AreBeside one other ⊎ AreBeside other one
follows-beside one other (inl (first, next, second)) = inl (one.x1, (omega (arith, ints, first), omega (arith, ints)), (next, omega (arith, ints, next, second)))
follows-beside one other (inr (first, next, second)) = inr (one.x1, (next, omega (arith, ints, next, second)), (omega (arith, ints, first), omega (arith, ints)))

follows-apart : (one other : Edge) → Follows one other → ¬ (HaveSameEnds one other)
follows-apart one other (inl (first, next, second)) (inl same) = let from = ap (λ (e : Edge). e.x0) same in omega (arith, ints, first, next, from)
follows-apart one other (inl (first, next, second)) (inr same) = let from = ap (λ (e : Edge). e.x0) same in omega (arith, ints, first, next, second, from)
follows-apart one other (inr (first, next, second)) (inl same) = let from = ap (λ (e : Edge). e.x0) same in omega (arith, ints, first, next, from)
follows-apart one other (inr (first, next, second)) (inr same) = let from = ap (λ (e : Edge). e.x0) same in omega (arith, ints, first, next, second, from)

module _ (points : List Point) (ways : Rises points ⊎ Falls points) where
  -- no piece is vertical
  pub piece-sloped : (piece : Edge) → Contains (pieces points) piece → piece.x1 ≢ piece.x0
  piece-sloped piece (k, within, is) same =
      let (inside, at) = at-pieces points k (start_of piece) piece within in
      let from = ap (λ (e : Edge). e.x0) (sym is ∙ at) in
      let to = ap (λ (e : Edge). e.x1) (sym is ∙ at) in
      ⊎_elim
      (λ rises. let less = rises k (suc k) (start_of piece) (omega arith) inside in omega (arith, ints, from, to, less, same))
      (λ falls. let less = falls k (suc k) (start_of piece) (omega arith) inside in omega (arith, ints, from, to, less, same))
      ways

  -- a later piece follows an earlier one
  pub follow : AllPairs Follows (pieces points)
  follow k l d before within =
      let (inside, at) = at-pieces points k (start_of d) d (omega (arith, before, within)) in
      let (other_inside, other_at) = at-pieces points l (start_of d) d within in
      subst (λ (e : Edge). Follows e (get_or (pieces points) l d)) (sym at)
      (subst (λ (e : Edge). Follows (edge_between (get_or points k (start_of d)) (get_or points (suc k) (start_of d))) e) (sym other_at)
      (⊎_elim
      (λ rises. inl (rises k (suc k) (start_of d) (omega arith) inside, upto rises (cases_lt (suc k) l) other_inside, rises l (suc l) (start_of d) (omega arith) other_inside))
      (λ falls. inr (falls k (suc k) (start_of d) (omega arith) inside, from falls (cases_lt (suc k) l) other_inside, falls l (suc l) (start_of d) (omega arith) other_inside))
      ways))
    where
      same_place : l ≤ suc k → (get_or points (suc k) (start_of d)).x ≡ (get_or points l (start_of d)).x
      same_place low = let same : suc k ≡ l = omega (arith, before, low) in ap (λ (n : ℕ). (get_or points n (start_of d)).x) same

      upto : Rises points → (suc k < l) ⊎ (l ≤ suc k) → suc l < length points → (get_or points (suc k) (start_of d)).x ≤ℤ (get_or points l (start_of d)).x
      upto rises (inl less) inside = let more = rises (suc k) l (start_of d) less (omega (arith, inside)) in omega (arith, ints, more)
      upto rises (inr low) inside = let same = same_place low in omega (arith, ints, same)

      from : Falls points → (suc k < l) ⊎ (l ≤ suc k) → suc l < length points → (get_or points l (start_of d)).x ≤ℤ (get_or points (suc k) (start_of d)).x
      from falls (inl less) inside = let more = falls (suc k) l (start_of d) less (omega (arith, inside)) in omega (arith, ints, more)
      from falls (inr low) inside = let same = same_place low in omega (arith, ints, same)

  pub way-distinct : AllPairs (λ one other. ¬ (HaveSameEnds one other)) (pieces points)
  way-distinct k l d before within = follows-apart (get_or (pieces points) k d) (get_or (pieces points) l d) (follow k l d before within)

  -- two pieces meet only at common ends, or are one
  pub way-noded : (one other : Edge) (point : RationalPoint) → Contains (pieces points) one → Contains (pieces points) other → IsOf one point → IsOf other point → MeetAtEnds one other point
  way-noded one other point among among_too of of_too = elim (AllPairs-any Either (λ a b either. ⊎_elim inr inl either) (pieces points) (λ k l d before within. inl (follow k l d before within)) one other among among_too) [
    | inl same ↦ inr (inl same)
    | inr (inl behind) ↦ meet one other among among_too of of_too (follows-beside one other behind)
    | inr (inr before) ↦ exchange_meet one other point (meet other one among_too among of_too of (follows-beside other one before))
  ]
    where
      Either : Edge → Edge → Type 0
      Either a b = Follows a b ⊎ Follows b a

      meet : (a b : Edge) → Contains (pieces points) a → Contains (pieces points) b → IsOf a point → IsOf b point → AreBeside a b ⊎ AreBeside b a → MeetAtEnds a b point
      meet a b first second of_a of_b (inl beside) = beside-meet a b point beside (piece-sloped a first) (piece-sloped b second) of_a of_b
      meet a b first second of_a of_b (inr beside) = exchange_meet a b point (beside-meet b a point beside (piece-sloped b second) (piece-sloped a first) of_b of_a)
