-- The stretches that edges are joined to have the points of the edges, and these have those of the stretches.
use Rattle.std.proofs.Common.{◌≡◌, ◌⊎◌, ◌++◌, inl, inr, Bool, true, false, cond, ℕ, ℤ, pos, ◌*ℤ◌, ◌≤ℤ◌, ◌<ℤ◌, List, [], ◌∷◌, map, ap, arith, refl, sym, subst, ◌∙◌}
use Rattle.std.proofs.lemmas.Int.{by_lt_z, clamps, ints}
use Rattle.std.proofs.lemmas.List.Elements.{All-contains, All-contains_itself, All-weaker}
use Rattle.std.specs.Int.Signed.{lt_z}
use Rattle.std.specs.List.{All, Contains, filter}
use Rattle.std.specs.Ordering.{int_eq}
use Rattle.i_tree.proofs.RootLemmas.Lists.{Contains-here, Contains-there}
use Rattle.i_tree.proofs.RootLemmas.Members.{Contains-from_filter}
use Rattle.plane.specs.declared.edge.Edge.{Edge}
use Rattle.plane.specs.declared.point.Point.{Point}
use Rattle.plane.specs.Ends.{end_of, reversed, start_of}
use Rattle.plane.specs.Lines.{IsAlongAxis}
use Rattle.plane.specs.Meet.Edges.{IsOf, RationalPoint}
use Rattle.plane.specs.Meet.Kinds.{HasPoint}
use Rattle.plane.specs.SweepLine.Heights.{rightwards}
use Rattle.plane.proofs.MeetLemmas.Along.{flipped, of-flipped, over}
use Rattle.plane.proofs.PairsLemmas.Bags.{Contains-from_map}
use Rattle.plane.proofs.SweepLineLemmas.Rightwards.{rightwards-left, rightwards-right}
use Rattle.noding.specs.Chains.{IsEnd, Passes}
use Rattle.noding.proofs.SnapLemmas.Along.{Passes-in_box}
use Rattle.noding.proofs.SnapLemmas.Exact.{passes_level}
use Rattle.noding.proofs.SnapLemmas.Local.{ends_on}
use Rattle.overlay.specs.declared.fill.pieces.Piece.{Piece}
use Rattle.overlay.specs.Joined.{AreJoinedEdges, IsMadeUp, Lead, has_part, onwards}
use Rattle.overlay.proofs.PieceLemmas.Edges.{equal, unequal}
use Rattle.overlay.proofs.JoinedLemmas.Parts.{Finely, IsPart, OnLevel, along-apart, along-part, apart-onwards, apart-turned, axis_or_not, finely, finely-flipped, is-part, narrow, of-level, of-onwards, of-turned, on-level, onwards-is, part-up}
use Rattle.overlay.proofs.JoinedLemmas.Refined.{HasPoint-reversed, PartAt, Refine, finer, finer-at}

-- ---- whole points that an edge along an axis passes are of it

level-has : (edge : Edge) (x y : ℤ) → edge.x0 <ℤ edge.x1 → edge.y1 ≡ edge.y0 → y ≡ edge.y0 → edge.x0 ≤ℤ x → x ≤ℤ edge.x1 → HasPoint edge x y
level-has edge x y up level same from upto =
    let point : RationalPoint = record { n = 1; x = pos 1 *ℤ x; y = pos 1 *ℤ y; positive = omega arith } in
    let found = of-level edge point up level (record { height = ap (λ z. pos 1 *ℤ z) same; from = narrow 1 edge.x0 x from; upto = narrow 1 x edge.x1 upto }) in
    (finer found.k found.some point, found.of, finer-at found.k found.some point x y (record { x_is = refl; y_is = refl }))

level-passed : (edge : Edge) (x y : ℤ) → edge.y1 ≡ edge.y0 → Passes edge x y → HasPoint edge x y
level-passed edge x y level passes =
    let box = Passes-in_box edge x y passes in
    let left = box.left in
    let right = box.right in
    let same = passes_level edge x y level passes in
    by_lt_z edge.x0 edge.x1
    (λ up. level-has edge x y up level same (omega (arith, ints, clamps, up, left, right)) (omega (arith, ints, clamps, up, left, right)))
    (λ upto. by_lt_z edge.x1 edge.x0
    (λ down. HasPoint-reversed (reversed edge) x y (level-has (reversed edge) x y down (sym level) (same ∙ sym level) (omega (arith, ints, clamps, down, left, right)) (omega (arith, ints, clamps, down, left, right))))
    (λ least.
    let there : x ≡ edge.x0 = omega (arith, ints, clamps, upto, least, left, right) in
    subst (λ (z : ℤ). HasPoint edge z y) (sym there) (subst (λ (z : ℤ). HasPoint edge edge.x0 z) (sym same) (ends_on edge).0)))

pub on-axis : (edge : Edge) (x y : ℤ) → IsAlongAxis edge → Passes edge x y → HasPoint edge x y
on-axis edge x y (inr level) passes = level-passed edge x y level passes
on-axis edge x y (inl upright) (point, of, rounds) =
    let (there, has, at) = level-passed (flipped edge) y x upright (over point, of-flipped (flipped edge) point of, record { along_x = rounds.along_y; along_y = rounds.along_x }) in
    (over there, of-flipped edge there has, record { x_is = at.y_is; y_is = at.x_is })

-- ---- which of edges that lead from one point to another has a place between these

module _ (along : Point → ℤ) (n : ℕ) (w : ℤ) where
  record Between (part : Edge) : Type 0 where
    from : (pos n *ℤ along (start_of part)) ≤ℤ w
    upto : w ≤ℤ (pos n *ℤ along (end_of part))

  find : (from to : Point) (parts : List Edge) → Lead from to parts → (pos n *ℤ along from) ≤ℤ w → w ≤ℤ (pos n *ℤ along to) → (part : Edge) × Contains parts part × Between part
  find from to [] none above below = absurd none
  find from to (part ∷ []) (starts, ends) above below = (
    part,
    Contains-here part [],
    record { from = subst (λ (p : Point). (pos n *ℤ along p) ≤ℤ w) (sym starts) above; upto = subst (λ (p : Point). w ≤ℤ (pos n *ℤ along p)) (sym ends) below },
  )
  find from to (part ∷ next ∷ parts) (starts, rest) above below =
      by_lt_z (pos n *ℤ along (end_of part)) w
      (λ behind.
      let (found, among, between) = find (end_of part) to (next ∷ parts) rest (omega (arith, ints, behind)) below in
      (found, Contains-there part (next ∷ parts) found among, between))
      (λ upto. (part, Contains-here part (next ∷ parts), record { from = subst (λ (p : Point). (pos n *ℤ along p) ≤ℤ w) (sym starts) above; upto = upto }))

-- the first and the last of them
pub lead-first : (from to : Point) (parts : List Edge) → Lead from to parts → (part : Edge) × Contains parts part × (start_of part ≡ from)
lead-first from to [] none = absurd none
lead-first from to (part ∷ []) (starts, ends) = (part, Contains-here part [], starts)
lead-first from to (part ∷ next ∷ parts) (starts, rest) = (part, Contains-here part (next ∷ parts), starts)

pub lead-last : (from to : Point) (parts : List Edge) → Lead from to parts → (part : Edge) × Contains parts part × (end_of part ≡ to)
lead-last from to [] none = absurd none
lead-last from to (part ∷ []) (starts, ends) = (part, Contains-here part [], ends)
lead-last from to (part ∷ next ∷ parts) (starts, rest) =
    let (last, among, ends) = lead-last (end_of part) to (next ∷ parts) rest in (last, Contains-there part (next ∷ parts) last among, ends)

-- ---- an edge that goes onwards

pub record GoesOnwards (edge : Edge) : Type 0 where
  pub along : edge.x0 ≤ℤ edge.x1
  pub up : edge.x1 ≡ edge.x0 → edge.y0 ≤ℤ edge.y1

pub goes-onwards : (edge : Edge) → GoesOnwards (onwards edge)
goes-onwards edge = by (int_eq edge.x0 edge.x1) (lt_z edge.y1 edge.y0) (lt_z edge.x1 edge.x0) refl refl refl
  where
    by : (s t u : Bool) → int_eq edge.x0 edge.x1 ≡ s → lt_z edge.y1 edge.y0 ≡ t → lt_z edge.x1 edge.x0 ≡ u → GoesOnwards (cond s (cond t (reversed edge) edge) (rightwards edge))
    by true true u level down back = let same = equal edge.x0 edge.x1 level in record { along = omega (arith, ints, same); up = λ upright. omega (arith, ints, down) }
    by true false u level up back = let same = equal edge.x0 edge.x1 level in record { along = omega (arith, ints, same); up = λ upright. omega (arith, ints, up) }
    by false t true level down back = subst GoesOnwards (sym (rightwards-left edge back)) (record { along = omega (arith, ints, back); up = λ upright. absurd (omega (arith, ints, back, upright)) })
    by false t false level down back =
        let apart = unequal edge.x0 edge.x1 level in
        subst GoesOnwards (sym (rightwards-right edge back)) (record { along = omega (arith, ints, back); up = λ upright. absurd (apart (sym upright)) })

-- a point of an edge that goes onwards is of one of the parts that make it up
part-down : (edge : Edge) (parts : List Edge) (point : RationalPoint) → GoesOnwards edge → Lead (start_of edge) (end_of edge) parts → All (IsPart edge) parts → IsOf edge point → (part : Edge) × Contains parts part × Finely part point
part-down edge parts point onwards lead are of = elim (axis_or_not edge) [
  | inr slanted ↦
      let (part, among, starts) = lead-first (start_of edge) (end_of edge) parts lead in
      (part, among, by_slanted slanted part (All-contains (IsPart edge) parts part are among))
  | inl (inr level) ↦
      let on = on-level edge point onwards.along level of in
      let (part, among, between) = find (λ p. p.x) point.n point.x (start_of edge) (end_of edge) parts lead on.from on.upto in
      (part, among, by_level level on part between (All-contains (IsPart edge) parts part are among))
  | inl (inl upright) ↦
      let on = on-level (flipped edge) (over point) (onwards.up upright) upright (of-flipped (flipped edge) point of) in
      let (part, among, between) = find (λ p. p.y) point.n point.y (start_of edge) (end_of edge) parts lead on.from on.upto in
      (part, among, by_upright upright on part between (All-contains (IsPart edge) parts part are among))
]
  where
    by_slanted : ¬ (IsAlongAxis edge) → (part : Edge) → IsPart edge part → Finely part point
    by_slanted slanted part (inl same) = finely part point (subst (λ (e : Edge). IsOf e point) (sym same) of)
    by_slanted slanted part (inr (inl level)) = absurd (slanted (inr level.level))
    by_slanted slanted part (inr (inr upright)) = absurd (slanted (inl upright.level))

    by_level : edge.y1 ≡ edge.y0 → OnLevel edge point → (part : Edge) → Between (λ p. p.x) point.n point.x part → IsPart edge part → Finely part point
    by_level level on part between (inl same) = finely part point (subst (λ (e : Edge). IsOf e point) (sym same) of)
    by_level level on part between (inr (inl is)) =
        of-level part point is.some is.part_level (record { height = on.height ∙ ap (λ z. pos point.n *ℤ z) (sym is.same); from = between.from; upto = between.upto })
    by_level level on part between (inr (inr upright)) = let up = upright.onwards in absurd (omega (arith, ints, level, up))

    by_upright : edge.x1 ≡ edge.x0 → OnLevel (flipped edge) (over point) → (part : Edge) → Between (λ p. p.y) point.n point.y part → IsPart edge part → Finely part point
    by_upright upright on part between (inl same) = finely part point (subst (λ (e : Edge). IsOf e point) (sym same) of)
    by_upright upright on part between (inr (inr is)) =
        finely-flipped part point (of-level (flipped part) (over point) is.some is.part_level (record { height = on.height ∙ ap (λ z. pos point.n *ℤ z) (sym is.same); from = between.from; upto = between.upto }))
    by_upright upright on part between (inr (inl level)) = let up = level.onwards in absurd (omega (arith, ints, upright, up))

-- ---- edges and the stretches that they are joined to

abbrev pub edges_of : List Piece → List Edge
edges_of stretches = map (λ stretch. stretch.edge) stretches

abbrev pub parts_of : List Piece → Edge → List Edge
parts_of stretches edge = filter (has_part edge) (edges_of stretches)

pub are-parts : (stretches : List Piece) (edge : Edge) → All (IsPart (onwards edge)) (parts_of stretches edge)
are-parts stretches edge =
    All-weaker (Contains (parts_of stretches edge)) (IsPart (onwards edge)) (λ part among. is-part edge part (Contains-from_filter (has_part edge) (edges_of stretches) part among).1)
    (parts_of stretches edge) (All-contains_itself (parts_of stretches edge))

pub part-at : (stretches : List Piece) (edge : Edge) (point : RationalPoint) → IsMadeUp stretches edge → IsOf edge point → PartAt (parts_of stretches edge) edge point
part-at stretches edge point made of =
    let (part, among, found) = part-down (onwards edge) (parts_of stretches edge) point (goes-onwards edge) made (are-parts stretches edge) (of-onwards edge point of) in
    let is = All-contains (IsPart (onwards edge)) (parts_of stretches edge) part (are-parts stretches edge) among in record {
      part = part;
      among = among;
      k = found.k;
      some = found.some;
      of = found.of;
      apart = λ other apart. along-apart (onwards edge) part other (along-part (onwards edge) part is).0 (apart-onwards edge other apart);
    }

module _ (subject clip : List Edge) (stretches : List Piece) (joined : AreJoinedEdges subject clip stretches) where
  abbrev all : List Edge
  all = subject ++ clip

  among-all : (edge part : Edge) → Contains (parts_of stretches edge) part → Contains (edges_of stretches) part
  among-all edge part among = (Contains-from_filter (has_part edge) (edges_of stretches) part among).0

  made : (edge : Edge) → Contains all edge → IsMadeUp stretches edge
  made edge among = All-contains (IsMadeUp stretches) all edge joined.made among

  end-too : (edge : Edge) (x y : ℤ) → Contains all edge → IsEnd (onwards edge) x y → (other : Edge) × Contains (edges_of stretches) other × IsEnd other x y
  end-too edge x y among (inl (is_x, is_y)) =
      let (part, inside, starts) = lead-first (start_of (onwards edge)) (end_of (onwards edge)) (parts_of stretches edge) (made edge among) in
      (part, among-all edge part inside, inl (is_x ∙ ap (λ (p : Point). p.x) (sym starts), is_y ∙ ap (λ (p : Point). p.y) (sym starts)))
  end-too edge x y among (inr (is_x, is_y)) =
      let (part, inside, ends) = lead-last (start_of (onwards edge)) (end_of (onwards edge)) (parts_of stretches edge) (made edge among) in
      (part, among-all edge part inside, inr (is_x ∙ ap (λ (p : Point). p.x) (sym ends), is_y ∙ ap (λ (p : Point). p.y) (sym ends)))

  end-back : (edge : Edge) (x y : ℤ) → IsEnd edge x y → IsEnd (reversed edge) x y
  end-back edge x y (inl start) = inr start
  end-back edge x y (inr end) = inl end

  end-onwards : (edge : Edge) (x y : ℤ) → IsEnd edge x y → IsEnd (onwards edge) x y
  end-onwards edge x y end = elim (onwards-is edge) [
    | inl same ↦ subst (λ (e : Edge). IsEnd e x y) (sym same) end
    | inr back ↦ subst (λ (e : Edge). IsEnd e x y) (sym back) (end-back edge x y end)
  ]

  slanted-too : (edge : Edge) → Contains all edge → ¬ (IsAlongAxis edge) → Contains (edges_of stretches) edge ⊎ Contains (edges_of stretches) (reversed edge)
  slanted-too edge among slanted =
      let (part, inside, starts) = lead-first (start_of (onwards edge)) (end_of (onwards edge)) (parts_of stretches edge) (made edge among) in
      by part (among-all edge part inside) (All-contains (IsPart (onwards edge)) (parts_of stretches edge) part (are-parts stretches edge) inside)
    where
      axis : IsAlongAxis (onwards edge) → IsAlongAxis edge
      axis along = elim (onwards-is edge) [
        | inl same ↦ subst IsAlongAxis same along
        | inr back ↦ elim (subst IsAlongAxis back along) [ inl upright ↦ inl (sym upright) | inr level ↦ inr (sym level) ]
      ]

      by : (part : Edge) → Contains (edges_of stretches) part → IsPart (onwards edge) part → Contains (edges_of stretches) edge ⊎ Contains (edges_of stretches) (reversed edge)
      by part held (inr (inl level)) = absurd (slanted (axis (inr level.level)))
      by part held (inr (inr upright)) = absurd (slanted (axis (inl upright.level)))
      by part held (inl same) = elim (onwards-is edge) [
        | inl is ↦ inl (subst (Contains (edges_of stretches)) (same ∙ is) held)
        | inr back ↦ inr (subst (Contains (edges_of stretches)) (same ∙ back) held)
      ]

  pub edges-refine : Refine all (edges_of stretches)
  edges-refine = record {
    ends = λ edge x y among end. end-too edge x y among (end-onwards edge x y end);
    parts = λ edge point among of.
        let found = part-at stretches edge point (made edge among) of in
        record { part = found.part; among = among-all edge found.part found.among; k = found.k; some = found.some; of = found.of; apart = found.apart };
    slanted = slanted-too;
  }

  -- ---- and back

  -- An edge that the stretch is a part of.
  pub part-of : (part : Edge) → Contains (edges_of stretches) part → (edge : Edge) × Contains all edge × IsPart (onwards edge) part
  part-of part held =
      let (stretch, among, is) = Contains-from_map (λ stretch. stretch.edge) stretches part held in
      let (edge, inside, told) = All-contains (λ stretch. (edge : Edge) × Contains all edge × (has_part edge stretch.edge ≡ true)) stretches stretch joined.of among in
      (edge, inside, subst (IsPart (onwards edge)) is (is-part edge stretch.edge told))

  back-end : (part : Edge) (x y : ℤ) → Contains (edges_of stretches) part → IsEnd part x y → (other : Edge) × Contains all other × IsEnd other x y
  back-end part x y held end =
      let (stretch, among, is) = Contains-from_map (λ stretch. stretch.edge) stretches part held in
      let ((first, inside, starts), (last, inside_too, ends)) = All-contains (λ stretch. ((edge : Edge) × Contains all edge × IsEnd edge stretch.edge.x0 stretch.edge.y0) × ((edge : Edge) × Contains all edge × IsEnd edge stretch.edge.x1 stretch.edge.y1)) stretches stretch joined.ends among in
      elim end [
        | inl (is_x, is_y) ↦ (first, inside, subst (λ (z : ℤ). IsEnd first z y) (ap (λ (e : Edge). e.x0) is ∙ sym is_x) (subst (λ (z : ℤ). IsEnd first stretch.edge.x0 z) (ap (λ (e : Edge). e.y0) is ∙ sym is_y) starts))
        | inr (is_x, is_y) ↦ (last, inside_too, subst (λ (z : ℤ). IsEnd last z y) (ap (λ (e : Edge). e.x1) is ∙ sym is_x) (subst (λ (z : ℤ). IsEnd last stretch.edge.x1 z) (ap (λ (e : Edge). e.y1) is ∙ sym is_y) ends))
      ]

  back-slanted : (part : Edge) → Contains (edges_of stretches) part → ¬ (IsAlongAxis part) → Contains all part ⊎ Contains all (reversed part)
  back-slanted part held slanted = let (edge, inside, is) = part-of part held in by edge inside is
    where
      by : (edge : Edge) → Contains all edge → IsPart (onwards edge) part → Contains all part ⊎ Contains all (reversed part)
      by edge inside (inr (inl level)) = absurd (slanted (inr level.part_level))
      by edge inside (inr (inr upright)) = absurd (slanted (inl upright.part_level))
      by edge inside (inl same) = elim (onwards-is edge) [
        | inl is ↦ inl (subst (Contains all) (sym (same ∙ is)) inside)
        | inr back ↦ inr (subst (Contains all) (ap reversed (sym (same ∙ back))) inside)
      ]

  pub stretches-refine : Refine (edges_of stretches) all
  stretches-refine = record {
    ends = back-end;
    parts = λ part point held of.
        let (edge, inside, is) = part-of part held in
        let found = part-up (onwards edge) part point is of in
        record {
          part = edge;
          among = inside;
          k = found.k;
          some = found.some;
          of = of-turned edge (finer found.k found.some point) found.of;
          apart = λ other apart. apart-turned edge other (along-apart part (onwards edge) other (along-part (onwards edge) part is).1 apart);
        };
    slanted = back-slanted;
  }
