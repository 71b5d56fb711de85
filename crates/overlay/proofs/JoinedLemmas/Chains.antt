-- The node chain of an edge, of those of the stretches that it is joined to.
use Rattle.std.proofs.Common.{◌≡◌, ◌≢◌, ◌⊎◌, ◌++◌, inl, inr, ℤ, List, map, arith, refl, sym, subst}
use Rattle.std.proofs.lemmas.Int.{ints}
use Rattle.std.proofs.lemmas.List.Elements.{All-contains}
use Rattle.std.specs.List.{AllZip, Contains, flat_map}
use Rattle.i_tree.proofs.RootLemmas.Members.{Contains-from_filter}
use Rattle.plane.specs.declared.edge.Edge.{Edge}
use Rattle.plane.specs.declared.point.Point.{Point}
use Rattle.plane.specs.Ends.{end_of, reversed, start_of}
use Rattle.plane.specs.Lines.{IsAlongAxis}
use Rattle.plane.specs.Meet.Edges.{RationalPoint}
use Rattle.plane.specs.Meet.Kinds.{HasPoint, IsAt}
use Rattle.noding.specs.Chains.{IsHot, Upto, UptoOn}
use Rattle.noding.specs.Local.{AreNodeChains, IsMoved, IsNode, IsNodeChain}
use Rattle.noding.specs.Rounding.{RoundsOn, RoundsTo}
use Rattle.noding.specs.Windings.{pieces}
use Rattle.noding.proofs.Callers.{node-ends, node-starts}
use Rattle.noding.proofs.SnapLemmas.Along.{Upto-to_end}
use Rattle.noding.proofs.SnapLemmas.Paths.{AllZip-by}
use Rattle.noding.proofs.SnapLemmas.Reversed.{Passes-reversed}
use Rattle.noding.proofs.SnapLemmas.Rounding.{RoundsOn-whole}
use Rattle.overlay.specs.declared.fill.pieces.Piece.{Piece}
use Rattle.overlay.specs.Joined.{AreJoinedEdges, IsMadeUp, Lead, has_part, onwards}
use Rattle.overlay.proofs.FillLemmas.Premises.{All-among}
use Rattle.overlay.proofs.JoinedLemmas.Parts.{IsPart, axis_or_not, of-turned, onwards-is, part-up}
use Rattle.overlay.proofs.JoinedLemmas.Points.{are-parts, edges-refine, edges_of, lead-first, on-axis, part-at, parts_of, stretches-refine}
use Rattle.overlay.proofs.JoinedLemmas.Refined.{HasPoint-reversed, finer, finer-at, finer-rounds, hot-too, moved-too}
use Rattle.overlay.proofs.JoinedLemmas.Runs.{Runs, RunsFor, Runs-glued, back, chosen, chosen-zip, glue, glued-from, glued-pieces, glued-to, held-back, held-forth, pairs-back, zip-chain, zip-edge}

-- ---- an edge and the one that goes the other way have the same nodes

IsNode-reversed : (edges : List Edge) (edge : Edge) (x y : ℤ) → IsNode edges edge x y → IsNode edges (reversed edge) x y
IsNode-reversed edges edge x y (hot, passes, inl has) = (hot, Passes-reversed edge x y passes, inl (HasPoint-reversed edge x y has))
IsNode-reversed edges edge x y (hot, passes, inr (a, b, moves, passes_there, beside)) =
    (hot, Passes-reversed edge x y passes, inr (a, b, moves, Passes-reversed edge a b passes_there, λ on. beside (HasPoint-reversed (reversed edge) a b on)))

upto-back : (from to c d : ℤ) → UptoOn from to d c → UptoOn to from c d
upto-back from to c d upto = record { rising = upto.falling; falling = upto.rising }

-- a chain from its end to its start is one of the edge from its end to its start
IsNodeChain-back : (edges : List Edge) (edge : Edge) (chain : List Point) → IsNodeChain edges (reversed edge) chain → IsNodeChain edges edge (back chain)
IsNodeChain-back edges edge chain is = record {
  in_order = λ i j d less within. (let turned = pairs-back (λ c d. Upto (reversed edge) c.x c.y d.x d.y) chain is.in_order i j d less within in
      record { along_x = upto-back edge.x1 edge.x0 _ _ turned.along_x; along_y = upto-back edge.y1 edge.y0 _ _ turned.along_y });
  once = λ i j d less within same. pairs-back (λ c d. c ≢ d) chain is.once i j d less within (sym same);
  exact = λ c. (
    (λ held. IsNode-reversed edges (reversed edge) c.x c.y ((is.exact c).0 (held-forth chain c held))),
    (λ node. held-back chain c ((is.exact c).1 (IsNode-reversed edges edge c.x c.y node))),
  );
}

-- ---- along parts

rising-along : (edge part : Edge) (a b c d : ℤ) → IsPart edge part → Upto part a b c d → Upto edge a b c d
rising-along edge part a b c d (inl same) upto = subst (λ (e : Edge). Upto e a b c d) same upto
rising-along edge part a b c d (inr (inl is)) upto =
    let onwards = is.onwards in
    let some = is.some in
    let level = is.part_level in record {
      along_x = record { rising = λ up. upto.along_x.rising (omega (arith, ints, some)); falling = λ down. absurd (omega (arith, ints, onwards, down)) };
      along_y = record { rising = λ up. upto.along_y.rising (omega (arith, ints, level)); falling = λ down. upto.along_y.falling (omega (arith, ints, level)) };
    }
rising-along edge part a b c d (inr (inr is)) upto =
    let onwards = is.onwards in
    let some = is.some in
    let level = is.part_level in record {
      along_x = record { rising = λ up. upto.along_x.rising (omega (arith, ints, level)); falling = λ down. upto.along_x.falling (omega (arith, ints, level)) };
      along_y = record { rising = λ up. upto.along_y.rising (omega (arith, ints, some)); falling = λ down. absurd (omega (arith, ints, onwards, down)) };
    }

-- the chain of a part runs along the edge
part-runs : (edges : List Edge) (edge part : Edge) (chain : List Point) → Contains edges part → IsPart edge part → IsNodeChain edges part chain → Runs edge (start_of part) (end_of part) chain
part-runs edges edge part chain among is along = record {
  in_order = λ i j d less within. rising-along edge part _ _ _ _ is (along.in_order i j d less within);
  once = along.once;
  rest = map end_of (pieces chain);
  first = node-starts edges part chain among along;
  front = map start_of (pieces chain);
  last = sym (node-ends edges part chain among along);
  upto = All-among (λ c. Upto edge c.x c.y part.x1 part.y1) chain (λ c held. rising-along edge part c.x c.y part.x1 part.y1 is (Upto-to_end part c.x c.y ((along.exact c).0 held).1));
}

-- a whole point of an edge is passed by it
at-rounds : (point : RationalPoint) (x y : ℤ) → IsAt point x y → RoundsTo point x y
at-rounds point x y at = record {
  along_x = subst (λ (p : ℤ). RoundsOn point.n p x) (sym at.x_is) (RoundsOn-whole point.n x point.positive);
  along_y = subst (λ (p : ℤ). RoundsOn point.n p y) (sym at.y_is) (RoundsOn-whole point.n y point.positive);
}

-- ---- the chain of an edge

module _ (subject clip : List Edge) (stretches : List Piece) (joined : AreJoinedEdges subject clip stretches) (chains : List (List Point)) (are : AreNodeChains (edges_of stretches) chains) where
  abbrev all : List Edge
  all = subject ++ clip

  abbrev some : List Edge
  some = edges_of stretches

  -- the pieces of the parts of an edge
  abbrev pub part_chains : Edge → List (List Point)
  part_chains edge = chosen (has_part edge) some chains

  module _ (edge : Edge) (among : Contains all edge) where
    abbrev ahead : Edge
    ahead = onwards edge

    abbrev parts : List Edge
    parts = parts_of stretches edge

    made : Lead (start_of ahead) (end_of ahead) parts
    made = All-contains (IsMadeUp stretches) all edge joined.made among

    zipped : AllZip (IsNodeChain some) parts (part_chains edge)
    zipped = chosen-zip (IsNodeChain some) (has_part edge) some chains are

    run : AllZip (RunsFor ahead) parts (part_chains edge)
    run = AllZip-by (IsNodeChain some) (RunsFor ahead) parts (part_chains edge) (λ part chain held is. part-runs some ahead part chain (among-some part held) (All-contains (IsPart ahead) parts part (are-parts stretches edge) held) is) zipped
      where
        among-some : (part : Edge) → Contains parts part → Contains some part
        among-some part held = (Contains-from_filter (has_part edge) some part held).0

    -- a node of a part is one of the edge
    node-up : (part : Edge) (x y : ℤ) → IsPart ahead part → IsNode some part x y → IsNode all ahead x y
    node-up part x y is (hot, (point, of, rounds), kind) =
        let found = part-up ahead part point is of in
        (hot-too some all (stretches-refine subject clip stretches joined) on-axis axis_or_not x y hot, (finer found.k found.some point, found.of, finer-rounds found.k found.some point x y rounds), by kind)
      where
        by : HasPoint part x y ⊎ IsMoved some part → HasPoint ahead x y ⊎ IsMoved all ahead
        by (inl (there, has, at)) = let found = part-up ahead part there is has in inl (finer found.k found.some there, found.of, finer-at found.k found.some there x y at)
        by (inr moved) = inr (by_part is)
          where
            never : IsAlongAxis part → ⊥
            never axis = let (a, b, moves, passes, beside) = moved in beside (on-axis part a b axis passes)

            by_part : IsPart ahead part → IsMoved all ahead
            by_part (inl same) = subst (IsMoved all) same (moved-too some all (stretches-refine subject clip stretches joined) on-axis axis_or_not part moved)
            by_part (inr (inl level)) = absurd (never (inr level.part_level))
            by_part (inr (inr upright)) = absurd (never (inl upright.part_level))

    -- a node of the edge is one of a part
    node-down : (x y : ℤ) → IsNode all ahead x y → (part : Edge) × Contains parts part × IsNode some part x y
    node-down x y (hot, passes, kind) = elim (axis_or_not ahead) [
      | inl axis ↦
          let (point, of, at) = on-axis ahead x y axis passes in
          let found = part-at stretches edge point made (of-turned edge point of) in
          let there = finer-at found.k found.some point x y at in
          let has : HasPoint found.part x y = (finer found.k found.some point, found.of, there) in
          (found.part, found.among, (hot_there, (finer found.k found.some point, found.of, at-rounds (finer found.k found.some point) x y there), inl has))
      | inr slanted ↦
          let (part, held, starts) = lead-first (start_of ahead) (end_of ahead) parts made in
          (part, held, by slanted part (All-contains (IsPart ahead) parts part (are-parts stretches edge) held))
    ]
      where
        hot_there : IsHot some x y
        hot_there = hot-too all some (edges-refine subject clip stretches joined) on-axis axis_or_not x y hot

        kind_there : HasPoint ahead x y ⊎ IsMoved all ahead → HasPoint ahead x y ⊎ IsMoved some ahead
        kind_there (inl has) = inl has
        kind_there (inr moved) = inr (moved-too all some (edges-refine subject clip stretches joined) on-axis axis_or_not ahead moved)

        by : ¬ (IsAlongAxis ahead) → (part : Edge) → IsPart ahead part → IsNode some part x y
        by slanted part (inl same) = subst (λ (e : Edge). IsNode some e x y) (sym same) (hot_there, passes, kind_there kind)
        by slanted part (inr (inl level)) = absurd (slanted (inr level.level))
        by slanted part (inr (inr upright)) = absurd (slanted (inl upright.level))

    -- the chain of the edge turned onwards
    ahead-chain : IsNodeChain all ahead (glue (part_chains edge))
    ahead-chain =
        let runs = Runs-glued ahead (start_of ahead) (end_of ahead) parts (part_chains edge) made run in record {
          in_order = runs.in_order;
          once = runs.once;
          exact = λ c. (to c, from c);
        }
      where
        to : (c : Point) → Contains (glue (part_chains edge)) c → IsNode all ahead c.x c.y
        to c held =
            let (chain, among, inside) = glued-from ahead (part_chains edge) c held in
            let (part, held_too, is) = zip-edge (IsNodeChain some) parts (part_chains edge) chain zipped among in
            node-up part c.x c.y (All-contains (IsPart ahead) parts part (are-parts stretches edge) held_too) ((is.exact c).0 inside)

        from : (c : Point) → IsNode all ahead c.x c.y → Contains (glue (part_chains edge)) c
        from c node =
            let (part, held, there) = node-down c.x c.y node in
            let (chain, among, is) = zip-chain (IsNodeChain some) parts (part_chains edge) part zipped held in
            glued-to ahead (start_of ahead) (end_of ahead) parts (part_chains edge) chain c made run among ((is.exact c).1 there)

    -- The chain of the edge: that of its parts, or this from its end to its start.
    pub record ChainOf (chain : List Point) : Type 0 where
      pub is : IsNodeChain all edge chain
      pub on : List Point
      pub pieces_are : pieces on ≡ flat_map pieces (part_chains edge)
      pub way : (onwards edge ≡ edge) × (chain ≡ on) ⊎ (onwards edge ≡ reversed edge) × (chain ≡ back on)

    pub chain-of : (chain : List Point) × ChainOf chain
    chain-of = elim (onwards-is edge) [
      | inl same ↦ (glue (part_chains edge), record { is = subst (λ (e : Edge). IsNodeChain all e (glue (part_chains edge))) same ahead-chain; on = glue (part_chains edge); pieces_are = glued; way = inl (same, refl) })
      | inr turned ↦ (
        back (glue (part_chains edge)),
        record {
          is = IsNodeChain-back all edge (glue (part_chains edge)) (subst (λ (e : Edge). IsNodeChain all e (glue (part_chains edge))) turned ahead-chain);
          on = glue (part_chains edge);
          pieces_are = glued;
          way = inr (turned, refl);
        },
      )
    ]
      where
        glued : pieces (glue (part_chains edge)) ≡ flat_map pieces (part_chains edge)
        glued = glued-pieces ahead (start_of ahead) (end_of ahead) parts (part_chains edge) made run
