-- The pieces of an edge's chain, from stop to stop.
use Rattle.std.proofs.Common.{◌≡◌, ◌<◌, ◌≤◌, ◌+◌, ◌++◌, [], ◌∷◌, inl, inr, ℕ, List, length, drop, take, map, ap, ap₂, sym, ◌∙◌, arith, refl, append-nil, append_assoc}
use Rattle.std.specs.List.{flat_map}
use Rattle.std.proofs.lemmas.List.{drop-append-le, drop_all, flat_map_more, length-append, length-map, take-append-le, take_all}
use Rattle.plane.specs.declared.edge.Edge.{Edge}
use Rattle.plane.specs.declared.point.Point.{Point}
use Rattle.overlay.specs.declared.fill.pieces.Piece.{Piece}
use Rattle.overlay.specs.declared.fill.pieces.Operand.{Operand}
use Rattle.overlay.specs.declared.fill.pieces.Operand.TheVariants.{Subject, Clip}
use Rattle.noding.specs.declared.stops.Stop.{Stop}
use Rattle.overlay.specs.Boundary.{GoesOnToEnd, chain_pieces}
use Rattle.overlay.specs.Fill.Turned.{turned}
use Rattle.plane.specs.Ends.{edge_between, end_of, start_of}
use Rattle.noding.specs.Offsets.{between}
use Rattle.noding.specs.Stops.{GoesToEnd, point_of}
use Rattle.noding.specs.Windings.{pieces}
use Rattle.overlay.proofs.BoundaryLemmas.Broken.{chain-length}
use Rattle.noding.proofs.ChainLemmas.Runs.{length-between}
use Rattle.overlay.proofs.PieceLemmas.Edges.{turned-append}

-- ---- one stop more

pieces-more : (front : List Point) (from to : Point) → pieces ((front ++ from ∷ []) ++ to ∷ []) ≡ pieces (front ++ from ∷ []) ++ edge_between from to ∷ []
pieces-more [] from to = refl
pieces-more (one ∷ []) from to = refl
pieces-more (one ∷ two ∷ front) from to = ap (λ (edges : List Edge). edge_between one two ∷ edges) (pieces-more (two ∷ front) from to)

pub turned-more : (operand : Operand) (front : List Point) (from to : Point) (before now after : List Piece) → now ≡ before ++ turned operand (pieces (front ++ from ∷ [])) → after ≡ now ++ turned operand (edge_between from to ∷ [])
    → after ≡ before ++ turned operand (pieces ((front ++ from ∷ []) ++ to ∷ []))
turned-more operand front from to before now after is more =
    more ∙ ap (λ (list : List Piece). list ++ turned operand (edge_between from to ∷ [])) is
    ∙ append_assoc before (turned operand (pieces (front ++ from ∷ []))) (turned operand (edge_between from to ∷ []))
    ∙ ap (λ (list : List Piece). before ++ list) (sym (turned-append operand (pieces (front ++ from ∷ [])) (edge_between from to ∷ [])) ∙ ap (turned operand) (sym (pieces-more front from to)))

-- and the last one
pub turned-end : (operand : Operand) (edge : Edge) (points front : List Point) (from : Point) (before now after : List Piece) → points ≡ front ++ from ∷ [] → now ≡ before ++ turned operand (pieces (front ++ from ∷ [])) → GoesOnToEnd operand edge from now after
    → (chain : List Point) × GoesToEnd edge points chain × (after ≡ before ++ turned operand (pieces chain))
turned-end operand edge points front from before now after are is (inl (same, stays)) = (points, inl (same, refl), stays ∙ is ∙ ap (λ (list : List Point). before ++ turned operand (pieces list)) (sym are))
turned-end operand edge points front from before now after are is (inr (apart, more)) =
    (points ++ end_of edge ∷ [], inr (apart, refl), turned-more operand front from (end_of edge) before now after is more ∙ ap (λ (list : List Point). before ++ turned operand (pieces (list ++ end_of edge ∷ []))) (sym are))

-- there is at most one more than there are stops
pub chain-few : (edge : Edge) (start end : ℕ) (stops : List Stop) (chain : List Point) → start ≤ end → end ≤ length stops → GoesToEnd edge (start_of edge ∷ map (point_of edge) (between start end stops)) chain
    → length (pieces chain) + start ≤ end + 1
chain-few edge start end stops chain rising inside goes = by goes
  where
    long : length (map (point_of edge) (between start end stops)) + start ≡ end
    long = let size = length-map (between start end stops) (point_of edge) ∙ length-between start end stops rising inside in omega (arith, size, rising)

    bounded : 0 < length chain → length chain + start ≤ end + 2 → length (pieces chain) + start ≤ end + 1
    bounded some few = let size = chain-length chain some in omega (arith, size, few)

    by : GoesToEnd edge (start_of edge ∷ map (point_of edge) (between start end stops)) chain → length (pieces chain) + start ≤ end + 1
    by (inl (same, is)) = let size = ap (λ (list : List Point). length list) is in bounded (omega (arith, size)) (omega (arith, size, long))
    by (inr (apart, is)) =
        let size = ap (λ (list : List Point). length list) is in
        let sum = length-append (start_of edge ∷ map (point_of edge) (between start end stops)) (end_of edge ∷ []) in
        bounded (omega (arith, size, sum)) (omega (arith, size, sum, long))

-- ---- one chain more

module _ (operand : Operand) (chains : List (List Point)) (chain : List Point) where
  turned-chain : turned operand (flat_map pieces (chains ++ chain ∷ [])) ≡ turned operand (flat_map pieces chains) ++ turned operand (pieces chain)
  turned-chain = ap (turned operand) (sym (flat_map_more pieces [] chains chain)) ∙ turned-append operand (flat_map pieces chains) (pieces chain)

module _ (count : ℕ) (chains : List (List Point)) (chain : List Point) where
  -- of the subject, and of the clip
  pub chain_pieces-subject : length chains < count → chain_pieces count (chains ++ chain ∷ []) ≡ chain_pieces count chains ++ turned Subject (pieces chain)
  chain_pieces-subject less =
      let size = length-append chains (chain ∷ []) in
      all (chains ++ chain ∷ []) (omega (arith, size, less)) ∙ turned-chain Subject chains chain ∙ ap (λ (list : List Piece). list ++ turned Subject (pieces chain)) (sym (all chains (omega (arith, less))))
    where
      all : (lists : List (List Point)) → length lists ≤ count → chain_pieces count lists ≡ turned Subject (flat_map pieces lists)
      all lists few =
          ap₂ (λ (first second : List (List Point)). turned Subject (flat_map pieces first) ++ turned Clip (flat_map pieces second)) (take_all count lists few) (drop_all count lists few)
          ∙ append-nil (turned Subject (flat_map pieces lists))

  pub chain_pieces-clip : count ≤ length chains → chain_pieces count (chains ++ chain ∷ []) ≡ chain_pieces count chains ++ turned Clip (pieces chain)
  chain_pieces-clip upto =
      ap₂ (λ (first second : List (List Point)). turned Subject (flat_map pieces first) ++ turned Clip (flat_map pieces second)) (take-append-le count chains (chain ∷ []) upto) (drop-append-le count chains (chain ∷ []) upto)
      ∙ ap (λ (list : List Piece). turned Subject (flat_map pieces (take count chains)) ++ list) (turned-chain Clip (drop count chains) chain)
      ∙ sym (append_assoc (turned Subject (flat_map pieces (take count chains))) (turned Clip (flat_map pieces (drop count chains))) (turned Clip (pieces chain)))
