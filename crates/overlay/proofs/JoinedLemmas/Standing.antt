-- The pieces of stretches stand for those of the edges that were joined to them.
use Rattle.std.proofs.Common.{◌≡◌, ◌≢◌, ◌⊎◌, ◌++◌, inl, inr, Bool, true, false, cond, zero, suc, ◌<◌, ◌*◌, ◌^◌, ℤ, pos, negsuc, ◌*ℤ◌, ◌+ℤ◌, ◌-ℤ◌, ◌≤ℤ◌, ◌<ℤ◌, List, [], ◌∷◌, length, ap, ap₂, arith, refl, sym, subst, ◌∙◌}
use Rattle.std.proofs.lemmas.Grind.{flat_map-append}
use Rattle.std.proofs.lemmas.Int.{by_lt_z, ints}
use Rattle.std.proofs.lemmas.List.{length-append}
use Rattle.std.proofs.lemmas.List.Elements.{All-contains, Contains-append_left, Contains-append_right}
use Rattle.std.specs.List.{All, AllZip, Contains, flat_map}
use Rattle.std.specs.Ordering.{int_eq}
use Rattle.i_tree.proofs.RootLemmas.Lists.{Contains-here, Contains-there}
use Rattle.plane.specs.declared.edge.Edge.{Edge}
use Rattle.plane.specs.declared.point.Point.{Point}
use Rattle.plane.specs.Ends.{reversed}
use Rattle.plane.specs.Meet.Crosses.{IsWithin}
use Rattle.plane.specs.SweepLine.Heights.{rightwards}
use Rattle.plane.proofs.MeetLemmas.Identities.{identity, minus, number, times}
use Rattle.noding.specs.Local.{AreNodeChains, IsNodeChain}
use Rattle.noding.specs.Windings.{pieces}
use Rattle.noding.proofs.Callers.{node-onwards}
use Rattle.noding.proofs.SnapLemmas.Numbers.{n_of}
use Rattle.noding.proofs.SnapLemmas.Paths.{AllZip-by}
use Rattle.overlay.specs.declared.fill.pieces.Piece.{Piece}
use Rattle.overlay.specs.Boundary.{AreBroken}
use Rattle.overlay.specs.Fill.Pieces.{AreJoined, total, weight}
use Rattle.overlay.specs.Fill.Turned.{IsSmall, StandFor}
use Rattle.overlay.specs.Joined.{AreJoinedEdges, has_part, onwards, weighed, weighed_pieces}
use Rattle.overlay.proofs.BoundaryLemmas.Broken.{zip-append}
use Rattle.overlay.proofs.FillLemmas.Premises.{All-among}
use Rattle.overlay.proofs.FillLemmas.Small.{total-bounds, unit_part, unit_weight}
use Rattle.overlay.proofs.FillLemmas.Totals.{total-append, total-none}
use Rattle.overlay.proofs.FillLemmas.Weights.{weight-left, weight-none, weight-right}
use Rattle.overlay.proofs.PieceLemmas.Edges.{equal, unequal}
use Rattle.overlay.proofs.PieceLemmas.Made.{rightwards-onwards}
use Rattle.overlay.proofs.JoinedLemmas.Chains.{ChainOf, chain-of, part_chains}
use Rattle.overlay.proofs.JoinedLemmas.Parts.{IsPart}
use Rattle.overlay.proofs.JoinedLemmas.Points.{GoesOnwards, edges_of, goes-onwards, part-of}
use Rattle.overlay.proofs.JoinedLemmas.Runs.{back, zip-chain}
use Rattle.overlay.proofs.JoinedLemmas.Weighed.{From, exchanged, pieces-back, rightwards-back, total-back, weighed-from, worth, worth-none}

held-flat : (chains : List (List Point)) (chain : List Point) (edge : Edge) → Contains chains chain → Contains (pieces chain) edge → Contains (flat_map pieces chains) edge
held-flat [] chain edge (k, within, at) inside = absurd (omega (arith, within))
held-flat (first ∷ chains) chain edge (zero, within, at) inside = Contains-append_left (pieces first) (flat_map pieces chains) edge (subst (λ (list : List Point). Contains (pieces list) edge) (sym at) inside)
held-flat (first ∷ chains) chain edge (suc k, within, at) inside = Contains-append_right (pieces first) (flat_map pieces chains) edge (held-flat chains chain edge (k, omega (arith, within), at) inside)

module _ (subject clip : List Edge) (stretches : List Piece) (joined : AreJoinedEdges subject clip stretches) (chains : List (List Point)) (are : AreNodeChains (edges_of stretches) chains) where
  abbrev all : List Edge
  all = subject ++ clip

  abbrev some : List Edge
  some = edges_of stretches

  abbrev parts : Edge → List (List Point)
  parts edge = part_chains subject clip stretches joined chains are edge

  -- The chain of one of the edges.
  pub record Told (edge : Edge) (chain : List Point) : Type 0 where
    pub among : Contains all edge
    pub of : ChainOf subject clip stretches joined chains are edge among chain

  pub chains-for : (edges : List Edge) → ((edge : Edge) → Contains edges edge → Contains all edge) → (list : List (List Point)) × AllZip Told edges list
  chains-for [] held = ([], tt)
  chains-for (edge ∷ edges) held =
      let (chain, of) = chain-of subject clip stretches joined chains are edge (held edge (Contains-here edge edges)) in
      let (list, told) = chains-for edges (λ other inside. held other (Contains-there edge edges other inside)) in
      (chain ∷ list, (record { among = held edge (Contains-here edge edges); of = of }, told))

  -- ---- what they weigh

  module _ (test : Edge → Bool) where
    abbrev whole : Edge → ℤ
    whole edge = total (worth test) (flat_map pieces (parts edge))

    chain-total : (edge : Edge) (chain : List Point) → Told edge chain → total (worth test) (pieces chain) ≡ (weight edge *ℤ whole edge)
    chain-total edge chain told = by (int_eq edge.x0 edge.x1) refl told.of.way
      where
        upright : edge.x0 ≡ edge.x1 → (piece : Edge) → Contains (pieces chain) piece → piece.x0 ≡ piece.x1
        upright same piece held =
            let upto = (node-onwards all edge chain told.among told.of.is piece held).0.along_x in
            let rising = upto.rising (omega (arith, ints, same)) in
            let falling = upto.falling (omega (arith, ints, same)) in
            omega (arith, ints, rising, falling)

        one_way : (t w : ℤ) → w ≡ pos 1 → t ≡ (w *ℤ t)
        one_way t w one = identity (number t) (times (n_of 1) (number t)) (omega arith) ∙ ap (λ z. z *ℤ t) (sym one)

        other_way : (t w : ℤ) → w ≡ negsuc 0 → (pos 0 -ℤ t) ≡ (w *ℤ t)
        other_way t w one = identity (minus (n_of 0) (number t)) (times (minus (n_of 0) (n_of 1)) (number t)) (omega arith) ∙ ap (λ z. z *ℤ t) (sym one)

        no_way : (t w : ℤ) → w ≡ pos 0 → pos 0 ≡ (w *ℤ t)
        no_way t w none = identity (n_of 0) (times (n_of 0) (number t)) (omega arith) ∙ ap (λ z. z *ℤ t) (sym none)

        before : edge.x0 ≢ edge.x1 → edge.x0 ≤ℤ edge.x1 → edge.x0 <ℤ edge.x1
        before apart upto = by_lt_z edge.x0 edge.x1 (λ less. less) (λ most. absurd (apart (omega (arith, ints, upto, most))))

        behind : edge.x0 ≢ edge.x1 → edge.x1 ≤ℤ edge.x0 → edge.x1 <ℤ edge.x0
        behind apart upto = by_lt_z edge.x1 edge.x0 (λ less. less) (λ most. absurd (apart (omega (arith, ints, upto, most))))

        by : (t : Bool) → int_eq edge.x0 edge.x1 ≡ t → (onwards edge ≡ edge) × (chain ≡ told.of.on) ⊎ (onwards edge ≡ reversed edge) × (chain ≡ back told.of.on) → total (worth test) (pieces chain) ≡ (weight edge *ℤ whole edge)
        by true e way =
            let same = equal edge.x0 edge.x1 e in
            total-none (worth test) (pieces chain) (All-among (λ piece. worth test piece ≡ pos 0) (pieces chain) (λ piece held. worth-none test piece (upright same piece held)))
            ∙ no_way (whole edge) (weight edge) (weight-none edge same)
        by false e (inl (same, is)) =
            let upto = (subst GoesOnwards same (goes-onwards edge)).along in
            ap (λ (list : List Point). total (worth test) (pieces list)) is ∙ ap (total (worth test)) told.of.pieces_are
            ∙ one_way (whole edge) (weight edge) (weight-right edge (before (unequal edge.x0 edge.x1 e) upto))
        by false e (inr (turned, is)) =
            let upto = (subst GoesOnwards turned (goes-onwards edge)).along in
            ap (λ (list : List Point). total (worth test) (pieces list)) is ∙ total-back test told.of.on
            ∙ ap (λ (list : List Edge). pos 0 -ℤ total (worth test) list) told.of.pieces_are
            ∙ other_way (whole edge) (weight edge) (weight-left edge (behind (unequal edge.x0 edge.x1 e) upto))

    all-total : (edges : List Edge) (list : List (List Point)) → AllZip Told edges list → total (worth test) (flat_map pieces list) ≡ total (λ edge. weight edge *ℤ whole edge) edges
    all-total [] [] told = refl
    all-total [] (chain ∷ list) told = absurd told
    all-total (edge ∷ edges) [] told = absurd told
    all-total (edge ∷ edges) (chain ∷ list) (here, told) =
        total-append (worth test) (pieces chain) (flat_map pieces list) ∙ ap₂ (λ a b. a +ℤ b) (chain-total edge chain here) (all-total edges list told)

  -- the pieces of stretches don't go leftwards
  rises : (part : Edge) (chain : List Point) → Contains some part → IsNodeChain some part chain → (piece : Edge) → Contains (pieces chain) piece → piece.x0 ≤ℤ piece.x1
  rises part chain held is piece inside =
      let (edge, among, is_part) = part-of subject clip stretches joined part held in
      (node-onwards some part chain held is piece inside).0.along_x.rising (by edge is_part)
    where
      by : (edge : Edge) → IsPart (onwards edge) part → part.x0 ≤ℤ part.x1
      by edge (inl same) = subst (λ (e : Edge). e.x0 ≤ℤ e.x1) (sym same) (goes-onwards edge).along
      by edge (inr (inl level)) = let some = level.some in omega (arith, ints, some)
      by edge (inr (inr upright)) = let level = upright.part_level in omega (arith, ints, level)

  rising : AllZip (λ part chain. All (λ edge. edge.x0 ≤ℤ edge.x1) (pieces chain)) some chains
  rising = AllZip-by (IsNodeChain some) (λ part chain. All (λ edge. edge.x0 ≤ℤ edge.x1) (pieces chain)) some chains (λ part chain held is. All-among (λ edge. edge.x0 ≤ℤ edge.x1) (pieces chain) (rises part chain held is)) are

  joined-weigh : (edges : List Edge) (list : List (List Point)) (weigh : Piece → ℤ) → ((stretch piece : Piece) → weigh (weighed stretch piece) ≡ weigh stretch) → AllZip Told edges list
      → All (λ stretch. weigh stretch ≡ total (λ edge. cond (has_part edge stretch.edge) (weight edge) (pos 0)) edges) stretches → AreJoined (flat_map pieces list) weigh (weighed_pieces stretches chains)
  joined-weigh edges list weigh keeps told weighs test = all-total test edges list told ∙ exchanged test weigh keeps edges stretches chains rising weighs

  -- ---- together

  abbrev chains_here : List (List Point)
  chains_here = (chains-for subject (Contains-append_left subject clip)).0

  abbrev clip_chains : List (List Point)
  clip_chains = (chains-for clip (Contains-append_right subject clip)).0

  told_here : AllZip Told subject chains_here
  told_here = (chains-for subject (Contains-append_left subject clip)).1

  told_clip : AllZip Told clip clip_chains
  told_clip = (chains-for clip (Contains-append_right subject clip)).1

  abbrev pub broken : List Edge
  broken = flat_map pieces chains_here

  abbrev pub broken_clip : List Edge
  broken_clip = flat_map pieces clip_chains

  pub are-broken : AreBroken subject clip broken broken_clip
  are-broken = record {
    chains = chains_here;
    clip_chains = clip_chains;
    are = AllZip-by Told (IsNodeChain all) subject chains_here (λ edge chain held told. told.of.is) told_here;
    clip_are = AllZip-by Told (IsNodeChain all) clip clip_chains (λ edge chain held told. told.of.is) told_clip;
    is = refl;
    clip_is = refl;
  }

  -- each is a piece of one of the edges, one way or the other
  of-edges : (piece : Piece) → Contains (weighed_pieces stretches chains) piece → (edge : Edge) × Contains (broken ++ broken_clip) edge × (rightwards edge ≡ piece.edge)
  of-edges piece held =
      let from = weighed-from stretches chains piece held in
      let (edge, among, told) = All-contains (λ stretch. (edge : Edge) × Contains all edge × (has_part edge stretch.edge ≡ true)) stretches from.stretch joined.of from.among in
      let (chain, inside, of) = zip-chain Told all (chains_here ++ clip_chains) edge (zip-append Told subject clip chains_here clip_chains told_here told_clip) among in
      let on = subst (λ (list : List Edge). Contains list from.edge) (sym of.of.pieces_are) (held-flat (parts edge) from.chain from.edge (from.chosen_too (has_part edge) told) from.inside) in
      by from edge chain inside of on of.of.way
    where
      together : (chain : List Point) (edge : Edge) → Contains (chains_here ++ clip_chains) chain → Contains (pieces chain) edge → Contains (broken ++ broken_clip) edge
      together chain edge among inside = subst (λ (list : List Edge). Contains list edge) (flat_map-append pieces chains_here clip_chains) (held-flat (chains_here ++ clip_chains) chain edge among inside)

      by : (from : From stretches chains piece) (edge : Edge) (chain : List Point) → Contains (chains_here ++ clip_chains) chain → (of : Told edge chain) → Contains (pieces of.of.on) from.edge
          → (onwards edge ≡ edge) × (chain ≡ of.of.on) ⊎ (onwards edge ≡ reversed edge) × (chain ≡ back of.of.on) → (one : Edge) × Contains (broken ++ broken_clip) one × (rightwards one ≡ piece.edge)
      by from edge chain inside of on (inl (same, is)) = (
        from.edge,
        together chain from.edge inside (subst (λ (list : List Point). Contains (pieces list) from.edge) (sym is) on),
        ap (λ (p : Piece). p.edge) (sym from.is),
      )
      by from edge chain inside of on (inr (turned, is)) = (
        reversed from.edge,
        together chain (reversed from.edge) inside (subst (λ (list : List Point). Contains (pieces list) (reversed from.edge)) (sym is) (pieces-back of.of.on from.edge on)),
        rightwards-back from.edge from.sloped ∙ ap (λ (p : Piece). p.edge) (sym from.is),
      )

  onwards-too : (piece : Piece) → Contains (weighed_pieces stretches chains) piece → piece.edge.x0 <ℤ piece.edge.x1
  onwards-too piece held =
      let from = weighed-from stretches chains piece held in
      subst (λ (p : Piece). p.edge.x0 <ℤ p.edge.x1) (sym from.is) (rightwards-onwards from.edge from.sloped)

  unit-total : (edges : List Edge) (part : Edge) → IsWithin (length edges) (total (λ edge. cond (has_part edge part) (weight edge) (pos 0)) edges)
  unit-total edges part = total-bounds (λ edge. cond (has_part edge part) (weight edge) (pos 0)) edges (λ edge. unit_part (has_part edge part) (weight edge) (unit_weight edge))

  small-too : (piece : Piece) → Contains (weighed_pieces stretches chains) piece → IsSmall (length all) piece
  small-too piece held =
      let from = weighed-from stretches chains piece held in
      let first = subst (IsWithin (length subject)) (sym (All-contains Weighs stretches from.stretch joined.weighs from.among)) (unit-total subject from.stretch.edge) in
      let second = subst (IsWithin (length clip)) (sym (All-contains WeighsClip stretches from.stretch joined.clip_weighs from.among)) (unit-total clip from.stretch.edge) in
      let sum = length-append subject clip in
      let a = first.from in
      let b = first.upto in
      let c = second.from in
      let d = second.upto in
      subst (IsSmall (length all)) (sym from.is) (record { from = omega (arith, ints, sum, a); upto = omega (arith, ints, sum, b); clip_from = omega (arith, ints, sum, c); clip_upto = omega (arith, ints, sum, d) })
    where
      Weighs : Piece → Type 0
      Weighs stretch = stretch.subject ≡ total (λ edge. cond (has_part edge stretch.edge) (weight edge) (pos 0)) subject

      WeighsClip : Piece → Type 0
      WeighsClip stretch = stretch.clip ≡ total (λ edge. cond (has_part edge stretch.edge) (weight edge) (pos 0)) clip

  pub they-stand : length all * length (weighed_pieces stretches chains) < 2 ^ 63 → StandFor broken broken_clip (weighed_pieces stretches chains)
  they-stand few = record {
    onwards = All-among (λ piece. piece.edge.x0 <ℤ piece.edge.x1) (weighed_pieces stretches chains) onwards-too;
    of = All-among (λ piece. (edge : Edge) × Contains (broken ++ broken_clip) edge × (rightwards edge ≡ piece.edge)) (weighed_pieces stretches chains) of-edges;
    joined = joined-weigh subject chains_here (λ piece. piece.subject) (λ stretch piece. refl) told_here joined.weighs;
    clip_joined = joined-weigh clip clip_chains (λ piece. piece.clip) (λ stretch piece. refl) told_clip joined.clip_weighs;
    most = length all;
    small = All-among (IsSmall (length all)) (weighed_pieces stretches chains) small-too;
    countable = few;
  }
