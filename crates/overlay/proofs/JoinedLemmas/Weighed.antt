-- What the pieces of edges weigh, and what those of the stretches do that they are joined to.
use Rattle.std.proofs.Common.{◌≡◌, ◌≢◌, ◌++◌, inl, inr, Bool, true, false, cond, zero, suc, ℤ, pos, negsuc, ◌*ℤ◌, ◌+ℤ◌, ◌-ℤ◌, ◌≤ℤ◌, ◌<ℤ◌, List, [], ◌∷◌, map, ap, ap₂, arith, refl, sym, subst, ◌∙◌}
use Rattle.std.proofs.lemmas.Int.{by_lt_z, ints}
use Rattle.std.proofs.lemmas.List.Elements.{All-head, All-tail, Contains-append_cases, Contains-append_left, Contains-append_right}
use Rattle.std.specs.Int.Signed.{lt_z}
use Rattle.std.specs.List.{All, AllZip, Contains, flat_map}
use Rattle.std.specs.Ordering.{int_eq}
use Rattle.i_tree.proofs.RootLemmas.Lists.{Contains-here, Contains-there}
use Rattle.plane.specs.declared.edge.Edge.{Edge}
use Rattle.plane.specs.declared.point.Point.{Point}
use Rattle.plane.specs.Ends.{edge_between, reversed}
use Rattle.plane.specs.SweepLine.Heights.{rightwards}
use Rattle.plane.proofs.MeetLemmas.Identities.{identity, number, plus, times}
use Rattle.plane.proofs.PairsLemmas.Bags.{Contains-from_map}
use Rattle.plane.proofs.SweepLineLemmas.Rightwards.{rightwards-left, rightwards-right}
use Rattle.noding.specs.Windings.{pieces}
use Rattle.noding.proofs.SnapLemmas.Numbers.{n_of}
use Rattle.overlay.specs.declared.fill.pieces.Piece.{Piece}
use Rattle.overlay.specs.declared.fill.pieces.Operand.TheVariants.{Subject}
use Rattle.overlay.specs.Fill.Pieces.{total, weight}
use Rattle.overlay.specs.Fill.Turned.{asked, piece_of, turned}
use Rattle.overlay.specs.Joined.{has_part, weighed, weighed_pieces}
use Rattle.overlay.proofs.FillLemmas.Premises.{All-among}
use Rattle.overlay.proofs.FillLemmas.Totals.{total-append, total-more, total-none, total-same, total-sum}
use Rattle.overlay.proofs.FillLemmas.Weights.{weight-none, weight-right}
use Rattle.overlay.proofs.PieceLemmas.Edges.{equal, unequal}
use Rattle.overlay.proofs.JoinedLemmas.Points.{edges_of}
use Rattle.overlay.proofs.JoinedLemmas.Runs.{back, chosen, pieces-joined}

-- ---- an edge turned back

pub rightwards-back : (edge : Edge) → edge.x0 ≢ edge.x1 → rightwards (reversed edge) ≡ rightwards edge
rightwards-back edge sloped = by (lt_z edge.x0 edge.x1) (lt_z edge.x1 edge.x0) refl refl
  where
    by : (s t : Bool) → lt_z edge.x0 edge.x1 ≡ s → lt_z edge.x1 edge.x0 ≡ t → rightwards (reversed edge) ≡ rightwards edge
    by true true up down = absurd (omega (arith, ints, up, down))
    by true false up down = rightwards-left (reversed edge) up ∙ sym (rightwards-right edge down)
    by false true up down = rightwards-right (reversed edge) up ∙ sym (rightwards-left edge down)
    by false false up down = absurd (sloped (omega (arith, ints, up, down)))

module _ (test : Edge → Bool) where
  abbrev pub worth : Edge → ℤ
  worth edge = cond (test (rightwards edge)) (weight edge) (pos 0)

  part_none : (t : Bool) (w : ℤ) → w ≡ pos 0 → cond t w (pos 0) ≡ pos 0
  part_none true w none = none
  part_none false w none = refl

  pub worth-none : (edge : Edge) → edge.x0 ≡ edge.x1 → worth edge ≡ pos 0
  worth-none edge upright = part_none (test (rightwards edge)) (weight edge) (weight-none edge upright)

  opposite : (t : Bool) (v w : ℤ) → v ≡ (pos 0 -ℤ w) → cond t v (pos 0) ≡ (pos 0 -ℤ cond t w (pos 0))
  opposite true v w is = is
  opposite false v w is = omega (arith, ints)

  weight-back : (edge : Edge) → weight (reversed edge) ≡ (pos 0 -ℤ weight edge)
  weight-back edge = by (lt_z edge.x0 edge.x1) (lt_z edge.x1 edge.x0) refl refl
    where
      by : (s t : Bool) → lt_z edge.x0 edge.x1 ≡ s → lt_z edge.x1 edge.x0 ≡ t → cond t (pos 1) (cond s (negsuc 0) (pos 0)) ≡ (pos 0 -ℤ cond s (pos 1) (cond t (negsuc 0) (pos 0)))
      by true true up down = absurd (omega (arith, ints, up, down))
      by true false up down = omega (arith, ints)
      by false true up down = omega (arith, ints)
      by false false up down = omega (arith, ints)

  worth-back : (edge : Edge) → worth (reversed edge) ≡ (pos 0 -ℤ worth edge)
  worth-back edge = by (int_eq edge.x0 edge.x1) refl
    where
      none : (a b : ℤ) → a ≡ pos 0 → b ≡ pos 0 → a ≡ (pos 0 -ℤ b)
      none a b first second = omega (arith, ints, first, second)

      by : (t : Bool) → int_eq edge.x0 edge.x1 ≡ t → worth (reversed edge) ≡ (pos 0 -ℤ worth edge)
      by true e = none (worth (reversed edge)) (worth edge) (worth-none (reversed edge) (sym (equal edge.x0 edge.x1 e))) (worth-none edge (equal edge.x0 edge.x1 e))
      by false e =
          ap (λ (right : Edge). cond (test right) (weight (reversed edge)) (pos 0)) (rightwards-back edge (unequal edge.x0 edge.x1 e))
          ∙ opposite (test (rightwards edge)) (weight (reversed edge)) (weight edge) (weight-back edge)

  -- so a chain from its end to its start weighs as much the other way
  added : (a b c d : ℤ) → a ≡ (pos 0 -ℤ b) → c ≡ (pos 0 -ℤ d) → (a +ℤ c) ≡ (pos 0 -ℤ (d +ℤ b))
  added a b c d first second = omega (arith, ints, first, second)

  pub total-back : (chain : List Point) → total worth (pieces (back chain)) ≡ (pos 0 -ℤ total worth (pieces chain))
  total-back [] = omega (arith, ints)
  total-back (c ∷ []) = omega (arith, ints)
  total-back (c ∷ d ∷ chain) =
      ap (total worth) (pieces-joined (back chain) (c ∷ []) d)
      ∙ total-more worth (pieces (back chain ++ d ∷ [])) (edge_between d c)
      ∙ added (total worth (pieces (back (d ∷ chain)))) (total worth (pieces (d ∷ chain))) (worth (edge_between d c)) (worth (edge_between c d)) (total-back (d ∷ chain)) (worth-back (edge_between c d))

  -- ---- the pieces of a stretch

  none_more : (s w t : ℤ) → w ≡ pos 0 → (s *ℤ t) ≡ (s *ℤ (w +ℤ t))
  none_more s w t none =
      identity (times (number s) (number t)) (times (number s) (plus (n_of 0) (number t))) (omega arith) ∙ ap (λ z. s *ℤ (z +ℤ t)) (sym none)

  one_more : (b : Bool) (s w t r : ℤ) → w ≡ pos 1 → r ≡ (s *ℤ t) → (cond b s (pos 0) +ℤ r) ≡ (s *ℤ (cond b w (pos 0) +ℤ t))
  one_more true s w t r one rest =
      ap (λ z. s +ℤ z) rest ∙ identity (plus (number s) (times (number s) (number t))) (times (number s) (plus (n_of 1) (number t))) (omega arith) ∙ ap (λ z. s *ℤ (z +ℤ t)) (sym one)
  one_more false s w t r one rest =
      ap (λ z. pos 0 +ℤ z) rest ∙ identity (plus (n_of 0) (times (number s) (number t))) (times (number s) (plus (n_of 0) (number t))) (omega arith)

  module _ (weigh : Piece → ℤ) (keeps : (stretch piece : Piece) → weigh (weighed stretch piece) ≡ weigh stretch) where
    stretch-total : (stretch : Piece) (edges : List Edge) → All (λ edge. edge.x0 ≤ℤ edge.x1) edges
        → total (asked test weigh) (map (weighed stretch) (turned Subject edges)) ≡ (weigh stretch *ℤ total worth edges)
    stretch-total stretch [] rising = identity (n_of 0) (times (number (weigh stretch)) (n_of 0)) (omega arith)
    stretch-total stretch (edge ∷ edges) rising = by (int_eq edge.x0 edge.x1) refl (stretch-total stretch edges (All-tail (λ edge. edge.x0 ≤ℤ edge.x1) edge edges rising))
      where
        onwards : int_eq edge.x0 edge.x1 ≡ false → edge.x0 <ℤ edge.x1
        onwards e = let apart = unequal edge.x0 edge.x1 e in let upto = All-head (λ edge. edge.x0 ≤ℤ edge.x1) edge edges rising in by_lt_z edge.x0 edge.x1 (λ less. less) (λ most. absurd (apart (omega (arith, ints, upto, most))))

        by : (t : Bool) → int_eq edge.x0 edge.x1 ≡ t → total (asked test weigh) (map (weighed stretch) (turned Subject edges)) ≡ (weigh stretch *ℤ total worth edges)
            → total (asked test weigh) (map (weighed stretch) (cond t (turned Subject edges) (piece_of Subject edge ∷ turned Subject edges))) ≡ (weigh stretch *ℤ (worth edge +ℤ total worth edges))
        by true e rest = rest ∙ none_more (weigh stretch) (worth edge) (total worth edges) (worth-none edge (equal edge.x0 edge.x1 e))
        by false e rest =
            ap (λ w. cond (test (rightwards edge)) w (pos 0) +ℤ total (asked test weigh) (map (weighed stretch) (turned Subject edges))) (keeps stretch (piece_of Subject edge))
            ∙ one_more (test (rightwards edge)) (weigh stretch) (weight edge) (total worth edges) (total (asked test weigh) (map (weighed stretch) (turned Subject edges))) (weight-right edge (onwards e)) rest

    -- ---- all edges, and all stretches

    abbrev Rising : Edge → List Point → Type 0
    Rising part chain = All (λ edge. edge.x0 ≤ℤ edge.x1) (pieces chain)

    parts-worth : Edge → List Piece → List (List Point) → ℤ
    parts-worth edge stretches chains = total worth (flat_map pieces (chosen (has_part edge) (edges_of stretches) chains))

    split : (t : Bool) (w v r : ℤ) (chain : List Point) (rest : List (List Point)) → v ≡ total worth (pieces chain) → r ≡ total worth (flat_map pieces rest)
        → (w *ℤ total worth (flat_map pieces (cond t (chain ∷ rest) rest))) ≡ ((cond t w (pos 0) *ℤ v) +ℤ (w *ℤ r))
    split true w v r chain rest first second =
        ap (λ z. w *ℤ z) (total-append worth (pieces chain) (flat_map pieces rest) ∙ ap₂ (λ a b. a +ℤ b) (sym first) (sym second))
        ∙ identity (times (number w) (plus (number v) (number r))) (plus (times (number w) (number v)) (times (number w) (number r))) (omega arith)
    split false w v r chain rest first second =
        ap (λ z. w *ℤ z) (sym second) ∙ identity (times (number w) (number r)) (plus (times (n_of 0) (number v)) (times (number w) (number r))) (omega arith)

    total-times : (f : Edge → ℤ) (v : ℤ) (edges : List Edge) → total (λ edge. f edge *ℤ v) edges ≡ (total f edges *ℤ v)
    total-times f v [] = identity (n_of 0) (times (n_of 0) (number v)) (omega arith)
    total-times f v (edge ∷ edges) =
        ap (λ z. (f edge *ℤ v) +ℤ z) (total-times f v edges)
        ∙ identity (plus (times (number (f edge)) (number v)) (times (number (total f edges)) (number v))) (times (plus (number (f edge)) (number (total f edges))) (number v)) (omega arith)

    no_parts : (w : ℤ) → (w *ℤ pos 0) ≡ pos 0
    no_parts w = identity (times (number w) (n_of 0)) (n_of 0) (omega arith)

    pub exchanged : (edges : List Edge) (stretches : List Piece) (chains : List (List Point)) → AllZip Rising (edges_of stretches) chains
        → All (λ stretch. weigh stretch ≡ total (λ edge. cond (has_part edge stretch.edge) (weight edge) (pos 0)) edges) stretches
        → total (λ edge. weight edge *ℤ total worth (flat_map pieces (chosen (has_part edge) (edges_of stretches) chains))) edges ≡ total (asked test weigh) (weighed_pieces stretches chains)
    exchanged edges [] chains rising weigh_them = total-none (λ edge. weight edge *ℤ pos 0) edges (All-among (λ edge. (weight edge *ℤ pos 0) ≡ pos 0) edges (λ edge held. no_parts (weight edge)))
    exchanged edges (stretch ∷ stretches) [] rising weigh_them = absurd rising
    exchanged edges (stretch ∷ stretches) (chain ∷ chains) (rises, rising) weigh_them =
        total-same (λ edge. weight edge *ℤ total worth (flat_map pieces (chosen (has_part edge) (edges_of (stretch ∷ stretches)) (chain ∷ chains)))) (λ edge. (here edge *ℤ v) +ℤ there edge) edges
        (All-among _ edges (λ edge held. split (has_part edge stretch.edge) (weight edge) v (total worth (flat_map pieces (rest edge))) chain (rest edge) refl refl))
        ∙ total-sum (λ edge. here edge *ℤ v) there edges
        ∙ ap₂ (λ a b. a +ℤ b)
        (total-times here v edges ∙ ap (λ z. z *ℤ v) (sym (All-head Weighs stretch stretches weigh_them)) ∙ sym (stretch-total stretch (pieces chain) rises))
        (exchanged edges stretches chains rising (All-tail Weighs stretch stretches weigh_them))
        ∙ sym (total-append (asked test weigh) (map (weighed stretch) (turned Subject (pieces chain))) (weighed_pieces stretches chains))
      where
        v : ℤ
        v = total worth (pieces chain)

        rest : Edge → List (List Point)
        rest edge = chosen (has_part edge) (edges_of stretches) chains

        here : Edge → ℤ
        here edge = cond (has_part edge stretch.edge) (weight edge) (pos 0)

        there : Edge → ℤ
        there edge = weight edge *ℤ total worth (flat_map pieces (rest edge))

        Weighs : Piece → Type 0
        Weighs stretch = weigh stretch ≡ total (λ edge. cond (has_part edge stretch.edge) (weight edge) (pos 0)) edges

-- ---- where a weighed piece is from

turned-from : (edges : List Edge) (piece : Piece) → Contains (turned Subject edges) piece → (edge : Edge) × Contains edges edge × (edge.x0 ≢ edge.x1) × (piece ≡ piece_of Subject edge)
turned-from [] piece (k, within, at) = absurd (omega (arith, within))
turned-from (edge ∷ edges) piece held =
    by (λ inside. (let (one, among, sloped, is) = turned-from edges piece inside in (one, Contains-there edge edges one among, sloped, is))) (int_eq edge.x0 edge.x1) refl held
  where
    by : (Contains (turned Subject edges) piece → (one : Edge) × Contains (edge ∷ edges) one × (one.x0 ≢ one.x1) × (piece ≡ piece_of Subject one)) → (t : Bool) → int_eq edge.x0 edge.x1 ≡ t → Contains (cond t (turned Subject edges) (piece_of Subject edge ∷ turned Subject edges)) piece → (one : Edge) × Contains (edge ∷ edges) one × (one.x0 ≢ one.x1) × (piece ≡ piece_of Subject one)
    by later true e inside = later inside
    by later false e (zero, within, at) = (edge, Contains-here edge edges, unequal edge.x0 edge.x1 e, sym at)
    by later false e (suc k, within, at) = later (k, omega (arith, within), at)

-- A stretch, a chain at its place, and a piece of this one.
pub record From (stretches : List Piece) (chains : List (List Point)) (piece : Piece) : Type 0 where
  pub stretch : Piece
  pub among : Contains stretches stretch
  pub chain : List Point
  pub chosen_too : (test : Edge → Bool) → test stretch.edge ≡ true → Contains (chosen test (edges_of stretches) chains) chain
  pub edge : Edge
  pub inside : Contains (pieces chain) edge
  pub sloped : edge.x0 ≢ edge.x1
  pub is : piece ≡ weighed stretch (piece_of Subject edge)

pub weighed-from : (stretches : List Piece) (chains : List (List Point)) (piece : Piece) → Contains (weighed_pieces stretches chains) piece → From stretches chains piece
weighed-from [] chains piece (k, within, at) = absurd (omega (arith, within))
weighed-from (stretch ∷ stretches) [] piece (k, within, at) = absurd (omega (arith, within))
weighed-from (stretch ∷ stretches) (chain ∷ chains) piece held = elim (Contains-append_cases (map (weighed stretch) (turned Subject (pieces chain))) (weighed_pieces stretches chains) piece held) [
  | inl here ↦
      let (turned_piece, inside, is) = Contains-from_map (weighed stretch) (turned Subject (pieces chain)) piece here in
      let (edge, among, sloped, same) = turned-from (pieces chain) turned_piece inside in record {
        stretch = stretch;
        among = Contains-here stretch stretches;
        chain = chain;
        chosen_too = λ test told. subst (λ (t : Bool). Contains (cond t (chain ∷ chosen test (edges_of stretches) chains) (chosen test (edges_of stretches) chains)) chain) (sym told) (Contains-here chain (chosen test (edges_of stretches) chains));
        edge = edge;
        inside = among;
        sloped = sloped;
        is = sym is ∙ ap (weighed stretch) same;
      }
  | inr later ↦
      let from = weighed-from stretches chains piece later in record {
        stretch = from.stretch;
        among = Contains-there stretch stretches from.stretch from.among;
        chain = from.chain;
        chosen_too = λ test told. more (test stretch.edge) (chosen test (edges_of stretches) chains) from.chain (from.chosen_too test told);
        edge = from.edge;
        inside = from.inside;
        sloped = from.sloped;
        is = from.is;
      }
]
  where
    more : (t : Bool) (rest : List (List Point)) (one : List Point) → Contains rest one → Contains (cond t (chain ∷ rest) rest) one
    more true rest one inside = Contains-there chain rest one inside
    more false rest one inside = inside

-- a piece of a chain is one of the chain from its end to its start, turned
pub pieces-back : (chain : List Point) (edge : Edge) → Contains (pieces chain) edge → Contains (pieces (back chain)) (reversed edge)
pieces-back [] edge (k, within, at) = absurd (omega (arith, within))
pieces-back (c ∷ []) edge (k, within, at) = absurd (omega (arith, within))
pieces-back (c ∷ d ∷ chain) edge held = subst (λ (list : List Edge). Contains list (reversed edge)) (sym (pieces-joined (back chain) (c ∷ []) d)) (by (pieces-back (d ∷ chain) edge) held)
  where
    by : (Contains (pieces (d ∷ chain)) edge → Contains (pieces (back chain ++ d ∷ [])) (reversed edge)) → Contains (edge_between c d ∷ pieces (d ∷ chain)) edge → Contains (pieces (back chain ++ d ∷ []) ++ edge_between d c ∷ []) (reversed edge)
    by later (zero, within, at) = Contains-append_right (pieces (back chain ++ d ∷ [])) (edge_between d c ∷ []) (reversed edge) (zero, omega arith, ap reversed at)
    by later (suc k, within, at) = Contains-append_left (pieces (back chain ++ d ∷ [])) (edge_between d c ∷ []) (reversed edge) (later (k, omega (arith, within), at))
