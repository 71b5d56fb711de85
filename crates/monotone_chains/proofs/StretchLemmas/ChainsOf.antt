-- The chains of all edges of stretches, from those of their chords: what the chords are broken into winds for the point that stands
-- for a point as what the edges are broken into does for this.
use Rattle.std.proofs.Common.{◌≡◌, ◌≢◌, ◌⊎◌, ◌++◌, inl, inr, zero, suc, List, [], ◌∷◌, length, map, append-nil, refl, sym, ap, ap₂, ◌∙◌, subst, subst₂, arith}
use Rattle.std.specs.List.{All, AllPairs, AllZip, Contains, flat_map}
use Rattle.std.proofs.lemmas.Bool.{cases_lt}
use Rattle.std.proofs.lemmas.Grind.{flat_map-append}
use Rattle.std.proofs.lemmas.List.{map-append}
use Rattle.std.proofs.lemmas.List.Elements.{All-contains, Contains-append_left, Contains-append_right}
use Rattle.i_tree.proofs.RootLemmas.Lists.{Contains-here, Contains-there}
use Rattle.plane.specs.declared.edge.Edge.{Edge}
use Rattle.plane.specs.declared.point.Point.{Point}
use Rattle.plane.specs.Meet.Edges.{RationalPoint}
use Rattle.overlay.specs.Boundary.{AreBroken}
use Rattle.overlay.proofs.BoundaryLemmas.Broken.{zip-append}
use Rattle.overlay.proofs.GroupingLemmas.Bags.{Contains-in_flat_map}
use Rattle.noding.specs.Chains.{IsEnd, Upto}
use Rattle.noding.specs.Local.{IsNode, IsNodeChain}
use Rattle.plane.specs.Ends.{end_of, start_of}
use Rattle.noding.specs.Windings.{pieces, winding}
use Rattle.monotone_chains.specs.Stretches.{AreStretches, IsLong, IsStretch, chord}
use Rattle.noding.proofs.Callers.{end-hot}
use Rattle.noding.proofs.ChainLemmas.Local.{has_end}
use Rattle.noding.proofs.SnapLemmas.Along.{Passes-end, Upto-from_start, point_at}
use Rattle.noding.proofs.SnapLemmas.Numbers.{both}
use Rattle.noding.proofs.SnapLemmas.Windings.{winding-append}
use Rattle.monotone_chains.proofs.StretchLemmas.Boxes.{ClearIfLong, long-ways}
use Rattle.monotone_chains.proofs.StretchLemmas.Nodes.{single-chain}
use Rattle.monotone_chains.proofs.StretchLemmas.NodedWays.{piece-sloped}
use Rattle.monotone_chains.proofs.StretchLemmas.Pieces.{pieces-lie}
use Rattle.monotone_chains.proofs.StretchLemmas.Resting.{IsEnd-of, hot-end}
use Rattle.monotone_chains.proofs.StretchLemmas.Shifts.{IsShift}
use Rattle.monotone_chains.proofs.StretchLemmas.Unbroken.{pieces-unbroken}
use Rattle.monotone_chains.proofs.StretchLemmas.Wound.{all-match, lying, single-pieces}

-- ---- chains of two ends

-- the two ends of an edge
abbrev pub ends_of : Edge → List Point
ends_of edge = start_of edge ∷ end_of edge ∷ []

of_two : (a b c : Point) → Contains (a ∷ b ∷ []) c → (a ≡ c) ⊎ (b ≡ c)
of_two a b c (zero, within, is) = inl is
of_two a b c (suc zero, within, is) = inr is
of_two a b c (suc (suc k), within, is) = absurd (omega (arith, within))

-- the pieces of such chains are the edges
ends-pieces : (some : List Edge) → flat_map pieces (map ends_of some) ≡ some
ends-pieces [] = refl
ends-pieces (edge ∷ some) = ap (λ (list : List Edge). edge ∷ list) (ends-pieces some)

module _ (all : List (List Point)) (each : All IsStretch all) (clear : AllPairs ClearIfLong all) where
  abbrev edges : List Edge
  edges = flat_map pieces all

  is_stretch : (s : List Point) → Contains all s → IsStretch s
  is_stretch s among = All-contains IsStretch all s each among

  -- the chain of an edge of a long stretch
  pub long-chain : (s : List Point) → Contains all s → IsLong s → (edge : Edge) → Contains (pieces s) edge → IsNodeChain edges edge (ends_of edge)
  long-chain s among long edge held = record {
    in_order = λ i j d before within. in_order i j d before within;
    once = λ i j d before within. once i j d before within;
    exact = λ c. (λ inside. node c (of_two (start_of edge) (end_of edge) c inside), λ told. among_ends c (hot-end all each clear s among long edge held c told.1 told.0));
  }
    where
      onwards : Upto edge edge.x0 edge.y0 edge.x1 edge.y1
      onwards = Upto-from_start edge edge.x1 edge.y1 (Passes-end edge)

      in_order : AllPairs (λ c d. Upto edge c.x c.y d.x d.y) (ends_of edge)
      in_order zero zero d before within = absurd (omega (arith, before))
      in_order zero (suc zero) d before within = onwards
      in_order zero (suc (suc j)) d before within = absurd (omega (arith, within))
      in_order (suc i) zero d before within = absurd (omega (arith, before))
      in_order (suc i) (suc zero) d before within = absurd (omega (arith, before))
      in_order (suc i) (suc (suc j)) d before within = absurd (omega (arith, within))

      differ : start_of edge ≢ end_of edge
      differ same = piece-sloped s (long-ways s (is_stretch s among) long) edge held (sym (ap (λ (p : Point). p.x) same))

      once : AllPairs (λ c d. c ≢ d) (ends_of edge)
      once zero zero d before within = absurd (omega (arith, before))
      once zero (suc zero) d before within = differ
      once zero (suc (suc j)) d before within = absurd (omega (arith, within))
      once (suc i) zero d before within = absurd (omega (arith, before))
      once (suc i) (suc zero) d before within = absurd (omega (arith, before))
      once (suc i) (suc (suc j)) d before within = absurd (omega (arith, within))

      node : (c : Point) → (start_of edge ≡ c) ⊎ (end_of edge ≡ c) → IsNode edges edge c.x c.y
      node c is =
          let end = IsEnd-of edge c is in
          let (hot, passes) = end-hot edges edge c.x c.y (Contains-in_flat_map pieces all s edge among held) end in
          (hot, passes, inl (has_end edge c.x c.y end))

      among_ends : (c : Point) → IsEnd edge c.x c.y → Contains (ends_of edge) c
      among_ends c (inl (at_x, at_y)) = subst (Contains (ends_of edge)) (sym (ap₂ point_at at_x at_y)) (Contains-here (start_of edge) (end_of edge ∷ []))
      among_ends c (inr (at_x, at_y)) = subst (Contains (ends_of edge)) (sym (ap₂ point_at at_x at_y)) (Contains-there (start_of edge) (end_of edge ∷ []) (end_of edge) (Contains-here (end_of edge) []))

  long-chains : (s : List Point) → Contains all s → IsLong s → (some : List Edge) → ((edge : Edge) → Contains some edge → Contains (pieces s) edge) → AllZip (IsNodeChain edges) some (map ends_of some)
  long-chains s among long [] held = tt
  long-chains s among long (edge ∷ some) held =
      (long-chain s among long edge (held edge (Contains-here edge some)), long-chains s among long some (λ later inside. held later (Contains-there edge some later inside)))

  -- ---- chains of stretches

  -- The chains of all edges of some stretches, in place of those of the chords.
  pub record ChainsOf (some chains : List (List Point)) : Type 0 where
    pub of : List (List Point)
    pub are : AllZip (IsNodeChain edges) (flat_map pieces some) of
    pub winds : (point other : RationalPoint) → IsShift all point other → winding (flat_map pieces chains) other ≡ winding (flat_map pieces of) point

  -- those of the edges of one
  record ChainsOfOne (s chain : List Point) : Type 0 where
    of : List (List Point)
    are : AllZip (IsNodeChain edges) (pieces s) of
    winds : (point other : RationalPoint) → IsShift all point other → winding (pieces chain) other ≡ winding (flat_map pieces of) point

  of_long : (s chain : List Point) → Contains all s → IsLong s → IsNodeChain (map chord all) (chord s) chain → ChainsOfOne s chain
  of_long s chain among long is = record {
    of = map ends_of (pieces s);
    are = long-chains s among long (pieces s) (λ edge held. held);
    winds = λ point other shift.
        ap (λ (list : List Edge). winding list other) (pieces-unbroken all each clear s among long chain is)
        ∙ sym (all-match all each point other shift s among)
        ∙ ap (λ (list : List Edge). winding list point) (sym (ends-pieces (pieces s)));
  }

  of_single : (s chain : List Point) → Contains all s → ¬ (IsLong s) → IsNodeChain (map chord all) (chord s) chain → ChainsOfOne s chain
  of_single s chain among short is = record {
    of = chain ∷ [];
    are = subst (λ (list : List Edge). AllZip (IsNodeChain edges) list (chain ∷ [])) (sym (single-pieces s (is_stretch s among) short)) (single-chain all each clear s among short chain is, tt);
    winds = λ point other shift.
        lying all each point other shift s among short (pieces chain) (pieces-lie all each clear s among chain is)
        ∙ ap (λ (list : List Edge). winding list point) (sym (append-nil (pieces chain)));
  }

  of_one : (s chain : List Point) → Contains all s → IsNodeChain (map chord all) (chord s) chain → ChainsOfOne s chain
  of_one s chain among is = elim (cases_lt 2 (length s)) [
    | inl long ↦ of_long s chain among long is
    | inr few ↦ of_single s chain among (λ long. omega (arith, long, few)) is
  ]

  pub chains-of : (some chains : List (List Point)) → ((s : List Point) → Contains some s → Contains all s) → AllZip (IsNodeChain (map chord all)) (map chord some) chains → ChainsOf some chains
  chains-of [] [] among are = record { of = []; are = tt; winds = λ point other shift. refl }
  chains-of [] (chain ∷ chains) among are = absurd are
  chains-of (s ∷ some) [] among are = absurd are
  chains-of (s ∷ some) (chain ∷ chains) among (is, are) =
      let one = of_one s chain (among s (Contains-here s some)) is in
      let rest = chains-of some chains (λ t later. among t (Contains-there s some t later)) are in record {
        of = one.of ++ rest.of;
        are = zip-append (IsNodeChain edges) (pieces s) (flat_map pieces some) one.of rest.of one.are rest.are;
        winds = λ point other shift.
            winding-append (pieces chain) (flat_map pieces chains) other
            ∙ both (winding (pieces chain) other) (winding (flat_map pieces one.of) point) (winding (flat_map pieces chains) other) (winding (flat_map pieces rest.of) point)
            (one.winds point other shift)
            (rest.winds point other shift)
            ∙ sym (winding-append (flat_map pieces one.of) (flat_map pieces rest.of) point)
            ∙ ap (λ (list : List Edge). winding list point) (sym (flat_map-append pieces one.of rest.of));
      }

-- ---- the stretches of subject and clip

-- they have all edges of these
pub all-edges : (subject clip : List Edge) (stretches clip_stretches : List (List Point)) → AreStretches subject clip stretches clip_stretches → flat_map pieces (stretches ++ clip_stretches) ≡ subject ++ clip
all-edges subject clip stretches clip_stretches cut = flat_map-append pieces stretches clip_stretches ∙ ap₂ (λ (one other : List Edge). one ++ other) (sym cut.is) (sym cut.clip_is)

-- What the edges of subject and clip are broken into, and how it winds where what the chords are broken into is given.
pub record BrokenEdges (all : List (List Point)) (subject clip broken broken_clip : List Edge) : Type 0 where
  pub some : List Edge
  pub some_clip : List Edge
  pub are : AreBroken subject clip some some_clip
  pub winds : (point other : RationalPoint) → IsShift all point other → winding broken other ≡ winding some point
  pub clip_winds : (point other : RationalPoint) → IsShift all point other → winding broken_clip other ≡ winding some_clip point

module _ (subject clip : List Edge) (stretches clip_stretches : List (List Point)) (cut : AreStretches subject clip stretches clip_stretches) (broken broken_clip : List Edge) (are : AreBroken (map chord stretches) (map chord clip_stretches) broken broken_clip) where
  abbrev all_stretches : List (List Point)
  all_stretches = stretches ++ clip_stretches

  all_chords : (some chains : List (List Point)) → AllZip (IsNodeChain (map chord stretches ++ map chord clip_stretches)) (map chord some) chains → AllZip (IsNodeChain (map chord all_stretches)) (map chord some) chains
  all_chords some chains zip = subst (λ (list : List Edge). AllZip (IsNodeChain list) (map chord some) chains) (sym (map-append chord stretches clip_stretches)) zip

  pub broken-edges : BrokenEdges all_stretches subject clip broken broken_clip
  broken-edges =
      let first = chains-of all_stretches cut.each cut.clear stretches are.chains (Contains-append_left stretches clip_stretches) (all_chords stretches are.chains are.are) in
      let second = chains-of all_stretches cut.each cut.clear clip_stretches are.clip_chains (Contains-append_right stretches clip_stretches) (all_chords clip_stretches are.clip_chains are.clip_are) in record {
        some = flat_map pieces first.of;
        some_clip = flat_map pieces second.of;
        are = record {
          chains = first.of;
          clip_chains = second.of;
          are = subst₂ (λ (list some : List Edge). AllZip (IsNodeChain list) some first.of) (all-edges subject clip stretches clip_stretches cut) (sym cut.is) first.are;
          clip_are = subst₂ (λ (list some : List Edge). AllZip (IsNodeChain list) some second.of) (all-edges subject clip stretches clip_stretches cut) (sym cut.clip_is) second.are;
          is = refl;
          clip_is = refl;
        };
        winds = λ point other shift. ap (λ (list : List Edge). winding list other) are.is ∙ first.winds point other shift;
        clip_winds = λ point other shift. ap (λ (list : List Edge). winding list other) are.clip_is ∙ second.winds point other shift;
      }
