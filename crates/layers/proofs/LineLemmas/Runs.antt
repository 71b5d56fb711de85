-- Runs of edges that are kept.
use Rattle.std.proofs.Common.{◌≡◌, ◌≢◌, ◌⊎◌, inl, inr, ◌<◌, ◌≤◌, ◌+◌, ◌++◌, [], ◌∷◌, ℕ, List, MatchBool, Bool, true, false, length, drop, take, zero, suc, ◌-◌, get_or, ap, refl, sym, subst, subst₂, ◌∙◌, append_assoc, append-nil, arith}
use Rattle.std.specs.List.{All, AllWithin, AllZip, between, flat_map}
use Rattle.std.proofs.lemmas.Bool.{cases_lt, false≢true}
use Rattle.std.proofs.lemmas.List.{drop_all, get_or-drop, length-append, length-drop, take_all, take_more}
use Rattle.std.proofs.lemmas.List.Edits.{get_or-between, length-between}
use Rattle.std.proofs.lemmas.List.Elements.{All-append, All-cons, All-nil}
use Rattle.std.proofs.lemmas.List.Folds.{drop_split}
use Rattle.plane.specs.declared.edge.Edge.{Edge}
use Rattle.plane.specs.declared.point.Point.{Point}
use Rattle.overlay.specs.declared.fill.rules.FillRule.{FillRule}
use Rattle.noding.specs.Offsets.{offsets}
use Rattle.noding.specs.Windings.{pieces}
use Rattle.noding.proofs.ChainLemmas.Zips.{AllZip-at, AllZip-more}
use Rattle.layers.specs.declared.lines.Keep.{Keep}
use Rattle.overlay.specs.Polygons.{AreAppended}
use Rattle.layers.specs.LineParts.{AreRunsBy, AreRunsOfEach, AreTold, IsPath, points_along}
use Rattle.layers.specs.Lines.{AreRuns, IsKept}
use Rattle.layers.specs.Shapes.{lists_of}
use Rattle.noding.proofs.ChainLemmas.Standing.{length-offsets}
use Rattle.layers.proofs.ListLemmas.{length-lists_of, lists_of-at}
use Rattle.layers.proofs.LineLemmas.Paths.{IsPath-between, length-along, pieces-along}

module _ (Kept : Edge → Type 0) where
  -- the flag tells whether the edge is kept
  abbrev Tells : Edge → Bool → Type 0
  Tells edge flag = MatchBool flag (Kept edge) (¬ (Kept edge))

  abbrev Told : List Edge → List Bool → Type 0
  Told edges flags = AllZip Tells edges flags

  -- more edges that aren't kept, before all runs
  pub AreRuns-behind : (before edges : List Edge) (runs : List (List Point)) → All (λ edge. ¬ (Kept edge)) before → AreRuns Kept edges runs → AreRuns Kept (before ++ edges) runs
  AreRuns-behind before edges [] left_out runs = All-append (λ edge. ¬ (Kept edge)) before edges left_out runs
  AreRuns-behind before edges (run ∷ runs) left_out (between, after, is, later) = (
    before ++ between,
    after,
    record {
      is = ap (λ (list : List Edge). before ++ list) is.is ∙ sym (append_assoc before between (pieces run ++ after));
      long = is.long;
      kept = is.kept;
      left_out = All-append (λ edge. ¬ (Kept edge)) before between left_out is.left_out;
      ends = is.ends;
    },
    later,
  )

  -- a run that begins at once
  pub AreRuns-begin : (edges after : List Edge) (runs : List (List Point)) → IsPath edges → 0 < length edges → All Kept edges → All (λ edge. ¬ (Kept edge)) (take 1 after) → AreRuns Kept after runs
      → AreRuns Kept (edges ++ after) (points_along edges ∷ runs)
  AreRuns-begin edges after runs path some kept ends later =
      let same = pieces-along edges path in (
        [],
        after,
        record {
          is = ap (λ (list : List Edge). list ++ after) (sym same);
          long = omega (arith, some, length-along edges some);
          kept = subst (All Kept) (sym same) kept;
          left_out = All-nil (λ edge. ¬ (Kept edge));
          ends = ends;
        },
        later,
      )

  -- what holds from the one place on, and before the other
  All-between : (P : Edge → Type 0) (edges : List Edge) (start end : ℕ) → end ≤ length edges → AllWithin P edges start end → All P (between start end edges)
  All-between P edges start end within each k d inside =
      let size = length-between edges start end within in
      subst P (sym (get_or-between edges start end k d (omega (arith, inside, size)))) (each (start + k) d (omega arith) (omega (arith, inside, size)))

  All-next : (P : Edge → Type 0) (edges : List Edge) (place : ℕ) → ((d : Edge) → place < length edges → P (get_or edges place d)) → All P (take 1 (drop place edges))
  All-next P edges place here = by (drop place edges) refl
    where
      by : (rest : List Edge) → drop place edges ≡ rest → All P (take 1 rest)
      by [] is = All-nil P
      by (edge ∷ others) is =
          let size = ap (λ (list : List Edge). length list) is in
          let inside : place < length edges = omega (arith, size, length-drop place edges) in
          let first = ap (λ (list : List Edge). get_or list 0 edge) is in
          All-cons P edge [] (subst P (sym (get_or-drop place edges 0 edge) ∙ first) (subst (λ (n : ℕ). P (get_or edges n edge)) (let n : place ≡ place + 0 = omega arith in n) (here edge inside))) (All-nil P)

  -- what the flags tell of the edges at some places
  kept-within : (edges : List Edge) (flags : List Bool) (start end : ℕ) → Told edges flags → end ≤ length edges → AllWithin (λ flag. flag ≢ false) flags start end → AllWithin Kept edges start end
  kept-within edges flags start end told within kept k d from upto =
      by (get_or flags k true) refl (AllZip-at Tells edges flags d true k told (omega (arith, upto, within)))
    where
      by : (flag : Bool) → get_or flags k true ≡ flag → MatchBool flag (Kept (get_or edges k d)) (¬ (Kept (get_or edges k d))) → Kept (get_or edges k d)
      by true is tells = tells
      by false is tells = absurd (kept k true from upto is)

  left-within : (edges : List Edge) (flags : List Bool) (start end : ℕ) → Told edges flags → end ≤ length edges → AllWithin (λ flag. flag ≢ true) flags start end → AllWithin (λ edge. ¬ (Kept edge)) edges start end
  left-within edges flags start end told within left k d from upto =
      by (get_or flags k true) refl (AllZip-at Tells edges flags d true k told (omega (arith, upto, within)))
    where
      by : (flag : Bool) → get_or flags k true ≡ flag → MatchBool flag (Kept (get_or edges k d)) (¬ (Kept (get_or edges k d))) → ¬ (Kept (get_or edges k d))
      by true is tells = absurd (left k true from upto is)
      by false is tells = tells

  left-at : (edges : List Edge) (flags : List Bool) (place : ℕ) → Told edges flags → place < length edges → get_or flags place true ≡ false → (d : Edge) → ¬ (Kept (get_or edges place d))
  left-at edges flags place told within is d = subst (λ (flag : Bool). MatchBool flag (Kept (get_or edges place d)) (¬ (Kept (get_or edges place d)))) is (AllZip-at Tells edges flags d true place told within)

  -- a run from a place on, and the runs behind it
  pub AreRuns-from : (edges : List Edge) (flags : List Bool) (next end later : ℕ) (runs : List (List Point)) → IsPath edges → Told edges flags → length flags ≡ length edges → next < length edges → next ≤ end
      → end ≤ later → later ≤ length flags → AllWithin (λ flag. flag ≢ false) flags next end → ((d : Bool) → end < length flags → get_or flags end d ≡ false) → AllWithin (λ flag. flag ≢ true) flags end later
      → ((d : Bool) → get_or flags next d ≡ true) → AreRuns Kept (drop later edges) runs → AreRuns Kept (drop next edges) (points_along (between next end edges) ∷ runs)
  AreRuns-from edges flags next end later runs path told same some rising onwards within kept ends left begins are =
      let more : next < end = beyond (cases_lt next end) in
      let inside : end ≤ length edges = omega (arith, onwards, within, same) in
      let size = length-between edges next end inside in
      let rest : AreRuns Kept (drop end edges) runs =
      subst (λ (list : List Edge). AreRuns Kept list runs) (sym (drop_split edges end later onwards)) (AreRuns-behind (between end later edges) (drop later edges) runs
      (All-between (λ edge. ¬ (Kept edge)) edges end later (omega (arith, within, same)) (left-within edges flags end later told (omega (arith, within, same)) left)) are) in
      subst (λ (list : List Edge). AreRuns Kept list (points_along (between next end edges) ∷ runs)) (sym (drop_split edges next end rising))
      (AreRuns-begin (between next end edges) (drop end edges) runs (IsPath-between edges next end rising path) (omega (arith, size, more))
      (All-between Kept edges next end inside (kept-within edges flags next end told inside kept))
      (All-next (λ edge. ¬ (Kept edge)) edges end (λ d here. left-at edges flags end told here (ends true (omega (arith, here, same))) d))
      rest)
    where
      beyond : (next < end) ⊎ (end ≤ next) → next < end
      beyond (inl less) = less
      beyond (inr least) =
          let here : next ≡ end = omega (arith, rising, least) in
          let same_flag = ap (λ (n : ℕ). get_or flags n true) here in
          absurd (false≢true (sym (ends true (omega (arith, here, some, same))) ∙ sym same_flag ∙ begins true))

-- ---- the runs of edges, one after another

-- What runs the edges from the place on have, the runs told so far go on with them.
abbrev pub GoOn : List Bool → List Edge → ℕ → List (List Point) → Type 0
GoOn flags edges place runs =
    (rule : FillRule) (keep : Keep) (rings : List Edge) → AreTold rule keep rings edges flags → (later : List (List Point)) → AreRuns (IsKept rule keep rings) (drop place edges) later → AreRuns (IsKept rule keep rings) edges (runs ++ later)

module _ (edges : List Edge) (flags : List Bool) (same : length flags ≡ length edges) where
  -- none is kept up to the first
  pub runs-begin : (next : ℕ) → next ≤ length flags → AllWithin (λ flag. flag ≢ true) flags 0 next → GoOn flags edges next []
  runs-begin next within left rule keep rings told later are =
      let Kept = IsKept rule keep rings in
      let inside : next ≤ length edges = omega (arith, within, same) in
      subst (λ (list : List Edge). AreRuns Kept list later) (sym (drop_split edges 0 next (omega arith)))
      (AreRuns-behind Kept (between 0 next edges) (drop next edges) later (All-between Kept (λ edge. ¬ (Kept edge)) edges 0 next inside (left-within Kept edges flags 0 next told inside left)) are)

  -- one run more
  pub runs-more : (next end further : ℕ) (runs : List (List Point)) → IsPath edges → next < length edges → next ≤ end → end ≤ further → further ≤ length flags
      → AllWithin (λ flag. flag ≢ false) flags next end → ((d : Bool) → end < length flags → get_or flags end d ≡ false) → AllWithin (λ flag. flag ≢ true) flags end further → ((d : Bool) → get_or flags next d ≡ true)
      → GoOn flags edges next runs → GoOn flags edges further (runs ++ points_along (between next end edges) ∷ [])
  runs-more next end further runs path some rising onwards within kept ends left begins go rule keep rings told later are =
      let Kept = IsKept rule keep rings in
      let run = points_along (between next end edges) in
      subst (λ (list : List (List Point)). AreRuns Kept edges list) (sym (append_assoc runs (run ∷ []) later))
      (go rule keep rings told (run ∷ later) (AreRuns-from Kept edges flags next end further later path told same some rising onwards within kept ends left begins are))

  -- and none at the end
  pub runs-end : (next : ℕ) (runs : List (List Point)) → length edges ≤ next → GoOn flags edges next runs → AreRunsBy flags edges runs
  runs-end next runs past go rule keep rings told =
      let Kept = IsKept rule keep rings in
      subst (λ (list : List (List Point)). AreRuns Kept edges list) (append-nil runs)
      (go rule keep rings told [] (subst (λ (list : List Edge). All (λ edge. ¬ (Kept edge)) list) (sym (drop_all next edges past)) (All-nil (λ edge. ¬ (Kept edge)))))

-- ---- the runs of lists of edges, one list after another

zip-take : {X Y : Type 0} (R : X → Y → Type 0) (n : ℕ) (xs : List X) (ys : List Y) → AllZip R xs ys → AllZip R (take n xs) (take n ys)
zip-take R zero xs ys zip = tt
zip-take R (suc n) [] [] zip = tt
zip-take R (suc n) (x ∷ xs) (y ∷ ys) zip = (zip.0, zip-take R n xs ys zip.1)
zip-take R (suc n) [] (y ∷ ys) zip = absurd zip
zip-take R (suc n) (x ∷ xs) [] zip = absurd zip

zip-drop : {X Y : Type 0} (R : X → Y → Type 0) (n : ℕ) (xs : List X) (ys : List Y) → AllZip R xs ys → AllZip R (drop n xs) (drop n ys)
zip-drop R zero xs ys zip = zip
zip-drop R (suc n) [] [] zip = tt
zip-drop R (suc n) (x ∷ xs) (y ∷ ys) zip = zip-drop R n xs ys zip.1
zip-drop R (suc n) [] (y ∷ ys) zip = absurd zip
zip-drop R (suc n) (x ∷ xs) [] zip = absurd zip

-- The runs of each of the first so many of these lists.
abbrev pub AreRunsUpto : ℕ → List Bool → List Edge → List ℕ → List (List (List Point)) → Type 0
AreRunsUpto upto flags edges ends clipped =
    (rule : FillRule) (keep : Keep) (rings : List Edge) → AreTold rule keep rings edges flags → AllZip (AreRuns (IsKept rule keep rings)) (take upto (lists_of edges 0 ends)) clipped

module _ (edges : List Edge) (flags : List Bool) (ends : List ℕ) where
  pub upto-none : AreRunsUpto 0 flags edges ends []
  upto-none rule keep rings told = tt

  pub upto-more : (k : ℕ) (clipped : List (List (List Point))) (runs : List (List Point)) → k < length ends → AreRunsBy (get_or (lists_of flags 0 ends) k []) (get_or (lists_of edges 0 ends) k []) runs
      → AreRunsUpto k flags edges ends clipped → AreRunsUpto (k + 1) flags edges ends (clipped ++ runs ∷ [])
  upto-more k clipped runs inside are so_far rule keep rings told =
      let Kept = IsKept rule keep rings in
      let Tells : Edge → Bool → Type 0 = λ edge flag. MatchBool flag (Kept edge) (¬ (Kept edge)) in
      let start = get_or (0 ∷ ends) k 0 in
      let end = get_or ends k 0 in
      let here : AllZip Tells (get_or (lists_of edges 0 ends) k []) (get_or (lists_of flags 0 ends) k []) =
      subst₂ (λ (some : List Edge) (marks : List Bool). AllZip Tells some marks) (sym (lists_of-at edges 0 ends k inside)) (sym (lists_of-at flags 0 ends k inside))
      (zip-take Tells (end - start) (drop start edges) (drop start flags) (zip-drop Tells start edges flags told)) in
      subst (λ (lists : List (List Edge)). AllZip (AreRuns Kept) lists (clipped ++ runs ∷ [])) (sym (take_more (lists_of edges 0 ends) k [] (let size = length-lists_of edges 0 ends in omega (arith, size, inside))))
      (AllZip-more (AreRuns Kept) (take k (lists_of edges 0 ends)) clipped (get_or (lists_of edges 0 ends) k []) runs (so_far rule keep rings told) (are rule keep rings here))

  pub upto-all : (k : ℕ) (clipped : List (List (List Point))) → length ends ≤ k → AreRunsUpto k flags edges ends clipped → AreRunsOfEach flags edges ends clipped
  upto-all k clipped past so_far rule keep rings told =
      let lists = lists_of edges 0 ends in
      subst (λ (some : List (List Edge)). AllZip (AreRuns (IsKept rule keep rings)) some clipped) (take_all k lists (let size = length-lists_of edges 0 ends in omega (arith, size, past))) (so_far rule keep rings told)

-- the pieces of one line more
pub AreAppended-line : (runs : List (List Point)) (points points' : List Point) (piece_ends piece_ends' line_ends line_ends' : List ℕ) → points' ≡ points ++ flat_map (λ run. run) runs
    → piece_ends' ≡ piece_ends ++ offsets (length points) runs → line_ends' ≡ line_ends ++ length piece_ends' ∷ [] → AreAppended (runs ∷ []) points points' piece_ends piece_ends' line_ends line_ends'
AreAppended-line runs points points' piece_ends piece_ends' line_ends line_ends' points_are pieces_are lines_are = record {
  points_are = points_are ∙ ap (λ (list : List (List Point)). points ++ flat_map (λ run. run) list) (sym (append-nil runs));
  rings_are = pieces_are ∙ ap (λ (list : List (List Point)). piece_ends ++ offsets (length points) list) (sym (append-nil runs));
  polygons_are = lines_are ∙ ap (λ (n : ℕ). line_ends ++ n ∷ []) (
      let all = ap (λ (list : List ℕ). length list) pieces_are in
      let sum = length-append piece_ends (offsets (length points) runs) in
      let size = length-offsets (length points) runs in
      omega (arith, all, sum, size)
      );
}
