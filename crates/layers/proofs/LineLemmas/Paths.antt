-- Edges that follow each other, as the edges of a line do, and what these are broken into.
use Rattle.std.proofs.Common.{◌≡◌, ◌<◌, ◌≤◌, ◌+◌, ◌++◌, [], ◌∷◌, ℕ, ℤ, pos, Bool, true, false, cond, List, length, drop, get_or, take, map, ap, ap₂, refl, sym, subst, ◌∙◌, arith}
use Rattle.std.specs.List.{All, AllZip, Contains, between, flat_map}
use Rattle.std.proofs.lemmas.List.{length-map}
use Rattle.std.proofs.lemmas.List.Edits.{split_between}
use Rattle.std.proofs.lemmas.List.Elements.{All-cons, All-contains_itself, All-head, All-nil, All-tail}
use Rattle.i_tree.proofs.RootLemmas.Joined.{All-behind, All-front}
use Rattle.plane.specs.declared.edge.Edge.{Edge}
use Rattle.plane.specs.declared.point.Point.{Point}
use Rattle.overlay.specs.Contours.Rings.{has_two_ends, real_edges, ring_edges}
use Rattle.noding.specs.Chains.{IsChain}
use Rattle.plane.specs.Ends.{edge_between, end_of, start_of}
use Rattle.noding.specs.Windings.{pieces}
use Rattle.overlay.proofs.ContourLemmas.RealEdges.{points-same}
use Rattle.noding.proofs.Callers.{ends, starts}
use Rattle.layers.specs.LineParts.{IsLoop, IsPath, LeadTo, points_along, real_ring}
use Rattle.layers.specs.Lines.{AreBrokenTogether, all_edges, line_edges}

no_point : Point
no_point = record { x = pos 0; y = pos 0 }

-- two ways, one after the other
pub LeadTo-append : (from by to : Point) (edges others : List Edge) → LeadTo from edges by → LeadTo by others to → LeadTo from (edges ++ others) to
LeadTo-append from by to [] others first second = subst (λ (point : Point). LeadTo point others to) (sym first) second
LeadTo-append from by to (edge ∷ edges) others first second = (first.0, LeadTo-append (end_of edge) by to edges others first.1 second)

-- and a way cut in two
pub LeadTo-cut : (from to : Point) (edges others : List Edge) → LeadTo from (edges ++ others) to → (by : Point) × LeadTo from edges by × LeadTo by others to
LeadTo-cut from to [] others leads = (from, refl, leads)
LeadTo-cut from to (edge ∷ edges) others leads =
    let (by, first, second) = LeadTo-cut (end_of edge) to edges others leads.1 in
    (by, (leads.0, first), second)

-- a part of a path is a path
pub IsPath-between : (edges : List Edge) (start end : ℕ) → start ≤ end → IsPath edges → IsPath (between start end edges)
IsPath-between edges start end rising (from, to, leads) =
    let parts : LeadTo from (take start edges ++ (between start end edges ++ drop end edges)) to = subst (λ (all : List Edge). LeadTo from all to) (split_between edges start end rising) leads in
    let (first, _, rest) = LeadTo-cut from to (take start edges) (between start end edges ++ drop end edges) parts in
    let (last, part, _) = LeadTo-cut first to (between start end edges) (drop end edges) rest in
    (first, last, part)

-- from each of its points to the next a path has its edges
pieces-led : (from to : Point) (edges : List Edge) → LeadTo from edges to → pieces (from ∷ map end_of edges) ≡ edges
pieces-led from to [] leads = refl
pieces-led from to (edge ∷ edges) leads =
    ap₂ (λ (start : Point) (others : List Edge). edge_between start (end_of edge) ∷ others) (sym leads.0) (pieces-led (end_of edge) to edges leads.1)

pub pieces-along : (edges : List Edge) → IsPath edges → pieces (points_along edges) ≡ edges
pieces-along [] path = refl
pieces-along (edge ∷ edges) (from, to, leads) =
    ap (λ (start : Point). pieces (start ∷ map end_of (edge ∷ edges))) leads.0 ∙ pieces-led from to (edge ∷ edges) leads

pub length-along : (edges : List Edge) → 0 < length edges → length (points_along edges) ≡ length edges + 1
length-along [] some = absurd (omega (arith, some))
length-along (edge ∷ edges) some = omega (arith, length-map edges end_of)

pub along-some : (edges : List Edge) (d : Edge) → 0 < length edges → points_along edges ≡ start_of (get_or edges 0 d) ∷ map end_of edges
along-some [] d some = absurd (omega (arith, some))
along-some (edge ∷ edges) d some = refl

-- ---- lines and rings

-- the last point of a line
last_of : Point → List Point → Point
last_of first [] = first
last_of first (next ∷ others) = last_of next others

last_of-behind : (first : Point) (others : List Point) (last : Point) → last_of first (others ++ last ∷ []) ≡ last
unfolding last_of
last_of-behind first [] last = refl
last_of-behind first (next ∷ others) last = last_of-behind next others last

-- the edges of a line follow each other, without those that are points
line-leads : (first : Point) (others : List Point) → LeadTo first (line_edges (first ∷ others)) (last_of first others)
unfolding last_of
line-leads first [] = refl
line-leads first (next ∷ others) = by (has_two_ends (edge_between first next)) refl (line-leads next others)
  where
    by : (real : Bool) → has_two_ends (edge_between first next) ≡ real → LeadTo next (line_edges (next ∷ others)) (last_of next others)
        → LeadTo first (cond real (edge_between first next ∷ line_edges (next ∷ others)) (line_edges (next ∷ others))) (last_of next others)
    by true is leads = (refl, leads)
    by false is leads =
        let (level, upright) = points-same (edge_between first next) is in
        let same : next ≡ first = ap₂ (λ (x y : ℤ). let point : Point = record { x = x; y = y } in point) (sym level) (sym upright) in
        subst (λ (point : Point). LeadTo point (line_edges (next ∷ others)) (last_of next others)) same leads

line-path : (line : List Point) → IsPath (line_edges line)
line-path [] = (no_point, no_point, refl)
line-path (first ∷ others) = (first, last_of first others, line-leads first others)

-- those of a ring lead back to its first point
ring-loop : (ring : List Point) → IsLoop (real_ring ring)
ring-loop [] = (no_point, refl)
ring-loop (first ∷ others) =
    (first, subst (λ (last : Point). LeadTo first (real_ring (first ∷ others)) last) (last_of-behind first others first) (line-leads first (others ++ first ∷ [])))

-- where edges begin that lead back, are the points of a ring that has these edges
pieces-starts : (from to : Point) (edges : List Edge) → LeadTo from edges to → pieces (map start_of edges ++ to ∷ []) ≡ edges
pieces-starts from to [] leads = refl
pieces-starts from to (edge ∷ []) (begins, ends) = ap (λ (point : Point). edge_between (start_of edge) point ∷ []) (sym ends)
pieces-starts from to (edge ∷ next ∷ edges) (begins, leads) =
    ap₂ (λ (point : Point) (others : List Edge). edge_between (start_of edge) point ∷ others) leads.0 (pieces-starts (end_of edge) to (next ∷ edges) leads)

pub ring_edges-starts : (edges : List Edge) → IsLoop edges → ring_edges (map start_of edges) ≡ edges
ring_edges-starts [] loop = refl
ring_edges-starts (edge ∷ edges) (from, leads) =
    ap (λ (point : Point). pieces (map start_of (edge ∷ edges) ++ point ∷ [])) leads.0 ∙ pieces-starts from from (edge ∷ edges) leads

-- ---- what lines and rings are broken into

-- edges whose ends are the starts of the next
leads-by : (edges : List Edge) (from to : Point) → (map start_of edges ++ to ∷ []) ≡ from ∷ map end_of edges → LeadTo from edges to
leads-by [] from to is = cc
leads-by (edge ∷ edges) from to is = (cc, leads-by edges (end_of edge) to cc)

-- the pieces of a chain lead from its edge's start to its end
chain-leads : (all : List Edge) (edge : Edge) (chain : List Point) → Contains all edge → IsChain all edge chain → LeadTo (start_of edge) (pieces chain) (end_of edge)
chain-leads all edge chain among is = leads-by (pieces chain) (start_of edge) (end_of edge) (ends all edge chain among is ∙ starts all edge chain among is)

-- and those of the chains of edges that follow each other lead where these do
chains-lead : (all edges : List Edge) (chains : List (List Point)) (from to : Point) → All (Contains all) edges → AllZip (IsChain all) edges chains → LeadTo from edges to → LeadTo from (flat_map pieces chains) to
chains-lead all [] [] from to among zip leads = leads
chains-lead all (edge ∷ edges) (chain ∷ chains) from to among zip leads =
    subst (λ (point : Point). LeadTo point (pieces chain ++ flat_map pieces chains) to) leads.0
    (LeadTo-append (start_of edge) (end_of edge) to (pieces chain) (flat_map pieces chains)
    (chain-leads all edge chain (All-head (Contains all) edge edges among) zip.0)
    (chains-lead all edges chains (end_of edge) to (All-tail (Contains all) edge edges among) zip.1 leads.1))
chains-lead all [] (chain ∷ chains) from to among zip leads = absurd zip
chains-lead all (edge ∷ edges) [] from to among zip leads = absurd zip

-- what holds of the edges of each list holds of what these are broken into
module _ (all : List Edge) (Goes : List Edge → Type 0) {L : Type 0} (items : L → List Edge)
    (each : (list : L) (chains : List (List Point)) → All (Contains all) (items list) → AllZip (IsChain all) (items list) chains → Goes (flat_map pieces chains)) where
  broken-go : (lists : List L) (chains : List (List (List Point))) → All (Contains all) (flat_map items lists) → AllZip (λ list of_list. AllZip (IsChain all) (items list) of_list) lists chains
      → All Goes (map (λ of_list. flat_map pieces of_list) chains)
  broken-go [] [] among zip = All-nil Goes
  broken-go (list ∷ lists) (of_list ∷ chains) among zip =
      All-cons Goes (flat_map pieces of_list) (map (λ one. flat_map pieces one) chains)
      (each list of_list (All-front (Contains all) (items list) (flat_map items lists) among) zip.0)
      (broken-go lists chains (All-behind (Contains all) (items list) (flat_map items lists) among) zip.1)
  broken-go [] (of_list ∷ chains) among zip = absurd zip
  broken-go (list ∷ lists) [] among zip = absurd zip

-- lines stay paths
pub broken-paths : (all : List Edge) (lines : List (List Point)) (chains : List (List (List Point))) → All (Contains all) (flat_map line_edges lines) → AllZip (λ line of_line. AllZip (IsChain all) (line_edges line) of_line) lines chains
    → All IsPath (map (λ of_line. flat_map pieces of_line) chains)
broken-paths all = broken-go all IsPath line_edges (λ line chains among zip.
    let (from, to, leads) = line-path line in
    (from, to, chains-lead all (line_edges line) chains from to among zip leads))

-- and rings stay loops
pub broken-loops : (all : List Edge) (rings : List (List Point)) (chains : List (List (List Point))) → All (Contains all) (flat_map real_ring rings) → AllZip (λ ring of_ring. AllZip (IsChain all) (real_ring ring) of_ring) rings chains
    → All IsLoop (map (λ of_ring. flat_map pieces of_ring) chains)
broken-loops all = broken-go all IsLoop real_ring (λ ring chains among zip.
    let (from, leads) = ring-loop ring in
    (from, chains-lead all (real_ring ring) chains from from among zip leads))

pub paths-broken : (lines : List (List Point)) (rings : List Edge) (broken : List (List Edge)) (broken_rings : List Edge) → AreBrokenTogether lines rings broken broken_rings → All IsPath broken
paths-broken lines rings broken broken_rings are =
    let all = all_edges lines rings in
    subst (All IsPath) (sym are.is)
    (broken-paths all lines are.chains (All-front (Contains all) (flat_map line_edges lines) (real_edges rings) (All-contains_itself all)) are.are)
