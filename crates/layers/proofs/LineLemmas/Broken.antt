-- What the edges of lines and of rings are broken into.
use Rattle.std.proofs.Common.{◌≡◌, ◌≤◌, ◌-◌, ◌++◌, [], ◌∷◌, ℕ, List, length, take, map, ap, ap₂, refl, sym, subst, subst₂, ◌∙◌, append-nil, arith}
use Rattle.std.specs.List.{All, AllZip, Contains, flat_map}
use Rattle.std.proofs.lemmas.Grind.{flat_map-append}
use Rattle.std.proofs.lemmas.List.{length-append}
use Rattle.std.proofs.lemmas.List.Elements.{All-contains_itself, All-weaker, filter-append}
use Rattle.i_tree.proofs.RootLemmas.Joined.{All-behind}
use Rattle.std.proofs.Math.Seq.{take-append_seam}
use Rattle.plane.specs.declared.edge.Edge.{Edge}
use Rattle.plane.specs.declared.point.Point.{Point}
use Rattle.overlay.specs.Boundary.{StopSome}
use Rattle.overlay.specs.Contours.Rings.{has_two_ends, real_edges, ring_edges}
use Rattle.noding.specs.Chains.{AreChains, IsChain}
use Rattle.noding.specs.Offsets.{offsets}
use Rattle.noding.specs.Windings.{pieces}
use Rattle.noding.proofs.SnapLemmas.Paths.{IsPath-chains}
use Rattle.overlay.proofs.BoundaryLemmas.Broken.{chains-count, chains-some}
use Rattle.noding.proofs.ChainLemmas.Zips.{AllZip-length}
use Rattle.layers.specs.LineParts.{AreBrokenEdges, AreGathered, IsLoop, real_ring}
use Rattle.layers.specs.Lines.{AreBrokenTogether, all_edges, line_edges}
use Rattle.layers.proofs.LineLemmas.Lists.{offsets-back, offsets-from, offsets-made, offsets-same, zipped}
use Rattle.layers.proofs.LineLemmas.Paths.{broken-loops}
use Rattle.layers.proofs.GatheredLemmas.{joined-map}
use Rattle.noding.proofs.ChainLemmas.Standing.{length-offsets}
use Rattle.layers.proofs.ListLemmas.{offsets-upto}

-- what is made of lists one after another is what is made of each
flat_map-joined : {X Y : Type 0} (made : X → List Y) (lists : List (List X)) → flat_map made (flat_map (λ list. list) lists) ≡ flat_map (λ list. list) (map (λ list. flat_map made list) lists)
flat_map-joined made [] = refl
flat_map-joined made (list ∷ lists) = flat_map-append made list (flat_map (λ l. l) lists) ∙ ap (λ rest. flat_map made list ++ rest) (flat_map-joined made lists)

-- the first so many of lists that are zipped with lists
length-zipped : {L X Y : Type 0} (items : L → List X) (R : X → Y → Type 0) (lists : List L) (each : List (List Y)) → AllZip (λ list of_list. AllZip R (items list) of_list) lists each → length (flat_map items lists) ≡ length (flat_map (λ list. list) each)
length-zipped items R [] [] zip = refl
length-zipped items R (list ∷ lists) (one ∷ each) zip =
    let size = AllZip-length R (items list) one zip.0 in
    let later = length-zipped items R lists each zip.1 in
    omega (arith, size, later, length-append (items list) (flat_map items lists), length-append one (flat_map (λ l. l) each))
length-zipped items R [] (one ∷ each) zip = absurd zip
length-zipped items R (list ∷ lists) [] zip = absurd zip

-- the real edges of rings, ring by ring
real-flat : (rings : List (List Point)) → real_edges (flat_map ring_edges rings) ≡ flat_map real_ring rings
real-flat [] = refl
real-flat (ring ∷ rings) = filter-append has_two_ends (ring_edges ring) (flat_map ring_edges rings) ∙ ap (λ (edges : List Edge). real_ring ring ++ edges) (real-flat rings)

-- The chains of the edges of lines and of rings, when all are broken together: of each line, and of each ring.
pub record AreCut (lines rings : List (List Point)) (chains : List (List Point)) : Type 0 where
  pub all : List Edge
  pub all_are : all ≡ all_edges lines (flat_map ring_edges rings)
  pub of_lines : List (List (List Point))
  pub of_rings : List (List (List Point))
  pub is : chains ≡ flat_map (λ of_line. of_line) of_lines ++ flat_map (λ of_ring. of_ring) of_rings
  pub lines_are : AllZip (λ line of_line. AllZip (IsChain all) (line_edges line) of_line) lines of_lines
  pub rings_are : AllZip (λ ring of_ring. AllZip (IsChain all) (real_ring ring) of_ring) rings of_rings
  pub flat : AllZip (IsChain all) (flat_map real_ring rings) (flat_map (λ of_ring. of_ring) of_rings)

-- edges that are gathered so are cut so
pub gathered-cut : (lines rings : List (List Point)) (edges : List Edge) (line_ends ring_ends : List ℕ) (chains : List (List Point)) → AreGathered lines rings edges line_ends ring_ends → AreChains edges chains → AreCut lines rings chains
gathered-cut lines rings edges line_ends ring_ends chains gathered are =
    let R = IsChain edges in
    let both : AllZip R (flat_map line_edges lines ++ flat_map real_ring rings) chains = subst (λ (list : List Edge). AllZip R list chains) gathered.is are in
    let first = zipped R line_edges lines (flat_map real_ring rings) chains both in
    let second = zipped R real_ring rings [] first.others (subst (λ (list : List Edge). AllZip R list first.others) (sym (append-nil (flat_map real_ring rings))) first.others_are) in
    let none = nothing R second.others second.others_are in
    let whole : first.others ≡ flat_map (λ of_ring. of_ring) second.each = second.is ∙ ap (λ (list : List (List Point)). flat_map (λ of_ring. of_ring) second.each ++ list) none ∙ append-nil (flat_map (λ of_ring. of_ring) second.each) in
    record {
      all = edges;
      all_are = gathered.is ∙ ap (λ (list : List Edge). flat_map line_edges lines ++ list) (sym (real-flat rings));
      of_lines = first.each;
      of_rings = second.each;
      is = first.is ∙ ap (λ (list : List (List Point)). flat_map (λ of_line. of_line) first.each ++ list) whole;
      lines_are = first.are;
      rings_are = second.are;
      flat = subst (λ (list : List (List Point)). AllZip R (flat_map real_ring rings) list) whole first.others_are;
    }
  where
    nothing : (R : Edge → List Point → Type 0) (others : List (List Point)) → AllZip R [] others → others ≡ []
    nothing R [] zip = refl
    nothing R (chain ∷ others) zip = absurd zip

module _ (lines rings : List (List Point)) (chains : List (List Point)) (cut : AreCut lines rings chains) where
  -- the pieces of each line's edges, and of each ring's
  abbrev pub broken_lines : List (List Edge)
  broken_lines = map (λ of_line. flat_map pieces of_line) cut.of_lines

  abbrev pub broken_rings : List (List Edge)
  broken_rings = map (λ of_ring. flat_map pieces of_ring) cut.of_rings

  front : List (List Point)
  front = flat_map (λ of_line. of_line) cut.of_lines

  back : List (List Point)
  back = flat_map (λ of_ring. of_ring) cut.of_rings

  size : length (flat_map line_edges lines) ≡ length front
  unfolding front
  size = length-zipped line_edges (IsChain cut.all) lines cut.of_lines cut.lines_are

  front-pieces : flat_map pieces front ≡ flat_map (λ list. list) broken_lines
  unfolding front
  front-pieces = flat_map-joined pieces cut.of_lines

  -- how many pieces there are up to the end of each line, and of each ring
  counts-lines : map (λ n. length (flat_map pieces (take n chains))) (offsets 0 (map line_edges lines)) ≡ offsets 0 broken_lines
  unfolding back
  counts-lines =
      ap₂ (λ (stops : List ℕ) (lists : List (List Point)). map (λ n. length (flat_map pieces (take n lists))) stops) (offsets-same line_edges (IsChain cut.all) 0 lines cut.of_lines cut.lines_are) cut.is
      ∙ offsets-made pieces [] cut.of_lines back

  counts-rings : map (λ n. length (flat_map pieces (take n chains))) (offsets (length (flat_map line_edges lines)) (map real_ring rings)) ≡ offsets (length (flat_map (λ list. list) broken_lines)) broken_rings
  unfolding front back
  counts-rings =
      ap₂ (λ (stops : List ℕ) (lists : List (List Point)). map (λ n. length (flat_map pieces (take n lists))) stops)
      (offsets-same real_ring (IsChain cut.all) (length (flat_map line_edges lines)) rings cut.of_rings cut.rings_are ∙ ap (λ (n : ℕ). offsets n cut.of_rings) size)
      (cut.is ∙ ap (λ (list : List (List Point)). front ++ list) (sym (append-nil back)))
      ∙ offsets-made pieces front cut.of_rings []
      ∙ ap (λ (list : List Edge). offsets (length list) broken_rings) front-pieces

  count : flat_map pieces (take (length (flat_map line_edges lines)) chains) ≡ flat_map (λ list. list) broken_lines
  unfolding front
  count =
      ap₂ (λ (n : ℕ) (lists : List (List Point)). flat_map pieces (take n lists)) size cut.is
      ∙ ap (λ (lists : List (List Point)). flat_map pieces lists) (take-append_seam front (flat_map (λ of_ring. of_ring) cut.of_rings))
      ∙ front-pieces

  all-pieces : flat_map pieces chains ≡ flat_map (λ list. list) broken_lines ++ flat_map (λ list. list) broken_rings
  unfolding front back
  all-pieces =
      ap (λ (lists : List (List Point)). flat_map pieces lists) cut.is
      ∙ flat_map-append pieces front back
      ∙ ap₂ (λ (list others : List Edge). list ++ others) front-pieces (flat_map-joined pieces cut.of_rings)

  together : AreBrokenTogether lines (flat_map ring_edges rings) broken_lines (flat_map (λ list. list) broken_rings)
  together = record {
    chains = cut.of_lines;
    ring_chains = flat_map (λ of_ring. of_ring) cut.of_rings;
    are = subst (λ (list : List Edge). AllZip (λ line of_line. AllZip (IsChain list) (line_edges line) of_line) lines cut.of_lines) cut.all_are cut.lines_are;
    rings_are = subst₂ (λ (list edges : List Edge). AllZip (IsChain list) edges (flat_map (λ of_ring. of_ring) cut.of_rings)) cut.all_are (sym (real-flat rings)) cut.flat;
    is = refl;
    rings_is = sym (flat_map-joined pieces cut.of_rings);
  }

  loops : All IsLoop broken_rings
  loops =
      broken-loops cut.all rings cut.of_rings
      (subst (λ (list : List Edge). All (Contains list) (flat_map real_ring rings)) (sym (cut.all_are ∙ ap (λ (list : List Edge). flat_map line_edges lines ++ list) (real-flat rings)))
      (All-behind (Contains (flat_map line_edges lines ++ flat_map real_ring rings)) (flat_map line_edges lines) (flat_map real_ring rings) (All-contains_itself (flat_map line_edges lines ++ flat_map real_ring rings))))
      cut.rings_are

  pub broken-edges : (edges : List Edge) (number : ℕ) (line_ends ring_ends : List ℕ) → edges ≡ flat_map pieces chains → number ≡ length (flat_map pieces (take (length (flat_map line_edges lines)) chains))
      → line_ends ≡ map (λ n. length (flat_map pieces (take n chains))) (offsets 0 (map line_edges lines))
      → ring_ends ≡ map (λ end. end - number) (map (λ n. length (flat_map pieces (take n chains))) (offsets (length (flat_map line_edges lines)) (map real_ring rings)))
      → AreBrokenEdges lines rings edges number line_ends ring_ends
  broken-edges edges number line_ends ring_ends edges_are number_is lines_end rings_end =
      let many : number ≡ length (flat_map (λ list. list) broken_lines) = number_is ∙ ap (λ (list : List Edge). length list) count in
      record {
        of_lines = broken_lines;
        of_rings = broken_rings;
        together = together;
        loops = loops;
        is = edges_are ∙ all-pieces;
        count_is = many;
        lines_end = lines_end ∙ counts-lines;
        rings_end = rings_end ∙ ap₂ (λ (n : ℕ) (stops : List ℕ). map (λ end. end - n) stops) many counts-rings ∙ offsets-back 0 (length (flat_map (λ list. list) broken_lines)) (length (flat_map (λ list. list) broken_lines)) broken_rings (omega arith);
      }

  -- none of the rings stops before the lines do
  pub rings-behind : (number : ℕ) (counts : List ℕ) → number ≡ length (flat_map pieces (take (length (flat_map line_edges lines)) chains))
      → counts ≡ map (λ n. length (flat_map pieces (take n chains))) (offsets (length (flat_map line_edges lines)) (map real_ring rings)) → All (λ end. number ≤ end) counts
  rings-behind number counts number_is are =
      let many : length (flat_map (λ list. list) broken_lines) ≡ number = sym (number_is ∙ ap (λ (list : List Edge). length list) count) in
      subst (All (λ end. number ≤ end)) (sym (are ∙ counts-rings)) (offsets-from (length (flat_map (λ list. list) broken_lines)) number broken_rings (omega (arith, many)))

-- so many chains stop where the edges of each line do, and of each ring
pub stops-some : (edges : List Edge) (chain_ends : List ℕ) (chains : List (List Point)) (numbers : List ℕ) → AreChains edges chains → chain_ends ≡ offsets 0 chains → All (λ n. n ≤ length edges) numbers → All (StopSome chain_ends) numbers
stops-some edges chain_ends chains numbers are stops within =
    let paths = IsPath-chains edges edges chains (λ edge among. among) are in
    All-weaker (λ n. n ≤ length edges) (StopSome chain_ends) (λ n below. (chains, stops, chains-some edges chains paths, chains-count edges chains n below paths)) numbers within

-- of chains that stop where so many and more do, there are as many
pub StopSome-upto : (ends : List ℕ) (number : ℕ) (chains : List (List Point)) → StopSome ends number → ends ≡ offsets 0 chains → number ≤ length chains
StopSome-upto ends number chains (others, are, some, within) stops =
    omega (arith, within, length-offsets 0 others, length-offsets 0 chains, ap (λ (list : List ℕ). length list) are, ap (λ (list : List ℕ). length list) stops)

pub gathered-within : (lines rings : List (List Point)) (edges : List Edge) (line_ends ring_ends : List ℕ) → AreGathered lines rings edges line_ends ring_ends → All (λ n. n ≤ length edges) line_ends × All (λ n. n ≤ length edges) ring_ends
gathered-within lines rings edges line_ends ring_ends gathered =
    let all = ap (λ (list : List Edge). length list) gathered.is in
    let sum = length-append (flat_map line_edges lines) (flat_map real_ring rings) in
    let of_lines = ap (λ (list : List Edge). length list) (joined-map line_edges lines) in
    let of_rings = ap (λ (list : List Edge). length list) (joined-map real_ring rings) in (
      subst (All (λ n. n ≤ length edges)) (sym gathered.lines_end) (offsets-upto 0 (map line_edges lines) (length edges) (omega (arith, all, sum, of_lines))),
      subst (All (λ n. n ≤ length edges)) (sym gathered.rings_end) (offsets-upto (length (flat_map line_edges lines)) (map real_ring rings) (length edges) (omega (arith, all, sum, of_rings))),
    )
