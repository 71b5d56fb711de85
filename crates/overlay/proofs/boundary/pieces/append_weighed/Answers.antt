use Rattle.std.proofs.Common.{◌≡◌, ◌-◌, ◌+◌, ◌<◌, ◌≤◌, ◌++◌, ◌∷◌, [], ℕ, List, ap, ap₂, append-nil, append_assoc, arith, drop, get_or, length, map, refl, subst, suc, sym, take, zero, ◌∙◌}
use Rattle.std.specs.List.{AllZip}
use Rattle.std.specs.Prelude.{Some, slice_get}
use Rattle.std.proofs.Math.Seq.{drop-append_seam, take-append_seam}
use Rattle.std.proofs.lemmas.List.{drop_all, length-append, length-map, length-take-le, take_all, take_more}
use Rattle.std.proofs.lemmas.Option.{slice_get-get_or}
use Rattle.plane.specs.declared.edge.Edge.{Edge}
use Rattle.plane.specs.declared.point.Point.{Point}
use Rattle.overlay.specs.declared.fill.pieces.Piece.{Piece}
use Rattle.overlay.specs.declared.fill.pieces.Operand.TheVariants.{Subject}
use Rattle.overlay.specs.Fill.Sweep.{no_piece}
use Rattle.overlay.specs.Fill.Turned.{turned}
use Rattle.overlay.specs.Joined.{weighed, weighed_pieces}
use Rattle.noding.specs.Local.{IsNodeChain}
use Rattle.noding.specs.Windings.{pieces}
use Rattle.overlay.proofs.JoinedLemmas.Points.{edges_of}
use Rattle.noding.proofs.ChainLemmas.Runs.{IsNodeChain-run, Split-next}
use Rattle.noding.proofs.ChainLemmas.Zips.{AllZip-length, AllZip-more}
use Rattle.overlay.proofs.boundary.pieces.append_weighed.Goals as goal

-- the end of a list written anew
set_back : (f : Piece → Piece) (before new items held written post : List Piece) (first len : ℕ) → items ≡ before ++ new → held ≡ items → first ≡ length before → len ≡ length items
    → written ≡ map f (take (length held - first) (drop first held)) → post ≡ drop (length held - first) (drop first held)
    → take len ((take first held ++ (written ++ post)) ++ drop (length (take first held ++ (written ++ post))) items) ≡ before ++ map f new
set_back f before new items held written post first len is same at size is_written is_post =
    ap (λ (list : List Piece). take len (list ++ drop (length list) items)) whole
    ∙ ap (λ (rest : List Piece). take len ((before ++ map f new) ++ rest)) (drop_all (length (before ++ map f new)) items (omega (arith, long)))
    ∙ ap (take len) (append-nil (before ++ map f new)) ∙ take_all len (before ++ map f new) (omega (arith, size, long))
  where
    front : take first held ≡ before
    front = ap₂ (λ (n : ℕ) (list : List Piece). take n list) at (same ∙ is) ∙ take-append_seam before new

    back : drop first held ≡ new
    back = ap₂ (λ (n : ℕ) (list : List Piece). drop n list) at (same ∙ is) ∙ drop-append_seam before new

    sum : length items ≡ length before + length new
    sum = ap (λ (list : List Piece). length list) is ∙ length-append before new

    left : length new ≤ length held - first
    left = let held_size = ap (λ (list : List Piece). length list) same in omega (arith, held_size, sum, at)

    there : written ≡ map f new
    there = is_written ∙ ap (λ (list : List Piece). map f (take (length held - first) list)) back ∙ ap (map f) (take_all (length held - first) new left)

    none : post ≡ []
    none = is_post ∙ ap (drop (length held - first)) back ∙ drop_all (length held - first) new left

    whole : take first held ++ (written ++ post) ≡ before ++ map f new
    whole = ap₂ (λ (list rest : List Piece). list ++ rest) front (ap₂ (λ (list rest : List Piece). list ++ rest) there none ∙ append-nil (map f new))

    long : length (before ++ map f new) ≡ length items
    long = length-append before (map f new) ∙ ap (λ (n : ℕ). length before + n) (length-map new f) ∙ sym sum

weighed-more : (stretches : List Piece) (chains : List (List Point)) (stretch : Piece) (chain : List Point) → length stretches ≡ length chains
    → weighed_pieces (stretches ++ stretch ∷ []) (chains ++ chain ∷ []) ≡ weighed_pieces stretches chains ++ map (weighed stretch) (turned Subject (pieces chain))
weighed-more [] [] stretch chain same = append-nil (map (weighed stretch) (turned Subject (pieces chain)))
weighed-more [] (other ∷ chains) stretch chain same = absurd (omega (arith, same))
weighed-more (first ∷ stretches) [] stretch chain same = absurd (omega (arith, same))
weighed-more (first ∷ stretches) (other ∷ chains) stretch chain same =
    ap (λ (rest : List Piece). map (weighed first) (turned Subject (pieces other)) ++ rest) (weighed-more stretches chains stretch chain (omega (arith, same)))
    ∙ sym (append_assoc (map (weighed first) (turned Subject (pieces other))) (weighed_pieces stretches chains) (map (weighed stretch) (turned Subject (pieces chain))))

edge-at : (stretches : List Piece) (k : ℕ) → get_or (edges_of stretches) k no_piece.edge ≡ (get_or stretches k no_piece).edge
edge-at [] k = refl
edge-at (stretch ∷ stretches) zero = refl
edge-at (stretch ∷ stretches) (suc k) = edge-at stretches k

pub loop-place-preserved : goal.loop-place-preserved
loop-place-preserved g c =
    let (split, (chains, are, is)) = c.loop-place.invariant in
    let (run, (chain, goes, gained)) = c.in_ok-next.ensures in
    let stretches = c.args.stretches.now in
    let edges = edges_of stretches in
    let stops = c.args.stops.now in
    let place = c.loop-place.place in
    let next = c.loop-place.next in
    let end = c.in_ok-next.next in
    let before = c.args.out.now.items in
    let now = c.loop-place.out.items in
    let stretch = get_or stretches place no_piece in
    let new = turned Subject (pieces chain) in
    let within : place < length stretches = c.loop-place-test.true in
    let inside : place < length edges = (let size = length-map stretches (λ (s : Piece). s.edge) in omega (arith, size, within)) in
    let stands : slice_get edges place ≡ Some stretch.edge = slice_get-get_or edges place no_piece.edge inside ∙ ap Some (edge-at stretches place) in
    let is_chain = IsNodeChain-run edges stops c.requires place next end split run stretch.edge stands chain goes in
    let size : length (take place stretches) ≡ length chains =
    (let zipped = AllZip-length (IsNodeChain edges) (take place edges) chains are in
    let first = length-take-le place edges (omega (arith, inside)) in
    let second = length-take-le place stretches (omega (arith, within)) in omega (arith, zipped, first, second)) in
    let items = c.append_pieces_of.new.out.items in
    let held = c.deref_mut.result.now in
    let size_is : c.append_pieces_of.new.out.len ≡ length items = (let told = c.deref_mut.ensures.len in let same = ap (λ (list : List Piece). length list) c.deref_mut.ensures.value in omega (arith, told, same)) in
    let first_is : c.len-first.result ≡ length now = (let told = c.len-first.ensures in omega (arith, told)) in
    let out = set_back (weighed stretch) now new items held c.weigh.new.pieces (drop (length held - c.len-first.result) (drop c.len-first.result held)) c.len-first.result c.append_pieces_of.new.out.len gained c.deref_mut.ensures.value first_is size_is c.weigh.ensures refl in (
      Split-next edges stops c.requires place next end split run,
      (
        chains ++ chain ∷ [],
        subst (λ (done : List Edge). AllZip (IsNodeChain edges) done (chains ++ chain ∷ [])) (sym (take_more edges place no_piece.edge inside ∙ ap (λ (e : Edge). take place edges ++ e ∷ []) (edge-at stretches place)))
            (AllZip-more (IsNodeChain edges) (take place edges) chains stretch.edge chain are is_chain),
        out ∙ ap (λ (list : List Piece). list ++ map (weighed stretch) new) is ∙ append_assoc before (weighed_pieces (take place stretches) chains) (map (weighed stretch) new)
            ∙ ap (λ (list : List Piece). before ++ list) (sym (ap (λ (list : List Piece). weighed_pieces list (chains ++ chain ∷ [])) (take_more stretches place no_piece within) ∙ weighed-more (take place stretches) chains stretch chain size)),
      ),
    )

pub returns : goal.returns
returns g c =
    let (split, (chains, are, is)) = c.loop-place.invariant in
    let stretches = c.args.stretches.now in
    let edges = edges_of stretches in
    let place = c.loop-place.place in
    let past = c.loop-place-test.false in
    let behind : length edges ≤ place = (let size = length-map stretches (λ (s : Piece). s.edge) in omega (arith, size, past)) in (
      chains,
      subst (λ (done : List Edge). AllZip (IsNodeChain edges) done chains) (take_all place edges behind) are,
      is ∙ ap (λ (list : List Piece). c.args.out.now.items ++ weighed_pieces list chains) (take_all place stretches past),
    )
