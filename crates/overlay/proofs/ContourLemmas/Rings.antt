-- The pieces of a walk, and what of it is a ring.
use Rattle.std.proofs.Common.{◌≡◌, ◌≢◌, inl, inr, ℕ, ◌+◌, ◌<◌, ◌≤◌, List, [], ◌∷◌, ◌++◌, IsPermutation, length, get_or, map, take, drop, refl, sym, ap, ap₂, ◌∙◌, subst, append-nil, append_assoc, arith}
use Rattle.std.specs.List.{flat_map}
use Rattle.std.proofs.lemmas.Bool.{cases_lt}
use Rattle.std.proofs.lemmas.List.{drop_more, get_or-drop, get_or-map, get_or-take, length-append, length-drop, length-map, length-take-le, map-append, take-append-drop}
use Rattle.std.proofs.lemmas.List.Concat.{flat_map-append}
use Rattle.std.proofs.lemmas.List.Elements.{All-append, All-cons, All-nil}
use Rattle.std.proofs.lemmas.List.Sorted.{IsPermutation-append_comm, IsPermutation-append_right, IsPermutation-trans}
use Rattle.plane.specs.declared.edge.Edge.{Edge}
use Rattle.plane.specs.declared.point.Point.{Point}
use Rattle.overlay.specs.Contours.Rings.{IsRing, ring_edges}
use Rattle.overlay.specs.Contours.Order.{IsCorner, point_at}
use Rattle.overlay.specs.Contours.Walks.{AreAppended, IsMarked, IsOff, path}
use Rattle.plane.specs.Ends.{edge_between}
use Rattle.noding.specs.Offsets.{offsets}
use Rattle.noding.specs.Windings.{pieces}

-- ---- pieces of lists one behind the other

pieces-from_append : (from : Point) (points : List Point) (to : Point) (others : List Point) → pieces (from ∷ points ++ to ∷ others) ≡ pieces (from ∷ points ++ to ∷ []) ++ pieces (to ∷ others)
pieces-from_append from [] to others = refl
pieces-from_append from (next ∷ points) to others = ap (λ (rest : List Edge). edge_between from next ∷ rest) (pieces-from_append next points to others)

pub pieces-append : (points : List Point) (to : Point) (others : List Point) → pieces (points ++ to ∷ others) ≡ pieces (points ++ to ∷ []) ++ pieces (to ∷ others)
pieces-append [] to others = refl
pieces-append (first ∷ points) to others = pieces-from_append first points to others

module _ (sorted : List Edge) where
  -- a walk that goes on to one more corner
  pub path-more : (stack : List ℕ) (corner next : ℕ) → path sorted (stack ++ corner ∷ []) next ≡ path sorted stack corner ++ edge_between (point_at sorted corner) (point_at sorted next) ∷ []
  path-more stack corner next =
      let f = point_at sorted in
      ap pieces (ap (map f) (append_assoc stack (corner ∷ []) (next ∷ [])) ∙ map-append f stack (corner ∷ next ∷ []))
      ∙ pieces-append (map f stack) (f corner) (f next ∷ [])
      ∙ ap (λ (points : List Point). pieces points ++ edge_between (f corner) (f next) ∷ []) (sym (map-append f stack (corner ∷ [])))

  -- a walk that is back at a corner: what it was over before that corner, and the loop
  pub path-loop : (stack others : List ℕ) (corner : ℕ) → path sorted (stack ++ corner ∷ others) corner ≡ path sorted stack corner ++ ring_edges (map (point_at sorted) (corner ∷ others))
  path-loop stack others corner =
      let f = point_at sorted in
      ap pieces (ap (map f) (append_assoc stack (corner ∷ others) (corner ∷ [])) ∙ map-append f stack (corner ∷ (others ++ corner ∷ [])) ∙ ap (λ (rest : List Point). map f stack ++ f corner ∷ rest) (map-append f others (corner ∷ [])))
      ∙ pieces-append (map f stack) (f corner) (map f others ++ f corner ∷ [])
      ∙ ap (λ (points : List Point). pieces points ++ ring_edges (map f (corner ∷ others))) (sym (map-append f stack (corner ∷ [])))

  -- different corners are different points
  pub corners-differ : (one other : ℕ) → IsCorner sorted one → IsCorner sorted other → one ≢ other → point_at sorted one ≢ point_at sorted other
  corners-differ one other is other_is differ same = elim (cases_lt one other) [
    | inl below ↦ other_is.first one below same
    | inr upto ↦ is.first other (omega (arith, upto, differ)) (sym same)
  ]

  module _ (marks stack : List ℕ) (is : IsMarked sorted marks stack) where
    stack-differ : (i j : ℕ) → i < j → j < length stack → get_or stack i 0 ≢ get_or stack j 0
    stack-differ i j below within same =
        let first = is.marked i (omega (arith, below, within)) in
        let second = is.marked j within in
        let marks_same = ap (λ (k : ℕ). get_or marks k 0) same in
        omega (arith, below, first, second, marks_same)

    -- what of a walk is from a place on visits no point twice
    pub ring-from : (mark : ℕ) → mark < length stack → IsRing (map (point_at sorted) (drop mark stack))
    ring-from mark inside =
        let f = point_at sorted in
        let size = length-map (drop mark stack) f ∙ length-drop mark stack in
        record {
          some = λ none. (let long = ap (λ (points : List Point). length points) none in omega (arith, long, size, inside));
          once = λ i j d below within same.
              (let at : (k : ℕ) → k < length (map f (drop mark stack)) → get_or (map f (drop mark stack)) k d ≡ f (get_or stack (mark + k) 0) =
              λ k among. get_or-map f (drop mark stack) k 0 d (omega (arith, among, length-map (drop mark stack) f)) ∙ ap f (get_or-drop mark stack k 0) in
              corners-differ (get_or stack (mark + i) 0) (get_or stack (mark + j) 0)
              (is.corners (mark + i) (omega (arith, below, within, size))) (is.corners (mark + j) (omega (arith, within, size)))
              (stack-differ (mark + i) (mark + j) (omega (arith, below)) (omega (arith, within, size)))
              (sym (at i (omega (arith, below, within))) ∙ same ∙ at j within));
        }

    -- the walk up to a place is marked too
    pub IsMarked-take : (mark : ℕ) → mark ≤ length stack → IsMarked sorted marks (take mark stack)
    IsMarked-take mark upto =
        let size = length-take-le mark stack upto in
        record {
          size = is.size;
          corners = λ k within. (let below : k < mark = omega (arith, within, size) in subst (λ (place : ℕ). IsCorner sorted place) (sym (get_or-take mark stack k 0 below)) (is.corners k (omega (arith, below, upto))));
          marked = λ k within. (let below : k < mark = omega (arith, within, size) in ap (λ (place : ℕ). get_or marks place 0) (get_or-take mark stack k 0 below) ∙ is.marked k (omega (arith, below, upto)));
        }

    -- and is off the corner behind it
    pub IsOff-take : (mark : ℕ) → mark < length stack → IsOff (take mark stack) (get_or stack mark 0)
    IsOff-take mark inside k within same =
        let size = length-take-le mark stack (omega (arith, inside)) in
        let below : k < mark = omega (arith, within, size) in
        stack-differ k mark below inside (sym (get_or-take mark stack k 0 below) ∙ same)

    -- a corner that isn't where its mark says is none of the walk
    pub IsOff-mark : (corner : ℕ) → (get_or marks corner 0 < length stack → get_or stack (get_or marks corner 0) 0 ≢ corner) → IsOff stack corner
    IsOff-mark corner none k within same =
        let mark : get_or marks corner 0 ≡ k = ap (λ (place : ℕ). get_or marks place 0) (sym same) ∙ is.marked k within in
        none (omega (arith, mark, within)) (ap (λ (place : ℕ). get_or stack place 0) mark ∙ same)

    -- the loop from a corner's mark on, and what is left
    pub path-cut : (corner mark : ℕ) → mark < length stack → get_or stack mark 0 ≡ corner
        → path sorted stack corner ≡ path sorted (take mark stack) corner ++ ring_edges (map (point_at sorted) (drop mark stack))
    path-cut corner mark inside at =
        let split : drop mark stack ≡ corner ∷ drop (mark + 1) stack = drop_more stack mark 0 inside ∙ ap (λ (place : ℕ). place ∷ drop (mark + 1) stack) at in
        ap (λ (places : List ℕ). path sorted places corner) (sym (take-append-drop mark stack) ∙ ap (λ (rest : List ℕ). take mark stack ++ rest) split)
        ∙ path-loop (take mark stack) (drop (mark + 1) stack) corner
        ∙ ap (λ (rest : List ℕ). path sorted (take mark stack) corner ++ ring_edges (map (point_at sorted) rest)) (sym split)

    -- so its edges are those of the ring and of what is left
    pub loop-cut : (corner mark : ℕ) → mark < length stack → get_or stack mark 0 ≡ corner
        → IsPermutation (flat_map ring_edges (map (point_at sorted) (drop mark stack) ∷ []) ++ path sorted (take mark stack) corner) (path sorted stack corner)
    loop-cut corner mark inside at =
        let loop = ring_edges (map (point_at sorted) (drop mark stack)) in
        let rest = path sorted (take mark stack) corner in
        subst (λ (edges : List Edge). IsPermutation (edges ++ rest) (path sorted stack corner)) (sym (append-nil loop))
        (subst (λ (edges : List Edge). IsPermutation (loop ++ rest) edges) (sym (path-cut corner mark inside at)) (IsPermutation-append_comm loop rest))

-- ---- rings that are appended

offsets-append : {X : Type 0} (start : ℕ) (lists others : List (List X)) → offsets start (lists ++ others) ≡ offsets start lists ++ offsets (start + length (flat_map (λ list. list) lists)) others
offsets-append start [] others = ap (λ (n : ℕ). offsets n others) (omega arith)
offsets-append start (list ∷ lists) others =
    ap (λ (rest : List ℕ). (start + length list) ∷ rest)
    (offsets-append (start + length list) lists others
    ∙ ap (λ (n : ℕ). offsets (start + length list) lists ++ offsets n others) (omega (arith, length-append list (flat_map (λ list. list) lists))))

pub AreAppended-none : (points : List Point) (ends : List ℕ) → AreAppended [] points points ends ends
AreAppended-none points ends = record {
  each = All-nil IsRing;
  points_are = sym (append-nil points);
  ends_are = sym (append-nil ends);
}

pub AreAppended-one : (ring points points' : List Point) (ends ends' : List ℕ) → IsRing ring → points' ≡ points ++ ring → ends' ≡ ends ++ (length points + length ring) ∷ [] → AreAppended (ring ∷ []) points points' ends ends'
AreAppended-one ring points points' ends ends' is points_are ends_are = record {
  each = All-cons IsRing ring [] is (All-nil IsRing);
  points_are = points_are ∙ ap (λ (rest : List Point). points ++ rest) (sym (append-nil ring));
  ends_are = ends_are;
}

pub AreAppended-more : (rings others : List (List Point)) (points points' points'' : List Point) (ends ends' ends'' : List ℕ)
    → AreAppended rings points points' ends ends' → AreAppended others points' points'' ends' ends'' → AreAppended (rings ++ others) points points'' ends ends''
AreAppended-more rings others points points' points'' ends ends' ends'' first second = record {
  each = All-append IsRing rings others first.each second.each;
  points_are = second.points_are ∙ ap (λ (list : List Point). list ++ flat_map (λ ring. ring) others) first.points_are
      ∙ append_assoc points (flat_map (λ ring. ring) rings) (flat_map (λ ring. ring) others)
      ∙ ap (λ (list : List Point). points ++ list) (sym (flat_map-append (λ (ring : List Point). ring) rings others));
  ends_are = second.ends_are
      ∙ ap₂ (λ (list : List ℕ) (n : ℕ). list ++ offsets n others) first.ends_are (ap (λ (list : List Point). length list) first.points_are ∙ length-append points (flat_map (λ ring. ring) rings))
      ∙ append_assoc ends (offsets (length points) rings) (offsets (length points + length (flat_map (λ ring. ring) rings)) others)
      ∙ ap (λ (list : List ℕ). ends ++ list) (sym (offsets-append (length points) rings others));
}

-- ---- edges in another order

-- the edges of rings, and those of others and of the rest
pub rings-more : (rings others : List (List Point)) (rest now all : List Edge) → IsPermutation (flat_map ring_edges others ++ rest) now → IsPermutation (flat_map ring_edges rings ++ now) all
    → IsPermutation (flat_map ring_edges (rings ++ others) ++ rest) all
rings-more rings others rest now all first second =
    let E = flat_map ring_edges in
    let joined : (E (rings ++ others) ++ rest) ≡ E rings ++ (E others ++ rest) = ap (λ (list : List Edge). list ++ rest) (flat_map-append ring_edges rings others) ∙ append_assoc (E rings) (E others) rest in
    subst (λ (list : List Edge). IsPermutation list all) (sym joined)
    (IsPermutation-trans (E rings ++ (E others ++ rest)) (E rings ++ now) all (IsPermutation-append_right (E rings) (E others ++ rest) now first) second)
