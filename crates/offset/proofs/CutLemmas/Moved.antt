-- Edges of a ring that are moved, each by its furthest corner, by their places.
use Rattle.std.proofs.Common.{◌≡◌, ◌⊎◌, ⊎_elim, inl, inr, ◌<◌, ◌+◌, ◌∙◌, ◌++◌, ◌∷◌, ◌||◌, [], ℕ, ℤ, pos, ◌+ℤ◌, Bool, true, false, List, not, int_eq, ap, ap₂, append-nil, append_assoc, arith, get_or, length, length-append, map, refl, subst, sym, take}
use Rattle.std.proofs.lemmas.Int.{by_lt_z, ints}
use Rattle.std.proofs.lemmas.Grind.{flat_map-append}
use Rattle.std.proofs.Math.ListN.{get_or-append}
use Rattle.std.proofs.Math.Seq.{get_or-append_seam}
use Rattle.std.proofs.lemmas.Bool.Decides.{Decides-int_eq}
use Rattle.std.proofs.lemmas.List.{get_or-map, length-map, map-append, take_more}
use Rattle.std.proofs.lemmas.List.Concat.{flat_map-cons}
use Rattle.std.proofs.lemmas.List.Elements.{All-get_or}
use Rattle.std.specs.List.{AllZip, flat_map}
use Rattle.plane.specs.declared.edge.Edge.{Edge}
use Rattle.plane.specs.declared.point.Point.{Point}
use Rattle.plane.specs.Ends.{edge_between, end_of, start_of}
use Rattle.overlay.specs.Contours.Rings.{has_two_ends}
use Rattle.offset.specs.Cuts.{IsCurve, IsCurveOfRing, curve_of_two, edge_at, moved_by_furthest, moved_edges}
use Rattle.offset.specs.Raw.{furthest, moved, nowhere}
use Rattle.offset.specs.Shape.{neighbours, next_place, sides}
use Rattle.offset.proofs.PieceLemmas.Rounds.{IsJoined, ring-joined}
use Rattle.offset.proofs.ShapeLemmas.{length-neighbours, length-sides, neighbour-at, two-at}

-- There are as many as the ring has points.
pub length-moved : (corners ring : List Point) (moved : List Edge) → moved ≡ moved_edges corners (sides ring) → length moved ≡ length ring
length-moved corners ring moved is = ap (λ (edges : List Edge). length edges) is ∙ length-map (sides ring) (moved_by_furthest corners) ∙ length-sides ring

-- The one at a place is that of the edge there.
pub moved-at : (corners ring : List Point) (moved : List Edge) → moved ≡ moved_edges corners (sides ring) → (place : ℕ) (d : Edge) → place < length ring → get_or moved place d ≡ moved_by_furthest corners (edge_at (sides ring) place)
moved-at corners ring moved is place d inside =
    let size = length-sides ring in
    ap (λ (edges : List Edge). get_or edges place d) is ∙ get_or-map (moved_by_furthest corners) (sides ring) place nowhere d (omega (arith, size, inside))

-- Numbers that differ do so where both are moved alike.
differ-moved : (a b v : ℤ) → int_eq (a +ℤ v) (b +ℤ v) ≡ int_eq a b
differ-moved a b v = by (int_eq (a +ℤ v) (b +ℤ v)) (int_eq a b) refl refl
  where
    by : (s t : Bool) → int_eq (a +ℤ v) (b +ℤ v) ≡ s → int_eq a b ≡ t → s ≡ t
    by true true e f = refl
    by false false e f = refl
    by true false e f = let same = (Decides-int_eq (a +ℤ v) (b +ℤ v)).0 e in sym (sym f ∙ (Decides-int_eq a b).1 (omega (arith, ints, same)))
    by false true e f = let same = (Decides-int_eq a b).0 f in sym e ∙ (Decides-int_eq (a +ℤ v) (b +ℤ v)).1 (omega (arith, ints, same))

-- So do points.
pub apart-moved : (a b v : Point) → has_two_ends (edge_between (moved a v) (moved b v)) ≡ has_two_ends (edge_between a b)
apart-moved a b v = ap₂ (λ (s t : Bool). not s || not t) (differ-moved a.x b.x v.x) (differ-moved a.y b.y v.y)

-- Two edges, pushed one after another.
pub two-pushed : (before one two : List Edge) (a b c d : Edge) → one ≡ (before ++ a ∷ []) → two ≡ (one ++ b ∷ []) → a ≡ c → b ≡ d → two ≡ (before ++ (c ∷ d ∷ []))
two-pushed before one two a b c d first second is_a is_b =
    second
    ∙ ap₂ (λ (edges : List Edge) (e : Edge). edges ++ e ∷ []) (first ∙ ap (λ (e : Edge). before ++ e ∷ []) is_a) is_b
    ∙ append_assoc before (c ∷ []) (d ∷ [])

-- What comes up to a place is before it, or there.
pub before-or_there : (place upto : ℕ) → place < upto + 1 → (place < upto) ⊎ (place ≡ upto)
before-or_there place upto below = by_lt_z (pos place) (pos upto) (λ before. inl (omega (arith, ints, before))) (λ from. inr (omega (arith, ints, from, below)))

-- The pair at a place of a ring's edges is the edge there and the next one, which begins where it ends.
pub pair-joined : (ring : List Point) (index : ℕ) → index < length ring → end_of (edge_at (sides ring) index) ≡ start_of (edge_at (sides ring) (next_place index (length ring)))
pair-joined ring index inside =
    let size = length-sides ring in
    let count = length-neighbours (sides ring) in
    let pair = neighbour-at (sides ring) index nowhere (nowhere, nowhere) (omega (arith, size, inside)) in
    let next = ap (λ (n : ℕ). edge_at (sides ring) (next_place index n)) size in
    ap (λ (two : Edge × Edge). end_of two.0) (sym pair)
    ∙ All-get_or IsJoined (neighbours (sides ring)) index (nowhere, nowhere) (omega (arith, size, count, inside)) (ring-joined ring)
    ∙ ap (λ (two : Edge × Edge). start_of two.1) pair
    ∙ ap (λ (edge : Edge). start_of edge) next

-- That pair.
pub pair-there : (ring : List Point) (index next : ℕ) → index < length ring → next ≡ next_place index (length ring) → get_or (neighbours (sides ring)) index (nowhere, nowhere) ≡ (edge_at (sides ring) index, edge_at (sides ring) next)
pair-there ring index next inside is = sym (two-at ring index next (edge_at (sides ring) index) (edge_at (sides ring) next) inside is refl refl)

-- Where the next edge begins, moved.
pub begins : (corners : List Point) (edge next to : Edge) → to ≡ moved_by_furthest corners next → end_of edge ≡ start_of next → start_of to ≡ moved (furthest corners next) (end_of edge)
begins corners edge next to is joined = ap (λ (e : Edge). start_of e) is ∙ ap (λ (p : Point). moved (furthest corners next) p) (sym joined)

-- Where the edge ends, moved, and the next one begins, moved, are two points where their furthest corners are.
pub apart-ends : (corners : List Point) (edge next from to : Edge) → from ≡ moved_by_furthest corners edge → to ≡ moved_by_furthest corners next → end_of edge ≡ start_of next
    → has_two_ends (edge_between (end_of from) (start_of to)) ≡ has_two_ends (edge_between (furthest corners edge) (furthest corners next))
apart-ends corners edge next from to is_from is_to joined =
    ap₂ (λ (p q : Point). has_two_ends (edge_between p q)) (ap (λ (e : Edge). end_of e) is_from) (begins corners edge next to is_to joined)
    ∙ apart-moved (furthest corners edge) (furthest corners next) (end_of edge)

-- Three points that are three others.
pub three-points : (a b c d e f : Point) → a ≡ d → b ≡ e → c ≡ f → (a ∷ b ∷ c ∷ []) ≡ (d ∷ e ∷ f ∷ [])
three-points a b c d e f first second third =
    ap₂ (λ (x : Point) (xs : List Point). x ∷ xs) first (ap₂ (λ (x y : Point). x ∷ y ∷ []) second third)

-- What holds of each so far holds of one more.
pub each-more : {X : Type 0} (P : ℕ → X → Type 0) (xs : List X) (x : X) → ((k : ℕ) (d : X) → k < length xs → P k (get_or xs k d)) → P (length xs) x → (k : ℕ) (d : X) → k < length (xs ++ x ∷ []) → P k (get_or (xs ++ x ∷ []) k d)
each-more P xs x before here k d within = ⊎_elim earlier last (before-or_there k (length xs) (let size = length-append xs (x ∷ []) in omega (arith, size, within)))
  where
    earlier : k < length xs → P k (get_or (xs ++ x ∷ []) k d)
    earlier inside = subst (P k) (sym (get_or-append xs (x ∷ []) d k inside)) (before k d inside)

    last : k ≡ length xs → P k (get_or (xs ++ x ∷ []) k d)
    last at =
        let same : get_or (xs ++ x ∷ []) k d ≡ x = ap (λ (n : ℕ). get_or (xs ++ x ∷ []) n d) at ∙ get_or-append_seam xs x [] d in
        subst (P k) (sym same) (subst (λ (n : ℕ). P n x) (sym at) here)

-- The curve of the joints so far, and of one more.
pub curve-more : (corners ring : List Point) (index : ℕ) (joints : List ((Edge × Edge) × Bool)) (is_cut : Bool) (before so_far after : List Edge) → index < length (neighbours (sides ring))
    → map (λ joint. joint.0) joints ≡ take index (neighbours (sides ring)) → so_far ≡ (before ++ flat_map (curve_of_two corners) joints)
    → after ≡ (so_far ++ curve_of_two corners (get_or (neighbours (sides ring)) index (nowhere, nowhere), is_cut))
    → (map (λ joint. joint.0) (joints ++ (get_or (neighbours (sides ring)) index (nowhere, nowhere), is_cut) ∷ []) ≡ take (index + 1) (neighbours (sides ring)))
    × (after ≡ (before ++ flat_map (curve_of_two corners) (joints ++ (get_or (neighbours (sides ring)) index (nowhere, nowhere), is_cut) ∷ [])))
curve-more corners ring index joints is_cut before so_far after inside pairs so is =
    let pair = get_or (neighbours (sides ring)) index (nowhere, nowhere) in (
      map-append (λ (joint : (Edge × Edge) × Bool). joint.0) joints ((pair, is_cut) ∷ []) ∙ ap (λ (xs : List (Edge × Edge)). xs ++ pair ∷ []) pairs ∙ sym (take_more (neighbours (sides ring)) index (nowhere, nowhere) inside),
      is
          ∙ ap (λ (edges : List Edge). edges ++ curve_of_two corners (pair, is_cut)) so
          ∙ append_assoc before (flat_map (curve_of_two corners) joints) (curve_of_two corners (pair, is_cut))
          ∙ ap (λ (edges : List Edge). before ++ edges)
          (sym (flat_map-append (curve_of_two corners) joints ((pair, is_cut) ∷ [])
          ∙ ap (λ (edges : List Edge). flat_map (curve_of_two corners) joints ++ edges) (flat_map-cons (curve_of_two corners) (pair, is_cut) [] ∙ append-nil (curve_of_two corners (pair, is_cut))))),
    )

-- Of no rings there is no curve,
pub curves-none : (corners : List Point) → IsCurve corners [] []
curves-none corners = record { curves = []; each = tt; edges = refl }

zipped-more : {A B : Type 0} (R : A → B → Type 0) (xs : List A) (ys : List B) (x : A) (y : B) → AllZip R xs ys → R x y → AllZip R (xs ++ x ∷ []) (ys ++ y ∷ [])
zipped-more R [] [] x y all holds = (holds, tt)
zipped-more R [] (z ∷ ys) x y all holds = absurd all
zipped-more R (w ∷ xs) [] x y all holds = absurd all
zipped-more R (w ∷ xs) (z ∷ ys) x y all holds = (all.0, zipped-more R xs ys x y all.1 holds)

-- and of one more ring there is one more.
pub curves-more : (corners : List Point) (rings : List (List Point)) (index : ℕ) (d : List Point) (so_far after curve : List Edge) → index < length rings
    → IsCurve corners (take index rings) so_far → IsCurveOfRing corners (get_or rings index d) curve → after ≡ (so_far ++ curve) → IsCurve corners (take (index + 1) rings) after
curves-more corners rings index d so_far after curve inside is of more = record {
  curves = is.curves ++ curve ∷ [];
  each = subst (λ (xs : List (List Point)). AllZip (IsCurveOfRing corners) xs (is.curves ++ curve ∷ [])) (sym (take_more rings index d inside))
      (zipped-more (IsCurveOfRing corners) (take index rings) is.curves (get_or rings index d) curve is.each of);
  edges = more
      ∙ ap (λ (edges : List Edge). edges ++ curve) is.edges
      ∙ sym (flat_map-append itself is.curves (curve ∷ []) ∙ ap (λ (edges : List Edge). flat_map itself is.curves ++ edges) (flat_map-cons itself curve [] ∙ append-nil curve));
}
  where
    itself : List Edge → List Edge
    itself edges = edges
