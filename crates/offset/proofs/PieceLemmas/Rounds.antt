-- Lists that go round: each item with the next one, and the last with the first.
use Rattle.std.proofs.Common.{◌≡◌, ◌≢◌, suc, zero, ℤ, pos, ◌+ℤ◌, Bool, true, false, cond, List, [], ◌∷◌, ◌++◌, map, refl, ap, subst, sym, ◌∙◌, arith}
use Rattle.std.specs.List.{All, AllPairs, Contains, zip}
use Rattle.std.proofs.lemmas.Int.{ints}
use Rattle.std.proofs.lemmas.List.{map-append}
use Rattle.std.proofs.lemmas.List.Quantifiers.{all_pairs_push}
use Rattle.std.proofs.lemmas.List.Elements.{All-cons, All-head, All-nil, All-tail, All-weaker, Contains-append_left, Contains-append_right}
use Rattle.i_tree.proofs.RootLemmas.Lists.{AllPairs-head, AllPairs-tail, Contains-here, Contains-there}
use Rattle.plane.specs.declared.edge.Edge.{Edge}
use Rattle.plane.specs.declared.point.Point.{Point}
use Rattle.plane.specs.Ends.{edge_between, end_of, start_of}
use Rattle.noding.specs.Windings.{pieces}
use Rattle.overlay.specs.Contours.Rings.{ring_edges}
use Rattle.overlay.specs.Fill.Pieces.{total}
use Rattle.offset.specs.Shape.{neighbours}

-- ---- sums

firsts : {X : Type 0} (g : X → ℤ) (from last : X) (xs : List X) → total (λ two. g two.0) (zip (from ∷ xs) (xs ++ last ∷ [])) ≡ (g from +ℤ total g xs)
firsts g from last [] = refl
firsts g from last (x ∷ xs) = ap (λ z. g from +ℤ z) (firsts g x last xs)

seconds : {X : Type 0} (g : X → ℤ) (from last : X) (xs : List X) → total (λ two. g two.1) (zip (from ∷ xs) (xs ++ last ∷ [])) ≡ (total g xs +ℤ g last)
seconds g from last [] = omega (arith, ints)
seconds g from last (x ∷ xs) = let rest = seconds g x last xs in omega (arith, ints, rest)

-- What each first item gives comes to what all give, and so does what each second one gives.
pub total-firsts : {X : Type 0} (g : X → ℤ) (xs : List X) → total (λ two. g two.0) (neighbours xs) ≡ total g xs
total-firsts g [] = refl
total-firsts g (x ∷ xs) = firsts g x x xs

pub total-seconds : {X : Type 0} (g : X → ℤ) (xs : List X) → total (λ two. g two.1) (neighbours xs) ≡ total g xs
total-seconds g [] = refl
total-seconds g (x ∷ xs) = let sum = seconds g x x xs in omega (arith, ints, sum)

-- ---- which items stand in pairs

module _ {X : Type 0} where
  first-of : (from last : X) (xs : List X) → (one other : X) → Contains (zip (from ∷ xs) (xs ++ last ∷ [])) (one, other) → Contains (from ∷ xs) one
  first-of from last [] one other (zero, within, is) = (0, omega arith, ap (λ two. two.0) is)
  first-of from last [] one other (suc k, within, is) = absurd (omega (arith, within))
  first-of from last (x ∷ xs) one other (zero, within, is) = (0, omega arith, ap (λ two. two.0) is)
  first-of from last (x ∷ xs) one other (suc k, within, is) = Contains-there from (x ∷ xs) one (first-of x last xs one other (k, omega (arith, within), is))

  second-of : (from last : X) (xs : List X) → (one other : X) → Contains (zip (from ∷ xs) (xs ++ last ∷ [])) (one, other) → Contains (last ∷ xs) other
  second-of from last [] one other (zero, within, is) = (0, omega arith, ap (λ two. two.1) is)
  second-of from last [] one other (suc k, within, is) = absurd (omega (arith, within))
  second-of from last (x ∷ xs) one other (zero, within, is) = (1, omega arith, ap (λ two. two.1) is)
  second-of from last (x ∷ xs) one other (suc k, within, is) = behind (second-of x last xs one other (k, omega (arith, within), is))
    where
      behind : Contains (last ∷ xs) other → Contains (last ∷ x ∷ xs) other
      behind (zero, inside, at) = (0, omega arith, at)
      behind (suc i, inside, at) = (suc (suc i), omega (arith, inside), at)

  next-of : (from last : X) (xs : List X) → (one : X) → Contains (from ∷ xs) one → (other : X) × Contains (zip (from ∷ xs) (xs ++ last ∷ [])) (one, other)
  next-of from last [] one (zero, within, is) = (last, (0, omega arith, ap (λ (x : X). (x, last)) is))
  next-of from last [] one (suc k, within, is) = absurd (omega (arith, within))
  next-of from last (x ∷ xs) one (zero, within, is) = (x, (0, omega arith, ap (λ (z : X). (z, x)) is))
  next-of from last (x ∷ xs) one (suc k, within, is) =
      let (other, held) = next-of x last xs one (k, omega (arith, within), is) in
      (other, Contains-there (from, x) (zip (x ∷ xs) (xs ++ last ∷ [])) (one, other) held)

  previous-of : (from last : X) (xs : List X) → (other : X) → Contains (xs ++ last ∷ []) other → (one : X) × Contains (zip (from ∷ xs) (xs ++ last ∷ [])) (one, other)
  previous-of from last [] other (zero, within, is) = (from, (0, omega arith, ap (λ (z : X). (from, z)) is))
  previous-of from last [] other (suc k, within, is) = absurd (omega (arith, within))
  previous-of from last (x ∷ xs) other (zero, within, is) = (from, (0, omega arith, ap (λ (z : X). (from, z)) is))
  previous-of from last (x ∷ xs) other (suc k, within, is) =
      let (one, held) = previous-of x last xs other (k, omega (arith, within), is) in
      (one, Contains-there (from, x) (zip (x ∷ xs) (xs ++ last ∷ [])) (one, other) held)

  -- Both of a pair are items.
  pub neighbours-held : (xs : List X) (one other : X) → Contains (neighbours xs) (one, other) → Contains xs one × Contains xs other
  neighbours-held [] one other (k, within, is) = absurd (omega (arith, within))
  neighbours-held (x ∷ xs) one other held = (first-of x x xs one other held, second-of x x xs one other held)

  -- Each item has a next one, and is one.
  pub next-held : (xs : List X) (one : X) → Contains xs one → (other : X) × Contains (neighbours xs) (one, other)
  next-held [] one (k, within, is) = absurd (omega (arith, within))
  next-held (x ∷ xs) one held = next-of x x xs one held

  pub previous-held : (xs : List X) (other : X) → Contains xs other → (one : X) × Contains (neighbours xs) (one, other)
  previous-held [] other (k, within, is) = absurd (omega (arith, within))
  previous-held (x ∷ xs) other (zero, within, is) = previous-of x x xs other (subst (λ (z : X). Contains (xs ++ x ∷ []) z) is (Contains-append_right xs (x ∷ []) x (Contains-here x [])))
  previous-held (x ∷ xs) other (suc k, within, is) = previous-of x x xs other (Contains-append_left xs (x ∷ []) other (k, omega (arith, within), is))

-- ---- rings

abbrev pub IsJoined : Edge × Edge → Type 0
IsJoined two = end_of two.0 ≡ start_of two.1

joined-on : (edge first : Edge) (points : List Point) (last : Point) → start_of first ≡ last
    → All IsJoined (zip (edge ∷ pieces (end_of edge ∷ (points ++ last ∷ []))) (pieces (end_of edge ∷ (points ++ last ∷ [])) ++ first ∷ []))
joined-on edge first [] last is =
    All-cons IsJoined (edge, edge_between (end_of edge) last) ((edge_between (end_of edge) last, first) ∷ []) refl
    (All-cons IsJoined (edge_between (end_of edge) last, first) [] (sym is) (All-nil IsJoined))
joined-on edge first (point ∷ points) last is =
    let next = edge_between (end_of edge) point in
    All-cons IsJoined (edge, next) (zip (next ∷ pieces (point ∷ (points ++ last ∷ []))) (pieces (point ∷ (points ++ last ∷ [])) ++ first ∷ [])) refl (joined-on next first points last is)

-- Of two edges of a ring that follow each other the other one begins where the one ends.
pub ring-joined : (ring : List Point) → All IsJoined (neighbours (ring_edges ring))
ring-joined [] = All-nil IsJoined
ring-joined (point ∷ []) = All-cons IsJoined (edge_between point point, edge_between point point) [] refl (All-nil IsJoined)
ring-joined (point ∷ next ∷ points) = joined-on (edge_between point next) (edge_between point next) points point refl

-- ---- starts

start-on : (from : Point) (points : List Point) (last : Point) (edge : Edge) → Contains (pieces (from ∷ (points ++ last ∷ []))) edge → Contains (from ∷ points) (start_of edge)
start-on from [] last edge (zero, within, is) = (0, omega arith, ap (λ e. start_of e) is)
start-on from [] last edge (suc k, within, is) = absurd (omega (arith, within))
start-on from (point ∷ points) last edge (zero, within, is) = (0, omega arith, ap (λ e. start_of e) is)
start-on from (point ∷ points) last edge (suc k, within, is) = Contains-there from (point ∷ points) (start_of edge) (start-on point points last edge (k, omega (arith, within), is))

-- An edge of a ring begins at a point of it.
pub start-held : (ring : List Point) (edge : Edge) → Contains (ring_edges ring) edge → Contains ring (start_of edge)
start-held [] edge (k, within, is) = absurd (omega (arith, within))
start-held (point ∷ points) edge held = start-on point points point edge held

starts-on : (from : Point) (points : List Point) (last : Point) → map start_of (pieces (from ∷ (points ++ last ∷ []))) ≡ from ∷ points
starts-on from [] last = refl
starts-on from (point ∷ points) last = ap (λ rest. from ∷ rest) (starts-on point points last)

seconds-list : {X : Type 0} (from last : X) (xs : List X) → map (λ two. two.1) (zip (from ∷ xs) (xs ++ last ∷ [])) ≡ xs ++ last ∷ []
seconds-list from last [] = refl
seconds-list from last (x ∷ xs) = ap (λ rest. x ∷ rest) (seconds-list x last xs)

-- The second ones of the pairs of a ring's edges begin at its points, from the second point on.
pub second-starts : (point : Point) (points : List Point) → map (λ two. start_of two.1) (neighbours (ring_edges (point ∷ points))) ≡ points ++ point ∷ []
second-starts point [] = refl
second-starts point (next ∷ points) =
    let first = edge_between point next in
    let edges = pieces (next ∷ (points ++ point ∷ [])) in
    twice (zip (first ∷ edges) (edges ++ first ∷ []))
    ∙ ap (λ some. map start_of some) (seconds-list first first edges)
    ∙ map-append start_of edges (first ∷ [])
    ∙ ap (λ some. some ++ point ∷ []) (starts-on next points point)
  where
    twice : (pairs : List (Edge × Edge)) → map (λ two. start_of two.1) pairs ≡ map start_of (map (λ two. two.1) pairs)
    twice [] = refl
    twice (two ∷ pairs) = ap (λ rest. start_of two.1 ∷ rest) (twice pairs)

-- So no two of them begin at one point, if the ring visits none twice.
pub second-starts-differ : (ring : List Point) → AllPairs (λ point later. point ≢ later) ring → AllPairs (λ point later. point ≢ later) (map (λ two. start_of two.1) (neighbours (ring_edges ring)))
second-starts-differ [] once = once
second-starts-differ (point ∷ points) once =
    subst (λ (some : List Point). AllPairs (λ (one other : Point). one ≢ other) some) (sym (second-starts point points))
    (all_pairs_push (λ (one other : Point). one ≢ other) points point (AllPairs-tail (λ (one other : Point). one ≢ other) point points once)
    (λ k d within same. AllPairs-head (λ (one other : Point). one ≢ other) point points once k d within (sym same)))

-- ---- one item that passes

-- others of which none has the key give nothing
none-passes : {X K : Type 0} (test : X → Bool) (key : X → K) (give : K → ℤ) (found : K) (xs : List X) → All (λ k. k ≢ found) (map key xs) → All (λ x. test x ≡ true → key x ≡ found) xs
    → total (λ y. cond (test y) (give (key y)) (pos 0)) xs ≡ pos 0
none-passes test key give found [] apart passing = refl
none-passes {X = X} {K = K} test key give found (z ∷ zs) apart passing = one (test z) refl (none-passes test key give found zs (All-tail (λ (k : K). k ≢ found) (key z) (map key zs) apart) (All-tail Passes z zs passing))
  where
    Passes : X → Type 0
    Passes x = test x ≡ true → key x ≡ found

    one : (t : Bool) → test z ≡ t → total (λ w. cond (test w) (give (key w)) (pos 0)) zs ≡ pos 0 → (cond t (give (key z)) (pos 0) +ℤ total (λ w. cond (test w) (give (key w)) (pos 0)) zs) ≡ pos 0
    one true is rest = absurd (All-head (λ (k : K). k ≢ found) (key z) (map key zs) apart (All-head Passes z zs passing is))
    one false is rest = omega (arith, ints, rest)

-- Where no two items have one key, and those that pass a test have this one, what their keys give comes to what it gives.
pub total-once : {X K : Type 0} (test : X → Bool) (key : X → K) (give : K → ℤ) (found : K) (xs : List X) → AllPairs (λ one other. one ≢ other) (map key xs) → All (λ x. test x ≡ true → key x ≡ found) xs
    → (x : X) → Contains xs x → test x ≡ true → total (λ y. cond (test y) (give (key y)) (pos 0)) xs ≡ give found
total-once test key give found [] differ all x (k, within, is) passes = absurd (omega (arith, within))
total-once {X = X} {K = K} test key give found (y ∷ ys) differ all x held passes =
    by (test y) refl held (λ inside. total-once test key give found ys (AllPairs-tail (λ (one other : K). one ≢ other) (key y) (map key ys) differ) (All-tail (λ (z : X). test z ≡ true → key z ≡ found) y ys all) x inside passes)
  where
    Passes : X → Type 0
    Passes z = test z ≡ true → key z ≡ found

    by : (t : Bool) → test y ≡ t → Contains (y ∷ ys) x → (Contains ys x → total (λ z. cond (test z) (give (key z)) (pos 0)) ys ≡ give found) → (cond t (give (key y)) (pos 0) +ℤ total (λ z. cond (test z) (give (key z)) (pos 0)) ys) ≡ give found
    by true is among later =
        let here : key y ≡ found = All-head Passes y ys all is in
        let apart : All (λ k. k ≢ found) (map key ys) = subst (λ (k : K). All (λ other. other ≢ k) (map key ys)) here (All-weaker (λ (other : K). key y ≢ other) (λ (other : K). other ≢ key y) (λ other isnt same. isnt (sym same)) (map key ys) (AllPairs-head (λ (one other : K). one ≢ other) (key y) (map key ys) differ)) in
        let rest = none-passes test key give found ys apart (All-tail Passes y ys all) in
        let mine = ap give here in
        omega (arith, ints, rest, mine)
    by false is (zero, within, at) later = absurd (contrary (sym is ∙ ap test at ∙ passes))
      where
        contrary : false ≡ true → ⊥
        contrary h = cc
    by false is (suc k, within, at) later =
        let rest = later (k, omega (arith, within), at) in
        omega (arith, ints, rest)
