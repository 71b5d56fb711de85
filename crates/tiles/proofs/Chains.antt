-- A chain that goes over the edges of a ring, cropped.
use Rattle.std.proofs.Common.{◌≡◌, ◌≢◌, ◌⊎◌, inl, inr, ℕ, ◌+◌, ◌≤◌, ◌+ℤ◌, List, [], ◌∷◌, ◌++◌, length, get_or, refl, ap, ap₂, sym, ◌∙◌, subst, append-nil, append_assoc, arith}
use Rattle.std.proofs.lemmas.Int.{ints}
use Rattle.std.proofs.lemmas.List.{length-append, length_push, same_from_push}
use Rattle.std.proofs.lemmas.List.Elements.{Contains-append_left, Contains-append_right, Contains-push_cases}
use Rattle.std.specs.List.{Contains}
use Rattle.plane.specs.declared.edge.Edge.{Edge}
use Rattle.plane.specs.declared.point.Point.{Point}
use Rattle.plane.specs.Ends.{edge_between, end_of, start_of}
use Rattle.plane.specs.Meet.Edges.{RationalPoint}
use Rattle.noding.specs.Windings.{pieces, winding}
use Rattle.noding.proofs.SnapLemmas.Counted.{under}
use Rattle.noding.proofs.SnapLemmas.Windings.{winding-added, winding-append}
use Rattle.overlay.proofs.ContourLemmas.Rings.{pieces-append}
use Rattle.tiles.specs.Pushing.{GoesOn, GoesOver, HasSides, IsBetween, IsPushed, IsShortened}
use Rattle.tiles.specs.Window.{AreBeyond, IsWithin}
use Rattle.tiles.specs.declared.window.Window.{Window}
use Rattle.tiles.proofs.Beside.{AreAside, IsAt, IsInside, along-aside, along-side, clamped-within, goes-aside, goes-end, goes-kept, goes-same, goes-start, joined-aside, joined-kept, joined-nothing, upright-nothing}

-- ---- pieces

-- one point more
pub pieces-push : (front chain : List Point) (last next : Point) → chain ≡ front ++ last ∷ [] → pieces (chain ++ next ∷ []) ≡ pieces chain ++ edge_between last next ∷ []
pieces-push front chain last next is =
    ap (λ (points : List Point). pieces (points ++ next ∷ [])) is
    ∙ ap pieces (append_assoc front (last ∷ []) (next ∷ []))
    ∙ pieces-append front last (next ∷ [])
    ∙ ap (λ (points : List Point). pieces points ++ edge_between last next ∷ []) (sym is)

pub winding-one : (edge : Edge) (point : RationalPoint) → winding (edge ∷ []) point ≡ under edge point
winding-one edge point = let sum = winding-added (edge ∷ []) point in omega (arith, ints, sum)

pub winding-push : (front chain : List Point) (last next : Point) (point : RationalPoint) → chain ≡ front ++ last ∷ [] → winding (pieces (chain ++ next ∷ [])) point ≡ (winding (pieces chain) point +ℤ under (edge_between last next) point)
winding-push front chain last next point is =
    let all = ap (λ (edges : List Edge). winding edges point) (pieces-push front chain last next is) in
    let sum = winding-append (pieces chain) (edge_between last next ∷ []) point in
    let one = winding-one (edge_between last next) point in
    omega (arith, ints, all, sum, one)

-- a chain with a point isn't empty
pub some-point : {X : Type 0} (front : List X) (x : X) (xs : List X) → [] ≡ front ++ x ∷ xs → ⊥
some-point front x xs none = let size = ap (λ (list : List _). length list) none in let sum = length-append front (x ∷ xs) in omega (arith, size, sum)

-- the first point stays, where the last of two goes, and where one comes
first-kept : (front : List Point) (one other default : Point) → get_or (front ++ one ∷ other ∷ []) 0 default ≡ get_or (front ++ one ∷ []) 0 default
first-kept [] one other default = refl
first-kept (point ∷ front) one other default = refl

first-push : (front : List Point) (one next default : Point) → get_or ((front ++ one ∷ []) ++ next ∷ []) 0 default ≡ get_or (front ++ one ∷ []) 0 default
first-push [] one next default = refl
first-push (point ∷ front) one next default = refl

-- ---- the state of a chain

abbrev pub IsAside : Window → Edge → Type 0
IsAside wide edge = AreAside wide (start_of edge) (end_of edge)

abbrev pub IsBeyond : Window → Edge → Type 0
IsBeyond wide edge = AreBeyond wide (start_of edge) (end_of edge)

abbrev pub IsOwn : Window → List Point → Point → Type 0
IsOwn wide ring point = Contains ring point ⊎ IsWithin wide point

-- The edge between the points is one of these or lies aside, and doesn't lie beyond a side.
abbrev pub IsFit : Window → List Edge → Point → Point → Type 0
IsFit wide edges one other = (Contains edges (edge_between one other) ⊎ AreAside wide one other) × ¬ (AreBeyond wide one other)

-- The edges are these ones, or lie aside, have two ends, and none lies beyond a side.
pub record AreOwn (wide : Window) (done edges : List Edge) : Type 0 where
  pub are : (edge : Edge) → Contains edges edge → Contains done edge ⊎ IsAside wide edge
  pub two_ends : (edge : Edge) → Contains edges edge → start_of edge ≢ end_of edge
  pub kept : (edge : Edge) → Contains edges edge → ¬ (IsBeyond wide edge)

-- The chain's points are the ring's, or lie in the window, its first one is the start, and it has so many at most.
pub record HasOwn (wide : Window) (ring : List Point) (start : Point) (count : ℕ) (chain : List Point) : Type 0 where
  pub begins : (default : Point) → IsAt wide start (get_or chain 0 default)
  pub points : (point : Point) → Contains chain point → IsOwn wide ring point
  pub size : length chain ≤ count

-- From the start the chain goes over these edges, cropped, to its last point.
pub record Reaches (wide : Window) (ring : List Point) (start : Point) (done : List Edge) (count : ℕ) (last : Point) (chain : List Point) : Type 0 where
  pub front : List Point
  pub is : chain ≡ front ++ last ∷ []
  pub own : HasOwn wide ring start count chain
  pub winds : (point : RationalPoint) → IsInside wide point → winding (pieces chain) point ≡ winding done point
  pub edges : AreOwn wide done (pieces chain)

-- The same of a chain that goes over these edges if the next point is pushed.
pub record Leads (wide : Window) (ring : List Point) (start : Point) (done : List Edge) (count : ℕ) (next : Point) (chain : List Point) : Type 0 where
  pub front : List Point
  pub last : Point
  pub is : chain ≡ front ++ last ∷ []
  pub own : HasOwn wide ring start count chain
  pub winds : (point : RationalPoint) → IsInside wide point → (winding (pieces chain) point +ℤ under (edge_between last next) point) ≡ winding done point
  pub edges : AreOwn wide done (pieces chain)
  pub step : last ≢ next → IsFit wide done last next

-- ---- one point more

module _ (wide : Window) (ring : List Point) (start : Point) (done : List Edge) (count : ℕ) (next : Point) where
  -- the next point stands there already, or is pushed
  leads-push : (kept after : List Point) → Leads wide ring start done count next kept → IsOwn wide ring next → IsPushed next kept after → Reaches wide ring start done (count + 1) next after
  leads-push kept after leads own (inl (front, is, same)) =
      let both = same_from_push leads.front front leads.last next (sym leads.is ∙ is) in
      let size = leads.own.size in
      let more : length kept ≤ count + 1 = omega (arith, size) in
      subst (λ (chain : List Point). Reaches wide ring start done (count + 1) next chain) (sym same) (record {
        front = front;
        is = is;
        own = record { begins = leads.own.begins; points = leads.own.points; size = more };
        winds = λ point inside.
            let sum = leads.winds point inside in
            let none = upright-nothing wide point inside leads.last next (ap (λ (p : Point). p.x) both.1) in
            omega (arith, ints, sum, none);
        edges = leads.edges;
      })
  leads-push kept after leads own (inr (differs, is)) =
      let size = leads.own.size in
      let long = length_push kept next in
      let more : length (kept ++ next ∷ []) ≤ count + 1 = omega (arith, size, long) in
      let all = pieces-push leads.front kept leads.last next leads.is in
      let differ = differs leads.front leads.last leads.is in
      subst (λ (chain : List Point). Reaches wide ring start done (count + 1) next chain) (sym is) (record {
        front = kept;
        is = refl;
        own = record {
          begins = λ default. subst (λ (p : Point). IsAt wide start p)
              (ap (λ (points : List Point). get_or points 0 default) leads.is ∙ sym (first-push leads.front leads.last next default) ∙ ap (λ (points : List Point). get_or (points ++ next ∷ []) 0 default) (sym leads.is))
              (leads.own.begins default);
          points = λ point held. elim (Contains-push_cases kept next point held) [
            | inl before ↦ leads.own.points point before
            | inr same ↦ subst (λ (p : Point). IsOwn wide ring p) same own
          ];
          size = more;
        };
        winds = λ point inside. (
            let sum = leads.winds point inside in
            let told = winding-push leads.front kept leads.last next point leads.is in
            omega (arith, ints, sum, told));
        edges = record {
          are = λ edge held. elim (Contains-push_cases (pieces kept) (edge_between leads.last next) edge (subst (λ (edges : List Edge). Contains edges edge) all held)) [
            | inl before ↦ leads.edges.are edge before
            | inr same ↦ subst (λ (e : Edge). Contains done e ⊎ IsAside wide e) same (leads.step differ).0
          ];
          two_ends = λ edge held. elim (Contains-push_cases (pieces kept) (edge_between leads.last next) edge (subst (λ (edges : List Edge). Contains edges edge) all held)) [
            | inl before ↦ leads.edges.two_ends edge before
            | inr same ↦ subst (λ (e : Edge). start_of e ≢ end_of e) same differ
          ];
          kept = λ edge held. elim (Contains-push_cases (pieces kept) (edge_between leads.last next) edge (subst (λ (edges : List Edge). Contains edges edge) all held)) [
            | inl before ↦ leads.edges.kept edge before
            | inr same ↦ subst (λ (e : Edge). ¬ (IsBeyond wide e)) same (leads.step differ).1
          ];
        };
      })

module _ (wide : Window) (ring : List Point) (start : Point) (done extra : List Edge) (count : ℕ) (last next : Point)
    (winds : (point : RationalPoint) → IsInside wide point → under (edge_between last next) point ≡ winding extra point)
    (step : last ≢ next → IsFit wide extra last next) where
  more-own : (edges : List Edge) → AreOwn wide done edges → AreOwn wide (done ++ extra) edges
  more-own edges own = record {
    are = λ edge held. elim (own.are edge held) [
      | inl among ↦ inl (Contains-append_left done extra edge among)
      | inr aside ↦ inr aside
    ];
    two_ends = own.two_ends;
    kept = own.kept;
  }

  -- the chain stays as it is
  leads-whole : (chain : List Point) → Reaches wide ring start done count last chain → Leads wide ring start (done ++ extra) count next chain
  leads-whole chain reaches = record {
    front = reaches.front;
    last = last;
    is = reaches.is;
    own = reaches.own;
    winds = λ point inside. (
        let so_far = reaches.winds point inside in
        let one = winds point inside in
        let sum = winding-append done extra point in
        omega (arith, ints, so_far, one, sum));
    edges = more-own (pieces chain) reaches.edges;
    step = λ differ. (
      elim (step differ).0 [
        | inl among ↦ inl (Contains-append_right done extra (edge_between last next) among)
        | inr aside ↦ inr aside
      ],
      (step differ).1,
    );
  }

  -- or its last point goes
  leads-shorter : (chain kept front : List Point) (one other : Point) → Reaches wide ring start done count last chain → chain ≡ front ++ one ∷ other ∷ [] → IsBetween wide one other next → kept ≡ front ++ one ∷ []
      → Leads wide ring start (done ++ extra) count next kept
  leads-shorter chain kept front one other reaches is along kept_is =
      let pushed : chain ≡ kept ++ other ∷ [] = is ∙ sym (append_assoc front (one ∷ []) (other ∷ [])) ∙ ap (λ (points : List Point). points ++ other ∷ []) (sym kept_is) in
      let same : other ≡ last = (same_from_push kept reaches.front other last (sym pushed ∙ reaches.is)).1 in
      let all = ap pieces pushed ∙ pieces-push front kept one other kept_is in
      let long = ap (λ (points : List Point). length points) pushed ∙ length_push kept other in
      let size = reaches.own.size in
      let fewer : length kept ≤ count = omega (arith, long, size) in
      let before : (edge : Edge) → Contains (pieces kept) edge → Contains (pieces chain) edge =
      λ edge held. subst (λ (edges : List Edge). Contains edges edge) (sym all) (Contains-append_left (pieces kept) (edge_between one other ∷ []) edge held) in
      let own = more-own (pieces chain) reaches.edges in record {
        front = front;
        last = one;
        is = kept_is;
        own = record {
          begins = λ default. subst (λ (p : Point). IsAt wide start p)
              (ap (λ (points : List Point). get_or points 0 default) is ∙ first-kept front one other default ∙ ap (λ (points : List Point). get_or points 0 default) (sym kept_is))
              (reaches.own.begins default);
          points = λ point held. reaches.own.points point (subst (λ (points : List Point). Contains points point) (sym pushed) (Contains-append_left kept (other ∷ []) point held));
          size = fewer;
        };
        winds = λ point inside. (
            let so_far = reaches.winds point inside in
            let told = ap (λ (points : List Point). winding (pieces points) point) pushed in
            let first = winding-push front kept one other point kept_is in
            let over = along-side wide point inside one other next along.0 in
            let there = ap (λ (p : Point). under (edge_between p next) point) same in
            let last_one = winds point inside in
            let sum = winding-append done extra point in
            omega (arith, ints, so_far, told, first, over, there, last_one, sum));
        edges = record {
          are = λ edge held. own.are edge (before edge held);
          two_ends = λ edge held. own.two_ends edge (before edge held);
          kept = λ edge held. own.kept edge (before edge held);
        };
        step = λ differ. (inr (along-aside wide one other next along.0), along.1);
      }

  pub goes-on : (chain after : List Point) → Reaches wide ring start done count last chain → IsOwn wide ring next → GoesOn wide next chain after → Reaches wide ring start (done ++ extra) (count + 1) next after
  goes-on chain after reaches own (kept, shortened, pushed) = leads-push wide ring start (done ++ extra) count next kept after (leads shortened) own pushed
    where
      leads : IsShortened wide next chain kept → Leads wide ring start (done ++ extra) count next kept
      leads (inl same) = subst (λ (points : List Point). Leads wide ring start (done ++ extra) count next points) (sym same) (leads-whole chain reaches)
      leads (inr (front, one, other, is, along, kept_is)) = leads-shorter chain kept front one other reaches is along kept_is

-- ---- the first point

module _ (wide : Window) (ring : List Point) (start next : Point) (at : IsAt wide start next) (own : IsOwn wide ring next) where
  reaches-one : Reaches wide ring start [] 1 next (next ∷ [])
  reaches-one = record {
    front = [];
    is = refl;
    own = record {
      begins = λ default. at;
      points = λ point held. elim (Contains-push_cases [] next point held) [
        | inl (k, within, _) ↦ absurd (omega (arith, within))
        | inr same ↦ subst (λ (p : Point). IsOwn wide ring p) same own
      ];
      size = omega arith;
    };
    winds = λ point inside. refl;
    edges = record {
      are = λ edge (k, within, _). absurd (omega (arith, within));
      two_ends = λ edge (k, within, _). absurd (omega (arith, within));
      kept = λ edge (k, within, _). absurd (omega (arith, within));
    };
  }

  goes-first : (chain after : List Point) → chain ≡ [] → GoesOn wide next chain after → Reaches wide ring start [] 1 next after
  goes-first chain after none (kept, shortened, pushed) = by shortened pushed
    where
      pushed_one : kept ≡ [] → IsPushed next kept after → Reaches wide ring start [] 1 next after
      pushed_one same (inl (front, is, _)) = absurd (some-point front next [] (sym same ∙ is))
      pushed_one same (inr (_, is)) = subst (λ (points : List Point). Reaches wide ring start [] 1 next points) (sym (is ∙ ap (λ (points : List Point). points ++ next ∷ []) same)) reaches-one

      by : IsShortened wide next chain kept → IsPushed next kept after → Reaches wide ring start [] 1 next after
      by (inl same) pushed = pushed_one (same ∙ none) pushed
      by (inr (front, one, other, is, along, kept_is)) pushed = absurd (some-point front one (other ∷ []) (sym none ∙ is))

-- ---- an edge

-- The chain goes over these edges, cropped, from the start to the point, or to this clamped.
abbrev pub GoesSoFar : Window → List Point → Point → List Edge → ℕ → Point → List Point → Type 0
GoesSoFar wide ring start done count at chain =
    ((chain ≡ []) × (done ≡ []) × (at ≡ start) × (count ≡ 0)) ⊎ ((last : Point) × IsAt wide at last × Reaches wide ring start done count last chain)

module _ (wide : Window) (sides : HasSides wide) (ring : List Point) (start : Point) (done : List Edge) (count : ℕ) (from to : Point) (from_own : Contains ring from) (to_own : Contains ring to) where
  own-at : (at point : Point) → Contains ring at → IsAt wide at point → IsOwn wide ring point
  own-at at point among is = elim (clamped-within wide at point sides is) [
    | inl same ↦ inl (subst (λ (p : Point). Contains ring p) (sym same) among)
    | inr within ↦ inr within
  ]

  -- to the edge's start
  to-start : (begin : Point) (chain mid : List Point) → IsAt wide from begin → GoesSoFar wide ring start done count from chain → GoesOn wide begin chain mid → Reaches wide ring start done (count + 1) begin mid
  to-start begin chain mid at (inl (none, no_edges, same, zero)) goes =
      let first = goes-first wide ring start begin (subst (λ (p : Point). IsAt wide p begin) same at) (own-at from begin from_own at) chain mid none goes in
      let one : 1 ≡ count + 1 = omega (arith, zero) in
      subst (λ (n : ℕ). Reaches wide ring start done n begin mid) one (subst (λ (edges : List Edge). Reaches wide ring start edges 1 begin mid) (sym no_edges) first)
  to-start begin chain mid at (inr (last, last_at, reaches)) goes =
      subst (λ (edges : List Edge). Reaches wide ring start edges (count + 1) begin mid) (append-nil done)
      (goes-on wide ring start done [] count last begin (joined-nothing wide from last begin last_at at) (λ differ. (inr (joined-aside wide from last begin last_at at differ), joined-kept wide from last begin sides last_at at differ)) chain mid reaches (own-at from begin from_own at) goes)

  pub goes-over : (chain after : List Point) → GoesSoFar wide ring start done count from chain → GoesOver wide from to chain after
      → (last : Point) × IsAt wide to last × Reaches wide ring start (done ++ edge_between from to ∷ []) (count + 2) last after
  goes-over chain after so_far (begin, end, mid, goes, first, second) =
      let mid_reaches = to-start begin chain mid (goes-start wide from to begin end goes) so_far first in
      let end_at = goes-end wide from to begin end goes in
      let reaches =
      goes-on wide ring start done (edge_between from to ∷ []) (count + 1) begin end
      (λ point inside. goes-same wide point inside from to begin end goes ∙ sym (winding-one (edge_between from to) point))
      (λ differ. (
        elim (goes-aside wide from to begin end goes) [
          | inl (same, same_end) ↦ inl (0, omega arith, sym (ap₂ edge_between same same_end))
          | inr aside ↦ inr aside
        ],
        goes-kept wide from to begin end sides goes,
      ))
      mid after mid_reaches (own-at to end to_own end_at) second in
      let two : (count + 1) + 1 ≡ count + 2 = omega arith in
      (end, end_at, subst (λ (n : ℕ). Reaches wide ring start (done ++ edge_between from to ∷ []) n end after) two reaches)
