-- What the loops over the nodes of a mask keep of chunks: the room that each of some nodes has, and the copies that join them.
use Rattle.std.proofs.Common.{◌≡◌, ◌≢◌, ℕ, zero, suc, ◌+◌, ◌^◌, ◌<◌, ◌≤◌, Bool, true, false, cond, List, [], ◌∷◌, ◌++◌, length, get_or, refl, ap, sym, ◌∙◌, subst, inl, inr, append_assoc, append-nil, arith}
use Rattle.std.specs.Bool.{◌==◌}
use Rattle.std.specs.List.{All, Contains, slice_get, slice_set}
use Rattle.std.specs.Option.{IsSomeAnd}
use Rattle.std.specs.Vec.{vec_len, vec_capacity}
use Rattle.std.specs.declared.vec.Vec.{Vec}
use Rattle.std.proofs.lemmas.Bool.{cases_lt, cases_eq, cond-true, eq-eqb, ne_eqb}
use Rattle.std.proofs.lemmas.List.{get_or-map, get_or-set_same, get_or-set_other, length-map, map-set}
use Rattle.std.proofs.lemmas.List.Elements.{All-nil, All-cons, All-head, All-tail, All-push, All-same, All-weaker, All-contains, Contains-append_right}
use Rattle.i_tree.specs.Seg.Copies.{chunk_at, copies_in}
use Rattle.i_tree.specs.Seg.Nodes.{has_node, nodes_from, nodes_of}
use Rattle.i_tree.proofs.SegLemmas.NodesWhere.{has_node-below, nodes_of-have, nodes_of-contains}

-- there is an element at the place, and it satisfies P
module _ {X : Type 0} (P : X → Type 0) where
  pub some_at-within : (xs : List X) (place : ℕ) → IsSomeAnd (slice_get xs place) P → place < length xs
  some_at-within [] place there = absurd there
  some_at-within (x ∷ xs) zero there = omega arith
  some_at-within (x ∷ xs) (suc place) there = let within = some_at-within xs place there in omega arith

  pub some_at-read : (xs : List X) (place : ℕ) (default : X) → IsSomeAnd (slice_get xs place) P → P (get_or xs place default)
  some_at-read [] place default there = absurd there
  some_at-read (x ∷ xs) zero default there = there
  some_at-read (x ∷ xs) (suc place) default there = some_at-read xs place default there

  some_at-set_same : (xs : List X) (place : ℕ) (new : X) → place < length xs → P new → IsSomeAnd (slice_get (slice_set xs place new) place) P
  some_at-set_same [] place new within holds = absurd (omega arith)
  some_at-set_same (x ∷ xs) zero new within holds = holds
  some_at-set_same (x ∷ xs) (suc place) new within holds = some_at-set_same xs place new (omega arith) holds

  some_at-set_other : (xs : List X) (place other : ℕ) (new : X) → other ≢ place → IsSomeAnd (slice_get xs other) P → IsSomeAnd (slice_get (slice_set xs place new) other) P
  some_at-set_other [] place other new apart there = absurd there
  some_at-set_other (x ∷ xs) zero zero new apart there = absurd (apart refl)
  some_at-set_other (x ∷ xs) zero (suc other) new apart there = there
  some_at-set_other (x ∷ xs) (suc place) zero new apart there = there
  some_at-set_other (x ∷ xs) (suc place) (suc other) new apart there = some_at-set_other xs place other new (λ same. apart (ap suc same)) there

  -- what a write makes true at its place is true there beside the places before
  pub some_at-set_all : (xs : List X) (place : ℕ) (new : X) (places : List ℕ) → place < length xs → P new
      → All (λ at. IsSomeAnd (slice_get xs at) P) places → All (λ at. IsSomeAnd (slice_get (slice_set xs place new) at) P) (places ++ place ∷ [])
  some_at-set_all xs place new places within holds all =
      All-push (λ at. IsSomeAnd (slice_get (slice_set xs place new) at) P) places place
      (All-weaker (λ at. IsSomeAnd (slice_get xs at) P) (λ at. IsSomeAnd (slice_get (slice_set xs place new) at) P) kept places all)
      (some_at-set_same xs place new within holds)
    where
      kept : (at : ℕ) → IsSomeAnd (slice_get xs at) P → IsSomeAnd (slice_get (slice_set xs place new) at) P
      kept at there =
          elim (cases_eq at place) [
            | inl same ↦ subst (λ (spot : ℕ). IsSomeAnd (slice_get (slice_set xs place new) spot) P) (sym same) (some_at-set_same xs place new within holds)
            | inr apart ↦ some_at-set_other xs place at new apart there
          ]

  -- a write changes nothing at higher places
  pub some_at-set_higher : (xs : List X) (place : ℕ) (new : X) (places : List ℕ) → All (λ at. place < at) places
      → All (λ at. IsSomeAnd (slice_get xs at) P) places → All (λ at. IsSomeAnd (slice_get (slice_set xs place new) at) P) places
  some_at-set_higher xs place new places higher all = grind (arith, some_at-set_other)

-- there is room in the chunk of a node
abbrev pub HasRoomAt : {A : Type 0} {X : Type 0} → List (Vec X A) → ℕ → Type 0
HasRoomAt chunks node = IsSomeAnd (slice_get chunks node) (λ chunk. vec_len chunk < vec_capacity chunk)

-- the nodes from a node on are not below it
nodes_from-from : (more node mask : ℕ) → All (λ at. node ≤ at) (nodes_from more node mask)
unfolding nodes_from
nodes_from-from zero node mask = All-nil (λ at. node ≤ at)
nodes_from-from (suc more) node mask =
    added (has_node mask node) (All-weaker (λ at. suc node ≤ at) (λ at. node ≤ at) (λ at above. omega arith) (nodes_from more (suc node) mask) (nodes_from-from more (suc node) mask))
  where
    added : (first : Bool) → All (λ at. node ≤ at) (nodes_from more (suc node) mask) → All (λ at. node ≤ at) (cond first (node ∷ nodes_from more (suc node) mask) (nodes_from more (suc node) mask))
    added true rest = All-cons (λ at. node ≤ at) node (nodes_from more (suc node) mask) (omega arith) rest
    added false rest = rest

nodes_from-ascend : (more start mask node : ℕ) (rest : List ℕ) → nodes_from more start mask ≡ node ∷ rest → All (λ at. node < at) rest
unfolding nodes_from
nodes_from-ascend zero start mask node rest is = absurd cc
nodes_from-ascend (suc more) start mask node rest is = told (has_node mask start) is (nodes_from-ascend more (suc start) mask node rest)
  where
    told : (first : Bool) → cond first (start ∷ nodes_from more (suc start) mask) (nodes_from more (suc start) mask) ≡ node ∷ rest
        → (nodes_from more (suc start) mask ≡ node ∷ rest → All (λ at. node < at) rest) → All (λ at. node < at) rest
    told true same later =
        let here : start ≡ node = cc in
        let tail : nodes_from more (suc start) mask ≡ rest = cc in
        subst (λ (nodes : List ℕ). All (λ at. node < at) nodes) tail (subst (λ (low : ℕ). All (λ at. low < at) (nodes_from more (suc start) mask)) here (nodes_from-from more (suc start) mask))
    told false same later = later same

-- the nodes of a mask behind its first one are higher
pub nodes_of-ascend : (mask node : ℕ) (rest : List ℕ) → nodes_of mask ≡ node ∷ rest → All (λ at. node < at) rest
unfolding nodes_of
nodes_of-ascend mask node rest is = nodes_from-ascend 64 0 mask node rest is

-- the next node, behind those gone through, is below a bound that the mask is below
pub next-below : (mask node bound : ℕ) (before left rest : List ℕ) → mask < 2 ^ bound → before ++ left ≡ nodes_of mask → left ≡ node ∷ rest → node < bound
next-below mask node bound before left rest small is next =
    let listed = Contains-append_right before (node ∷ rest) node (0, omega arith, refl) in
    has_node-below mask bound node small
    (All-contains (λ at. has_node mask at ≡ true) (nodes_of mask) node (nodes_of-have mask)
    (subst (λ (nodes : List ℕ). Contains nodes node) (ap (λ (nodes : List ℕ). before ++ nodes) (sym next) ∙ is) listed))

-- what all nodes left satisfy, the next one does
pub next-holds : (P : ℕ → Type 0) (node : ℕ) (left rest : List ℕ) → left ≡ node ∷ rest → All P left → P node
next-holds P node left rest next all = All-head P node rest (All-same P (node ∷ rest) left (sym next) all)

-- where none is left, what the nodes gone through satisfy, each node of the mask does
pub all-gone : (P : ℕ → Type 0) (mask : ℕ) (before rest : List ℕ) → mask < 2 ^ 64 → before ++ rest ≡ nodes_of mask → rest ≡ [] → All P before → (node : ℕ) → has_node mask node ≡ true → P node
all-gone P mask before rest fits is none all node has =
    let whole : nodes_of mask ≡ before = sym is ∙ ap (λ (nodes : List ℕ). before ++ nodes) none ∙ append-nil before in
    All-contains P before node all (subst (λ (nodes : List ℕ). Contains nodes node) whole (nodes_of-contains mask node (has_node-below mask 64 node fits has) has))

module _ {V : Type 0} (copy : ℕ × V) where
  -- the copies that join the chunk of a node, where one joins that of each of the nodes
  abbrev pub joining : ℕ → List ℕ → List (ℕ × V)
  joining node [] = []
  joining node (at ∷ nodes) = cond (at == node) (copy ∷ joining node nodes) (joining node nodes)

  joining-none : (node : ℕ) (nodes : List ℕ) → All (λ at. at ≢ node) nodes → joining node nodes ≡ []
  joining-none node [] others = refl
  joining-none node (at ∷ nodes) others =
      ap (λ (same : Bool). cond same (copy ∷ joining node nodes) (joining node nodes)) (ne_eqb at node (All-head (λ at. at ≢ node) at nodes others))
      ∙ joining-none node nodes (All-tail (λ at. at ≢ node) at nodes others)

  joining-here : (node : ℕ) (nodes : List ℕ) → All (λ at. at ≢ node) nodes → joining node (node ∷ nodes) ≡ copy ∷ []
  joining-here node nodes others = grind (arith, eq-eqb, joining-none)

  joining-one : (more start mask node : ℕ) → start ≤ node → node < start + more → has_node mask node ≡ true → joining node (nodes_from more start mask) ≡ copy ∷ []
  unfolding nodes_from
  joining-one zero start mask node above below has = absurd (omega arith)
  joining-one (suc more) start mask node above below has =
      elim (cases_lt start node) [
        | inl before ↦ passed (has_node mask start) before (joining-one more (suc start) mask node (omega arith) (omega arith) has)
        | inr upto ↦
            let here : node ≡ start = omega arith in
            let has_here = subst (λ (at : ℕ). has_node mask at ≡ true) here has in
            ap (joining node) (cond-true (has_node mask start) (start ∷ nodes_from more (suc start) mask) (nodes_from more (suc start) mask) has_here)
            ∙ subst (λ (at : ℕ). joining node (at ∷ nodes_from more (suc start) mask) ≡ copy ∷ []) here
            (joining-here node (nodes_from more (suc start) mask)
            (All-weaker (λ at. suc start ≤ at) (λ at. at ≢ node) (λ at past same. absurd (omega arith)) (nodes_from more (suc start) mask) (nodes_from-from more (suc start) mask)))
      ]
    where
      passed : (first : Bool) → start < node → joining node (nodes_from more (suc start) mask) ≡ copy ∷ []
          → joining node (cond first (start ∷ nodes_from more (suc start) mask) (nodes_from more (suc start) mask)) ≡ copy ∷ []
      passed true before rest =
          ap (λ (same : Bool). cond same (copy ∷ joining node (nodes_from more (suc start) mask)) (joining node (nodes_from more (suc start) mask)))
          (ne_eqb start node (λ same. absurd (omega arith)))
          ∙ rest
      passed false before rest = rest

  -- where one joins the chunk of each node of a mask, one joins that of a node that the mask has
  pub joining-is : (mask node : ℕ) → mask < 2 ^ 64 → joining node (nodes_of mask) ≡ cond (has_node mask node) (copy ∷ []) []
  unfolding nodes_of
  joining-is mask node fits = told (has_node mask node) refl
    where
      told : (has : Bool) → has_node mask node ≡ has → joining node (nodes_from 64 0 mask) ≡ cond has (copy ∷ []) []
      told true is =
          let within : node < 64 = has_node-below mask 64 node fits is in
          joining-one 64 0 mask node (omega arith) (omega arith) is
      told false is =
          joining-none node (nodes_from 64 0 mask)
          (All-weaker (λ at. has_node mask at ≡ true) (λ at. at ≢ node) (λ at has same. let lacks = ap (has_node mask) same ∙ is in cc) (nodes_from 64 0 mask) (nodes_of-have mask))

  joining-step : (chunks : List (List (ℕ × V))) (node at : ℕ) (new : List (ℕ × V)) (nodes : List ℕ) → node < length chunks → new ≡ chunk_at node chunks ++ copy ∷ []
      → chunk_at at (slice_set chunks node new) ++ joining at nodes ≡ chunk_at at chunks ++ joining at (node ∷ nodes)
  joining-step chunks node at new nodes within pushed =
      elim (cases_eq at node) [
        | inl same ↦ subst (λ (spot : ℕ). chunk_at spot (slice_set chunks node new) ++ joining spot nodes ≡ chunk_at spot chunks ++ joining spot (node ∷ nodes)) (sym same)
            (ap (λ (chunk : List (ℕ × V)). chunk ++ joining node nodes) (get_or-set_same chunks node new [] within ∙ pushed)
            ∙ append_assoc (chunk_at node chunks) (copy ∷ []) (joining node nodes)
            ∙ ap (λ (first : Bool). chunk_at node chunks ++ cond first (copy ∷ joining node nodes) (joining node nodes)) (sym (eq-eqb node node refl)))
        | inr apart ↦
            ap (λ (chunk : List (ℕ × V)). chunk ++ joining at nodes) (get_or-set_other chunks node at new [] apart)
            ∙ ap (λ (first : Bool). chunk_at at chunks ++ cond first (copy ∷ joining at nodes) (joining at nodes)) (sym (ne_eqb node at (λ same. apart (sym same))))
      ]

  -- once a copy joined the chunk of the next node, those of the nodes behind it make of all chunks what was still to be made
  pub joining-pushed : {A : Type 0} (chunks : List (Vec (ℕ × V) A)) (node at : ℕ) (was new : Vec (ℕ × V) A) (left rest : List ℕ) (all : List (ℕ × V)) → node < length chunks
      → new.items ≡ (get_or chunks node was).items ++ copy ∷ [] → left ≡ node ∷ rest → chunk_at at (copies_in chunks) ++ joining at left ≡ all
      → chunk_at at (copies_in (slice_set chunks node new)) ++ joining at rest ≡ all
  joining-pushed chunks node at was new left rest all within pushed next before = grind (arith, length-map, get_or-map, map-set, joining-step)
