-- Chains of parts that lead from one point to another, put together to one chain.
use Rattle.std.proofs.Common.{◌≡◌, ◌≢◌, ◌++◌, inl, inr, Bool, true, false, cond, zero, suc, ℤ, List, [], ◌∷◌, ap, append-nil, append_assoc, arith, drop, get_or, refl, sym, subst, ◌∙◌}
use Rattle.std.proofs.lemmas.Int.{ints}
use Rattle.std.proofs.lemmas.List.Elements.{All-append, All-contains, All-head, All-nil, All-tail, Contains-append_cases, Contains-append_left, Contains-append_right}
use Rattle.std.specs.List.{All, AllPairs, AllZip, Contains, filter, flat_map}
use Rattle.i_tree.proofs.RootLemmas.Joined.{AllPairs-append}
use Rattle.i_tree.proofs.RootLemmas.Lists.{AllPairs-head, AllPairs-tail, Contains-here, Contains-there}
use Rattle.plane.specs.declared.edge.Edge.{Edge}
use Rattle.plane.specs.declared.point.Point.{Point}
use Rattle.plane.specs.Ends.{edge_between, end_of, start_of}
use Rattle.noding.specs.Chains.{Upto, UptoOn}
use Rattle.noding.specs.Windings.{pieces}
use Rattle.noding.proofs.SnapLemmas.Along.{Upto-same}
use Rattle.overlay.specs.Joined.{Lead}
use Rattle.overlay.proofs.FillLemmas.Premises.{All-among}

-- ---- the chains of those edges that pass a test

abbrev pub chosen : (Edge → Bool) → List Edge → List (List Point) → List (List Point)
chosen test [] chains = []
chosen test (edge ∷ edges) [] = []
chosen test (edge ∷ edges) (chain ∷ chains) = cond (test edge) (chain ∷ chosen test edges chains) (chosen test edges chains)

pub chosen-zip : (R : Edge → List Point → Type 0) (test : Edge → Bool) (edges : List Edge) (chains : List (List Point)) → AllZip R edges chains → AllZip R (filter test edges) (chosen test edges chains)
chosen-zip R test [] [] are = tt
chosen-zip R test [] (chain ∷ chains) are = absurd are
chosen-zip R test (edge ∷ edges) [] are = absurd are
chosen-zip R test (edge ∷ edges) (chain ∷ chains) (is, are) = by (test edge) (chosen-zip R test edges chains are)
  where
    by : (t : Bool) → AllZip R (filter test edges) (chosen test edges chains) → AllZip R (cond t (edge ∷ filter test edges) (filter test edges)) (cond t (chain ∷ chosen test edges chains) (chosen test edges chains))
    by true rest = (is, rest)
    by false rest = rest

-- of each edge there is a chain, and of each chain an edge
pub zip-chain : (R : Edge → List Point → Type 0) (edges : List Edge) (chains : List (List Point)) (edge : Edge) → AllZip R edges chains → Contains edges edge → (chain : List Point) × Contains chains chain × R edge chain
zip-chain R [] chains edge are (k, inside, at) = absurd (omega (arith, inside))
zip-chain R (first ∷ edges) [] edge are among = absurd are
zip-chain R (first ∷ edges) (chain ∷ chains) edge (is, are) (zero, inside, at) = (chain, Contains-here chain chains, subst (λ (e : Edge). R e chain) at is)
zip-chain R (first ∷ edges) (chain ∷ chains) edge (is, are) (suc k, inside, at) =
    let (found, among, told) = zip-chain R edges chains edge are (k, omega (arith, inside), at) in (found, Contains-there chain chains found among, told)

pub zip-edge : (R : Edge → List Point → Type 0) (edges : List Edge) (chains : List (List Point)) (chain : List Point) → AllZip R edges chains → Contains chains chain → (edge : Edge) × Contains edges edge × R edge chain
zip-edge R [] [] chain are (k, inside, at) = absurd (omega (arith, inside))
zip-edge R [] (other ∷ chains) chain are among = absurd are
zip-edge R (first ∷ edges) [] chain are among = absurd are
zip-edge R (first ∷ edges) (other ∷ chains) chain (is, are) (zero, inside, at) = (first, Contains-here first edges, subst (R first) at is)
zip-edge R (first ∷ edges) (other ∷ chains) chain (is, are) (suc k, inside, at) =
    let (found, among, told) = zip-edge R edges chains chain are (k, omega (arith, inside), at) in (found, Contains-there first edges found among, told)

-- ---- a chain of a part

-- The points go along the edge from the one to the other.
pub record Runs (edge : Edge) (from to : Point) (chain : List Point) : Type 0 where
  pub in_order : AllPairs (λ c d. Upto edge c.x c.y d.x d.y) chain
  pub once : AllPairs (λ c d. c ≢ d) chain
  pub rest : List Point
  pub first : chain ≡ from ∷ rest
  pub front : List Point
  pub last : chain ≡ front ++ to ∷ []
  pub upto : All (λ c. Upto edge c.x c.y to.x to.y) chain

trans-on : (from to a b c : ℤ) → UptoOn from to a b → UptoOn from to b c → UptoOn from to a c
trans-on from to a b c first second = record {
  rising = λ up. (let one = first.rising up in let other = second.rising up in omega (arith, ints, one, other));
  falling = λ down. (let one = first.falling down in let other = second.falling down in omega (arith, ints, one, other));
}

pub Upto-trans : (edge : Edge) (a b c : Point) → Upto edge a.x a.y b.x b.y → Upto edge b.x b.y c.x c.y → Upto edge a.x a.y c.x c.y
Upto-trans edge a b c first second = record { along_x = trans-on edge.x0 edge.x1 a.x b.x c.x first.along_x second.along_x; along_y = trans-on edge.y0 edge.y1 a.y b.y c.y first.along_y second.along_y }

in-front : (front : List Point) (c : Point) → Contains (front ++ c ∷ []) c
in-front front c = Contains-append_right front (c ∷ []) c (Contains-here c [])

module _ (edge : Edge) (from mid to : Point) (one other : List Point) (first : Runs edge from mid one) (second : Runs edge mid to other) where
  abbrev rest : List Point
  rest = second.rest

  order : AllPairs (λ c d. Upto edge c.x c.y d.x d.y) (mid ∷ rest)
  order = subst (AllPairs (λ c d. Upto edge c.x c.y d.x d.y)) second.first second.in_order

  once : AllPairs (λ c d. c ≢ d) (mid ∷ rest)
  once = subst (AllPairs (λ c d. c ≢ d)) second.first second.once

  behind : All (λ c. Upto edge c.x c.y to.x to.y) (mid ∷ rest)
  behind = subst (All (λ c. Upto edge c.x c.y to.x to.y)) second.first second.upto

  ahead : All (λ d. Upto edge mid.x mid.y d.x d.y) rest
  ahead = AllPairs-head (λ c d. Upto edge c.x c.y d.x d.y) mid rest order

  across : (c d : Point) → Contains one c → Contains rest d → Upto edge c.x c.y d.x d.y
  across c d held held_too =
      Upto-trans edge c mid d (All-contains (λ c. Upto edge c.x c.y mid.x mid.y) one c first.upto held) (All-contains (λ d. Upto edge mid.x mid.y d.x d.y) rest d ahead held_too)

  differ : (c d : Point) → Contains one c → Contains rest d → c ≢ d
  differ c d held held_too same =
      let upto : Upto edge d.x d.y mid.x mid.y = subst (λ (p : Point). Upto edge p.x p.y mid.x mid.y) same (All-contains (λ c. Upto edge c.x c.y mid.x mid.y) one c first.upto held) in
      let back = All-contains (λ d. Upto edge mid.x mid.y d.x d.y) rest d ahead held_too in
      All-contains (λ d. mid ≢ d) rest d (AllPairs-head (λ c d. c ≢ d) mid rest once) held_too (Upto-same edge mid d back upto)

  ends : (front : List Point) → other ≡ front ++ to ∷ [] → (before : List Point) × (one ++ rest ≡ before ++ to ∷ [])
  ends [] is =
      let whole : mid ∷ rest ≡ to ∷ [] = sym second.first ∙ is in
      let none : rest ≡ [] = ap (drop 1) whole in
      let same : mid ≡ to = ap (λ (list : List Point). get_or list 0 mid) whole in
      (first.front, ap (λ (list : List Point). one ++ list) none ∙ append-nil one ∙ first.last ∙ ap (λ (p : Point). first.front ++ p ∷ []) same)
  ends (c ∷ front) is =
      let behind : rest ≡ front ++ to ∷ [] = ap (drop 1) (sym second.first ∙ is) in
      (one ++ front, ap (λ (list : List Point). one ++ list) behind ∙ sym (append_assoc one front (to ∷ [])))

  pub Runs-joined : Runs edge from to (one ++ drop 1 other)
  Runs-joined = subst (λ (list : List Point). Runs edge from to (one ++ list)) (sym (ap (drop 1) second.first)) (record {
    in_order = AllPairs-append (λ c d. Upto edge c.x c.y d.x d.y) one rest first.in_order (AllPairs-tail (λ c d. Upto edge c.x c.y d.x d.y) mid rest order) (All-among _ one (λ c held. All-among _ rest (λ d held_too. across c d held held_too)));
    once = AllPairs-append (λ c d. c ≢ d) one rest first.once (AllPairs-tail (λ c d. c ≢ d) mid rest once) (All-among _ one (λ c held. All-among _ rest (λ d held_too. differ c d held held_too)));
    rest = first.rest ++ rest;
    first = ap (λ (list : List Point). list ++ rest) first.first;
    front = (ends second.front second.last).0;
    last = (ends second.front second.last).1;
    upto = All-append (λ c. Upto edge c.x c.y to.x to.y) one rest
        (All-among (λ c. Upto edge c.x c.y to.x to.y) one (λ c held. Upto-trans edge c mid to (All-contains (λ c. Upto edge c.x c.y mid.x mid.y) one c first.upto held) (All-head (λ c. Upto edge c.x c.y to.x to.y) mid rest behind)))
        (All-tail (λ c. Upto edge c.x c.y to.x to.y) mid rest behind);
  })

-- ---- the chains of parts that lead from one point to another, put together

abbrev pub glue : List (List Point) → List Point
glue [] = []
glue (chain ∷ []) = chain
glue (chain ∷ next ∷ chains) = chain ++ drop 1 (glue (next ∷ chains))

pub pieces-joined : (front rest : List Point) (mid : Point) → pieces ((front ++ mid ∷ []) ++ rest) ≡ pieces (front ++ mid ∷ []) ++ pieces (mid ∷ rest)
pieces-joined [] rest mid = refl
pieces-joined (one ∷ []) rest mid = refl
pieces-joined (one ∷ two ∷ front) rest mid = ap (λ (edges : List Edge). edge_between one two ∷ edges) (pieces-joined (two ∷ front) rest mid)

module _ (edge : Edge) where
  abbrev pub RunsFor : Edge → List Point → Type 0
  RunsFor part chain = Runs edge (start_of part) (end_of part) chain

  pub Runs-glued : (from to : Point) (parts : List Edge) (chains : List (List Point)) → Lead from to parts → AllZip RunsFor parts chains → Runs edge from to (glue chains)
  Runs-glued from to [] chains none are = absurd none
  Runs-glued from to (part ∷ []) [] lead are = absurd are
  Runs-glued from to (part ∷ []) (chain ∷ []) (starts, ends) (is, are) =
      subst (λ (p : Point). Runs edge p to chain) starts (subst (λ (p : Point). Runs edge (start_of part) p chain) ends is)
  Runs-glued from to (part ∷ []) (chain ∷ next ∷ chains) lead (is, are) = absurd are
  Runs-glued from to (part ∷ next ∷ parts) [] lead are = absurd are
  Runs-glued from to (part ∷ next ∷ parts) (chain ∷ []) lead (is, are) = absurd are
  Runs-glued from to (part ∷ next ∷ parts) (chain ∷ other ∷ chains) (starts, rest) (is, are) =
      subst (λ (p : Point). Runs edge p to (chain ++ drop 1 (glue (other ∷ chains)))) starts
      (Runs-joined edge (start_of part) (end_of part) to chain (glue (other ∷ chains)) is (Runs-glued (end_of part) to (next ∷ parts) (other ∷ chains) rest are))

  -- its pieces are those of the chains
  pub glued-pieces : (from to : Point) (parts : List Edge) (chains : List (List Point)) → Lead from to parts → AllZip RunsFor parts chains → pieces (glue chains) ≡ flat_map pieces chains
  glued-pieces from to [] chains none are = absurd none
  glued-pieces from to (part ∷ []) [] lead are = absurd are
  glued-pieces from to (part ∷ []) (chain ∷ []) lead are = sym (append-nil (pieces chain))
  glued-pieces from to (part ∷ []) (chain ∷ next ∷ chains) lead (is, are) = absurd are
  glued-pieces from to (part ∷ next ∷ parts) [] lead are = absurd are
  glued-pieces from to (part ∷ next ∷ parts) (chain ∷ []) lead (is, are) = absurd are
  glued-pieces from to (part ∷ next ∷ parts) (chain ∷ other ∷ chains) (starts, rest) (is, are) =
      let run = Runs-glued (end_of part) to (next ∷ parts) (other ∷ chains) rest are in
      ap (λ (list : List Point). pieces (list ++ drop 1 (glue (other ∷ chains)))) is.last
      ∙ pieces-joined is.front (drop 1 (glue (other ∷ chains))) (end_of part)
      ∙ ap (λ (list : List Point). pieces list ++ pieces (end_of part ∷ drop 1 (glue (other ∷ chains)))) (sym is.last)
      ∙ ap (λ (list : List Point). pieces chain ++ pieces list) (ap (λ (list : List Point). end_of part ∷ drop 1 list) run.first ∙ sym run.first)
      ∙ ap (λ (list : List Edge). pieces chain ++ list) (glued-pieces (end_of part) to (next ∷ parts) (other ∷ chains) rest are)

  -- its points are theirs
  pub glued-to : (from to : Point) (parts : List Edge) (chains : List (List Point)) (chain : List Point) (c : Point) → Lead from to parts → AllZip RunsFor parts chains → Contains chains chain → Contains chain c → Contains (glue chains) c
  glued-to from to [] chains chain c none are held inside = absurd none
  glued-to from to (part ∷ []) [] chain c lead are held inside = absurd are
  glued-to from to (part ∷ []) (first ∷ []) chain c lead are (zero, within, at) inside = subst (λ (list : List Point). Contains list c) (sym at) inside
  glued-to from to (part ∷ []) (first ∷ []) chain c lead are (suc k, within, at) inside = absurd (omega (arith, within))
  glued-to from to (part ∷ []) (first ∷ next ∷ chains) chain c lead (is, are) held inside = absurd are
  glued-to from to (part ∷ next ∷ parts) [] chain c lead are held inside = absurd are
  glued-to from to (part ∷ next ∷ parts) (first ∷ []) chain c lead (is, are) held inside = absurd are
  glued-to from to (part ∷ next ∷ parts) (first ∷ other ∷ chains) chain c (starts, rest) (is, are) (zero, within, at) inside =
      Contains-append_left first (drop 1 (glue (other ∷ chains))) c (subst (λ (list : List Point). Contains list c) (sym at) inside)
  glued-to from to (part ∷ next ∷ parts) (first ∷ other ∷ chains) chain c (starts, rest) (is, are) (suc k, within, at) inside =
      let run = Runs-glued (end_of part) to (next ∷ parts) (other ∷ chains) rest are in
      let later = glued-to (end_of part) to (next ∷ parts) (other ∷ chains) chain c rest are (k, omega (arith, within), at) inside in
      by run (subst (λ (list : List Point). Contains list c) run.first later)
    where
      by : (run : Runs edge (end_of part) to (glue (other ∷ chains))) → Contains (end_of part ∷ run.rest) c → Contains (first ++ drop 1 (glue (other ∷ chains))) c
      by run (zero, within, at) = Contains-append_left first (drop 1 (glue (other ∷ chains))) c (subst (Contains first) at (subst (λ (list : List Point). Contains list (end_of part)) (sym is.last) (in-front is.front (end_of part))))
      by run (suc k, within, at) =
          Contains-append_right first (drop 1 (glue (other ∷ chains))) c (subst (λ (list : List Point). Contains list c) (sym (ap (drop 1) run.first)) (k, omega (arith, within), at))

  drop-held : (list : List Point) (c : Point) → Contains (drop 1 list) c → Contains list c
  drop-held [] c held = held
  drop-held (first ∷ rest) c held = Contains-there first rest c held

  pub glued-from : (chains : List (List Point)) (c : Point) → Contains (glue chains) c → (chain : List Point) × Contains chains chain × Contains chain c
  glued-from [] c (k, within, at) = absurd (omega (arith, within))
  glued-from (chain ∷ []) c held = (chain, Contains-here chain [], held)
  glued-from (chain ∷ next ∷ chains) c held = elim (Contains-append_cases chain (drop 1 (glue (next ∷ chains))) c held) [
    | inl here ↦ (chain, Contains-here chain (next ∷ chains), here)
    | inr later ↦
        let (found, among, inside) = glued-from (next ∷ chains) c (drop-held (glue (next ∷ chains)) c later) in
        (found, Contains-there chain (next ∷ chains) found among, inside)
  ]

-- ---- a chain from its end to its start

abbrev pub back : List Point → List Point
back [] = []
back (c ∷ chain) = back chain ++ c ∷ []

All-back : (P : Point → Type 0) (chain : List Point) → All P chain → All P (back chain)
All-back P [] are = All-nil P
All-back P (c ∷ chain) are = All-append P (back chain) (c ∷ []) (All-back P chain (All-tail P c chain are)) (All-among P (c ∷ []) (λ d held. All-contains P (c ∷ chain) d are (one_of d held)))
  where
    one_of : (d : Point) → Contains (c ∷ []) d → Contains (c ∷ chain) d
    one_of d (zero, within, at) = (zero, omega arith, at)
    one_of d (suc k, within, at) = absurd (omega (arith, within))

pub pairs-back : (R : Point → Point → Type 0) (chain : List Point) → AllPairs R chain → AllPairs (λ c d. R d c) (back chain)
pairs-back R [] are = λ i j d less within. absurd (omega (arith, within))
pairs-back R (c ∷ chain) are =
    AllPairs-append (λ c d. R d c) (back chain) (c ∷ []) (pairs-back R chain (AllPairs-tail R c chain are)) (λ i j d less within. absurd (omega (arith, less, within)))
    (All-among _ (back chain) (λ d held. All-among _ (c ∷ []) (λ e alone. single d e (All-contains (R c) (back chain) d (All-back (R c) chain (AllPairs-head R c chain are)) held) alone)))
  where
    single : (d e : Point) → R c d → Contains (c ∷ []) e → R e d
    single d e told (zero, within, at) = subst (λ (p : Point). R p d) at told
    single d e told (suc k, within, at) = absurd (omega (arith, within))

pub held-back : (chain : List Point) (c : Point) → Contains chain c → Contains (back chain) c
held-back [] c held = held
held-back (first ∷ chain) c (zero, within, at) = Contains-append_right (back chain) (first ∷ []) c (zero, omega arith, at)
held-back (first ∷ chain) c (suc k, within, at) = Contains-append_left (back chain) (first ∷ []) c (held-back chain c (k, omega (arith, within), at))

pub held-forth : (chain : List Point) (c : Point) → Contains (back chain) c → Contains chain c
held-forth [] c held = held
held-forth (first ∷ chain) c held = elim (Contains-append_cases (back chain) (first ∷ []) c held) [
  | inl here ↦ Contains-there first chain c (held-forth chain c here)
  | inr there ↦ alone there
]
  where
    alone : Contains (first ∷ []) c → Contains (first ∷ chain) c
    alone (zero, within, at) = (zero, omega arith, at)
    alone (suc k, within, at) = absurd (omega (arith, within))
