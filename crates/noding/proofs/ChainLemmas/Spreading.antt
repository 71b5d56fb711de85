-- The edges that are found are those that are moved.
use Rattle.std.proofs.Common.{arith, pos, ◌≡◌, ◌⊎◌, ◌++◌, ◌∷◌, ◌+◌, ◌<◌, ◌≤◌, ◌+ℤ◌, ◌*ℤ◌, ◌≤ℤ◌, ◌<ℤ◌, [], ℕ, zero, suc, ℤ, Bool, true, false, List, Some, get_or, inl, inr, length, refl, sym, subst, ap, ◌∙◌, ⊎_elim, take, drop}
use Rattle.std.specs.Bool.{MatchBool, ◌==◌}
use Rattle.std.specs.List.{Contains, slice_get}
use Rattle.std.proofs.lemmas.Bool.{cases_eq}
use Rattle.std.proofs.lemmas.Bool.Decides.{nat_tests}
use Rattle.std.proofs.lemmas.Int.{by_lt_z, ints}
use Rattle.std.proofs.lemmas.List.{get_or_append_left}
use Rattle.std.proofs.lemmas.List.Elements.{All-contains, Contains-get_or}
use Rattle.std.proofs.lemmas.Option.{same_Some, slice_get-get_or, slice_get_within}
use Rattle.std.proofs.Math.Seq.{take-append_seam}
use Rattle.plane.specs.Lists.{Extends}
use Rattle.plane.specs.declared.edge.Edge.{Edge}
use Rattle.plane.specs.declared.point.Point.{Point}
use Rattle.plane.specs.Meet.Kinds.{HasPoint}
use Rattle.noding.specs.Chains.{AreChains, IsChain, IsHot, Passes}
use Rattle.plane.specs.Gains.{GainsThese, IsOfSome}
use Rattle.noding.specs.Local.{AreFirst, AreMoved, IsMoved, Moves, PassesBeside}
use Rattle.noding.specs.Moving.{AreFlagged, AreFound, AreVisits, IsInRange, IsMovedAt, IsMovedPlace, IsNumberOf, IsVisit, chain_of}
use Rattle.noding.specs.Offsets.{AreJoined}
use Rattle.noding.specs.declared.moved.Visit.{Visit}
use Rattle.plane.proofs.GainsLemmas.{held-at, place-of}
use Rattle.noding.proofs.ChainLemmas.Moving.{Contains-extended, chain-is}
use Rattle.noding.proofs.ChainLemmas.Standing.{length-offsets}
use Rattle.noding.proofs.ChainLemmas.Zips.{AllZip-at, AllZip-length, AllZip-places}
use Rattle.noding.proofs.SnapLemmas.Along.{point_at}
use Rattle.noding.proofs.SnapLemmas.Local.{moves-least}

-- The list has what the point moves.
abbrev pub HasSpread : List Visit → List ℕ → Point → Type 0
HasSpread visits order point = (place : ℕ) → IsMovedAt visits point place → Contains order place

-- The list has edges that are moved, all that were flagged early, and all that the first points move and what those of its edges
-- before `next` pass.
pub record IsFound (edges : List Edge) (points : List Point) (ends : List ℕ) (first : List Point) (visits : List Visit) (early : List Bool) (order : List ℕ) (next : ℕ) : Type 0 where
  pub sound : (place : ℕ) → Contains order place → IsMovedPlace edges place
  pub since : (place : ℕ) → get_or early place false ≡ true → Contains order place
  pub begun : (point : Point) → Contains first point → HasSpread visits order point
  pub spread : (k : ℕ) → k < next → k < length order → (point : Point) → Contains (chain_of (get_or order k 0) points ends) point → HasSpread visits order point

-- ---- numbers of points

across_upto : (n : ℕ) (a b c d : ℤ) → pos n ≡ ((a *ℤ pos 4294967296) +ℤ b) → pos n ≡ ((c *ℤ pos 4294967296) +ℤ d) → pos 0 ≤ℤ d → b <ℤ pos 4294967296 → c ≤ℤ a
across_upto n a b c d one other low high = by_lt_z a c (λ less. absurd (omega (arith, ints, one, other, low, high, less))) (λ upto. upto)

same_parts : (n : ℕ) (x y u v : ℤ) → pos n ≡ (((x +ℤ pos 2147483648) *ℤ pos 4294967296) +ℤ (y +ℤ pos 2147483648)) → pos n ≡ (((u +ℤ pos 2147483648) *ℤ pos 4294967296) +ℤ (v +ℤ pos 2147483648))
    → (u +ℤ pos 2147483648) ≤ℤ (x +ℤ pos 2147483648) → (x +ℤ pos 2147483648) ≤ℤ (u +ℤ pos 2147483648) → (x ≡ u) × (y ≡ v)
same_parts n x y u v one other upto from =
    let across : x ≡ u = omega (arith, ints, upto, from) in
    (across, omega (arith, ints, one, other, across))

-- no two points that are in range have one
same_point : (p q : Point) (n : ℕ) → IsInRange p → IsInRange q → IsNumberOf p n → IsNumberOf q n → p ≡ q
same_point p q n one other first second =
    let upto = across_upto n (p.x +ℤ pos 2147483648) (p.y +ℤ pos 2147483648) (q.x +ℤ pos 2147483648) (q.y +ℤ pos 2147483648) first second other.low one.high in
    let from = across_upto n (q.x +ℤ pos 2147483648) (q.y +ℤ pos 2147483648) (p.x +ℤ pos 2147483648) (p.y +ℤ pos 2147483648) second first one.low other.high in
    let (x, y) = same_parts n p.x p.y q.x q.y first second upto from in
    ap (λ (a : ℤ). point_at a p.y) x ∙ ap (λ (b : ℤ). point_at q.x b) y

-- ---- the search

match_told : (b : Bool) (A : Type 0) → (b ≡ true → A) → (A → b ≡ true) → MatchBool b A (¬ A)
match_told true A to from = to refl
match_told false A to from = λ a. let is = from a in absurd (cc)

-- flags tell which edges are moved, as they tell it at each place
pub AreMoved-places : (edges : List Edge) (d : Edge) (flags : List Bool) → length flags ≡ length edges → ((k : ℕ) (edge : Edge) → slice_get edges k ≡ Some edge → get_or flags k false ≡ true → IsMoved edges edge)
    → ((k : ℕ) (edge : Edge) → slice_get edges k ≡ Some edge → IsMoved edges edge → get_or flags k false ≡ true) → AreMoved edges flags
AreMoved-places edges d flags size to from =
    AllZip-places (λ edge is_moved. MatchBool is_moved (IsMoved edges edge) (¬ (IsMoved edges edge))) edges flags d false size
    (λ k within.
    let stands = slice_get-get_or edges k d within in
    match_told (get_or flags k false) (IsMoved edges (get_or edges k d)) (to k (get_or edges k d) stands) (from k (get_or edges k d) stands))

-- what moves edges is hot
pub Moves-hot : (edges : List Edge) (x y : ℤ) → Moves edges x y → IsHot edges x y
Moves-hot edges x y (zero, (one, other, among, other_among, (slanted, (at, of_one, of_other, rounds, beside)))) = inr (one, other, among, other_among, (slanted, (at, of_one, of_other, rounds)))
Moves-hot edges x y (suc round, (hot, by)) = hot

-- hot points that a moved edge passes move edges
pub Moves-passed : (edges : List Edge) (edge : Edge) (x y : ℤ) → Contains edges edge → IsMoved edges edge → IsHot edges x y → Passes edge x y → Moves edges x y
Moves-passed edges edge x y among (a, b, (round, moves), passes_there, beside) hot passes = (suc round, (hot, (edge, among, passes, (a, b, moves, passes_there, beside))))

module _ (edges : List Edge) (points : List Point) (ends : List ℕ) (first : List Point) (visits : List Visit) (early : List Bool) (chains : List (List Point)) (are : AreChains edges chains) (joined : AreJoined chains points ends) (begins : AreFirst edges first) (told : AreVisits edges early visits) where
  pub same_count : length ends ≡ length edges
  same_count = ap length joined.1 ∙ length-offsets 0 chains ∙ AllZip-length (IsChain edges) edges chains are

  -- the chain of an edge, by its place
  chain-at : (place : ℕ) (edge : Edge) → slice_get edges place ≡ Some edge → IsChain edges edge (chain_of place points ends)
  chain-at place edge stands =
      let within = slice_get_within edges place edge stands in
      let same : get_or edges place edge ≡ edge = same_Some _ _ (sym (slice_get-get_or edges place edge within) ∙ stands) in
      let count = same_count in
      subst (IsChain edges edge) (sym (chain-is chains points ends place joined (omega (arith, within, count))))
      (subst (λ (e : Edge). IsChain edges e (get_or chains place [])) same (AllZip-at (IsChain edges) edges chains edge [] place are within))

  in_chain : (place : ℕ) (edge : Edge) (point : Point) → slice_get edges place ≡ Some edge → IsHot edges point.x point.y → Passes edge point.x point.y → Contains (chain_of place points ends) point
  in_chain place edge point stands hot passes = ((chain-at place edge stands).exact point).1 (hot, passes)

  -- what a moved edge passes moves edges
  moves-on : (place : ℕ) (edge : Edge) (point : Point) → slice_get edges place ≡ Some edge → IsMoved edges edge → Contains (chain_of place points ends) point → Moves edges point.x point.y
  moves-on place edge point stands moved held =
      let (hot, passes) = ((chain-at place edge stands).exact point).0 held in
      Moves-passed edges edge point.x point.y (held-at edges place edge stands) moved hot passes

  -- what a point that moves edges moves is moved
  moved-at : (point : Point) → Moves edges point.x point.y → (place : ℕ) → IsMovedAt visits point place → IsMovedPlace edges place
  moved-at point moves place (number, numbered, in_range, from) =
      let visit = from.visit in
      let is = All-contains (IsVisit edges) visits visit told.of from.held in
      let same : visit.point ≡ point = same_point visit.point point number is.fits in_range (subst (λ (n : ℕ). IsNumberOf visit.point n) from.numbered is.numbered) numbered in record {
        edge = is.edge;
        stands = ap (λ (n : ℕ). slice_get edges n) from.at ∙ is.stands;
        moved = (visit.point.x, visit.point.y, subst (λ (p : Point). Moves edges p.x p.y) (sym same) moves, is.passes, is.beside);
      }

  -- an edge that passes a point beside is moved by it, if it wasn't flagged early
  is-moved_at : (place : ℕ) (edge : Edge) (point : Point) → slice_get edges place ≡ Some edge → get_or early place false ≡ false → IsHot edges point.x point.y → Passes edge point.x point.y → ¬ (HasPoint edge point.x point.y) → IsMovedAt visits point place
  is-moved_at place edge point stands unflagged hot passes beside =
      let (visit, held, at, same) = told.each place edge point stands unflagged hot passes beside in
      let is = All-contains (IsVisit edges) visits visit told.of held in (
        visit.number,
        subst (λ (p : Point). IsNumberOf p visit.number) same is.numbered,
        subst IsInRange same is.fits,
        record { visit = visit; held = held; numbered = refl; at = sym at },
      )

  -- all that the first points move
  pub found-first : (before order : List ℕ) → AreFound edges early before → GainsThese (IsOfSome (IsMovedAt visits) first) before order → IsFound edges points ends first visits early order 0
  found-first before order found gains = record {
    sound = λ place held.
        ⊎_elim (found.moved place) (λ (point, among, at). moved-at point (0, (begins point).0 among) place at) ((gains place).0 held);
    since = λ place is. (gains place).1 (inl ((found.flagged.exact place).0 is));
    begun = λ point held place at. (gains place).1 (inr (point, held, at));
    spread = λ k below. absurd (omega (arith, below));
  }

  -- and what the points of one more edge do
  pub found-next : (order after : List ℕ) (next : ℕ) → IsFound edges points ends first visits early order next → next < length order → Extends order after → GainsThese (IsOfSome (IsMovedAt visits) (chain_of (get_or order next 0) points ends)) order after
      → IsFound edges points ends first visits early after (next + 1)
  found-next order after next found some longer gains = record {
    sound = λ place held. ⊎_elim (found.sound place) (sound_new place) ((gains place).0 held);
    since = λ place is. Contains-extended order after place longer (found.since place is);
    begun = λ point held place at. Contains-extended order after place longer (found.begun point held place at);
    spread = λ k below within point held place at. ⊎_elim (λ same. (gains place).1 (inr (point, subst (λ (n : ℕ). Contains (chain_of n points ends) point) (at_next k same) held, at)))
        (λ other.
        let lower : k < next = omega (arith, below, other) in
        let inside : k < length order = omega (arith, lower, some) in
        Contains-extended order after place longer (found.spread k lower inside point (subst (λ (n : ℕ). Contains (chain_of n points ends) point) (at_before k inside) held) place at))
        (cases_eq k next);
  }
    where
      at_before : (k : ℕ) → k < length order → get_or after k 0 ≡ get_or order k 0
      at_before k inside = let (more, is) = longer in ap (λ (list : List ℕ). get_or list k 0) is ∙ get_or_append_left order more 0 k inside

      at_next : (k : ℕ) → k ≡ next → get_or after k 0 ≡ get_or order next 0
      at_next k same = ap (λ (n : ℕ). get_or after n 0) same ∙ at_before next some

      sound_new : (place : ℕ) → IsOfSome (IsMovedAt visits) (chain_of (get_or order next 0) points ends) place → IsMovedPlace edges place
      sound_new place (point, held, at) =
          let own = found.sound (get_or order next 0) (Contains-get_or order next 0 some) in
          moved-at point (moves-on (get_or order next 0) own.edge point own.stands own.moved held) place at

  module _ (order : List ℕ) (next : ℕ) (found : IsFound edges points ends first visits early order next) (all : length order ≤ next) where
    -- The point is one of the first, or on the chain of an edge that is found.
    abbrev Reached : ℤ → ℤ → Type 0
    Reached x y = Contains first (point_at x y) ⊎ ((place : ℕ) × Contains order place × Contains (chain_of place points ends) (point_at x y))

    reached-spread : (x y : ℤ) → Reached x y → HasSpread visits order (point_at x y)
    reached-spread x y (inl held) = found.begun (point_at x y) held
    reached-spread x y (inr (place, (k, within, is), held)) =
        let at : get_or order k 0 ≡ place = get_or_same order k 0 place within ∙ is in
        found.spread k (omega (arith, within, all)) within (point_at x y) (subst (λ (n : ℕ). Contains (chain_of n points ends) (point_at x y)) (sym at) held)
      where
        get_or_same : (list : List ℕ) (k d e : ℕ) → k < length list → get_or list k d ≡ get_or list k e
        get_or_same [] k d e within = absurd (omega (arith, within))
        get_or_same (n ∷ list) zero d e within = refl
        get_or_same (n ∷ list) (suc k) d e within = get_or_same list k d e (omega (arith, within))

    reached-hot : (x y : ℤ) → Reached x y → IsHot edges x y
    reached-hot x y (inl held) = Moves-hot edges x y (0, (begins (point_at x y)).0 held)
    reached-hot x y (inr (place, found_at, held)) =
        let own = found.sound place found_at in
        (((chain-at place own.edge own.stands).exact (point_at x y)).0 held).0

    reached-moves : (place : ℕ) (edge : Edge) → slice_get edges place ≡ Some edge → PassesBeside Reached edge → Contains order place
    reached-moves place edge stands (x, y, reached, passes, beside) = go (get_or early place false) refl
      where
        go : (flag : Bool) → get_or early place false ≡ flag → Contains order place
        go true is = found.since place is
        go false is = reached-spread x y reached place (is-moved_at place edge (point_at x y) stands is (reached-hot x y reached) passes beside)

    all-reached : (x y : ℤ) → Moves edges x y → Reached x y
    all-reached =
        moves-least edges Reached (λ one other x y among other_among cross. inl ((begins (point_at x y)).1 (one, other, among, other_among, cross)))
        (λ edge x y among beside hot passes.
        let (place, stands) = place-of edges edge among in
        inr (place, reached-moves place edge stands beside, in_chain place edge (point_at x y) stands hot passes))

    found-all : (place : ℕ) (edge : Edge) → slice_get edges place ≡ Some edge → IsMoved edges edge → Contains order place
    found-all place edge stands (x, y, moves, passes, beside) = reached-moves place edge stands (x, y, all-reached x y moves, passes, beside)

    -- so the flags tell which edges are moved
    pub AreMoved-found : (d : Edge) (flags : List Bool) → length flags ≡ length edges → AreFlagged flags order → AreMoved edges flags
    AreMoved-found d flags size flagged =
        AreMoved-places edges d flags size
        (λ k edge stands is. let own = found.sound k ((flagged.exact k).0 is) in subst (IsMoved edges) (same_Some _ _ (sym own.stands ∙ stands)) own.moved)
        (λ k edge stands moved. (flagged.exact k).1 (found-all k edge stands moved))

-- where no visit is left all that are moved were flagged early
pub AreMoved-early : (edges : List Edge) (d : Edge) (flags : List Bool) (order : List ℕ) (visits : List Visit) → AreFound edges flags order → AreVisits edges flags visits → visits ≡ [] → AreMoved edges flags
AreMoved-early edges d flags order visits found told none =
    AreMoved-places edges d flags found.size
    (λ k edge stands is. let own = found.moved k ((found.flagged.exact k).0 is) in subst (IsMoved edges) (same_Some _ _ (sym own.stands ∙ stands)) own.moved)
    moved_flagged
  where
    moved_flagged : (k : ℕ) (edge : Edge) → slice_get edges k ≡ Some edge → IsMoved edges edge → get_or flags k false ≡ true
    moved_flagged k edge stands (x, y, moves, passes, beside) = go (get_or flags k false) refl
      where
        go : (flag : Bool) → get_or flags k false ≡ flag → get_or flags k false ≡ true
        go true is = is
        go false is =
            let (visit, held, at, same) = told.each k edge (point_at x y) stands is (Moves-hot edges x y moves) passes beside in
            let (j, within, there) = subst (λ (list : List Visit). Contains list visit) none held in
            absurd (omega (arith, within))

-- ---- flags that were lent

-- are all written back
pub lent-back : (n : ℕ) (flags before : List Bool) → length flags ≡ n → take n (flags ++ drop (length flags) before) ≡ flags
lent-back n flags before size = ap (λ (m : ℕ). take m (flags ++ drop (length flags) before)) (sym size) ∙ take-append_seam flags (drop (length flags) before)

-- an empty list, as it is told
pub empty-told : {X : Type 0} (list : List X) (b : Bool) → b ≡ (length list == 0) → b ≡ true → list ≡ []
empty-told [] b is told = refl
empty-told (x ∷ list) b is told = absurd (grind (arith, nat_tests))
