-- The edges of those lists, among some, whose place passes a test: what they wind on the left of an edge.
use Rattle.std.proofs.Common.{inl, inr, ◌≡◌, ◌++◌, ◌+◌, ◌<◌, zero, suc, ℕ, ℤ, pos, ◌+ℤ◌, Bool, true, false, not, ◌&&◌, cond, List, [], ◌∷◌, get_or, length, refl, ap, ap₂, ◌∙◌, arith}
use Rattle.std.specs.List.{Contains, flat_map}
use Rattle.std.proofs.lemmas.Int.{ints}
use Rattle.std.proofs.lemmas.List.Elements.{Contains-append_cases}
use Rattle.i_tree.proofs.RootLemmas.Lists.{Contains-here, Contains-there}
use Rattle.plane.specs.declared.edge.Edge.{Edge}
use Rattle.overlay.specs.Sides.{left_of}
use Rattle.overlay.specs.Fill.Pieces.{total}
use Rattle.overlay.proofs.FillLemmas.Balance.{AreBalanced, carried}
use Rattle.overlay.proofs.FillLemmas.Totals.{total-append}
use Rattle.overlay.proofs.WindsLemmas.LeftRight.{left-append, left-nothing}

-- it is that place
abbrev pub is_place : ℕ → ℕ → Bool
is_place zero zero = true
is_place zero (suc place) = false
is_place (suc k) zero = false
is_place (suc k) (suc place) = is_place k place

pub is_place-same : (k place : ℕ) → is_place k place ≡ true → k ≡ place
is_place-same zero zero is = refl
is_place-same zero (suc place) is = cc
is_place-same (suc k) zero is = cc
is_place-same (suc k) (suc place) is = ap suc (is_place-same k place is)

pub is_place-own : (k : ℕ) → is_place k k ≡ true
is_place-own zero = refl
is_place-own (suc k) = is_place-own k

-- the edges of the lists whose place passes
abbrev pub picked : (ℕ → Bool) → List (List Edge) → List Edge
picked test [] = []
picked test (list ∷ lists) = cond (test 0) list [] ++ picked (λ k. test (suc k)) lists

-- All are picked by a test that all pass.
pub picked-all : (lists : List (List Edge)) → picked (λ k. true) lists ≡ flat_map (λ list. list) lists
picked-all [] = refl
picked-all (list ∷ lists) = ap (λ (edges : List Edge). list ++ edges) (picked-all lists)

-- Tests that pass the same places pick the same.
pub picked-same : (one other : ℕ → Bool) (lists : List (List Edge)) → ((k : ℕ) → one k ≡ other k) → picked one lists ≡ picked other lists
picked-same one other [] same = refl
picked-same one other (list ∷ lists) same =
    ap₂ (λ (t : Bool) (edges : List Edge). cond t list [] ++ edges) (same 0) (picked-same (λ k. one (suc k)) (λ k. other (suc k)) lists (λ k. same (suc k)))

-- what one list winds there, where a test picks it
part : (t u : Bool) (list : List Edge) (edge : Edge) → left_of (cond t list []) edge ≡ (left_of (cond (t && u) list []) edge +ℤ left_of (cond (t && not u) list []) edge)
part true true list edge = let nothing = left-nothing edge in omega (arith, ints, nothing)
part true false list edge = let nothing = left-nothing edge in omega (arith, ints, nothing)
part false u list edge = let nothing = left-nothing edge in omega (arith, ints, nothing)

-- By another test they fall into two parts, and wind as both do together.
pub left-parts : (test other : ℕ → Bool) (lists : List (List Edge)) (edge : Edge)
    → left_of (picked test lists) edge ≡ (left_of (picked (λ k. test k && other k) lists) edge +ℤ left_of (picked (λ k. test k && not (other k)) lists) edge)
left-parts test other [] edge = let nothing = left-nothing edge in omega (arith, ints, nothing)
left-parts test other (list ∷ lists) edge =
    let whole = left-append (cond (test 0) list []) (picked (λ k. test (suc k)) lists) edge in
    let first = left-append (cond (test 0 && other 0) list []) (picked (λ k. test (suc k) && other (suc k)) lists) edge in
    let second = left-append (cond (test 0 && not (other 0)) list []) (picked (λ k. test (suc k) && not (other (suc k))) lists) edge in
    let here = part (test 0) (other 0) list edge in
    let rest = left-parts (λ k. test (suc k)) (λ k. other (suc k)) lists edge in
    omega (arith, ints, whole, first, second, here, rest)

-- none is picked by a test that none pass
picked-none : (lists : List (List Edge)) → picked (λ k. false) lists ≡ []
picked-none [] = refl
picked-none (list ∷ lists) = picked-none lists

-- The place of one list alone picks it.
pub left-one : (lists : List (List Edge)) (place : ℕ) (edge : Edge) → place < length lists → left_of (picked (λ k. is_place k place) lists) edge ≡ left_of (get_or lists place []) edge
left-one [] place edge within = absurd (omega (arith, within))
left-one (list ∷ lists) zero edge within =
    left-append list (picked (λ k. false) lists) edge
    ∙ ap (λ (z : ℤ). left_of list edge +ℤ z) (ap (λ (edges : List Edge). left_of edges edge) (picked-none lists) ∙ left-nothing edge)
    ∙ alone (left_of list edge)
  where
    alone : (z : ℤ) → (z +ℤ pos 0) ≡ z
    alone z = omega (arith, ints)
left-one (list ∷ lists) (suc place) edge within = left-one lists place edge (omega (arith, within))

-- Each edge that is picked is of a list whose place passes.
pub picked-of : (test : ℕ → Bool) (lists : List (List Edge)) (edge : Edge) → Contains (picked test lists) edge → (k : ℕ) × (k < length lists) × (test k ≡ true) × Contains (get_or lists k []) edge
picked-of test [] edge (k, within, is) = absurd (omega (arith, within))
picked-of test (list ∷ lists) edge held =
    elim (Contains-append_cases (cond (test 0) list []) (picked (λ k. test (suc k)) lists) edge held) [
      | inl here ↦ first (test 0) refl here
      | inr there ↦ (let (k, within, passes, on) = picked-of (λ k. test (suc k)) lists edge there in (suc k, omega (arith, within), passes, on))
    ]
  where
    first : (t : Bool) → test 0 ≡ t → Contains (cond t list []) edge → (k : ℕ) × (k < length (list ∷ lists)) × (test k ≡ true) × Contains (get_or (list ∷ lists) k []) edge
    first true passes on = (0, omega arith, passes, on)
    first false fails (k, within, is) = absurd (omega (arith, within))

none-balanced : AreBalanced []
none-balanced test = refl

both-balanced : (one other : List Edge) → AreBalanced one → AreBalanced other → AreBalanced (one ++ other)
both-balanced one other first second test =
    total-append (carried test) one other ∙ zeros (total (carried test) one) (total (carried test) other) (first test) (second test)
  where
    zeros : (a b : ℤ) → a ≡ pos 0 → b ≡ pos 0 → (a +ℤ b) ≡ pos 0
    zeros a b is is_too = omega (arith, ints, is, is_too)

-- Lists of which each is balanced are so together, whichever are picked.
pub picked-balanced : (test : ℕ → Bool) (lists : List (List Edge)) → ((list : List Edge) → Contains lists list → AreBalanced list) → AreBalanced (picked test lists)
picked-balanced test [] each = none-balanced
picked-balanced test (list ∷ lists) each =
    both-balanced (cond (test 0) list []) (picked (λ k. test (suc k)) lists) (here (test 0)) (picked-balanced (λ k. test (suc k)) lists (λ other held. each other (Contains-there list lists other held)))
  where
    here : (t : Bool) → AreBalanced (cond t list [])
    here true = each list (Contains-here list lists)
    here false = none-balanced
