-- Raw curves, made from one edge to the next.
use Rattle.std.proofs.Common.{◌≡◌, ◌<◌, ◌+◌, ◌++◌, ◌∷◌, [], ℕ, zero, suc, Bool, true, false, cond, filter, List, length, get_or, map, take, drop, refl, ap, sym, ◌∙◌, arith, append-nil, append_assoc, subst, Result, Ok, Err, IfErr, ℤ, ◌≤ℤ◌, ◌<ℤ◌}
use Rattle.std.specs.List.{All, flat_map}
use Rattle.std.specs.Prelude.{int_le, int_lt}
use Rattle.std.specs.Result.{IsErrAnd}
use Rattle.std.proofs.lemmas.Int.{ints}
use Rattle.std.proofs.lemmas.Grind.{flat_map-append}
use Rattle.std.proofs.lemmas.List.{map-append, take_more}
use Rattle.std.proofs.lemmas.List.Concat.{flat_map-cons}
use Rattle.std.proofs.lemmas.List.Elements.{All-head, filter_more}
use Rattle.i_tree.proofs.RootLemmas.Joined.{All-behind, All-front}
use Rattle.plane.specs.declared.edge.Edge.{Edge}
use Rattle.plane.specs.declared.point.Point.{Point}
use Rattle.plane.specs.Ends.{edge_between, end_of, start_of}
use Rattle.overlay.specs.Contours.Rings.{has_two_ends}
use Rattle.offset.specs.declared.fault.MinkowskiFault.{MinkowskiFault}
use Rattle.offset.specs.declared.fault.MinkowskiFault.TheVariants.{Lengths, Shape, Range, OutOfMemory}
use Rattle.offset.specs.Faults.{IsRawFault}
use Rattle.offset.specs.Raw.{IsIn32Bits, IsPointIn32Bits, furthest, ways, ways_by}

-- The first item that passes a test is the first that the filter keeps.
pub first-kept : {X : Type 0} (test : X → Bool) (xs : List X) (index : ℕ) (d e : X) → index < length xs → filter test (take index xs) ≡ [] → test (get_or xs index d) ≡ true → get_or (filter test xs) 0 e ≡ get_or xs index d
first-kept test [] index d e inside none is = absurd (omega (arith, inside))
first-kept test (x ∷ xs) zero d e inside none is = ap (λ (t : Bool). get_or (cond t (x ∷ filter test xs) (filter test xs)) 0 e) is
first-kept test (x ∷ xs) (suc index) d e inside none is = by (test x) refl none (λ none'. first-kept test xs index d e (omega (arith, inside)) none' is)
  where
    by : (t : Bool) → test x ≡ t → cond t (x ∷ filter test (take index xs)) (filter test (take index xs)) ≡ [] → (filter test (take index xs) ≡ [] → get_or (filter test xs) 0 e ≡ get_or xs index d)
        → get_or (filter test (x ∷ xs)) 0 e ≡ get_or xs index d
    by true kept none rest = absurd (let size = ap (λ (ys : List _). length ys) none in omega (arith, size))
    by false left none rest = ap (λ (t : Bool). get_or (cond t (x ∷ filter test xs) (filter test xs)) 0 e) left ∙ rest none

-- One item more that doesn't pass.
pub none-kept : {X : Type 0} (test : X → Bool) (xs : List X) (index : ℕ) (d : X) → index < length xs → filter test (take index xs) ≡ [] → test (get_or xs index d) ≡ false → filter test (take (index + 1) xs) ≡ []
none-kept test xs index d inside none isnt =
    filter_more test xs index d inside
    ∙ ap (λ (t : Bool). filter test (take index xs) ++ cond t (get_or xs index d ∷ []) []) isnt
    ∙ append-nil (filter test (take index xs)) ∙ none

-- Where a part wasn't made, the whole wasn't.
pub earlier-fails : (part after : List Edge) (fault : MinkowskiFault) → IsRawFault part fault → IsRawFault (part ++ after) fault
earlier-fails part after Lengths is = is
earlier-fails part after Shape is = is
earlier-fails part after Range is = λ all. is (All-front IsIn32Bits part after all)
earlier-fails part after OutOfMemory is = is

pub later-fails : (before part : List Edge) (fault : MinkowskiFault) → IsRawFault part fault → IsRawFault (before ++ part) fault
later-fails before part Lengths is = is
later-fails before part Shape is = is
later-fails before part Range is = λ all. is (All-behind IsIn32Bits before part all)
later-fails before part OutOfMemory is = is

-- One of the edges that a filter keeps.
pub kept-fails : {X : Type 0} (make : X → Edge) (test : X → Bool) (xs : List X) (index : ℕ) (d : X) (fault : MinkowskiFault) → index < length xs → test (get_or xs index d) ≡ true → IsRawFault (make (get_or xs index d) ∷ []) fault → IsRawFault (map make (filter test xs)) fault
kept-fails make test [] index d fault inside is fails = absurd (omega (arith, inside))
kept-fails make test (x ∷ xs) zero d fault inside is fails =
    subst (λ (t : Bool). IsRawFault (map make (cond t (x ∷ filter test xs) (filter test xs))) fault) (sym is) (earlier-fails (make x ∷ []) (map make (filter test xs)) fault fails)
kept-fails make test (x ∷ xs) (suc index) d fault inside is fails = by (test x) (kept-fails make test xs index d fault (omega (arith, inside)) is fails)
  where
    by : (t : Bool) → IsRawFault (map make (filter test xs)) fault → IsRawFault (map make (cond t (x ∷ filter test xs) (filter test xs))) fault
    by true fails = later-fails (make x ∷ []) (map make (filter test xs)) fault fails
    by false fails = fails

-- One of the lists that are made of each item.
pub made-fails : {X : Type 0} (make : X → List Edge) (xs : List X) (index : ℕ) (d : X) (fault : MinkowskiFault) → index < length xs → IsRawFault (make (get_or xs index d)) fault → IsRawFault (flat_map make xs) fault
made-fails make [] index d fault inside fails = absurd (omega (arith, inside))
made-fails make (x ∷ xs) zero d fault inside fails = subst (λ (edges : List Edge). IsRawFault edges fault) (sym (flat_map-cons make x xs)) (earlier-fails (make x) (flat_map make xs) fault fails)
made-fails make (x ∷ xs) (suc index) d fault inside fails =
    subst (λ (edges : List Edge). IsRawFault edges fault) (sym (flat_map-cons make x xs)) (later-fails (make x) (flat_map make xs) fault (made-fails make xs index d fault (omega (arith, inside)) fails))

-- The fault that a question mark hands on.
pub handed-on : {A : Type 0} (outcome : Result A MinkowskiFault) (fault : MinkowskiFault) (P : MinkowskiFault → Type 0) → IsErrAnd outcome (λ error. error ≡ fault) → P fault → IfErr outcome P
handed-on (Err error) fault P same holds = subst P (sym same) holds
handed-on (Ok answer) fault P same holds = tt

-- ---- what was made so far

-- One more of the items that a filter keeps, or none.
pub kept-more : {X : Type 0} (make : X → Edge) (test : X → Bool) (xs : List X) (index : ℕ) (d : X) (before so_far : List Edge) → index < length xs → test (get_or xs index d) ≡ true → so_far ≡ (before ++ map make (filter test (take index xs)))
    → (so_far ++ make (get_or xs index d) ∷ []) ≡ (before ++ map make (filter test (take (index + 1) xs)))
kept-more make test xs index d before so_far inside is so =
    ap (λ (edges : List Edge). edges ++ make (get_or xs index d) ∷ []) so
    ∙ append_assoc before (map make (filter test (take index xs))) (make (get_or xs index d) ∷ [])
    ∙ ap (λ (edges : List Edge). before ++ edges)
    (sym (ap (map make) (filter_more test xs index d inside ∙ ap (λ (t : Bool). filter test (take index xs) ++ cond t (get_or xs index d ∷ []) []) is) ∙ map-append make (filter test (take index xs)) (get_or xs index d ∷ [])))

pub kept-same : {X : Type 0} (make : X → Edge) (test : X → Bool) (xs : List X) (index : ℕ) (d : X) (before so_far : List Edge) → index < length xs → test (get_or xs index d) ≡ false → so_far ≡ (before ++ map make (filter test (take index xs)))
    → so_far ≡ (before ++ map make (filter test (take (index + 1) xs)))
kept-same make test xs index d before so_far inside isnt so =
    so
    ∙ ap (λ (edges : List Edge). before ++ edges)
    (sym (ap (map make) (filter_more test xs index d inside ∙ ap (λ (t : Bool). filter test (take index xs) ++ cond t (get_or xs index d ∷ []) []) isnt ∙ append-nil (filter test (take index xs)))))

-- Four edges, pushed one after another.
pub four-more : (before first second third fourth : List Edge) (a b c d : Edge) → first ≡ (before ++ a ∷ []) → second ≡ (first ++ b ∷ []) → third ≡ (second ++ c ∷ []) → fourth ≡ (third ++ d ∷ []) → fourth ≡ (before ++ (a ∷ b ∷ c ∷ d ∷ []))
four-more before first second third fourth a b c d one two three four =
    four
    ∙ ap (λ (edges : List Edge). edges ++ d ∷ []) (three ∙ ap (λ (edges : List Edge). edges ++ c ∷ []) (two ∙ ap (λ (edges : List Edge). edges ++ b ∷ []) one))
    ∙ append_assoc ((before ++ a ∷ []) ++ b ∷ []) (c ∷ []) (d ∷ [])
    ∙ append_assoc (before ++ a ∷ []) (b ∷ []) (c ∷ d ∷ [])
    ∙ append_assoc before (a ∷ []) (b ∷ c ∷ d ∷ [])

-- The edge of one more item.
pub mapped-more : {X : Type 0} (make : X → Edge) (xs : List X) (index : ℕ) (d : X) (before so_far : List Edge) → index < length xs → so_far ≡ (before ++ map make (take index xs))
    → (so_far ++ make (get_or xs index d) ∷ []) ≡ (before ++ map make (take (index + 1) xs))
mapped-more make xs index d before so_far inside so =
    ap (λ (edges : List Edge). edges ++ make (get_or xs index d) ∷ []) so
    ∙ append_assoc before (map make (take index xs)) (make (get_or xs index d) ∷ [])
    ∙ ap (λ (edges : List Edge). before ++ edges) (sym (ap (map make) (take_more xs index d inside) ∙ map-append make (take index xs) (get_or xs index d ∷ [])))

-- The list of one more item.
pub made-more : {X : Type 0} (make : X → List Edge) (xs : List X) (index : ℕ) (d : X) (before so_far : List Edge) → index < length xs → so_far ≡ (before ++ flat_map make (take index xs))
    → (so_far ++ make (get_or xs index d)) ≡ (before ++ flat_map make (take (index + 1) xs))
made-more make xs index d before so_far inside so =
    ap (λ (edges : List Edge). edges ++ make (get_or xs index d)) so
    ∙ append_assoc before (flat_map make (take index xs)) (make (get_or xs index d))
    ∙ ap (λ (edges : List Edge). before ++ edges)
    (sym (ap (flat_map make) (take_more xs index d inside) ∙ flat_map-append make (take index xs) (get_or xs index d ∷ [])
    ∙ ap (λ (edges : List Edge). flat_map make (take index xs) ++ edges) (flat_map-cons make (get_or xs index d) [] ∙ append-nil (make (get_or xs index d)))))

-- One of the edges that are made of each item.
pub mapped-fails : {X : Type 0} (make : X → Edge) (xs : List X) (index : ℕ) (d : X) (fault : MinkowskiFault) → index < length xs → IsRawFault (make (get_or xs index d) ∷ []) fault → IsRawFault (map make xs) fault
mapped-fails make [] index d fault inside fails = absurd (omega (arith, inside))
mapped-fails make (x ∷ xs) zero d fault inside fails = earlier-fails (make x ∷ []) (map make xs) fault fails
mapped-fails make (x ∷ xs) (suc index) d fault inside fails = later-fails (make x ∷ []) (map make xs) fault (mapped-fails make xs index d fault (omega (arith, inside)) fails)

-- One edge with an end that is no point of 32 bits.
pub starts-outside : (edge : Edge) (fault : MinkowskiFault) → (fault ≡ Range) × (¬ (IsPointIn32Bits (start_of edge))) → IsRawFault (edge ∷ []) fault
starts-outside edge fault (is, outside) = subst (IsRawFault (edge ∷ [])) (sym is) (λ (all : All IsIn32Bits (edge ∷ [])). outside (All-head IsIn32Bits edge [] all).start)

pub ends-outside : (edge : Edge) (fault : MinkowskiFault) → (fault ≡ Range) × (¬ (IsPointIn32Bits (end_of edge))) → IsRawFault (edge ∷ []) fault
ends-outside edge fault (is, outside) = subst (IsRawFault (edge ∷ [])) (sym is) (λ (all : All IsIn32Bits (edge ∷ [])). outside (All-head IsIn32Bits edge [] all).stop)

-- ---- tests that hold

pub passes-le : (a b : ℤ) → a ≤ℤ b → int_le a b ≡ true
passes-le a b below = grind (arith, ints)

pub passes-lt : (a b : ℤ) → a <ℤ b → int_lt a b ≡ true
passes-lt a b below = grind (arith, ints)

pub fails-lt : (a b : ℤ) → b ≤ℤ a → int_lt a b ≡ false
fails-lt a b above = grind (arith, ints)

-- ---- the ways at a corner

-- the test is that of the furthest corners
tested : (corners : List Point) (edge next : Edge) (from to : Point) (t : Bool) → from ≡ furthest corners edge → to ≡ furthest corners next → t ≡ has_two_ends (edge_between from to)
    → has_two_ends (edge_between (furthest corners edge) (furthest corners next)) ≡ t
tested corners edge next from to t is_from is_to test =
    ap (λ (p : Point). has_two_ends (edge_between p (furthest corners next))) (sym is_from) ∙ ap (λ (p : Point). has_two_ends (edge_between from p)) (sym is_to) ∙ sym test

-- They are those by the furthest corners where these are two,
pub ways-apart : (corners : List Point) (edge next : Edge) (from to at : Point) (t : Bool) → from ≡ furthest corners edge → to ≡ furthest corners next → at ≡ end_of edge → t ≡ has_two_ends (edge_between from to) → t ≡ true
    → ways_by from to at ≡ ways corners edge next
ways-apart corners edge next from to at t is_from is_to is_at test passes =
    ap (λ (p : Point). ways_by p to at) is_from
    ∙ ap (λ (p : Point). ways_by (furthest corners edge) p at) is_to
    ∙ ap (λ (p : Point). ways_by (furthest corners edge) (furthest corners next) p) is_at
    ∙ sym (ap (λ (u : Bool). cond u (ways_by (furthest corners edge) (furthest corners next) (end_of edge)) []) (tested corners edge next from to t is_from is_to test ∙ passes))

-- and none where they are one.
pub ways-none : (corners : List Point) (edge next : Edge) (from to : Point) (t : Bool) → from ≡ furthest corners edge → to ≡ furthest corners next → t ≡ has_two_ends (edge_between from to) → t ≡ false
    → ways corners edge next ≡ []
ways-none corners edge next from to t is_from is_to test fails =
    ap (λ (u : Bool). cond u (ways_by (furthest corners edge) (furthest corners next) (end_of edge)) []) (tested corners edge next from to t is_from is_to test ∙ fails)
