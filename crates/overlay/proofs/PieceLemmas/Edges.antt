-- Edges compared by their four coordinates; and the pieces of edges that aren't vertical.
use Rattle.std.proofs.Common.{◌≡◌, ◌≢◌, ◌++◌, [], ◌∷◌, Bool, true, false, cond, ◌&&◌, ℤ, List, refl, ap, ap₂, sym, ◌∙◌, append-nil, append_assoc}
use Rattle.std.specs.Bool.{MatchBool}
use Rattle.std.specs.Ordering.{int_eq}
use Rattle.std.proofs.lemmas.Bool.Decides.{Decides-int_eq}
use Rattle.plane.specs.declared.edge.Edge.{Edge}
use Rattle.overlay.specs.declared.fill.pieces.Piece.{Piece}
use Rattle.overlay.specs.declared.fill.pieces.Operand.{Operand}
use Rattle.overlay.specs.Fill.Turned.{piece_of, turned}

abbrev made : ℤ → ℤ → ℤ → ℤ → Edge
made a b c d = record { x0 = a; y0 = b; x1 = c; y1 = d }

pub equal : (x y : ℤ) → int_eq x y ≡ true → x ≡ y
equal x y e = (Decides-int_eq x y).0 e

pub unequal : (x y : ℤ) → int_eq x y ≡ false → x ≢ y
unequal x y e same = let told = (Decides-int_eq x y).1 same in true_not_false (sym told ∙ e)
  where
    true_not_false : true ≡ false → ⊥
    true_not_false h = cc

pub edge-is : (a b : Edge) → MatchBool (int_eq a.x0 b.x0 && (int_eq a.y0 b.y0 && (int_eq a.x1 b.x1 && int_eq a.y1 b.y1))) (a ≡ b) (a ≢ b)
edge-is a b = by (int_eq a.x0 b.x0) (int_eq a.y0 b.y0) (int_eq a.x1 b.x1) (int_eq a.y1 b.y1) refl refl refl refl
  where
    by : (p q r s : Bool) → int_eq a.x0 b.x0 ≡ p → int_eq a.y0 b.y0 ≡ q → int_eq a.x1 b.x1 ≡ r → int_eq a.y1 b.y1 ≡ s → MatchBool (p && (q && (r && s))) (a ≡ b) (a ≢ b)
    by true true true true e f g h =
        ap₂ (λ (x y : ℤ). made x y a.x1 a.y1) (equal a.x0 b.x0 e) (equal a.y0 b.y0 f) ∙ ap₂ (λ (x y : ℤ). made b.x0 b.y0 x y) (equal a.x1 b.x1 g) (equal a.y1 b.y1 h)
    by false q r s e f g h = λ same. unequal a.x0 b.x0 e (ap (λ (edge : Edge). edge.x0) same)
    by true false r s e f g h = λ same. unequal a.y0 b.y0 f (ap (λ (edge : Edge). edge.y0) same)
    by true true false s e f g h = λ same. unequal a.x1 b.x1 g (ap (λ (edge : Edge). edge.x1) same)
    by true true true false e f g h = λ same. unequal a.y1 b.y1 h (ap (λ (edge : Edge). edge.y1) same)

-- ---- more edges

by_first : (operand : Operand) (first : Edge) (all front back : List Piece) (t : Bool) → all ≡ front ++ back → cond t all (piece_of operand first ∷ all) ≡ cond t front (piece_of operand first ∷ front) ++ back
by_first operand first all front back true is = is
by_first operand first all front back false is = ap (λ (pieces : List Piece). piece_of operand first ∷ pieces) is

pub turned-append : (operand : Operand) (edges others : List Edge) → turned operand (edges ++ others) ≡ turned operand edges ++ turned operand others
turned-append operand [] others = refl
turned-append operand (first ∷ edges) others = by_first operand first (turned operand (edges ++ others)) (turned operand edges) (turned operand others) (int_eq first.x0 first.x1) (turned-append operand edges others)

-- one that isn't vertical, and one that is
pub turned-sloped : (operand : Operand) (edges : List Edge) (edge : Edge) (before now after : List Piece) → edge.x0 ≢ edge.x1 → now ≡ before ++ turned operand edges → after ≡ now ++ piece_of operand edge ∷ []
    → after ≡ before ++ turned operand (edges ++ edge ∷ [])
turned-sloped operand edges edge before now after sloped is more =
    more ∙ ap (λ (list : List Piece). list ++ piece_of operand edge ∷ []) is ∙ append_assoc before (turned operand edges) (piece_of operand edge ∷ [])
    ∙ ap (λ (list : List Piece). before ++ (turned operand edges ++ list)) (sym (by (int_eq edge.x0 edge.x1) refl)) ∙ ap (λ (list : List Piece). before ++ list) (sym (turned-append operand edges (edge ∷ [])))
  where
    by : (t : Bool) → int_eq edge.x0 edge.x1 ≡ t → cond t [] (piece_of operand edge ∷ []) ≡ piece_of operand edge ∷ []
    by false e = refl
    by true e = absurd (sloped (equal edge.x0 edge.x1 e))

pub turned-vertical : (operand : Operand) (edges : List Edge) (edge : Edge) (before now : List Piece) → edge.x0 ≡ edge.x1 → now ≡ before ++ turned operand edges → now ≡ before ++ turned operand (edges ++ edge ∷ [])
turned-vertical operand edges edge before now vertical is =
    is ∙ ap (λ (list : List Piece). before ++ list) (sym (append-nil (turned operand edges)) ∙ ap (λ (list : List Piece). turned operand edges ++ list) (sym (by (int_eq edge.x0 edge.x1) refl)) ∙ sym (turned-append operand edges (edge ∷ [])))
  where
    by : (t : Bool) → int_eq edge.x0 edge.x1 ≡ t → cond t [] (piece_of operand edge ∷ []) ≡ []
    by true e = refl
    by false e = absurd (unequal edge.x0 edge.x1 e vertical)
