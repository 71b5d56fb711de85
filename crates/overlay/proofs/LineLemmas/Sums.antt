-- The changes of edges, and sums of them: of the changes before a place as much is left as the edges weigh that are over it.
use Rattle.std.proofs.Common.{◌≡◌, ◌≢◌, ◌⊎◌, inl, inr, ◌++◌, [], ◌∷◌, Bool, true, false, true≢false, cond, not, ◌&&◌, ℤ, pos, ◌+ℤ◌, ◌-ℤ◌, ◌≤ℤ◌, List, refl, ap, ap₂, sym, subst, ◌∙◌, arith}
use Rattle.std.specs.List.{All, Contains}
use Rattle.std.proofs.lemmas.Int.{ints}
use Rattle.std.proofs.lemmas.List.Elements.{All-append, All-cons, All-contains, All-nil, All-weaker, Contains-append_cases, Contains-append_left, Contains-append_right}
use Rattle.i_tree.proofs.RootLemmas.Lists.{Contains-here, Contains-there}
use Rattle.plane.specs.declared.edge.Edge.{Edge}
use Rattle.noding.specs.Chains.{IsEnd}
use Rattle.overlay.specs.declared.boundary.lines.Change.{Change}
use Rattle.overlay.specs.declared.boundary.lines.Place.{Place}
use Rattle.overlay.specs.declared.fill.pieces.Operand.{Operand}
use Rattle.overlay.specs.declared.fill.pieces.Operand.TheVariants.{Subject, Clip}
use Rattle.overlay.specs.Fill.Pieces.{total}
use Rattle.overlay.specs.Joined.{onwards}
use Rattle.overlay.specs.Lines.{AreInOrder, IsChanged, TellAlike, TellAs, before, changes_of, end_change, end_place, point_at, start_change, start_place}
use Rattle.overlay.proofs.FillLemmas.Totals.{total-append, total-none, total-same}
use Rattle.overlay.proofs.LineLemmas.Parts.{onwards-ends, onwards-is, point-end, point-start, start-before}
use Rattle.overlay.proofs.LineLemmas.Places.{before-trans, upto-before}

abbrev pub start_at : Edge → Place
start_at edge = start_place (onwards edge)

abbrev pub end_at : Edge → Place
end_at edge = end_place (onwards edge)

pub starts-before : (edge : Edge) → before (start_at edge) (end_at edge) ≡ true
starts-before edge = start-before (onwards edge) (onwards-is edge)

-- ---- which changes there are

starts-among : (operand : Operand) (edges : List Edge) → All (λ edge. Contains (changes_of operand edges) (start_change operand edge)) edges
starts-among operand [] = All-nil (λ edge. Contains (changes_of operand []) (start_change operand edge))
starts-among operand (edge ∷ edges) =
    All-cons (λ one. Contains (changes_of operand (edge ∷ edges)) (start_change operand one)) edge edges (Contains-here (start_change operand edge) (end_change operand edge ∷ changes_of operand edges))
    (All-weaker (λ one. Contains (changes_of operand edges) (start_change operand one)) (λ one. Contains (changes_of operand (edge ∷ edges)) (start_change operand one))
    (λ one among. Contains-there (start_change operand edge) (end_change operand edge ∷ changes_of operand edges) (start_change operand one) (Contains-there (end_change operand edge) (changes_of operand edges) (start_change operand one) among))
    edges (starts-among operand edges))

ends-among : (operand : Operand) (edges : List Edge) → All (λ edge. Contains (changes_of operand edges) (end_change operand edge)) edges
ends-among operand [] = All-nil (λ edge. Contains (changes_of operand []) (end_change operand edge))
ends-among operand (edge ∷ edges) =
    All-cons (λ one. Contains (changes_of operand (edge ∷ edges)) (end_change operand one)) edge edges
    (Contains-there (start_change operand edge) (end_change operand edge ∷ changes_of operand edges) (end_change operand edge) (Contains-here (end_change operand edge) (changes_of operand edges)))
    (All-weaker (λ one. Contains (changes_of operand edges) (end_change operand one)) (λ one. Contains (changes_of operand (edge ∷ edges)) (end_change operand one))
    (λ one among. Contains-there (start_change operand edge) (end_change operand edge ∷ changes_of operand edges) (end_change operand one) (Contains-there (end_change operand edge) (changes_of operand edges) (end_change operand one) among))
    edges (ends-among operand edges))

-- an edge of the list starts or ends there
abbrev IsEndPlace : List Edge → Place → Type 0
IsEndPlace edges place = (edge : Edge) × Contains edges edge × ((place ≡ start_at edge) ⊎ (place ≡ end_at edge))

places-among : (operand : Operand) (edges : List Edge) → All (λ (change : Change). IsEndPlace edges change.place) (changes_of operand edges)
places-among operand [] = All-nil (λ (change : Change). IsEndPlace [] change.place)
places-among operand (edge ∷ edges) =
    All-cons (λ (change : Change). IsEndPlace (edge ∷ edges) change.place) (start_change operand edge) (end_change operand edge ∷ changes_of operand edges) (edge, Contains-here edge edges, inl refl)
    (All-cons (λ (change : Change). IsEndPlace (edge ∷ edges) change.place) (end_change operand edge) (changes_of operand edges) (edge, Contains-here edge edges, inr refl)
    (All-weaker (λ (change : Change). IsEndPlace edges change.place) (λ (change : Change). IsEndPlace (edge ∷ edges) change.place) (λ change (one, among, is). (one, Contains-there edge edges one among, is)) (changes_of operand edges) (places-among operand edges)))

-- the changes of the subject's edges and of the clip's
abbrev pub plain : List Edge → List Edge → List Change
plain subject clip = changes_of Subject subject ++ changes_of Clip clip

-- changes that tell the same, in order
pub record AreAllChanges (subject clip : List Edge) (all : List Change) : Type 0 where
  pub tell : TellAs all (plain subject clip)
  pub order : AreInOrder all

module _ (subject clip : List Edge) (all : List Change) (are : AreAllChanges subject clip all) where
  told-subject : (change : Change) → Contains (changes_of Subject subject) change → IsChanged all change.place
  told-subject change among =
      All-contains (λ (one : Change). IsChanged all one.place) (plain subject clip) change are.tell.all (Contains-append_left (changes_of Subject subject) (changes_of Clip clip) change among)

  told-clip : (change : Change) → Contains (changes_of Clip clip) change → IsChanged all change.place
  told-clip change among =
      All-contains (λ (one : Change). IsChanged all one.place) (plain subject clip) change are.tell.all (Contains-append_right (changes_of Subject subject) (changes_of Clip clip) change among)

  pub starts-changed : (edge : Edge) → Contains (subject ++ clip) edge → IsChanged all (start_at edge)
  starts-changed edge among = by (Contains-append_cases subject clip edge among)
    where
      by : Contains subject edge ⊎ Contains clip edge → IsChanged all (start_at edge)
      by (inl first) = told-subject (start_change Subject edge) (All-contains (λ one. Contains (changes_of Subject subject) (start_change Subject one)) subject edge (starts-among Subject subject) first)
      by (inr second) = told-clip (start_change Clip edge) (All-contains (λ one. Contains (changes_of Clip clip) (start_change Clip one)) clip edge (starts-among Clip clip) second)

  pub ends-changed : (edge : Edge) → Contains (subject ++ clip) edge → IsChanged all (end_at edge)
  ends-changed edge among = by (Contains-append_cases subject clip edge among)
    where
      by : Contains subject edge ⊎ Contains clip edge → IsChanged all (end_at edge)
      by (inl first) = told-subject (end_change Subject edge) (All-contains (λ one. Contains (changes_of Subject subject) (end_change Subject one)) subject edge (ends-among Subject subject) first)
      by (inr second) = told-clip (end_change Clip edge) (All-contains (λ one. Contains (changes_of Clip clip) (end_change Clip one)) clip edge (ends-among Clip clip) second)

  places-plain : All (λ (change : Change). IsEndPlace (subject ++ clip) change.place) (plain subject clip)
  places-plain =
      All-append (λ (change : Change). IsEndPlace (subject ++ clip) change.place) (changes_of Subject subject) (changes_of Clip clip)
      (All-weaker (λ (change : Change). IsEndPlace subject change.place) (λ (change : Change). IsEndPlace (subject ++ clip) change.place) (λ change (edge, among, is). (edge, Contains-append_left subject clip edge among, is)) (changes_of Subject subject) (places-among Subject subject))
      (All-weaker (λ (change : Change). IsEndPlace clip change.place) (λ (change : Change). IsEndPlace (subject ++ clip) change.place) (λ change (edge, among, is). (edge, Contains-append_right subject clip edge among, is)) (changes_of Clip clip) (places-among Clip clip))

  places-all : All (λ (change : Change). IsEndPlace (subject ++ clip) change.place) all
  places-all =
      All-weaker (λ (change : Change). IsChanged (plain subject clip) change.place) (λ (change : Change). IsEndPlace (subject ++ clip) change.place)
      (λ change (other, among, same). subst (IsEndPlace (subject ++ clip)) same (All-contains (λ (one : Change). IsEndPlace (subject ++ clip) one.place) (plain subject clip) other places-plain among))
      all are.tell.of

  -- where something changes an edge ends
  pub changed-end : (place : Place) → IsChanged all place → (edge : Edge) × Contains (subject ++ clip) edge × IsEnd edge (point_at place).x (point_at place).y
  changed-end place (change, among, is) =
      let (edge, found, ends) = subst (IsEndPlace (subject ++ clip)) is (All-contains (λ (one : Change). IsEndPlace (subject ++ clip) one.place) all change places-all among) in
      (edge, found, by edge ends)
    where
      by : (edge : Edge) → (place ≡ start_at edge) ⊎ (place ≡ end_at edge) → IsEnd edge (point_at place).x (point_at place).y
      by edge (inl same) = subst (λ point. IsEnd edge point.x point.y) (sym (ap point_at same ∙ point-start (onwards edge) (onwards-is edge))) (onwards-ends edge).0
      by edge (inr same) = subst (λ point. IsEnd edge point.x point.y) (sym (ap point_at same ∙ point-end (onwards edge) (onwards-is edge))) (onwards-ends edge).1

-- ---- sums

-- the edge starts before the place, and doesn't end before it
abbrev pub over : Place → Edge → Bool
over place edge = before (start_at edge) place && not (before (end_at edge) place)

abbrev passed : Place → (Change → ℤ) → Change → ℤ
passed place f change = cond (before change.place place) (f change) (pos 0)

abbrev pub of_over : Place → (Edge → ℤ) → Edge → ℤ
of_over place g edge = cond (over place edge) (g edge) (pos 0)

one_edge : (s t : Bool) (a b g r other : ℤ) → a ≡ g → b ≡ (pos 0 -ℤ g) → r ≡ other → (t ≡ true → s ≡ true) → (cond s a (pos 0) +ℤ (cond t b (pos 0) +ℤ r)) ≡ (cond (s && not t) g (pos 0) +ℤ other)
one_edge true true a b g r other is less same h = omega (arith, ints, is, less, same)
one_edge true false a b g r other is less same h = omega (arith, ints, is, less, same)
one_edge false false a b g r other is less same h = omega (arith, ints, is, less, same)
one_edge false true a b g r other is less same h = absurd (true≢false (sym (h refl)))

sum-edges : (operand : Operand) (f : Change → ℤ) (g : Edge → ℤ) → ((edge : Edge) → f (start_change operand edge) ≡ g edge) → ((edge : Edge) → f (end_change operand edge) ≡ (pos 0 -ℤ g edge)) → (place : Place) (edges : List Edge)
    → total (passed place f) (changes_of operand edges) ≡ total (of_over place g) edges
sum-edges operand f g first second place [] = refl
sum-edges operand f g first second place (edge ∷ edges) =
    one_edge (before (start_at edge) place) (before (end_at edge) place) (f (start_change operand edge)) (f (end_change operand edge)) (g edge) (total (passed place f) (changes_of operand edges)) (total (of_over place g) edges)
    (first edge) (second edge) (sum-edges operand f g first second place edges) (λ ended. before-trans (start_at edge) (end_at edge) place (starts-before edge) ended)

chosen : (t : Bool) (z : ℤ) → t ≡ true → z ≡ cond t z (pos 0)
chosen t z e = sym (ap (λ (s : Bool). cond s z (pos 0)) e)

left_out : (t : Bool) (z : ℤ) → t ≡ false → cond t z (pos 0) ≡ pos 0
left_out t z e = ap (λ (s : Bool). cond s z (pos 0)) e

no_more : (a b c : ℤ) → c ≡ pos 0 → a ≡ b → (b +ℤ c) ≡ a
no_more a b c none is = omega (arith, ints, none, is)

-- the changes before a place, where the others aren't
sum-done : (all done rest : List Change) (from place : Place) (f : Change → ℤ) → all ≡ done ++ rest → All (λ (change : Change). before from change.place ≡ false) done → before from place ≡ true
    → All (λ (change : Change). before change.place place ≡ false) rest → total (passed place f) all ≡ total f done
sum-done all done rest from place f is upto less behind =
    ap (total (passed place f)) is ∙ total-append (passed place f) done rest
    ∙ no_more (total f done) (total (passed place f) done) (total (passed place f) rest)
    (total-none (passed place f) rest (All-weaker (λ (change : Change). before change.place place ≡ false) (λ (change : Change). passed place f change ≡ pos 0) (λ change e. left_out (before change.place place) (f change) e) rest behind))
    (total-same f (passed place f) done
    (All-weaker (λ (change : Change). before from change.place ≡ false) (λ (change : Change). f change ≡ passed place f change)
    (λ change e. chosen (before change.place place) (f change) (upto-before change.place from place e less)) done upto))

pub sum-over : (subject clip : List Edge) (all : List Change) → (done rest : List Change) (from place : Place) → all ≡ done ++ rest
    → All (λ (change : Change). before from change.place ≡ false) done → before from place ≡ true → All (λ (change : Change). before change.place place ≡ false) rest
    → (f : Change → ℤ) → TellAlike f all (plain subject clip) → (g h : Edge → ℤ) → ((edge : Edge) → f (start_change Subject edge) ≡ g edge) → ((edge : Edge) → f (end_change Subject edge) ≡ (pos 0 -ℤ g edge))
    → ((edge : Edge) → f (start_change Clip edge) ≡ h edge) → ((edge : Edge) → f (end_change Clip edge) ≡ (pos 0 -ℤ h edge))
    → total f done ≡ (total (of_over place g) subject +ℤ total (of_over place h) clip)
sum-over subject clip all done rest from place is upto less behind f alike g h a b c d =
    sym (sum-done all done rest from place f is upto less behind)
    ∙ alike (λ (other : Place). before other place)
    ∙ total-append (passed place f) (changes_of Subject subject) (changes_of Clip clip)
    ∙ ap₂ (λ (x y : ℤ). x +ℤ y) (sum-edges Subject f g a b place subject) (sum-edges Clip f h c d place clip)

-- ---- how many edges are over a place

nothing_either : (t : Bool) → cond t (pos 0) (pos 0) ≡ pos 0
nothing_either true = refl
nothing_either false = refl

pub sum-nothing : (place : Place) (edges : List Edge) → total (of_over place (λ edge. pos 0)) edges ≡ pos 0
sum-nothing place [] = refl
sum-nothing place (edge ∷ edges) = ap₂ (λ (x y : ℤ). x +ℤ y) (nothing_either (over place edge)) (sum-nothing place edges)

abbrev pub one : Edge → ℤ
one edge = pos 1

not_below : (t : Bool) (rest : ℤ) → pos 0 ≤ℤ rest → pos 0 ≤ℤ (cond t (pos 1) (pos 0) +ℤ rest)
not_below true rest h = omega (arith, ints, h)
not_below false rest h = omega (arith, ints, h)

count-from : (place : Place) (edges : List Edge) → pos 0 ≤ℤ total (of_over place one) edges
count-from place [] = omega (arith, ints)
count-from place (edge ∷ edges) = not_below (over place edge) (total (of_over place one) edges) (count-from place edges)

zero_parts : (t : Bool) (rest : ℤ) → pos 0 ≤ℤ rest → (cond t (pos 1) (pos 0) +ℤ rest) ≡ pos 0 → (t ≡ false) × (rest ≡ pos 0)
zero_parts true rest h e = absurd (omega (arith, ints, h, e))
zero_parts false rest h e = (refl, omega (arith, ints, e))

-- where there are none no edge is over the place
pub none-over : (place : Place) (edges : List Edge) → total (of_over place one) edges ≡ pos 0 → All (λ edge. over place edge ≡ false) edges
none-over place [] e = All-nil (λ edge. over place edge ≡ false)
none-over place (edge ∷ edges) e =
    let (off, rest) = zero_parts (over place edge) (total (of_over place one) edges) (count-from place edges) e in
    All-cons (λ one. over place one ≡ false) edge edges off (none-over place edges rest)

same_rest : (t : Bool) (rest : ℤ) → t ≡ false → rest ≡ pos 0 → (cond t (pos 1) (pos 0) +ℤ rest) ≡ pos 0
same_rest t rest e none = ap (λ (s : Bool). cond s (pos 1) (pos 0) +ℤ rest) e ∙ ap (λ (z : ℤ). pos 0 +ℤ z) none

-- and where there are some, an edge is
pub some-over : (place : Place) (edges : List Edge) → total (of_over place one) edges ≢ pos 0 → (edge : Edge) × Contains edges edge × (over place edge ≡ true)
some-over place [] h = absurd (h refl)
some-over place (edge ∷ edges) h = by (over place edge) refl (some-over place edges)
  where
    by : (t : Bool) → over place edge ≡ t → (total (of_over place one) edges ≢ pos 0 → (one : Edge) × Contains edges one × (over place one ≡ true))
        → (one : Edge) × Contains (edge ∷ edges) one × (over place one ≡ true)
    by true e more = (edge, Contains-here edge edges, e)
    by false e more =
        let (found, among, is) = more (λ none. h (same_rest (over place edge) (total (of_over place one) edges) e none)) in
        (found, Contains-there edge edges found among, is)
