-- Rings in one list: how they are read, and their lines.
use Rattle.std.proofs.Common.{◌≡◌, ◌==◌, ◌≤◌, ◌<◌, ◌+◌, ℕ, ℤ, Bool, true, false, List, [], ◌∷◌, ◌++◌, length, map, get_or, refl, sym, ap, ap₂, ◌∙◌, append_assoc, append-nil, arith, min, subst, Bor}
use Rattle.std.proofs.lemmas.Bool.Decides.{nat_tests}
use Rattle.std.proofs.lemmas.List.{flat_map_more, length-append}
use Rattle.std.proofs.lemmas.List.Elements.{filter_map-append}
use Rattle.std.specs.List.{between, flat_map}
use Rattle.itree.specs.Grammar.{ReadsAll, Says}
use Rattle.itree.specs.Replies.{polygon_lines, ring_line}
use Rattle.itree.specs.RingLines.{RingLine, Subject, Other, subject_in, other_in, subject_of, others_of, coordinates, Holds, HoldsSaid, SaysRing, subject_name, other_name}
use Rattle.itree.specs.declared.lines.rings.RingKind.{RingKind}
use Rattle.itree.specs.declared.lines.rings.RingKind.TheVariants.{Overlay, Growth, Paths}
use Rattle.itree.specs.declared.lines.rings.RingList.{RingList}
use Rattle.itree.specs.declared.lines.rings.SaidRings.{SaidRings}
use Rattle.noding.specs.Offsets.{AreJoined, offsets}
use Rattle.overlay.proofs.GroupingLemmas.Placed.{ends-right, rings-back}
use Rattle.overlay.specs.Contours.Rings.{ring_edges}
use Rattle.overlay.specs.Polygons.{Appends, rings_of as polygon_rings}
use Rattle.overlay.specs.Rings.{AreEnds, HasEnds, edges_of, rings_of}
use Rattle.overlay.specs.declared.rings.Polygons.{Polygons}
use Rattle.overlay.specs.declared.rings.Rings.{Rings}
use Rattle.noding.proofs.ChainLemmas.Runs.{between-more, length-between, offsets-more}
use Rattle.plane.specs.declared.point.Point.{Point}

-- one ring more of a polygon has its line
line_more : (polygon : List (List Point)) (ring : List Point) (is_outer : Bool) → (is_outer ≡ true → length polygon ≡ 0) → (is_outer ≡ false → 0 < length polygon)
    → polygon_lines (polygon ++ ring ∷ []) ≡ polygon_lines polygon ++ ring_line is_outer ring
line_more [] ring true none some = append-nil (ring_line true ring)
line_more [] ring false none some = absurd (omega (arith, some refl))
line_more (outer ∷ holes) ring true none some = absurd (omega (arith, none refl))
line_more (outer ∷ holes) ring false none some = sym (flat_map_more (ring_line false) (ring_line true outer) holes ring)

-- so has the one behind those from a place on
pub ring_lines-more : (rings : List (List Point)) (first place : ℕ) → first ≤ place → place < length rings
    → polygon_lines (between first (place + 1) rings) ≡ polygon_lines (between first place rings) ++ ring_line (place == first) (get_or rings place [])
ring_lines-more rings first place from within =
    let counted = length-between first place rings from (omega (arith, within)) in
    ap polygon_lines (between-more first place rings [] from within)
    ∙ line_more (between first place rings) (get_or rings place []) (place == first)
    (λ same. let is : place ≡ first = grind (arith, nat_tests) in omega (arith, is, counted))
    (λ apart. let isnt : first < place = grind (arith, nat_tests) in omega (arith, isnt, counted))

-- ---- rings that words say

-- the name stands first, and the others are read as the numbers
pub says_named : (words : List (Bor (List ℕ))) (word : Bor (List ℕ)) (rest : List (Bor (List ℕ))) (name : List ℕ) (numbers : List ℤ) → words ≡ word ∷ rest → word.now ≡ name → ReadsAll (map (λ word. word.now) rest) numbers
    → Says (map (λ word. word.now) words) name numbers
says_named words word rest name numbers is named read = subst (λ (all : List (Bor (List ℕ))). Says (map (λ word. word.now) all) name numbers) (sym is) (named, read)

abbrev pub SaysPoints : List (Bor (List ℕ)) → List Point → Type 0
SaysPoints words ring = ReadsAll (map (λ word. word.now) words) (coordinates ring)

-- the two words that begin lines of a kind differ
apart : (kind : RingKind) → subject_name kind ≡ other_name kind → ⊥
apart Overlay same = omega (arith, ap length same)
apart Growth same = omega (arith, ap length same)
apart Paths same = omega (arith, ap length same)

-- which words say no ring: such as begin with a line's word, and go on with no points, or begin with neither
module _ (kind : RingKind) (words : List (Bor (List ℕ))) (word : Bor (List ℕ)) (rest : List (Bor (List ℕ))) (is : words ≡ word ∷ rest) where
  said_of : (ring : RingLine) → SaysRing kind (map (λ word. word.now) words) ring → SaysRing kind (word.now ∷ map (λ word. word.now) rest) ring
  said_of ring says = subst (λ (all : List (Bor (List ℕ))). SaysRing kind (map (λ word. word.now) all) ring) is says

  pub unsaid-subject : word.now ≡ subject_name kind → ((ring : List Point) → ¬ (SaysPoints rest ring)) → (ring : RingLine) → ¬ (SaysRing kind (map (λ word. word.now) words) ring)
  unsaid-subject named none (Subject ring) says = none ring (said_of (Subject ring) says).1
  unsaid-subject named none (Other ring) says = apart kind (sym named ∙ (said_of (Other ring) says).0)

  pub unsaid-other : word.now ≡ other_name kind → ((ring : List Point) → ¬ (SaysPoints rest ring)) → (ring : RingLine) → ¬ (SaysRing kind (map (λ word. word.now) words) ring)
  unsaid-other named none (Subject ring) says = apart kind (sym (said_of (Subject ring) says).0 ∙ named)
  unsaid-other named none (Other ring) says = none ring (said_of (Other ring) says).1

  pub unsaid-neither : ¬ (word.now ≡ subject_name kind) → ¬ (word.now ≡ other_name kind) → (ring : RingLine) → ¬ (SaysRing kind (map (λ word. word.now) words) ring)
  unsaid-neither not_subject not_other (Subject ring) says = not_subject (said_of (Subject ring) says).0
  unsaid-neither not_subject not_other (Other ring) says = not_other (said_of (Other ring) says).0

-- two words say the first point
says_next : (pair rest : List (Bor (List ℕ))) (x y : ℤ) (more : List Point) → ReadsAll (map (λ word. word.now) pair) (x ∷ y ∷ []) → SaysPoints rest more → SaysPoints (pair ++ rest) (record { x = x; y = y } ∷ more)
says_next [] rest x y more read says = absurd read
says_next (one ∷ []) rest x y more read says = absurd read.1
says_next (one ∷ other ∷ []) rest x y more read says = (read.0, (read.1.0, says))
says_next (one ∷ other ∷ third ∷ pair) rest x y more read says = absurd read.1.1

-- and only two words do
says_rest : (pair rest : List (Bor (List ℕ))) (ring : List Point) → length pair ≡ min 2 (length (pair ++ rest)) → 0 < length (pair ++ rest) → SaysPoints (pair ++ rest) ring
    → ((x : ℤ) × (y : ℤ) × ReadsAll (map (λ word. word.now) pair) (x ∷ y ∷ [])) × ((more : List Point) × SaysPoints rest more)
says_rest [] rest ring many some says = absurd (omega (arith, many, some))
says_rest (one ∷ []) [] [] many some says = absurd says
says_rest (one ∷ []) [] (point ∷ ring) many some says = absurd says.1
says_rest (one ∷ []) (other ∷ rest) ring many some says = absurd (omega (arith, many))
says_rest (one ∷ other ∷ []) rest [] many some says = absurd says
says_rest (one ∷ other ∷ []) rest (point ∷ ring) many some says = ((point.x, point.y, (says.0, (says.1.0, tt))), (ring, says.1.1))
says_rest (one ∷ other ∷ third ∷ pair) rest ring many some says = absurd (omega (arith, many))

-- The words before the rest say the points that are taken: a ring that the rest says stands behind these, and what all words say
-- the rest says a part of.
pub record Taken (words rest : List (Bor (List ℕ))) (ring : List Point) : Type 0 where
  pub onwards : (more : List Point) → SaysPoints rest more → SaysPoints words (ring ++ more)
  pub left : (whole : List Point) → SaysPoints words whole → (more : List Point) × SaysPoints rest more

-- the next two words, or the last one
module _ (words before pair rest : List (Bor (List ℕ))) (ring : List Point) (taken : Taken words before ring) (size : ℕ) (is_two : size ≡ 2) (cut : before ≡ pair ++ rest) (many : length pair ≡ min size (length before)) (some : 0 < length before) where
  found : (whole : List Point) → SaysPoints words whole → ((x : ℤ) × (y : ℤ) × ReadsAll (map (λ word. word.now) pair) (x ∷ y ∷ [])) × ((more : List Point) × SaysPoints rest more)
  found whole says =
      let (more, left) = taken.left whole says in
      let two : length pair ≡ min 2 (length (pair ++ rest)) = many ∙ ap₂ (λ (n : ℕ) (words : List (Bor (List ℕ))). min n (length words)) is_two cut in
      says_rest pair rest more two (subst (λ (words : List (Bor (List ℕ))). 0 < length words) cut some) (subst (λ (words : List (Bor (List ℕ))). SaysPoints words more) cut left)

  pub Taken-next : (x y : ℤ) → ReadsAll (map (λ word. word.now) pair) (x ∷ y ∷ []) → Taken words rest (ring ++ record { x = x; y = y } ∷ [])
  Taken-next x y read = record {
    onwards = λ more says.
        subst (SaysPoints words) (sym (append_assoc ring (record { x = x; y = y } ∷ []) more))
        (taken.onwards (record { x = x; y = y } ∷ more) (subst (λ (words : List (Bor (List ℕ))). SaysPoints words (record { x = x; y = y } ∷ more)) (sym cut) (says_next pair rest x y more read says)));
    left = λ whole says. (found whole says).1;
  }

  -- where the two words aren't read as numbers, the words say no ring
  pub unsaid : ((x y : ℤ) → ¬ (ReadsAll (map (λ word. word.now) pair) (x ∷ y ∷ []))) → (whole : List Point) → ¬ (SaysPoints words whole)
  unsaid unread whole says = let ((x, y, read), _) = found whole says in unread x y read

-- no words are left
pub Taken-all : (words rest : List (Bor (List ℕ))) (ring : List Point) → length rest ≡ 0 → Taken words rest ring → SaysPoints words ring
Taken-all words [] ring none taken = subst (SaysPoints words) (append-nil ring) (taken.onwards [] tt)
Taken-all words (word ∷ rest) ring none taken = absurd (omega (arith, none))

-- a list of rings that holds one more
pub Holds-more : {A : Type 0} (old new : RingList A) (rings : List (List Point)) (ring : List Point) → new.points.items ≡ old.points.items ++ ring → new.ends.items ≡ old.ends.items ++ length new.points.items ∷ [] → Holds old rings → Holds new (rings ++ ring ∷ [])
Holds-more old new rings ring points_are ends_are (held, stops) =
    let counted : length new.points.items ≡ 0 + length (flat_map (λ (r : List Point). r) rings) + length ring =
    omega (arith, ap (λ (points : List Point). length points) points_are, length-append old.points.items ring, ap (λ (points : List Point). length points) held) in (
      points_are ∙ ap (λ (points : List Point). points ++ ring) held ∙ flat_map_more (λ (r : List Point). r) [] rings ring,
      ends_are ∙ ap₂ (λ (ends : List ℕ) (end : ℕ). ends ++ end ∷ []) stops counted ∙ sym (offsets-more 0 rings ring),
    )

-- so do both lists: a ring of the subject
pub HoldsSaid-subject : {A : Type 0} (rings : SaidRings A) (list : RingList A) (ring : List Point) → ((all : List (List Point)) → Holds rings.subject all → Holds list (all ++ ring ∷ []))
    → (said : List RingLine) → HoldsSaid rings said → HoldsSaid (record { subject = list; other = rings.other }) (said ++ Subject ring ∷ [])
HoldsSaid-subject rings list ring more said (subject, other) = (
  subst (Holds list) (sym (filter_map-append subject_in said (Subject ring ∷ []))) (more (subject_of said) subject),
  subst (Holds rings.other) (sym (filter_map-append other_in said (Subject ring ∷ []) ∙ append-nil (others_of said))) other,
)

-- and another one
pub HoldsSaid-other : {A : Type 0} (rings : SaidRings A) (list : RingList A) (ring : List Point) → ((all : List (List Point)) → Holds rings.other all → Holds list (all ++ ring ∷ []))
    → (said : List RingLine) → HoldsSaid rings said → HoldsSaid (record { subject = rings.subject; other = list }) (said ++ Other ring ∷ [])
HoldsSaid-other rings list ring more said (subject, other) = (
  subst (Holds rings.subject) (sym (filter_map-append subject_in said (Other ring ∷ []) ∙ append-nil (subject_of said))) subject,
  subst (Holds list) (sym (filter_map-append other_in said (Other ring ∷ []))) (more (others_of said) other),
)

-- ---- rings for a call

rings_of-joined : (lists : List (List Point)) (points : List Point) (ends : List ℕ) → AreJoined lists points ends → rings_of points 0 ends ≡ lists
rings_of-joined lists points ends (are, stops) = ap₂ (λ (ps : List Point) (es : List ℕ). rings_of ps 0 es) are stops ∙ rings-back [] lists 0 refl

AreEnds-joined : (lists : List (List Point)) (points : List Point) (ends : List ℕ) → AreJoined lists points ends → AreEnds 0 ends (length points)
AreEnds-joined lists points ends (are, stops) =
    subst (λ (es : List ℕ). AreEnds 0 es (length points)) (sym stops) (ends-right 0 lists (length points) (omega (arith, ap length are)))

-- what a call takes of rings that are held
module _ (rings : List (List Point)) (taken : Rings) (points : List Point) (ends : List ℕ) (same : taken.points.now ≡ points) (too : taken.ends.now ≡ ends) (held : AreJoined rings points ends) where
  pub HasEnds-held : HasEnds taken
  HasEnds-held = AreEnds-joined rings taken.points.now taken.ends.now (same ∙ held.0, too ∙ held.1)

  pub rings-held : rings_of taken.points.now 0 taken.ends.now ≡ rings
  rings-held = rings_of-joined rings taken.points.now taken.ends.now (same ∙ held.0, too ∙ held.1)

  pub edges-held : edges_of taken ≡ flat_map ring_edges rings
  edges-held = ap (λ (all : List (List Point)). flat_map ring_edges all) rings-held

-- polygons that are appended to none are all there are
module _ {A : Type 0} (polygons : List (List (List Point))) (old new : Polygons A) (appended : Appends polygons old new) (no_points : old.points.items ≡ []) (no_rings : old.ring_ends.items ≡ []) (none : old.polygon_ends.items ≡ []) where
  pub rings-appended : AreJoined (polygon_rings polygons) new.points.items new.ring_ends.items
  rings-appended = (
    appended.points_are ∙ ap (λ (none : List Point). none ++ flat_map (λ (ring : List Point). ring) (polygon_rings polygons)) no_points,
    appended.rings_are
        ∙ ap (λ (none : List ℕ). none ++ offsets (length old.points.items) (polygon_rings polygons)) no_rings
        ∙ ap (λ (none : List Point). offsets (length none) (polygon_rings polygons)) no_points,
  )

  pub all-appended : AreJoined polygons (polygon_rings polygons) new.polygon_ends.items
  all-appended = (
    refl,
    appended.polygons_are
        ∙ ap (λ (none : List ℕ). none ++ offsets (length old.ring_ends.items) polygons) none
        ∙ ap (λ (none : List ℕ). offsets (length none) polygons) no_rings,
  )
