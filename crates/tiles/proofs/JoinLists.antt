-- Lists in one list, by where each stops, and polygons that are appended.
use Rattle.std.proofs.Common.{◌≡◌, ℕ, zero, suc, ◌+◌, ◌-◌, ◌<◌, ◌≤◌, List, [], ◌∷◌, ◌++◌, length, get_or, take, drop, refl, sym, subst, ap, ap₂, ◌∙◌, append-nil, append_assoc, arith}
use Rattle.std.specs.List.{between, flat_map}
use Rattle.std.proofs.lemmas.List.{length-append, length-drop, drop-drop, get_or-drop, take_more}
use Rattle.std.proofs.lemmas.List.Concat.{flat_map-append}
use Rattle.std.proofs.Math.Seq.{take-add}
use Rattle.plane.specs.declared.point.Point.{Point}
use Rattle.noding.specs.Offsets.{offsets}
use Rattle.noding.proofs.Callers.{length-offsets}
use Rattle.overlay.specs.Polygons.{AreAppended, rings_of}
use Rattle.overlay.specs.Rings.{AreEnds}
use Rattle.tiles.specs.Join.{lists_of}

-- ends that are right, at one place
pub AreEnds-at : (start : ℕ) (ends : List ℕ) (count k : ℕ) → AreEnds start ends count → k < length ends → (get_or (start ∷ ends) k 0 ≤ get_or ends k 0) × (get_or ends k 0 ≤ count)
AreEnds-at start [] count k right within = absurd (omega (arith, within))
AreEnds-at start (end ∷ ends) count zero (onwards, inside, right) within = (onwards, inside)
AreEnds-at start (end ∷ ends) count (suc k) (onwards, inside, right) within = AreEnds-at end ends count k right (omega (arith, within))

-- no list starts behind so many
pub AreEnds-upto : (start : ℕ) (ends : List ℕ) (count k : ℕ) → AreEnds start ends count → start ≤ count → k ≤ length ends → get_or (start ∷ ends) k 0 ≤ count
AreEnds-upto start ends count zero right upto within = upto
AreEnds-upto start ends count (suc k) right upto within = (AreEnds-at start ends count k right (omega (arith, within))).1

module _ {X : Type 0} where
  -- the list at one place
  pub lists_of-at : (items : List X) (start : ℕ) (ends : List ℕ) (k : ℕ) → k < length ends → get_or (lists_of items start ends) k [] ≡ between (get_or (start ∷ ends) k 0) (get_or ends k 0) items
  lists_of-at items start [] k within = absurd (omega (arith, within))
  lists_of-at items start (end ∷ ends) zero within = refl
  lists_of-at items start (end ∷ ends) (suc k) within = lists_of-at items end ends k (omega (arith, within))

  pub length-lists_of : (items : List X) (start : ℕ) (ends : List ℕ) → length (lists_of items start ends) ≡ length ends
  length-lists_of items start [] = refl
  length-lists_of items start (end ∷ ends) = ap suc (length-lists_of items end ends)

  -- one item more behind those between two places
  pub between-more : (items : List X) (i j : ℕ) (d : X) → i ≤ j → j < length items → between i (j + 1) items ≡ between i j items ++ get_or items j d ∷ []
  between-more items i j d upto within =
      ap (λ (n : ℕ). take n (drop i items)) (let same : (j + 1) - i ≡ (j - i) + 1 = omega arith in same)
      ∙ take_more (drop i items) (j - i) d (let size = length-drop i items in omega (arith, size))
      ∙ ap (λ (x : X). between i j items ++ x ∷ []) (get_or-drop i items (j - i) d ∙ ap (λ (n : ℕ). get_or items n d) (let same : i + (j - i) ≡ j = omega arith in same))

  pub between-none : (items : List X) (i : ℕ) → between i i items ≡ []
  between-none items i = ap (λ (n : ℕ). take n (drop i items)) (let same : i - i ≡ 0 = omega arith in same)

  -- the ends of lists, and of others behind them
  pub offsets-append : (start : ℕ) (lists others : List (List X)) → offsets start (lists ++ others) ≡ offsets start lists ++ offsets (start + length (flat_map (λ list. list) lists)) others
  offsets-append start [] others = ap (λ (n : ℕ). offsets n others) (let same : start ≡ start + 0 = omega arith in same)
  offsets-append start (list ∷ lists) others =
      let rest = flat_map (λ (list : List X). list) lists in
      ap (λ (ends : List ℕ). (start + length list) ∷ ends)
      (offsets-append (start + length list) lists others
      ∙ ap (λ (n : ℕ). offsets (start + length list) lists ++ offsets n others) (let sum = length-append list rest in omega (arith, sum)))

  -- those between two places, and behind these those up to a third
  pub between-append : (items : List X) (i j k : ℕ) → i ≤ j → j ≤ k → between i j items ++ between j k items ≡ between i k items
  between-append items i j k low high =
      let behind = drop i items in
      sym (ap (λ (n : ℕ). take n behind) (let same : k - i ≡ (j - i) + (k - j) = omega arith in same)
      ∙ take-add (j - i) (k - j) behind
      ∙ ap (λ (rest : List X). take (j - i) behind ++ take (k - j) rest) (drop-drop (j - i) i items ∙ ap (λ (n : ℕ). drop n items) (let same : i + (j - i) ≡ j = omega arith in same)))

module _ {X : Type 0} where
  -- the items of lists that stand beside each other stand beside each other
  joined-between_more : (items : List X) (start : ℕ) (ends : List ℕ) (i n : ℕ) → AreEnds start ends (length items) → i + n ≤ length ends
      → (get_or (start ∷ ends) i 0 ≤ get_or (start ∷ ends) (i + n) 0) × (flat_map (λ list. list) (between i (i + n) (lists_of items start ends)) ≡ between (get_or (start ∷ ends) i 0) (get_or (start ∷ ends) (i + n) 0) items)
  joined-between_more items start ends i zero right within =
      let same : i ≡ i + 0 = omega arith in
      subst (λ (j : ℕ). (get_or (start ∷ ends) i 0 ≤ get_or (start ∷ ends) j 0) × (flat_map (λ list. list) (between i j (lists_of items start ends)) ≡ between (get_or (start ∷ ends) i 0) (get_or (start ∷ ends) j 0) items)) same
      (omega arith, ap (λ (lists : List (List X)). flat_map (λ list. list) lists) (between-none (lists_of items start ends) i) ∙ sym (between-none items (get_or (start ∷ ends) i 0)))
  joined-between_more items start ends i (suc n) right within =
      let lists = lists_of items start ends in
      let from = get_or (start ∷ ends) i 0 in
      let mid = get_or (start ∷ ends) (i + n) 0 in
      let upto = get_or ends (i + n) 0 in
      let (low, before) = joined-between_more items start ends i n right (omega (arith, within)) in
      let (high, inside) = AreEnds-at start ends (length items) (i + n) right (omega (arith, within)) in
      let size = length-lists_of items start ends in
      let grown = between-more lists i (i + n) [] (omega arith) (omega (arith, size, within)) in
      let here = lists_of-at items start ends (i + n) (omega (arith, within)) in
      let last : flat_map (λ list. list) (between i ((i + n) + 1) lists) ≡ between from upto items =
      ap (λ (l : List (List X)). flat_map (λ list. list) l) grown
      ∙ flat_map-append (λ (list : List X). list) (between i (i + n) lists) (get_or lists (i + n) [] ∷ [])
      ∙ ap₂ (λ (l rest : List X). l ++ (rest ++ [])) before here
      ∙ ap (λ (l : List X). between from mid items ++ l) (append-nil (between mid upto items))
      ∙ between-append items from mid upto low high in
      let same : (i + n) + 1 ≡ i + suc n = omega arith in
      let next : suc (i + n) ≡ i + suc n = omega arith in
      subst (λ (j : ℕ). (from ≤ get_or (start ∷ ends) j 0) × (flat_map (λ list. list) (between i (i + suc n) lists) ≡ between from (get_or (start ∷ ends) j 0) items)) next
      (omega (arith, low, high), ap (λ (j : ℕ). flat_map (λ (list : List X). list) (between i j lists)) (sym same) ∙ last)

  pub joined-between : (items : List X) (start : ℕ) (ends : List ℕ) (i j : ℕ) → AreEnds start ends (length items) → i ≤ j → j ≤ length ends
      → (get_or (start ∷ ends) i 0 ≤ get_or (start ∷ ends) j 0) × (flat_map (λ list. list) (between i j (lists_of items start ends)) ≡ between (get_or (start ∷ ends) i 0) (get_or (start ∷ ends) j 0) items)
  joined-between items start ends i j right upto within =
      let same : i + (j - i) ≡ j = omega arith in
      subst (λ (k : ℕ). (get_or (start ∷ ends) i 0 ≤ get_or (start ∷ ends) k 0) × (flat_map (λ list. list) (between i k (lists_of items start ends)) ≡ between (get_or (start ∷ ends) i 0) (get_or (start ∷ ends) k 0) items)) same
      (joined-between_more items start ends i (j - i) right (omega arith))

-- ---- lists behind others

-- Lists stand behind what stood there: their items, and where each stops among these.
pub record AreGathered {X : Type 0} (lists : List (List X)) (items items' : List X) (ends ends' : List ℕ) : Type 0 where
  pub items_are : items' ≡ items ++ flat_map (λ list. list) lists
  pub ends_are : ends' ≡ ends ++ offsets (length items) lists

module _ {X : Type 0} where
  -- nothing is gathered
  pub AreGathered-none : (items : List X) (ends : List ℕ) → AreGathered [] items items ends ends
  AreGathered-none items ends = record { items_are = sym (append-nil items); ends_are = sym (append-nil ends) }

  -- one list is gathered
  pub AreGathered-one : (list items items' : List X) (ends ends' : List ℕ) (end : ℕ) → items' ≡ items ++ list → ends' ≡ ends ++ end ∷ [] → end ≡ length items' → AreGathered (list ∷ []) items items' ends ends'
  AreGathered-one list items items' ends ends' end items_are ends_are is = record {
    items_are = items_are ∙ ap (λ (l : List X). items ++ l) (sym (append-nil list));
    ends_are = ends_are ∙ ap (λ (n : ℕ). ends ++ n ∷ []) (is ∙ ap (λ (l : List X). length l) items_are ∙ length-append items list);
  }

  -- lists are gathered, and then others
  pub AreGathered-more : (lists others : List (List X)) (items items' items'' : List X) (ends ends' ends'' : List ℕ) → AreGathered lists items items' ends ends' → AreGathered others items' items'' ends' ends''
      → AreGathered (lists ++ others) items items'' ends ends''
  AreGathered-more lists others items items' items'' ends ends' ends'' are more =
      let first = flat_map (λ (list : List X). list) lists in
      let second = flat_map (λ (list : List X). list) others in
      let size : length items' ≡ length items + length first = ap (λ (l : List X). length l) are.items_are ∙ length-append items first in
      record {
        items_are = more.items_are ∙ ap (λ (l : List X). l ++ second) are.items_are ∙ append_assoc items first second ∙ ap (λ (l : List X). items ++ l) (sym (flat_map-append (λ (list : List X). list) lists others));
        ends_are = more.ends_are ∙ ap₂ (λ (l : List ℕ) (n : ℕ). l ++ offsets n others) are.ends_are size ∙ append_assoc ends (offsets (length items) lists) (offsets (length items + length first) others)
            ∙ ap (λ (l : List ℕ). ends ++ l) (sym (offsets-append (length items) lists others));
      }

-- ---- polygons behind polygons

-- nothing is appended
pub AreAppended-none : (points : List Point) (ring_ends polygon_ends : List ℕ) → AreAppended [] points points ring_ends ring_ends polygon_ends polygon_ends
AreAppended-none points ring_ends polygon_ends = record {
  points_are = sym (append-nil points);
  rings_are = sym (append-nil ring_ends);
  polygons_are = sym (append-nil polygon_ends);
}

-- polygons are appended, and then others
pub AreAppended-more : (polygons others : List (List (List Point))) (points points' points'' : List Point) (ring_ends ring_ends' ring_ends'' polygon_ends polygon_ends' polygon_ends'' : List ℕ)
    → AreAppended polygons points points' ring_ends ring_ends' polygon_ends polygon_ends' → AreAppended others points' points'' ring_ends' ring_ends'' polygon_ends' polygon_ends''
    → AreAppended (polygons ++ others) points points'' ring_ends ring_ends'' polygon_ends polygon_ends''
AreAppended-more polygons others points points' points'' ring_ends ring_ends' ring_ends'' polygon_ends polygon_ends' polygon_ends'' are more =
    let joined = flat_map-append (λ (polygon : List (List Point)). polygon) polygons others in
    let rings = AreGathered-more (rings_of polygons) (rings_of others) points points' points'' ring_ends ring_ends' ring_ends''
    (record { items_are = are.points_are; ends_are = are.rings_are }) (record { items_are = more.points_are; ends_are = more.rings_are }) in
    let told = length-offsets (length points) (rings_of polygons) in
    let size : length ring_ends' ≡ length ring_ends + length (rings_of polygons) =
    ap (λ (ends : List ℕ). length ends) are.rings_are ∙ length-append ring_ends (offsets (length points) (rings_of polygons)) ∙ ap (λ (n : ℕ). length ring_ends + n) told in
    record {
      points_are = rings.items_are ∙ ap (λ (all : List (List Point)). points ++ flat_map (λ ring. ring) all) (sym joined);
      rings_are = rings.ends_are ∙ ap (λ (all : List (List Point)). ring_ends ++ offsets (length points) all) (sym joined);
      polygons_are = more.polygons_are
          ∙ ap₂ (λ (ends : List ℕ) (n : ℕ). ends ++ offsets n others) are.polygons_are size
          ∙ append_assoc polygon_ends (offsets (length ring_ends) polygons) (offsets (length ring_ends + length (rings_of polygons)) others)
          ∙ ap (λ (ends : List ℕ). polygon_ends ++ ends) (sym (offsets-append (length ring_ends) polygons others));
    }
