-- Parts that are cut anew: those of two lists, one by one, and what they have.
use Rattle.std.proofs.Common.{◌≡◌, ◌⊎◌, inl, inr, ℕ, zero, suc, ◌+◌, ◌-◌, ◌<◌, ◌≤◌, Bool, true, false, List, [], ◌∷◌, ◌++◌, length, get_or, take, refl, sym, ap, ap₂, ◌∙◌, subst, subst₂, append-nil, arith}
use Rattle.std.specs.List.{All, AllZip, Contains}
use Rattle.std.proofs.lemmas.Bool.{cases_lt}
use Rattle.std.proofs.lemmas.List.{flat_map_more, get_or_append_left, get_or-append_right, length-append, length-take-le, take-append-le, take_all, take_more}
use Rattle.std.proofs.lemmas.List.Elements.{All-append, All-cons, All-nil, Contains-get_or}
use Rattle.plane.specs.declared.edge.Edge.{Edge}
use Rattle.noding.specs.Windings.{pieces}
use Rattle.monotone_chains.specs.Stretches.Cut.{AreRefined, AreSettled, IsCutInto, IsPart, IsRound, IsShort, edges_along, way}
use Rattle.monotone_chains.specs.declared.stretches.parts.Part.{Part}
use Rattle.overlay.proofs.BoundaryLemmas.Broken.{zip-append}
use Rattle.noding.proofs.ChainLemmas.Offsets.{joined}
use Rattle.noding.proofs.ChainLemmas.Zips.{AllZip-length}
use Rattle.monotone_chains.proofs.StretchLemmas.CutParts.{edges_along-append}

-- ---- two lists of parts

-- what a part is cut into
abbrev pub Cut : Part → List Part → Type 0
Cut part group = IsCutInto (way part) group

pub AreRefined-both : (most : ℕ) (front back : List Part) (groups groups' : List (List Part)) (busy busy' : List Bool) → length busy ≡ length front
    → AreRefined most front groups busy → AreRefined most back groups' busy' → AreRefined most (front ++ back) (groups ++ groups') (busy ++ busy')
AreRefined-both most front back groups groups' busy busy' marks first second = record {
  cut = zip-append Cut front back groups groups' first.cut second.cut;
  kept = λ k d e within quiet. kept k d e within quiet (cases_lt k (length front));
  few = λ k e within marked. few k e within marked (cases_lt k (length front));
}
  where
    size : length groups ≡ length front
    size = AllZip-length Cut front groups first.cut

    behind : (k : ℕ) → k < length (front ++ back) → length front ≤ k → k - length front < length back
    behind k within from = let sum = length-append front back in omega (arith, within, from, sum)

    mark_front : (k : ℕ) → k < length front → get_or (busy ++ busy') k false ≡ get_or busy k false
    mark_front k below = get_or_append_left busy busy' false k (let n = marks in omega (arith, n, below))

    mark_back : (k : ℕ) → length front ≤ k → get_or (busy ++ busy') k false ≡ get_or busy' (k - length front) false
    mark_back k from = get_or-append_right busy busy' (length front) k false marks from

    group_front : (k : ℕ) (e : List Part) → k < length front → get_or (groups ++ groups') k e ≡ get_or groups k e
    group_front k e below = get_or_append_left groups groups' e k (let n = size in omega (arith, n, below))

    group_back : (k : ℕ) (e : List Part) → length front ≤ k → get_or (groups ++ groups') k e ≡ get_or groups' (k - length front) e
    group_back k e from = get_or-append_right groups groups' (length front) k e size from

    kept : (k : ℕ) (d : Part) (e : List Part) → k < length (front ++ back) → get_or (busy ++ busy') k false ≡ false → (k < length front) ⊎ (length front ≤ k)
        → get_or (groups ++ groups') k e ≡ get_or (front ++ back) k d ∷ []
    kept k d e within quiet (inl below) =
        group_front k e below ∙ first.kept k d e below (sym (mark_front k below) ∙ quiet)
        ∙ ap (λ (part : Part). part ∷ []) (sym (get_or_append_left front back d k below))
    kept k d e within quiet (inr from) =
        group_back k e from ∙ second.kept (k - length front) d e (behind k within from) (sym (mark_back k from) ∙ quiet)
        ∙ ap (λ (part : Part). part ∷ []) (sym (get_or-append_right front back (length front) k d refl from))

    few : (k : ℕ) (e : List Part) → k < length (front ++ back) → get_or (busy ++ busy') k false ≡ true → (k < length front) ⊎ (length front ≤ k)
        → All (IsShort most) (get_or (groups ++ groups') k e)
    few k e within marked (inl below) =
        subst (All (IsShort most)) (sym (group_front k e below)) (first.few k e below (sym (mark_front k below) ∙ marked))
    few k e within marked (inr from) =
        subst (All (IsShort most)) (sym (group_back k e from)) (second.few (k - length front) e (behind k within from) (sym (mark_back k from) ∙ marked))

-- ---- one part more

-- one part with its mark
AreRefined-single : (most : ℕ) (part : Part) (group : List Part) (mark : Bool) → IsCutInto (way part) group → (mark ≡ false → group ≡ part ∷ []) → (mark ≡ true → All (IsShort most) group)
    → AreRefined most (part ∷ []) (group ∷ []) (mark ∷ [])
AreRefined-single most part group mark cut keeps cuts = record {
  cut = (cut, tt);
  kept = kept;
  few = few;
}
  where
    kept : (k : ℕ) (d : Part) (e : List Part) → k < 1 → get_or (mark ∷ []) k false ≡ false → get_or (group ∷ []) k e ≡ get_or (part ∷ []) k d ∷ []
    kept zero d e within quiet = keeps quiet
    kept (suc k) d e within quiet = absurd (omega (arith, within))

    few : (k : ℕ) (e : List Part) → k < 1 → get_or (mark ∷ []) k false ≡ true → All (IsShort most) (get_or (group ∷ []) k e)
    few zero e within marked = cuts marked
    few (suc k) e within marked = absurd (omega (arith, within))

-- What the first so many parts are cut into, and how many parts those of one side become: the first `count` of all.
abbrev pub AreRefinedUpto : ℕ → ℕ → List Part → List Bool → ℕ → List Part → ℕ → Type 0
AreRefinedUpto most count parts busy upto refined bound =
    (groups : List (List Part)) × AreRefined most (take upto parts) groups (take upto busy) × (refined ≡ joined groups) × (bound ≡ length (joined (take count groups)))

-- none so far
pub AreRefinedUpto-none : (most count : ℕ) (parts : List Part) (busy : List Bool) (refined : List Part) → refined ≡ [] → AreRefinedUpto most count parts busy 0 refined 0
AreRefinedUpto-none most count parts busy refined none = (
  [],
  record { cut = tt; kept = λ k d e within. absurd (omega (arith, within)); few = λ k e within. absurd (omega (arith, within)) },
  none,
  ap (λ (lists : List (List Part)). length (joined lists)) (sym (take_all count [] (omega arith))),
)

-- one part more, which is one of those that are counted or isn't
pub AreRefinedUpto-more : (most count : ℕ) (parts : List Part) (busy : List Bool) (i : ℕ) (d : Part) (mark : Bool) (before after : List Part) (bound bound' : ℕ) → i < length parts → length busy ≡ length parts → mark ≡ get_or busy i false
    → ((group : List Part) × IsCutInto (way (get_or parts i d)) group × (mark ≡ false → group ≡ get_or parts i d ∷ []) × (mark ≡ true → All (IsShort most) group) × (after ≡ before ++ group))
    → ((i < count) × (bound' ≡ length after)) ⊎ ((count ≤ i) × (bound' ≡ bound)) → AreRefinedUpto most count parts busy i before bound → AreRefinedUpto most count parts busy (i + 1) after bound'
AreRefinedUpto-more most count parts busy i d mark before after bound bound' inside marks marked (group, cut, keeps, cuts, more) counted (groups, so_far, stands, stops) = (
  groups ++ group ∷ [],
  subst₂ (λ (done : List Part) (set : List Bool). AreRefined most done (groups ++ group ∷ []) set) (sym (take_more parts i d inside)) (sym (take_more busy i false (omega (arith, inside, marks))))
      (AreRefined-both most (take i parts) (get_or parts i d ∷ []) groups (group ∷ []) (take i busy) (get_or busy i false ∷ [])
      (length-take-le i busy (omega (arith, inside, marks)) ∙ sym (length-take-le i parts (omega (arith, inside))))
      so_far (AreRefined-single most (get_or parts i d) group (get_or busy i false) cut (λ is. keeps (marked ∙ is)) (λ is. cuts (marked ∙ is)))),
  now,
  on counted,
)
  where
    now : after ≡ joined (groups ++ group ∷ [])
    now = more ∙ ap (λ (list : List Part). list ++ group) stands ∙ flat_map_more (λ (list : List Part). list) [] groups group

    size : length groups ≡ i
    size = AllZip-length Cut (take i parts) groups so_far.cut ∙ length-take-le i parts (omega (arith, inside))

    on : ((i < count) × (bound' ≡ length after)) ⊎ ((count ≤ i) × (bound' ≡ bound)) → bound' ≡ length (joined (take count (groups ++ group ∷ [])))
    on (inl (below, is)) =
        let sum = length-append groups (group ∷ []) in
        is ∙ ap (λ (list : List Part). length list) now
        ∙ ap (λ (lists : List (List Part)). length (joined lists)) (sym (take_all count (groups ++ group ∷ []) (let n = size in omega (arith, sum, n, below))))
    on (inr (from, is)) =
        is ∙ stops ∙ ap (λ (lists : List (List Part)). length (joined lists)) (sym (take-append-le count groups (group ∷ []) (let n = size in omega (arith, n, from))))

-- all of them
pub AreRefinedUpto-all : (most count : ℕ) (parts : List Part) (busy : List Bool) (upto : ℕ) (refined : List Part) (bound : ℕ) → length parts ≤ upto → length busy ≡ length parts → AreSettled parts busy
    → AreRefinedUpto most count parts busy upto refined bound → (groups : List (List Part)) × IsRound most parts groups × (refined ≡ joined groups) × (bound ≡ length (joined (take count groups)))
AreRefinedUpto-all most count parts busy upto refined bound past marks clear (groups, are, stands, stops) = (
  groups,
  record {
    busy = busy;
    refined = subst₂ (λ (all : List Part) (set : List Bool). AreRefined most all groups set) (take_all upto parts past) (take_all upto busy (omega (arith, past, marks))) are;
    clear = clear;
  },
  stands,
  stops,
)

-- a part that is kept
pub cut-kept : (part : Part) (most : ℕ) (busy : Bool) (before after : List Part) → IsPart part → busy ≡ false → after ≡ before ++ part ∷ []
    → (group : List Part) × IsCutInto (way part) group × (busy ≡ false → group ≡ part ∷ []) × (busy ≡ true → All (IsShort most) group) × (after ≡ before ++ group)
cut-kept part most busy before after is quiet pushed = (
  part ∷ [],
  record {
    is = sym (append-nil (pieces (way part)));
    each = All-cons IsPart part [] is (All-nil IsPart);
    within = All-cons (λ one. All (Contains (way part)) (way one)) part [] (λ k d inside. Contains-get_or (way part) k d inside) (All-nil (λ one. All (Contains (way part)) (way one)));
  },
  (λ same. refl),
  (λ marked. absurd (differ busy marked quiet)),
  pushed,
)
  where
    differ : (b : Bool) → b ≡ true → b ≡ false → ⊥
    differ b set unset = cc

-- ---- what parts that are cut have

-- they have the edges of what they are cut into
pub edges-cut : (parts : List Part) (groups : List (List Part)) → AllZip Cut parts groups → edges_along parts ≡ edges_along (joined groups)
edges-cut [] [] zip = refl
edges-cut (part ∷ parts) (group ∷ groups) zip =
    ap₂ (λ (a b : List Edge). a ++ b) zip.0.is (edges-cut parts groups zip.1) ∙ sym (edges_along-append group (joined groups))
edges-cut [] (group ∷ groups) zip = absurd zip
edges-cut (part ∷ parts) [] zip = absurd zip

pub parts-cut : (parts : List Part) (groups : List (List Part)) → AllZip Cut parts groups → All IsPart (joined groups)
parts-cut [] [] zip = All-nil IsPart
parts-cut (part ∷ parts) (group ∷ groups) zip = All-append IsPart group (joined groups) zip.0.each (parts-cut parts groups zip.1)
parts-cut [] (group ∷ groups) zip = absurd zip
parts-cut (part ∷ parts) [] zip = absurd zip
