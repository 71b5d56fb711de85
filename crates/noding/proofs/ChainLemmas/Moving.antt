-- How the edges that are moved are found.
use Rattle.std.proofs.Common.{arith, ◌≡◌, ◌++◌, ◌∷◌, ◌+◌, ◌-◌, ◌<◌, ◌≤◌, [], ℕ, ℤ, Bool, true, false, List, get_or, inl, inr, length, refl, sym, subst, take, drop, ap, ◌∙◌, ⊎_elim, set, cond, leb, ltb, zero, suc}
use Rattle.std.specs.Int.RustNames.{unsigned_abs}
use Rattle.std.specs.List.{Contains, count_by}
use Rattle.std.specs.List.Sorted.{IsPartitionPoint}
use Rattle.std.proofs.lemmas.Bool.{cases_eq, cases_lt}
use Rattle.std.proofs.lemmas.Bool.Decides.{nat_tests}
use Rattle.std.proofs.lemmas.List.{get_or-set_other, get_or-set_same, length-append, length-set}
use Rattle.std.proofs.lemmas.List.Elements.{Contains-append_left, Contains-push, Contains-push_cases}
use Rattle.std.proofs.lemmas.List.Sums.{sum_by-set}
use Rattle.plane.specs.Lists.{Extends}
use Rattle.plane.specs.declared.point.Point.{Point}
use Rattle.plane.specs.Gains.{GainsThese, IsOfSome}
use Rattle.noding.specs.Moving.{AreFlagged, AreSpread, IsInRange, IsMovedAt, IsMovedFrom, IsNumberOf, IsPlaceOf, chain_of}
use Rattle.noding.specs.Offsets.{AreJoined, between}
use Rattle.noding.specs.declared.moved.Visit.{Visit}
use Rattle.plane.proofs.GainsLemmas.{gains-none, gains-same}
use Rattle.noding.proofs.ChainLemmas.Offsets.{joined, offset-at}
use Rattle.noding.proofs.ChainLemmas.Standing.{IsNext-at, length-offsets}
use Rattle.noding.proofs.ChainLemmas.Runs.{between-at, length-between}

-- what a list has, a longer one has
pub Contains-extended : {X : Type 0} (before after : List X) (x : X) → Extends before after → Contains before x → Contains after x
Contains-extended {X} before after x (more, is) held = subst (λ (list : List X). Contains list x) (sym is) (Contains-append_left before more x held)

-- ---- one flag

-- an edge that is flagged before isn't flagged again
pub gains-flagged : (place : ℕ) (flags : List Bool) (order : List ℕ) → AreFlagged flags order → get_or flags place false ≡ true → GainsThese (λ other. other ≡ place) order order
gains-flagged place flags order flagged is other = (inl, ⊎_elim (λ held. held) (λ same. subst (Contains order) (sym same) ((flagged.exact place).0 is)))

abbrev ones : Bool → ℕ
ones flag = cond flag 1 0

-- one more flag
pub flagged-more : (place : ℕ) (flags : List Bool) (order after : List ℕ) → AreFlagged flags order → place < length flags → get_or flags place false ≡ false → after ≡ order ++ place ∷ [] → AreFlagged (set flags place true) after
flagged-more place flags order after flagged inside unset pushed =
    subst (λ (list : List ℕ). AreFlagged (set flags place true) list) (sym pushed)
    (record { exact = λ k. (to k, from k); once = once })
  where
    to : (k : ℕ) → get_or (set flags place true) k false ≡ true → Contains (order ++ place ∷ []) k
    to k is =
        ⊎_elim
        (λ same. subst (λ (n : ℕ). Contains (order ++ place ∷ []) n) (sym same) (Contains-push order place))
        (λ other. Contains-append_left order (place ∷ []) k ((flagged.exact k).0 (sym (get_or-set_other flags place k true false other) ∙ is)))
        (cases_eq k place)

    from : (k : ℕ) → Contains (order ++ place ∷ []) k → get_or (set flags place true) k false ≡ true
    from k held =
        ⊎_elim
        (λ same. ap (λ (n : ℕ). get_or (set flags place true) n false) same ∙ get_or-set_same flags place true false inside)
        (λ other. get_or-set_other flags place k true false other
        ∙ (flagged.exact k).1 (⊎_elim (λ earlier. earlier) (λ same. absurd (other (sym same))) (Contains-push_cases order place k held)))
        (cases_eq k place)

    once : length (order ++ place ∷ []) ≡ count_by (λ flag. flag) (set flags place true)
    once =
        let more = sum_by-set ones flags place true false inside in
        let none : ones (get_or flags place false) ≡ 0 = ap ones unset in
        let before = flagged.once in
        omega (arith, more, none, before, length-append order (place ∷ []))

-- ---- the visits of one number

same_number : (point : Point) (m n : ℕ) → IsNumberOf point m → IsNumberOf point n → m ≡ n
same_number point m n one other = ap (λ (z : ℤ). unsigned_abs z) (one ∙ sym other)

empty_between : (end first : ℕ) (visits : List Visit) → end ≤ first → length (between first end visits) ≡ 0
empty_between end first visits none = let same : end - first ≡ 0 = omega (arith, none) in ap (λ (n : ℕ). length (take n (drop first visits))) same

module _ (visits : List Visit) (number first end : ℕ) (lower : IsPartitionPoint (λ visit. visit.number < number) (λ visit. number ≤ visit.number) visits first) (upper : IsPartitionPoint (λ visit. visit.number ≤ number) (λ visit. number < visit.number) visits end) (inside : end ≤ length visits) where
  -- stand in between
  between-of : (visit : Visit) → Contains visits visit → visit.number ≡ number → Contains (between first end visits) visit
  between-of visit (k, within, is) same =
      let at : (get_or visits k visit).number ≡ number = ap (λ (v : Visit). v.number) is ∙ same in
      let from : first ≤ k = ⊎_elim (λ below. absurd (let less = lower.0 k visit (omega arith) below in omega (arith, less, at))) (λ above. above) (cases_lt k first) in
      let upto : k < end = ⊎_elim (λ below. below) (λ above. absurd (let more = upper.1 k visit above within in omega (arith, more, at))) (cases_lt k end) in
      let there : first + (k - first) ≡ k = omega (arith, from) in (
        k - first,
        (let long = length-between first end visits (omega (arith, from, upto)) inside in omega (arith, long, from, upto)),
        between-at first end (k - first) visits visit (omega (arith, there, upto)) inside ∙ ap (λ (n : ℕ). get_or visits n visit) there ∙ is,
      )

  pub number-at : (k : ℕ) (d : Visit) → first ≤ k → k < end → (get_or visits k d).number ≡ number
  number-at k d from upto = let least = lower.1 k d from (omega (arith, upto, inside)) in let most = upper.0 k d (omega arith) upto in omega (arith, least, most)

  of_between : first ≤ end → (visit : Visit) → Contains (between first end visits) visit → Contains visits visit × (visit.number ≡ number)
  of_between rising visit (k, within, is) =
      let long = length-between first end visits rising inside in
      let upto : first + k < end = omega (arith, long, within) in
      let at : get_or visits (first + k) visit ≡ visit = sym (between-at first end k visits visit upto inside) ∙ is in
      ((first + k, omega (arith, upto, inside), at), sym (ap (λ (v : Visit). v.number) at) ∙ number-at (first + k) visit (omega arith) upto)

  module _ (point : Point) (numbered : IsNumberOf point number) (fits : IsInRange point) where
    to_from : (place : ℕ) → IsMovedAt visits point place → IsMovedFrom visits number place
    to_from place (n, is, in_range, from) = record { visit = from.visit; held = from.held; numbered = from.numbered ∙ same_number point n number is numbered; at = from.at }

    -- what they move is what the point moves
    pub gains-at : first ≤ end → (before after : List ℕ) → GainsThese (IsOfSome IsPlaceOf (between first end visits)) before after → GainsThese (IsMovedAt visits point) before after
    gains-at rising before after =
        gains-same (IsOfSome IsPlaceOf (between first end visits)) (IsMovedAt visits point) before after
        (λ place (visit, held, at). let (among, same) = of_between rising visit held in (number, numbered, fits, record { visit = visit; held = among; numbered = same; at = at }))
        (λ place at. let from = to_from place at in (from.visit, between-of from.visit from.held from.numbered, from.at))

    -- where there are none it moves nothing
    pub gains-nowhere : end ≤ first → (order : List ℕ) → GainsThese (IsMovedAt visits point) order order
    gains-nowhere none order =
        gains-none (IsMovedAt visits point) order
        (λ place at.
        let from = to_from place at in
        let (k, within, is) = between-of from.visit from.held from.numbered in
        let short = empty_between end first visits none in
        omega (arith, within, short))

    -- where the first is flagged it has moved all
    pub gains-spread : first < end → (flags : List Bool) (order : List ℕ) → AreSpread visits flags order → get_or flags first false ≡ true → GainsThese (IsMovedAt visits point) order order
    gains-spread some flags order spread is place = (
      inl,
      ⊎_elim (λ held. held)
          (λ at.
          let from = to_from place at in
          let none : Visit = from.visit in
          spread.each first none is place (record { visit = from.visit; held = from.held; numbered = from.numbered ∙ sym (number-at first none (omega arith) some); at = from.at })),
    )

    -- one more flag
    pub spread-more : first < end → (flags : List Bool) (order after : List ℕ) → AreSpread visits flags order → Extends order after → GainsThese (IsMovedAt visits point) order after → AreSpread visits (set flags first true) after
    spread-more some flags order after spread longer gains = record {
      size = length-set flags first true ∙ spread.size;
      each = λ i d is place from.
          ⊎_elim
          (λ same. (gains place).1 (inr (number, numbered, fits, record { visit = from.visit; held = from.held; numbered = from.numbered ∙ ap (λ (n : ℕ). (get_or visits n d).number) same ∙ number-at first d (omega arith) some; at = from.at })))
          (λ other. Contains-extended order after place longer (spread.each i d (sym (get_or-set_other flags first i true false other) ∙ is) place from))
          (cases_eq i first);
    }

-- ---- what a search for a number answers

pub point-leb : (visits : List Visit) (number k : ℕ) → IsPartitionPoint (λ visit. leb visit.number number ≡ true) (λ visit. leb visit.number number ≡ false) visits k → IsPartitionPoint (λ visit. visit.number ≤ number) (λ visit. number < visit.number) visits k
point-leb visits number k (lower, upper) = (λ i d from upto. grind (arith, nat_tests, lower i d from upto), λ i d from upto. grind (arith, nat_tests, upper i d from upto))

pub point-ltb : (visits : List Visit) (number k : ℕ) → IsPartitionPoint (λ visit. ltb visit.number number ≡ true) (λ visit. ltb visit.number number ≡ false) visits k → IsPartitionPoint (λ visit. visit.number < number) (λ visit. number ≤ visit.number) visits k
point-ltb visits number k (lower, upper) = (λ i d from upto. grind (arith, nat_tests, lower i d from upto), λ i d from upto. grind (arith, nat_tests, upper i d from upto))

-- ---- chains

-- each begins where the one before it stops
pub chain-begins : {X : Type 0} (chains : List (List X)) (points : List X) (ends : List ℕ) (place : ℕ) → AreJoined chains points ends → place < length ends → get_or (0 ∷ ends) place 0 ≡ length (joined (take place chains))
chain-begins chains points ends zero are within = refl
chain-begins chains points ends (suc k) (points_are, ends_are) within =
    let stops = offset-at 0 chains k 0 (omega (arith, within, ap length ends_are, length-offsets 0 chains)) in
    ap (λ (all : List ℕ). get_or all k 0) ends_are ∙ omega (arith, stops)

pub chain-within : (chains : List (List Point)) (points : List Point) (ends : List ℕ) (place start : ℕ) → AreJoined chains points ends → place < length ends → start ≡ get_or (0 ∷ ends) place 0 → (start ≤ get_or ends place 0) × (get_or ends place 0 ≤ length points)
chain-within chains points ends place start are within is =
    let next = IsNext-at chains points ends place start are within (is ∙ chain-begins chains points ends place are within) in (next.rising, next.within)

-- so it is the chain at its place
pub chain-is : (chains : List (List Point)) (points : List Point) (ends : List ℕ) (place : ℕ) → AreJoined chains points ends → place < length ends → chain_of place points ends ≡ get_or chains place []
chain-is chains points ends place are within = (IsNext-at chains points ends place (get_or (0 ∷ ends) place 0) are within (chain-begins chains points ends place are within)).is

-- where a chain begins, as it is found
pub begins-first : (ends : List ℕ) (place start : ℕ) → place ≡ 0 → start ≡ 0 → start ≡ get_or (0 ∷ ends) place 0
begins-first ends place start first is = is ∙ sym (ap (λ (n : ℕ). get_or (0 ∷ ends) n 0) first)

pub begins-later : (ends : List ℕ) (place start : ℕ) → ¬ (place ≡ 0) → start ≡ get_or ends (place - 1) 0 → start ≡ get_or (0 ∷ ends) place 0
begins-later ends zero start later is = absurd (later refl)
begins-later ends (suc k) start later is = is ∙ ap (λ (n : ℕ). get_or ends n 0) (omega arith)
