-- Pieces of one edge that stand one after another, joined one by one.
use Rattle.std.proofs.Common.{◌≡◌, ◌≢◌, ◌<◌, ◌≤◌, ◌+◌, ◌-◌, ◌++◌, [], ◌∷◌, inl, inr, Bool, true, false, cond, ℕ, ℤ, pos, ◌+ℤ◌, List, length, take, drop, get_or, ◌*◌, refl, ap, ap₂, sym, subst, suc, zero, ◌∙◌, ◌^◌, arith}
use Rattle.std.specs.List.{All, AllPairs, Contains, slice_set}
use Rattle.std.proofs.Math.Seq.{set-append_seam}
use Rattle.std.proofs.Math.Nat.{mul-le-mul_left}
use Rattle.std.proofs.lemmas.Bool.{cases_lt}
use Rattle.std.proofs.lemmas.Int.{ints}
use Rattle.std.proofs.lemmas.List.{drop-drop, get_or_default, get_or-drop, take-append-drop, take_all, take_more, length-append, length-take-le, get_or-take}
use Rattle.std.proofs.lemmas.List.Elements.{All-append, Contains-get_or, Contains-append_left, Contains-push}
use Rattle.i_tree.proofs.RootLemmas.Joined.{All-front, AllPairs-front, AllPairs-across, AllPairs-append}
use Rattle.plane.specs.declared.edge.Edge.{Edge}
use Rattle.overlay.specs.declared.fill.pieces.Piece.{Piece}
use Rattle.overlay.specs.Fill.Begins.{BeginsUpto, BeginInOrder}
use Rattle.overlay.specs.Fill.Pieces.{total}
use Rattle.overlay.proofs.FillLemmas.Totals.{total-more}
use Rattle.overlay.specs.Fill.Turned.{Adds, AreJoinOf, BeginApart, EndIn, Fit, IsSmall, asked, sum_of}

-- ---- the last of a list

module _ {X : Type 0} (xs : List X) (d : X) (some : 0 < length xs) where
  abbrev fore : List X
  fore = take (length xs - 1) xs

  abbrev final : X
  final = get_or xs (length xs - 1) d

  one_more : (length xs - 1) + 1 ≡ length xs
  one_more = omega (arith, some)

  pub split_last : xs ≡ fore ++ final ∷ []
  split_last = sym (take_all (length xs) xs (omega arith)) ∙ ap (λ (n : ℕ). take n xs) (sym one_more) ∙ take_more xs (length xs - 1) d (omega (arith, some))

  fore-length : length fore ≡ length xs - 1
  fore-length = length-take-le (length xs - 1) xs (omega (arith, some))

  pub set_last : (y : X) → slice_set xs (length xs - 1) y ≡ fore ++ y ∷ []
  set_last y =
      ap₂ (λ (list : List X) (n : ℕ). slice_set list n y) split_last (sym fore-length) ∙ set-append_seam fore final [] y

-- ---- lists that are the same from a place on

module _ {X : Type 0} (xs ys : List X) (n : ℕ) (same : drop n xs ≡ drop n ys) where
  pub same-at : (d : X) → get_or xs n d ≡ get_or ys n d
  same-at d =
      let step : n + 0 ≡ n = omega arith in
      ap (λ (k : ℕ). get_or xs k d) (sym step) ∙ sym (get_or-drop n xs 0 d) ∙ ap (λ (rest : List X). get_or rest 0 d) same ∙ get_or-drop n ys 0 d ∙ ap (λ (k : ℕ). get_or ys k d) step

  pub same-behind : (m : ℕ) → n ≤ m → drop m xs ≡ drop m ys
  same-behind m behind =
      let step : n + (m - n) ≡ m = omega (arith, behind) in
      ap (λ (k : ℕ). drop k xs) (sym step) ∙ sym (drop-drop (m - n) n xs) ∙ ap (λ (rest : List X). drop (m - n) rest) same ∙ drop-drop (m - n) n ys ∙ ap (λ (k : ℕ). drop k ys) step

-- ---- sums

both : (t : Bool) (a b : ℤ) → cond t (a +ℤ b) (pos 0) ≡ (cond t a (pos 0) +ℤ cond t b (pos 0))
both true a b = refl
both false a b = refl

moved : (a b c d : ℤ) → a ≡ (b +ℤ c) → (a +ℤ d) ≡ (b +ℤ (c +ℤ d))
moved a b c d is = omega (arith, ints, is)

pub small-wider : (n m : ℕ) (one : Piece) → n ≤ m → IsSmall n one → IsSmall m one
small-wider n m one more is =
    let a = is.from in
    let b = is.upto in
    let c = is.clip_from in
    let d = is.clip_upto in
    record { from = omega (arith, ints, more, a); upto = omega (arith, ints, more, b); clip_from = omega (arith, ints, more, c); clip_upto = omega (arith, ints, more, d) }

module _ (done : List Piece) (piece : Piece)
    (upto : All (λ other. BeginsUpto other.edge piece.edge) done)
    (apart : (other : Piece) → Contains done other → BeginsUpto other.edge piece.edge → BeginsUpto piece.edge other.edge → other.edge ≡ piece.edge)
  where
    abbrev all : List Piece
    all = done ++ piece ∷ []

    wider : (joined : List Piece) → All (λ one. (other : Piece) × Contains done other × (other.edge ≡ one.edge)) joined → All (λ one. (other : Piece) × Contains all other × (other.edge ≡ one.edge)) joined
    wider joined of k d within = let (other, inside, is) = of k d within in (other, Contains-append_left done (piece ∷ []) other inside, is)

    all-length : length all ≡ length done + 1
    all-length = length-append done (piece ∷ [])

    all_times : (most : ℕ) → most * length all ≡ most * length done + most
    all_times most = let n = ap (λ (k : ℕ). most * k) all-length in omega (arith, n)

    all_small : (most : ℕ) (joined : List Piece) → All (IsSmall (most * length done)) joined → All (IsSmall (most * length all)) joined
    all_small most joined are k d within = small-wider (most * length done) (most * length all) (get_or joined k d) (let n = all_times most in omega (arith, n)) (are k d within)

    -- those that are done, and the new one
    done_small : (most : ℕ) → All (IsSmall most) all → All (IsSmall most) done
    done_small most are = All-front (IsSmall most) done (piece ∷ []) are

    new_small : (most : ℕ) → All (IsSmall most) all → IsSmall most piece
    new_small most are = let (k, within, at) = Contains-push done piece in subst (IsSmall most) at (are k piece within)

    -- a piece that has been joined doesn't begin behind the new one
    before : (joined : List Piece) → AreJoinOf done joined → All (λ one. BeginsUpto one.edge piece.edge) joined
    before joined is k d within =
        let (other, (i, inside, at), same) = is.of k d within in
        subst (λ (edge : Edge). BeginsUpto edge piece.edge) (ap (λ (p : Piece). p.edge) at ∙ same) (upto i other inside)

    alone : (P : Piece → Type 0) (one : Piece) → P one → All P (one ∷ [])
    alone P one is zero d within = is
    alone P one is (suc k) d within = absurd (omega (arith, within))

    single : (R : Piece → Piece → Type 0) (one : Piece) → AllPairs R (one ∷ [])
    single R one i j d less within = absurd (omega (arith, less, within))

    -- behind the others
    pushed : (joined : List Piece) → AreJoinOf done joined → ¬ (EndIn joined piece.edge) → AreJoinOf all (joined ++ piece ∷ [])
    pushed joined is differs = record {
      subject = λ test. total-more (asked test (λ p. p.subject)) done piece ∙ ap (λ (z : ℤ). z +ℤ asked test (λ p. p.subject) piece) (is.subject test) ∙ sym (total-more (asked test (λ p. p.subject)) joined piece);
      clip = λ test. total-more (asked test (λ p. p.clip)) done piece ∙ ap (λ (z : ℤ). z +ℤ asked test (λ p. p.clip) piece) (is.clip test) ∙ sym (total-more (asked test (λ p. p.clip)) joined piece);
      of = All-append (λ one. (other : Piece) × Contains all other × (other.edge ≡ one.edge)) joined (piece ∷ []) (wider joined is.of) (alone (λ one. (other : Piece) × Contains all other × (other.edge ≡ one.edge)) piece (piece, Contains-push done piece, refl));
      order = AllPairs-append (λ one other. BeginsUpto one.edge other.edge) joined (piece ∷ []) is.order (single (λ one other. BeginsUpto one.edge other.edge) piece) (λ k d within. alone (λ other. BeginsUpto (get_or joined k d).edge other.edge) piece (before joined is k d within));
      distinct = AllPairs-append (λ one other. one.edge ≢ other.edge) joined (piece ∷ []) is.distinct (single (λ one other. one.edge ≢ other.edge) piece) (λ k d within. alone (λ other. (get_or joined k d).edge ≢ other.edge) piece (differ k d within));
      few = (let n = all-length in let m = length-append joined (piece ∷ []) in let f = is.few in omega (arith, n, m, f));
      small = λ most are.
          All-append (IsSmall (most * length all)) joined (piece ∷ []) (all_small most joined (is.small most (done_small most are)))
          (alone (IsSmall (most * length all)) piece (small-wider most (most * length all) piece (let n = all_times most in omega (arith, n)) (new_small most are)));
    }
      where
        end_differs : (d : Piece) → 0 < length joined → (get_or joined (length joined - 1) d).edge ≢ piece.edge
        end_differs d some same = differs (some, λ e. ap (λ (p : Piece). p.edge) (get_or_default joined (length joined - 1) e d (omega (arith, some))) ∙ same)

        -- one before the last that is of the new one's edge begins as the last does
        differ : (k : ℕ) (d : Piece) → k < length joined → (get_or joined k d).edge ≢ piece.edge
        differ k d within same = elim (cases_lt (k + 1) (length joined)) [
          | inl more ↦
              let n = length joined - 1 in
              let inside : n < length joined = omega (arith, within) in
              let upto_last : BeginsUpto (get_or joined k d).edge (get_or joined n d).edge = is.order k n d (omega (arith, more)) inside in
              let back : BeginsUpto piece.edge (get_or joined n d).edge = subst (λ (edge : Edge). BeginsUpto edge (get_or joined n d).edge) same upto_last in
              let (other, held, of) = is.of n d inside in
              end_differs d (omega (arith, within)) (sym of ∙ apart other held
              (subst (λ (edge : Edge). BeginsUpto edge piece.edge) (sym of) (before joined is n d inside))
              (subst (λ (edge : Edge). BeginsUpto piece.edge edge) (sym of) back))
          | inr most ↦
              let is_last : k ≡ length joined - 1 = omega (arith, most, within) in
              end_differs d (omega (arith, within)) (ap (λ (n : ℕ). (get_or joined n d).edge) (sym is_last) ∙ same)
        ]

    -- to the last of the others
    merged : (front : List Piece) (last : Piece) → AreJoinOf done (front ++ last ∷ []) → last.edge ≡ piece.edge → AreJoinOf all (front ++ sum_of last piece ∷ [])
    merged front last is same = record {
      subject = λ test. sums test (λ p. p.subject) (both (test last.edge) last.subject piece.subject) (is.subject test);
      clip = λ test. sums test (λ p. p.clip) (both (test last.edge) last.clip piece.clip) (is.clip test);
      of = changed (λ one. (other : Piece) × Contains all other × (other.edge ≡ one.edge)) (wider (front ++ last ∷ []) is.of) (λ held. held);
      order = paired (λ one other. BeginsUpto one.edge other.edge) is.order (λ one held. held);
      distinct = paired (λ one other. one.edge ≢ other.edge) is.distinct (λ one held. held);
      few = (let n = all-length in let m = length-append front (last ∷ []) in let k = length-append front (sum_of last piece ∷ []) in let f = is.few in omega (arith, n, m, k, f));
      small = λ most are.
          All-append (IsSmall (most * length all)) front (sum_of last piece ∷ []) (All-front (IsSmall (most * length all)) front (last ∷ []) (all_small most (front ++ last ∷ []) (is.small most (done_small most are))))
          (alone (IsSmall (most * length all)) (sum_of last piece) (grown most are));
    }
      where
        sums : (test : Edge → Bool) (weigh : Piece → ℤ) → asked test weigh (sum_of last piece) ≡ (cond (test last.edge) (weigh last) (pos 0) +ℤ cond (test last.edge) (weigh piece) (pos 0))
            → total (asked test weigh) done ≡ total (asked test weigh) (front ++ last ∷ []) → total (asked test weigh) all ≡ total (asked test weigh) (front ++ sum_of last piece ∷ [])
        sums test weigh parts so_far =
            total-more (asked test weigh) done piece
            ∙ moved (total (asked test weigh) done) (total (asked test weigh) front) (asked test weigh last) (asked test weigh piece) (so_far ∙ total-more (asked test weigh) front last)
            ∙ ap (λ (z : ℤ). total (asked test weigh) front +ℤ z) (ap (λ (edge : Edge). asked test weigh last +ℤ cond (test edge) (weigh piece) (pos 0)) (sym same) ∙ sym parts)
            ∙ sym (total-more (asked test weigh) front (sum_of last piece))

        changed : (P : Piece → Type 0) → All P (front ++ last ∷ []) → (P last → P (sum_of last piece)) → All P (front ++ sum_of last piece ∷ [])
        changed P are keeps = All-append P front (sum_of last piece ∷ []) (All-front P front (last ∷ []) are) (alone P (sum_of last piece) (keeps (at_end P are)))
          where
            at_end : (P : Piece → Type 0) → All P (front ++ last ∷ []) → P last
            at_end P are = let (k, within, at) = Contains-push front last in subst P at (are k last within)

        paired : (R : Piece → Piece → Type 0) → AllPairs R (front ++ last ∷ []) → ((one : Piece) → R one last → R one (sum_of last piece)) → AllPairs R (front ++ sum_of last piece ∷ [])
        paired R are keeps =
            AllPairs-append R front (sum_of last piece ∷ []) (AllPairs-front R front (last ∷ []) are) (single R (sum_of last piece))
            (λ k d within. alone (R (get_or front k d)) (sum_of last piece) (keeps (get_or front k d) (AllPairs-across R front (last ∷ []) are k d within 0 last (omega arith))))

        grown : (most : ℕ) → All (IsSmall most) all → IsSmall (most * length all) (sum_of last piece)
        grown most are =
            let (k, within, at) = Contains-push front last in
            let was = subst (IsSmall (most * length done)) at (is.small most (done_small most are) k last within) in
            let small = new_small most are in
            let a = was.from in
            let b = was.upto in
            let c = was.clip_from in
            let d = was.clip_upto in
            let e = small.from in
            let f = small.upto in
            let g = small.clip_from in
            let h = small.clip_upto in
            let n = all_times most in
            record { from = omega (arith, ints, n, a, e); upto = omega (arith, ints, n, b, f); clip_from = omega (arith, ints, n, c, g); clip_upto = omega (arith, ints, n, d, h) }

    pub join-more : (joined after : List Piece) → AreJoinOf done joined → Adds piece joined after → AreJoinOf all after
    join-more joined after is (inr (differs, at)) = subst (AreJoinOf all) (sym at) (pushed joined is differs)
    join-more joined after is (inl ((some, same), at)) =
        subst (AreJoinOf all) (sym (at ∙ set_last joined piece some (sum_of (get_or joined (length joined - 1) piece) piece)))
        (merged (take (length joined - 1) joined) (get_or joined (length joined - 1) piece) (subst (AreJoinOf done) (split_last joined piece some) is) (same piece))

-- what stands before a piece of a list in order
module _ (pieces : List Piece) where
  taken : (k i : ℕ) (d : Piece) → i < k → get_or (take k pieces) i d ≡ get_or pieces i d
  taken k i d below = get_or-take k pieces i d below

  pub before-next : BeginInOrder pieces → (k : ℕ) (none : Piece) → k < length pieces → All (λ other. BeginsUpto other.edge (get_or pieces k none).edge) (take k pieces)
  before-next order k none inside i d within =
      let size = length-take-le k pieces (omega (arith, inside)) in
      let below : i < k = omega (arith, within, size) in
      subst (λ (p : Piece). BeginsUpto p.edge (get_or pieces k none).edge) (get_or_default pieces i none d (omega (arith, below, inside)) ∙ sym (taken k i d below)) (order i k none below inside)

  pub apart-next : BeginApart pieces → (k : ℕ) (none : Piece) → k < length pieces → (other : Piece) → Contains (take k pieces) other → BeginsUpto other.edge (get_or pieces k none).edge → BeginsUpto (get_or pieces k none).edge other.edge
      → other.edge ≡ (get_or pieces k none).edge
  apart-next apart k none inside other (i, within, at) =
      let size = length-take-le k pieces (omega (arith, inside)) in
      let below : i < k = omega (arith, within, size) in
      apart other (get_or pieces k none) (i, omega (arith, below, inside), sym (taken k i other below) ∙ at) (Contains-get_or pieces k none inside)

-- ---- in place

-- The first pieces before the place are joined to those that are kept, and from the place on they are as they were.
pub record AreJoinedUpto (pieces now : List Piece) (place kept : ℕ) : Type 0 where
  pub few : kept ≤ place
  pub same : length now ≡ length pieces
  pub joined : AreJoinOf (take place pieces) (take kept now)
  pub rest : drop place now ≡ drop place pieces

module _ (pieces now : List Piece) (place kept : ℕ) (is : AreJoinedUpto pieces now place kept) (inside : place < length pieces)
    (piece : Piece) (at : piece ≡ get_or now place piece) where
  stood : piece ≡ get_or pieces place piece
  stood = at ∙ same-at now pieces place is.rest piece

  unit : (most : ℕ) → All (IsSmall most) pieces → IsSmall most piece
  unit most small = subst (IsSmall most) (sym stood) (small place piece inside)

  -- so few small pieces can be added up
  pub fit-next : (most : ℕ) → All (IsSmall most) pieces → most * length pieces < 2 ^ 63 → All (λ last. Fit last piece) (take kept now)
  fit-next most small few k d within =
      let taken = All-front (IsSmall most) (take place pieces) (drop place pieces) (subst (All (IsSmall most)) (sym (take-append-drop place pieces)) small) in
      let last = is.joined.small most taken k d within in
      let a = last.from in
      let b = last.upto in
      let e = last.clip_from in
      let f = last.clip_upto in
      let g = (unit most small).from in
      let h = (unit most small).upto in
      let i = (unit most small).clip_from in
      let j = (unit most small).clip_upto in
      let size = ap (λ (n : ℕ). most * n) (length-take-le place pieces (omega (arith, inside))) in
      let upto : most * (place + 1) ≤ most * length pieces = mul-le-mul_left most (omega (arith, inside)) in
      let sum : most * length (take place pieces) + most ≤ most * length pieces = omega (arith, upto, size) in
      record { from = omega (arith, ints, few, sum, a, g); below = omega (arith, ints, few, sum, b, h); clip_from = omega (arith, ints, few, sum, e, i); clip_below = omega (arith, ints, few, sum, f, j) }

  pub joined-next : BeginInOrder pieces → BeginApart pieces
      → (after : List Piece) (next : ℕ) → length after ≡ length now → Adds piece (take kept now) (take next after) → next ≤ kept + 1 → drop (kept + 1) after ≡ drop (kept + 1) now → AreJoinedUpto pieces after (place + 1) next
  joined-next order apart after next size adds most rest = record {
    few = (let few = is.few in omega (arith, few, most));
    same = size ∙ is.same;
    joined = subst (λ (done : List Piece). AreJoinOf done (take next after)) (ap (λ (one : Piece). take place pieces ++ one ∷ []) stood ∙ sym (take_more pieces place piece inside))
        (join-more (take place pieces) piece
        (subst (λ (one : Piece). All (λ other. BeginsUpto other.edge one.edge) (take place pieces)) (sym stood) (before-next pieces order place piece inside))
        (subst (λ (one : Piece). (other : Piece) → Contains (take place pieces) other → BeginsUpto other.edge one.edge → BeginsUpto one.edge other.edge → other.edge ≡ one.edge) (sym stood) (apart-next pieces apart place piece inside))
        (take kept now) (take next after) is.joined adds);
    rest = (let few = is.few in same-behind after now (kept + 1) rest (place + 1) (omega (arith, few)) ∙ same-behind now pieces place is.rest (place + 1) (omega arith));
  }
