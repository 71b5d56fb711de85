-- Runs of edges: what the two changes of a run tell is what those of its edges do.
use Rattle.std.proofs.Common.{◌≡◌, ◌++◌, [], ◌∷◌, ℕ, suc, Bool, true, false, cond, ℤ, pos, ◌+ℤ◌, ◌-ℤ◌, ◌≤ℤ◌, ◌<ℤ◌, List, length, refl, ap, ap₂, sym, subst, ◌∙◌, arith, append_assoc, append-nil, length-append}
use Rattle.std.specs.List.{All}
use Rattle.std.specs.List.Sorted.{IsPermutation}
use Rattle.std.specs.Ordering.{int_eq}
use Rattle.std.proofs.lemmas.Int.{ints}
use Rattle.std.proofs.lemmas.List.Elements.{All-append, All-cons, All-head, All-nil, All-tail, All-weaker, Contains-append_left, Contains-append_right}
use Rattle.std.proofs.lemmas.List.Sorted.{All-permutation, Contains-permutation}
use Rattle.i_tree.proofs.RootLemmas.Lists.{Contains-here, Contains-there}
use Rattle.plane.specs.declared.edge.Edge.{Edge}
use Rattle.overlay.specs.declared.boundary.lines.Change.{Change}
use Rattle.overlay.specs.declared.boundary.lines.Place.{Place}
use Rattle.overlay.specs.declared.boundary.lines.Run.{Run}
use Rattle.overlay.specs.declared.fill.pieces.Operand.{Operand}
use Rattle.overlay.specs.declared.fill.pieces.Operand.TheVariants.{Subject, Clip}
use Rattle.overlay.specs.Fill.Pieces.{total, weight}
use Rattle.overlay.specs.Joined.{onwards}
use Rattle.overlay.specs.Lines.{AppendsTold, IsChanged, IsSmallChange, IsSmallRun, TellAlike, TellAs, changes_of, end_change, end_place, longer, no_run, run_changes, run_end, run_start, start_change, start_place, told_at}
use Rattle.overlay.proofs.FillLemmas.Small.{unit_weight}
use Rattle.overlay.proofs.FillLemmas.Tests.{int_eq-false}
use Rattle.overlay.proofs.FillLemmas.Totals.{total-append, total-more, total-permutation}

-- ---- lists of changes that tell the same

pub tells-none : TellAs [] []
tells-none = record {
  count = λ test. refl;
  subject = λ test. refl;
  clip = λ test. refl;
  of = All-nil (λ (change : Change). IsChanged [] change.place);
  all = All-nil (λ (change : Change). IsChanged [] change.place);
}

module _ (told changes : List Change) (tell : TellAs told changes) where
  -- two such lists after two others
  module _ (others more : List Change) (too : TellAs others more) where
    both-alike : (f : Change → ℤ) → TellAlike f told changes → TellAlike f others more → TellAlike f (told ++ others) (changes ++ more)
    both-alike f first second test =
        total-append (told_at test f) told others
        ∙ ap₂ (λ (x y : ℤ). x +ℤ y) (first test) (second test)
        ∙ sym (total-append (told_at test f) changes more)

    changed-both : (one first second : List Change) → All (λ (change : Change). IsChanged first change.place) one → (other : List Change) → All (λ (change : Change). IsChanged second change.place) other
        → All (λ (change : Change). IsChanged (first ++ second) change.place) (one ++ other)
    changed-both one first second left other right =
        All-append (λ (change : Change). IsChanged (first ++ second) change.place) one other
        (All-weaker (λ (change : Change). IsChanged first change.place) (λ (change : Change). IsChanged (first ++ second) change.place)
        (λ change (found, among, is). (found, Contains-append_left first second found among, is)) one left)
        (All-weaker (λ (change : Change). IsChanged second change.place) (λ (change : Change). IsChanged (first ++ second) change.place)
        (λ change (found, among, is). (found, Contains-append_right first second found among, is)) other right)

    pub tells-both : TellAs (told ++ others) (changes ++ more)
    tells-both = record {
      count = both-alike (λ change. change.count) tell.count too.count;
      subject = both-alike (λ change. change.subject) tell.subject too.subject;
      clip = both-alike (λ change. change.clip) tell.clip too.clip;
      of = changed-both told changes more tell.of others too.of;
      all = changed-both changes told others tell.all more too.all;
    }

  -- the one list in another order
  module _ (moved : List Change) (is : IsPermutation told moved) where
    moved-alike : (f : Change → ℤ) → TellAlike f told changes → TellAlike f moved changes
    moved-alike f alike test = total-permutation (told_at test f) told moved is ∙ alike test

    pub tells-moved : TellAs moved changes
    tells-moved = record {
      count = moved-alike (λ change. change.count) tell.count;
      subject = moved-alike (λ change. change.subject) tell.subject;
      clip = moved-alike (λ change. change.clip) tell.clip;
      of = All-permutation (λ (change : Change). IsChanged changes change.place) told moved is tell.of;
      all = All-weaker (λ (change : Change). IsChanged told change.place) (λ (change : Change). IsChanged moved change.place)
          (λ change (found, among, same). (found, Contains-permutation told moved found is among, same)) changes tell.all;
    }

-- ---- the edges of a run

-- Each of the edges is the run's onwards; it counts them, and weighs what they do.
pub record IsRun (edges : List Edge) (run : Run) : Type 0 where
  pub same : All (λ edge. onwards edge ≡ run.edge) edges
  pub count : run.count ≡ pos (length edges)
  pub weighs : run.weight ≡ total weight edges

none_told : (s t : Bool) → pos 0 ≡ (cond s (pos 0) (pos 0) +ℤ (cond t (pos 0 -ℤ pos 0) (pos 0) +ℤ pos 0))
none_told true true = omega (arith, ints)
none_told true false = omega (arith, ints)
none_told false true = omega (arith, ints)
none_told false false = omega (arith, ints)

one_more : (s t : Bool) (a b g r rest : ℤ) → a ≡ g → b ≡ (pos 0 -ℤ g) → r ≡ (cond s rest (pos 0) +ℤ (cond t (pos 0 -ℤ rest) (pos 0) +ℤ pos 0))
    → (cond s a (pos 0) +ℤ (cond t b (pos 0) +ℤ r)) ≡ (cond s (g +ℤ rest) (pos 0) +ℤ (cond t (pos 0 -ℤ (g +ℤ rest)) (pos 0) +ℤ pos 0))
one_more true true a b g r rest first last is = omega (arith, ints, first, last, is)
one_more true false a b g r rest first last is = omega (arith, ints, first, last, is)
one_more false true a b g r rest first last is = omega (arith, ints, first, last, is)
one_more false false a b g r rest first last is = omega (arith, ints, first, last, is)

-- Edges that are one edge onwards begin at one place and end at one.
module _ (operand : Operand) (line : Edge) where
  abbrev pub AreOne : List Edge → Type 0
  AreOne edges = All (λ edge. onwards edge ≡ line) edges

  -- what is told of them
  module _ (f : Change → ℤ) (g : Edge → ℤ) (starts : (edge : Edge) → f (start_change operand edge) ≡ g edge) (ends : (edge : Edge) → f (end_change operand edge) ≡ (pos 0 -ℤ g edge)) (test : Place → Bool) where
    sum-one : (edges : List Edge) → AreOne edges
        → total (told_at test f) (changes_of operand edges) ≡ (cond (test (start_place line)) (total g edges) (pos 0) +ℤ (cond (test (end_place line)) (pos 0 -ℤ total g edges) (pos 0) +ℤ pos 0))
    sum-one [] are = none_told (test (start_place line)) (test (end_place line))
    sum-one (edge ∷ edges) are =
        let same = All-head (λ edge. onwards edge ≡ line) edge edges are in
        ap₂ (λ (s t : Bool). cond s (f (start_change operand edge)) (pos 0) +ℤ (cond t (f (end_change operand edge)) (pos 0) +ℤ total (told_at test f) (changes_of operand edges)))
        (ap (λ (one : Edge). test (start_place one)) same) (ap (λ (one : Edge). test (end_place one)) same)
        ∙ one_more (test (start_place line)) (test (end_place line)) (f (start_change operand edge)) (f (end_change operand edge)) (g edge) (total (told_at test f) (changes_of operand edges)) (total g edges)
        (starts edge) (ends edge) (sum-one edges (All-tail (λ edge. onwards edge ≡ line) edge edges are))

  module _ (edge : Edge) (edges : List Edge) (are : AreOne (edge ∷ edges)) (first last : Change) (begins : first.place ≡ start_place line) (stops : last.place ≡ end_place line) where
    alike-one : (f : Change → ℤ) (g : Edge → ℤ) → ((edge : Edge) → f (start_change operand edge) ≡ g edge) → ((edge : Edge) → f (end_change operand edge) ≡ (pos 0 -ℤ g edge))
        → f first ≡ total g (edge ∷ edges) → f last ≡ (pos 0 -ℤ total g (edge ∷ edges)) → TellAlike f (first ∷ last ∷ []) (changes_of operand (edge ∷ edges))
    alike-one f g starts ends a b test =
        ap₂ (λ (s t : Bool). cond s (f first) (pos 0) +ℤ (cond t (f last) (pos 0) +ℤ pos 0)) (ap test begins) (ap test stops)
        ∙ ap₂ (λ (x y : ℤ). cond (test (start_place line)) x (pos 0) +ℤ (cond (test (end_place line)) y (pos 0) +ℤ pos 0)) a b
        ∙ sym (sum-one f g starts ends test (edge ∷ edges) are)

    -- the places of the two are those of any of the edges
    of-one : All (λ (change : Change). IsChanged (changes_of operand (edge ∷ edges)) change.place) (first ∷ last ∷ [])
    of-one =
        let same = sym (All-head (λ edge. onwards edge ≡ line) edge edges are) in
        let here = Contains-here (start_change operand edge) (end_change operand edge ∷ changes_of operand edges) in
        let next = Contains-there (start_change operand edge) (end_change operand edge ∷ changes_of operand edges) (end_change operand edge) (Contains-here (end_change operand edge) (changes_of operand edges)) in
        All-cons (λ (change : Change). IsChanged (changes_of operand (edge ∷ edges)) change.place) first (last ∷ []) (start_change operand edge, here, sym (begins ∙ ap start_place same))
        (All-cons (λ (change : Change). IsChanged (changes_of operand (edge ∷ edges)) change.place) last [] (end_change operand edge, next, sym (stops ∙ ap end_place same))
        (All-nil (λ (change : Change). IsChanged (changes_of operand (edge ∷ edges)) change.place)))

    all-one : (some : List Edge) → AreOne some → All (λ (change : Change). IsChanged (first ∷ last ∷ []) change.place) (changes_of operand some)
    all-one [] each = All-nil (λ (change : Change). IsChanged (first ∷ last ∷ []) change.place)
    all-one (one ∷ some) each =
        let same = sym (All-head (λ edge. onwards edge ≡ line) one some each) in
        All-cons (λ (change : Change). IsChanged (first ∷ last ∷ []) change.place) (start_change operand one) (end_change operand one ∷ changes_of operand some) (first, Contains-here first (last ∷ []), begins ∙ ap start_place same)
        (All-cons (λ (change : Change). IsChanged (first ∷ last ∷ []) change.place) (end_change operand one) (changes_of operand some)
        (last, Contains-there first (last ∷ []) last (Contains-here last []), stops ∙ ap end_place same)
        (all-one some (All-tail (λ edge. onwards edge ≡ line) one some each)))

-- sums of ones, and of nothing
total-ones : (edges : List Edge) → pos (length edges) ≡ total (λ edge. pos 1) edges
total-ones [] = refl
total-ones (edge ∷ edges) = let rest = total-ones edges in omega (arith, ints, rest)

total-zeros : (edges : List Edge) → pos 0 ≡ total (λ edge. pos 0) edges
total-zeros [] = refl
total-zeros (edge ∷ edges) = let rest = total-zeros edges in omega (arith, ints, rest)

less : (a b : ℤ) → a ≡ b → (pos 0 -ℤ a) ≡ (pos 0 -ℤ b)
less a b is = ap (λ (z : ℤ). pos 0 -ℤ z) is

less_none : (z : ℤ) → pos 0 ≡ z → pos 0 ≡ (pos 0 -ℤ z)
less_none z is = omega (arith, ints, is)

module _ (edge : Edge) (edges : List Edge) (run : Run) (is : IsRun (edge ∷ edges) run) where
  tells-some : (operand : Operand) → TellAs (run_start operand run ∷ run_end operand run ∷ []) (changes_of operand (edge ∷ edges))
  tells-some Subject =
      let first = run_start Subject run in
      let last = run_end Subject run in
      let ones = is.count ∙ total-ones (edge ∷ edges) in
      let zeros = total-zeros (edge ∷ edges) in record {
        count = alike-one Subject run.edge edge edges is.same first last refl refl (λ change. change.count) (λ edge. pos 1) (λ edge. refl) (λ edge. refl) ones (less run.count (total (λ edge. pos 1) (edge ∷ edges)) ones);
        subject = alike-one Subject run.edge edge edges is.same first last refl refl (λ change. change.subject) weight (λ edge. refl) (λ edge. refl) is.weighs (less run.weight (total weight (edge ∷ edges)) is.weighs);
        clip = alike-one Subject run.edge edge edges is.same first last refl refl (λ change. change.clip) (λ edge. pos 0) (λ edge. refl) (λ edge. refl) zeros (less_none (total (λ edge. pos 0) (edge ∷ edges)) zeros);
        of = of-one Subject run.edge edge edges is.same first last refl refl;
        all = all-one Subject run.edge edge edges is.same first last refl refl (edge ∷ edges) is.same;
      }
  tells-some Clip =
      let first = run_start Clip run in
      let last = run_end Clip run in
      let ones = is.count ∙ total-ones (edge ∷ edges) in
      let zeros = total-zeros (edge ∷ edges) in record {
        count = alike-one Clip run.edge edge edges is.same first last refl refl (λ change. change.count) (λ edge. pos 1) (λ edge. refl) (λ edge. refl) ones (less run.count (total (λ edge. pos 1) (edge ∷ edges)) ones);
        subject = alike-one Clip run.edge edge edges is.same first last refl refl (λ change. change.subject) (λ edge. pos 0) (λ edge. refl) (λ edge. refl) zeros (less_none (total (λ edge. pos 0) (edge ∷ edges)) zeros);
        clip = alike-one Clip run.edge edge edges is.same first last refl refl (λ change. change.clip) weight (λ edge. refl) (λ edge. refl) is.weighs (less run.weight (total weight (edge ∷ edges)) is.weighs);
        of = of-one Clip run.edge edge edges is.same first last refl refl;
        all = all-one Clip run.edge edge edges is.same first last refl refl (edge ∷ edges) is.same;
      }

-- a run's changes tell what those of its edges do
pub tells-run : (operand : Operand) (edges : List Edge) (run : Run) → IsRun edges run → TellAs (run_changes operand run) (changes_of operand edges)
tells-run operand [] run is =
    subst (λ (list : List Change). TellAs list []) (sym (ap (λ (z : ℤ). cond (int_eq z (pos 0)) [] (run_start operand run ∷ run_end operand run ∷ [])) is.count)) tells-none
tells-run operand (edge ∷ edges) run is =
    subst (λ (list : List Change). TellAs list (changes_of operand (edge ∷ edges)))
    (sym (ap (λ (t : Bool). cond t [] (run_start operand run ∷ run_end operand run ∷ [])) (int_eq-false run.count (pos 0) (λ none. some (length edges) run.count is.count none))))
    (tells-some edge edges run is operand)
  where
    some : (n : ℕ) (z : ℤ) → z ≡ pos (suc n) → z ≡ pos 0 → ⊥
    some n z counted none = omega (arith, ints, counted, none)

-- ---- small runs

no_less : (n : ℤ) (z : ℤ) → n ≤ℤ pos 127 → (pos 0 -ℤ n) ≤ℤ z → (pos 0 -ℤ pos 127) ≤ℤ z
no_less n z a b = omega (arith, ints, a, b)

no_more : (n : ℤ) (z : ℤ) → n ≤ℤ pos 127 → z ≤ℤ n → z ≤ℤ pos 127
no_more n z a b = omega (arith, ints, a, b)

turned_from : (z : ℤ) → z ≤ℤ pos 127 → (pos 0 -ℤ pos 127) ≤ℤ (pos 0 -ℤ z)
turned_from z h = omega (arith, ints, h)

turned_upto : (z : ℤ) → (pos 0 -ℤ pos 127) ≤ℤ z → (pos 0 -ℤ z) ≤ℤ pos 127
turned_upto z h = omega (arith, ints, h)

above : (z : ℤ) → pos 0 ≤ℤ z → (pos 0 -ℤ pos 127) ≤ℤ z
above z h = omega (arith, ints, h)

start-small : (operand : Operand) (run : Run) → IsSmallRun run → IsSmallChange (run_start operand run)
start-small Subject run small = record {
  from = above run.count small.from;
  upto = small.upto;
  subject_from = no_less run.count run.weight small.upto small.weight_from;
  subject_upto = no_more run.count run.weight small.upto small.weight_upto;
  clip_from = omega (arith, ints);
  clip_upto = omega (arith, ints);
}
start-small Clip run small = record {
  from = above run.count small.from;
  upto = small.upto;
  subject_from = omega (arith, ints);
  subject_upto = omega (arith, ints);
  clip_from = no_less run.count run.weight small.upto small.weight_from;
  clip_upto = no_more run.count run.weight small.upto small.weight_upto;
}

end-small : (operand : Operand) (run : Run) → IsSmallRun run → IsSmallChange (run_end operand run)
end-small Subject run small = record {
  from = turned_from run.count small.upto;
  upto = turned_upto run.count (above run.count small.from);
  subject_from = turned_from run.weight (no_more run.count run.weight small.upto small.weight_upto);
  subject_upto = turned_upto run.weight (no_less run.count run.weight small.upto small.weight_from);
  clip_from = omega (arith, ints);
  clip_upto = omega (arith, ints);
}
end-small Clip run small = record {
  from = turned_from run.count small.upto;
  upto = turned_upto run.count (above run.count small.from);
  subject_from = omega (arith, ints);
  subject_upto = omega (arith, ints);
  clip_from = turned_from run.weight (no_more run.count run.weight small.upto small.weight_upto);
  clip_upto = turned_upto run.weight (no_less run.count run.weight small.upto small.weight_from);
}

changes-small : (operand : Operand) (run : Run) → IsSmallRun run → All IsSmallChange (run_changes operand run)
changes-small operand run small = by (int_eq run.count (pos 0))
  where
    by : (t : Bool) → All IsSmallChange (cond t [] (run_start operand run ∷ run_end operand run ∷ []))
    by true = All-nil IsSmallChange
    by false =
        All-cons IsSmallChange (run_start operand run) (run_end operand run ∷ []) (start-small operand run small)
        (All-cons IsSmallChange (run_end operand run) [] (end-small operand run small) (All-nil IsSmallChange))

pub small-none : (line : Edge) → IsSmallRun (no_run line)
small-none line = record { from = omega (arith, ints); upto = omega (arith, ints); weight_from = omega (arith, ints); weight_upto = omega (arith, ints) }

small-longer : (run : Run) (edge : Edge) → IsSmallRun run → run.count <ℤ pos 127 → IsSmallRun (longer run edge)
small-longer run edge small room =
    let unit = unit_weight edge in
    let a = unit.from in
    let b = unit.upto in
    let c = small.from in
    let d = small.weight_from in
    let e = small.weight_upto in record {
      from = omega (arith, ints, c);
      upto = omega (arith, ints, room);
      weight_from = omega (arith, ints, a, d);
      weight_upto = omega (arith, ints, b, e);
    }

-- ---- the edges so far

-- The last of the edges are the run, and the changes of those before are appended.
pub record AreRunUpto (operand : Operand) (edges : List Edge) (before after : List Change) (run : Run) : Type 0 where
  pub done : List Edge
  pub last : List Edge
  pub is : edges ≡ done ++ last
  pub appends : AppendsTold operand done before after
  pub of : IsRun last run
  pub small : IsSmallRun run

changes-append : (operand : Operand) (edges others : List Edge) → changes_of operand (edges ++ others) ≡ changes_of operand edges ++ changes_of operand others
changes-append operand [] others = refl
changes-append operand (edge ∷ edges) others = ap (λ (list : List Change). start_change operand edge ∷ end_change operand edge ∷ list) (changes-append operand edges others)

is-none : (line : Edge) → IsRun [] (no_run line)
is-none line = record { same = All-nil (λ edge. onwards edge ≡ line); count = refl; weighs = refl }

-- no edge so far
pub runs-none : (operand : Operand) (before : List Change) (line : Edge) → AreRunUpto operand [] before before (no_run line)
runs-none operand before line = record {
  done = [];
  last = [];
  is = refl;
  appends = record { more = []; appended = sym (append-nil before); tell = tells-none; small = All-nil IsSmallChange };
  of = is-none line;
  small = small-none line;
}

module _ (operand : Operand) (edges : List Edge) (before after : List Change) (run : Run) (upto : AreRunUpto operand edges before after run) where
  -- the changes of the run are appended, too
  pub runs-all : AppendsTold operand edges before (after ++ run_changes operand run)
  runs-all =
      let of = upto.appends in
      subst (λ (list : List Edge). AppendsTold operand list before (after ++ run_changes operand run)) (sym upto.is) (record {
        more = of.more ++ run_changes operand run;
        appended = ap (λ (list : List Change). list ++ run_changes operand run) of.appended ∙ append_assoc before of.more (run_changes operand run);
        tell = subst (TellAs (of.more ++ run_changes operand run)) (sym (changes-append operand upto.done upto.last))
            (tells-both of.more (changes_of operand upto.done) of.tell (run_changes operand run) (changes_of operand upto.last) (tells-run operand upto.last run upto.of));
        small = All-append IsSmallChange of.more (run_changes operand run) of.small (changes-small operand run upto.small);
      })

  -- and another run begins
  pub runs-next : (line : Edge) → AreRunUpto operand edges before (after ++ run_changes operand run) (no_run line)
  runs-next line = record {
    done = edges;
    last = [];
    is = sym (append-nil edges);
    appends = runs-all;
    of = is-none line;
    small = small-none line;
  }

  -- one edge more, which is the run's
  pub runs-more : (edge : Edge) → onwards edge ≡ run.edge → run.count <ℤ pos 127 → AreRunUpto operand (edges ++ edge ∷ []) before after (longer run edge)
  runs-more edge same room =
      let last = upto.last in
      let count = upto.of.count in
      let size = length-append last (edge ∷ []) in record {
        done = upto.done;
        last = last ++ edge ∷ [];
        is = ap (λ (list : List Edge). list ++ edge ∷ []) upto.is ∙ append_assoc upto.done last (edge ∷ []);
        appends = upto.appends;
        of = record {
          same = All-append (λ one. onwards one ≡ run.edge) last (edge ∷ []) upto.of.same (All-cons (λ one. onwards one ≡ run.edge) edge [] same (All-nil (λ one. onwards one ≡ run.edge)));
          count = omega (arith, ints, count, size);
          weighs = ap (λ (z : ℤ). z +ℤ weight edge) upto.of.weighs ∙ sym (total-more weight last edge);
        };
        small = small-longer run edge upto.small room;
      }

-- the changes of the subject's edges, and then those of the clip's
pub told-both : (subject clip : List Edge) (none between after : List Change) → none ≡ [] → AppendsTold Subject subject none between → AppendsTold Clip clip between after
    → TellAs after (changes_of Subject subject ++ changes_of Clip clip) × All IsSmallChange after
told-both subject clip none between after empty first second =
    let is = second.appended ∙ ap (λ (list : List Change). list ++ second.more) (first.appended ∙ ap (λ (list : List Change). list ++ first.more) empty) in (
      subst (λ (list : List Change). TellAs list (changes_of Subject subject ++ changes_of Clip clip)) (sym is)
          (tells-both first.more (changes_of Subject subject) first.tell second.more (changes_of Clip clip) second.tell),
      subst (All IsSmallChange) (sym is) (All-append IsSmallChange first.more second.more first.small second.small),
    )
