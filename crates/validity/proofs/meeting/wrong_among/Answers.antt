use Rattle.std.proofs.Common.{ℕ, List, get_or, pos, subst, sym, arith}
use Rattle.std.proofs.lemmas.List.{take_all}
use Rattle.std.proofs.lemmas.List.Elements.{All-contains, All-more, Contains-get_or}
use Rattle.std.proofs.lemmas.Option.{get_or_from_slice_get}
use Rattle.std.specs.List.{All}
use Rattle.plane.specs.declared.edge.Edge.{Edge}
use Rattle.plane.specs.Meet.Edges.{Meet}
use Rattle.plane.specs.Pairs.Pairs.{PairAt}
use Rattle.validity.specs.Meeting.{MayMeet, MayNotMeet}
use Rattle.validity.proofs.meeting.wrong_among.Goals as goal

none : Edge
none = record { x0 = pos 0; y0 = pos 0; x1 = pos 0; y1 = pos 0 }

-- what holds of a pair holds of what is read there
pair-read : (R : Edge → Edge → Type 0) (edges : List Edge) (i j : ℕ) (d : Edge) → PairAt R edges i j → R (get_or edges i d) (get_or edges j d)
pair-read R edges i j d pair =
    subst (λ (e : Edge). R e (get_or edges j d)) (sym (get_or_from_slice_get edges i pair.one d pair.first))
    (subst (λ (e : Edge). R pair.one e) (sym (get_or_from_slice_get edges j pair.other d pair.second)) pair.meet)

-- and what holds of this holds of the pair
pair-told : (R S : Edge → Edge → Type 0) (edges : List Edge) (i j : ℕ) (d : Edge) → PairAt R edges i j → S (get_or edges i d) (get_or edges j d) → PairAt S edges i j
pair-told R S edges i j d pair holds = record {
  one = pair.one;
  other = pair.other;
  rising = pair.rising;
  first = pair.first;
  second = pair.second;
  meet = subst (λ (e : Edge). S e pair.other) (get_or_from_slice_get edges i pair.one d pair.first)
      (subst (λ (e : Edge). S (get_or edges i d) e) (get_or_from_slice_get edges j pair.other d pair.second) holds);
}

pub may_meet-requires : goal.may_meet-requires
may_meet-requires c =
    let pair = get_or c.args.pairs.now c.loop-pair.pair-index (0, 0) in
    pair-read Meet c.args.edges.now pair.0 pair.1 _ ((c.requires.pairs.exact pair.0 pair.1).0 (Contains-get_or c.args.pairs.now c.loop-pair.pair-index (0, 0) c.loop-pair-test.true))

pub returns-then-not-may_meet-clause-found : goal.returns-then-not-may_meet-clause-found
returns-then-not-may_meet-clause-found c =
    let pair = get_or c.args.pairs.now c.loop-pair.pair-index (0, 0) in
    pair-told Meet (MayNotMeet c.args.in_ring) c.args.edges.now pair.0 pair.1 _ ((c.requires.pairs.exact pair.0 pair.1).0 (Contains-get_or c.args.pairs.now c.loop-pair.pair-index (0, 0) c.loop-pair-test.true)) c.if-not-may_meet.ensures

pub loop-pair-preserved : goal.loop-pair-preserved
loop-pair-preserved c =
    let pair = get_or c.args.pairs.now c.loop-pair.pair-index (0, 0) in
    All-more (λ (p : ℕ × ℕ). PairAt (MayMeet c.args.in_ring) c.args.edges.now p.0 p.1) c.args.pairs.now c.loop-pair.pair-index (0, 0) c.loop-pair-test.true c.loop-pair.invariant
    (pair-told Meet (MayMeet c.args.in_ring) c.args.edges.now pair.0 pair.1 _ ((c.requires.pairs.exact pair.0 pair.1).0 (Contains-get_or c.args.pairs.now c.loop-pair.pair-index (0, 0) c.loop-pair-test.true)) c.if-not-may_meet.ensures)

pub returns-clause-found : goal.returns-clause-found
returns-clause-found c = λ i j met.
    let past = c.loop-pair-test.false in
    All-contains (λ (p : ℕ × ℕ). PairAt (MayMeet c.args.in_ring) c.args.edges.now p.0 p.1) c.args.pairs.now (i, j)
    (subst (All (λ (p : ℕ × ℕ). PairAt (MayMeet c.args.in_ring) c.args.edges.now p.0 p.1)) (take_all c.loop-pair.pair-index c.args.pairs.now (omega (arith, past))) c.loop-pair.invariant)
    ((c.requires.pairs.exact i j).1 met)
