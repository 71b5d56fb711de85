use Rattle.std.proofs.Common.{◌≡◌, pos, List, length, subst, sym, arith}
use Rattle.plane.specs.declared.edge.Edge.{Edge}
use Rattle.noding.specs.declared.distinct.Placed.{Placed}
use Rattle.noding.proofs.ChainLemmas.Distinct.{AreLikes, likes-all, likes-more, likes-none, placed-within}
use Rattle.noding.proofs.distinct.distinct_among.Goals as goal

abbrev none : Placed
none = record { edge = record { x0 = pos 0; y0 = pos 0; x1 = pos 0; y1 = pos 0 }; place = 0 }

pub loop-one-init : goal.loop-one-init
loop-one-init g c =
    let edges = c.args.edges.now in
    let places = c.in_ok-places.places.items in
    let size : length places ≡ length edges = (let long = c.in_ok-places.ensures.len in omega (arith, long)) in
    subst (λ (distinct : List Edge). AreLikes edges c.args.placed.now 0 distinct places) (sym c.new-distinct.ensures.items) (likes-none edges c.args.placed.now places size)

pub index_mut-requires : goal.index_mut-requires
index_mut-requires g c =
    let size = c.loop-one.invariant.size in
    let within = placed-within c.args.edges.now c.args.placed.now c.loop-one.one-index none c.requires c.loop-one-test.true in
    omega (arith, size, within)

pub loop-one-preserved : goal.loop-one-preserved
loop-one-preserved g c =
    likes-more c.args.edges.now c.args.placed.now c.requires c.loop-one.one-index none c.loop-one-test.true c.loop-one.distinct.items c.place_among.new.distinct.items c.loop-one.places.items c.loop-one.invariant
    c.in_ok-places-2.field-0 c.in_ok-places-2.ensures.place c.in_ok-places-2.ensures.appends

pub returns : goal.returns
returns g c = likes-all c.args.edges.now c.args.placed.now c.requires c.loop-one.one-index c.loop-one.distinct.items c.loop-one.places.items c.loop-one-test.false c.loop-one.invariant
