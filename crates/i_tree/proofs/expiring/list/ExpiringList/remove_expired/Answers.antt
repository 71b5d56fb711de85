use Rattle.std.proofs.Common.{◌≡◌, ◌+◌, ◌-◌, sym, subst, ap, ◌∙◌, length, vec_capacity, vec_len, arith, rules}
use Rattle.i_tree.specs.Expiring.Live.{IsExpired, live_pairs}
use Rattle.i_tree.specs.Root.Change.{Without}
use Rattle.i_tree.specs.Root.Live.{is_live}
use Rattle.i_tree.proofs.RootLemmas.Lists.{length-filter_le, Without-filter}
use Rattle.i_tree.proofs.ExpiringLemmas.Times.{ge_from_cmp, live_pairs-early}
use Rattle.i_tree.proofs.expiring.list.ExpiringList.remove_expired.Goals as goal

all_live : (g : _) (c : goal.Then-ge g) → live_pairs g.X.Expires.expiration g.E.Ord.cmp c.args.time c.args.self.now.pairs ≡ c.args.self.now.pairs
all_live g c =
    let early = sym (ge_from_cmp g.E.PartialOrd.partial_cmp g.E.Ord.cmp g.met.E.Ord.matches_partial_cmp c.self.inside.earliest c.args.time) ∙ sym c.ge.ensures ∙ c.if-ge.true in
    rw (← c.self.view_is) (live_pairs-early g.met.E.Ord.total g.X.Expires.expiration c.self.inside.earliest c.args.time c.self.inside.pairs.items early c.self.invariant)

pub returns-then-ge-clause-leaves : goal.returns-then-ge-clause-leaves
returns-then-ge-clause-leaves g c = record { keeps_live = sym (all_live g c); room = search rules }

pub returns-then-ge-clause-kept : goal.returns-then-ge-clause-kept
returns-then-ge-clause-kept g c =
    subst (Without (IsExpired g.X.Expires.expiration g.E.Ord.cmp c.args.time) c.args.self.now.pairs) (all_live g c)
    (Without-filter (λ pair. is_live g.X.Expires.expiration g.E.Ord.cmp c.args.time pair.0) c.args.self.now.pairs)

-- the pairs that went left their room
room : (g : _) (c : goal.After-self-1 g) → length c.keep_live-left.new.pairs.items + (vec_capacity c.keep_live-left.new.pairs - vec_len c.keep_live-left.new.pairs) ≡ length c.args.self.now.pairs + c.args.self.now.spare
room g c =
    let shorter = length-filter_le (λ pair. is_live g.X.Expires.expiration g.E.Ord.cmp c.args.time pair.0) c.self.inside.pairs.items in
    rw (← c.self.view_is)
    (omega (arith, shorter, ap length c.keep_live-left.ensures.live, c.keep_live-left.ensures.capacity, c.self.inside.pairs.ok.0, c.self.inside.pairs.ok.1, c.keep_live-left.new.pairs.ok.0, c.keep_live-left.new.pairs.ok.1))

pub returns-clause-leaves : goal.returns-clause-leaves
returns-clause-leaves g c =
    record { keeps_live = rw (← c.self.view_is) c.keep_live-left.ensures.live; room = room g c }

pub returns-clause-kept : goal.returns-clause-kept
returns-clause-kept g c =
    rw (c.keep_live-left.ensures.live, ← c.self.view_is)
    (Without-filter (λ pair. is_live g.X.Expires.expiration g.E.Ord.cmp c.args.time pair.0) c.self.inside.pairs.items)
