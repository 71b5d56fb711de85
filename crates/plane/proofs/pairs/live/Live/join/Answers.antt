use Rattle.std.proofs.Common.{◌≡◌, ℕ, pos, true, false, None, Some, List, ◌∷◌, refl, sym, subst, subst₂, ◌∙◌}
use Rattle.std.specs.List.{All}
use Rattle.std.specs.List.Sorted.{IsPermutation}
use Rattle.std.proofs.lemmas.Bool.{cond-true, cond-false}
use Rattle.std.proofs.lemmas.List.Sorted.{IsPermutation-cons, IsPermutation-trans}
use Rattle.std.proofs.lemmas.Result.{on_ok_weaker}
use Rattle.i_tree.specs.Seg.Buckets.{Accepts, Buckets}
use Rattle.i_tree.specs.Seg.Members.{Member}
use Rattle.i_tree.specs.declared.seg.exp.SegRange.{SegRange}
use Rattle.i_tree.proofs.RootLemmas.Joined.{All-of_map}
use Rattle.plane.specs.Pairs.Live.{IsIn, held, members_in}
use Rattle.plane.specs.Pairs.Sweep.{member_in}
use Rattle.plane.specs.declared.pairs.sweep.Placed.{Placed}
use Rattle.plane.proofs.PairsLemmas.Live.{joins-list}
use Rattle.plane.proofs.PairsLemmas.Serving.{member-joins}
use Rattle.plane.proofs.PairsLemmas.Told.{Accepts-in}
use Rattle.plane.proofs.pairs.live.Live.join.Goals as goal

pub insert_by_range-requires : goal.insert_by_range-requires
insert_by_range-requires g c =
    subst (λ (range : SegRange ℕ). Accepts c.args.self.now.tree.buckets (pos range.min) (pos range.max)) (sym c.requires.range)
    (Accepts-in c.args.strips c.args.strip c.args.self.now.tree.buckets c.requires.over (g.T.Boxed.bounds c.args.placed.item) (c.requires.proper c.args.placed.item) c.requires.reaches.above c.requires.reaches.reaches)

pub returns-then-not-self-clause-ok : goal.returns-then-not-self-clause-ok
returns-then-not-self-clause-ok g c =
    let live = c.args.self.now in
    let many : live.is_few ≡ false = c.if-not-self.true in
    on_ok_weaker c.insert_by_range.result
    (λ joined. subst₂ (λ (before after : List (Member (Placed g.row.T.Denot))). IsPermutation (member_in g.T.Boxed.bounds c.args.strips c.args.strip live.tree.buckets c.args.placed ∷ before) after)
    (sym (cond-false live.is_few _ live.tree.members many)) (sym (cond-false live.is_few _ c.insert_by_range.new.self.members many))
    (member-joins g.T.Boxed.bounds c.args.strips c.args.strip live.tree.buckets c.args.placed live.tree.buckets live.tree.latest c.args.range live.tree.members c.insert_by_range.new.self.members refl (c.requires.proper c.args.placed.item)
    (λ time is. c.requires.in_time time (cond-false live.is_few None live.tree.latest many ∙ is)) c.requires.range joined))
    c.insert_by_range.ensures.ok

pub returns-then-len-lt-FEW-clause-ok : goal.returns-then-len-lt-FEW-clause-ok
returns-then-len-lt-FEW-clause-ok g c =
    let live = c.args.self.now in
    let few : live.is_few ≡ true = c.if-not-self.false in
    let own = member_in g.T.Boxed.bounds c.args.strips c.args.strip live.tree.buckets c.args.placed in
    let members : List (Placed g.row.T.Denot) → List (Member (Placed g.row.T.Denot)) = members_in g.T.Boxed.bounds c.args.strips c.args.strip live.tree.buckets in
    subst₂ (λ (before after : List (Member (Placed g.row.T.Denot))). IsPermutation (own ∷ before) after)
    (sym (cond-true live.is_few (members live.few.items) live.tree.members few)) (sym (cond-true live.is_few (members c.push.new.self.items) live.tree.members few))
    (subst (λ (items : List (Placed g.row.T.Denot)). IsPermutation (own ∷ members live.few.items) (members items)) (sym (c.in_ok-push.ensures).items)
    (joins-list g.T.Boxed.bounds c.args.strips c.args.strip live.tree.buckets live.few.items c.args.placed))

pub move_over-requires-clause-within : goal.move_over-requires-clause-within
move_over-requires-clause-within g c =
    let live = c.args.self.now in
    let few : live.is_few ≡ true = c.if-not-self.false in
    let IsWithin : Member (Placed g.row.T.Denot) → Type 0 = λ member. IsIn g.T.Boxed.bounds c.args.strips c.args.strip member.value in
    All-of_map IsWithin (member_in g.T.Boxed.bounds c.args.strips c.args.strip live.tree.buckets) live.few.items
    (subst (All IsWithin) (cond-true live.is_few _ live.tree.members few) c.requires.within)

pub insert_by_range-requires-2 : goal.insert_by_range-requires-2
insert_by_range-requires-2 g c =
    subst₂ (λ (b : Buckets) (range : SegRange ℕ). Accepts b (pos range.min) (pos range.max)) (sym c.move_over.ensures.buckets) (sym c.requires.range)
    (Accepts-in c.args.strips c.args.strip c.args.self.now.tree.buckets c.requires.over (g.T.Boxed.bounds c.args.placed.item) (c.requires.proper c.args.placed.item) c.requires.reaches.above c.requires.reaches.reaches)

pub returns-clause-ok : goal.returns-clause-ok
returns-clause-ok g c =
    let live = c.args.self.now in
    let moved = c.move_over.new.self in
    let own = member_in g.T.Boxed.bounds c.args.strips c.args.strip live.tree.buckets c.args.placed in
    let before = (held g.T.Boxed.bounds c.args.strips c.args.strip live).members in
    on_ok_weaker c.insert_by_range-2.result
    (λ joined. subst (IsPermutation (own ∷ before)) (sym (cond-false moved.is_few _ c.insert_by_range-2.new.self.members c.move_over.ensures.many))
    (IsPermutation-trans (own ∷ before) (own ∷ moved.tree.members) c.insert_by_range-2.new.self.members
    (IsPermutation-cons own before moved.tree.members (c.in_ok-move_over.ensures).ok)
    (member-joins g.T.Boxed.bounds c.args.strips c.args.strip live.tree.buckets c.args.placed moved.tree.buckets moved.tree.latest c.args.range moved.tree.members c.insert_by_range-2.new.self.members c.move_over.ensures.buckets (c.requires.proper c.args.placed.item)
    (λ time is. absurd (let no : None ≡ Some time = sym c.move_over.ensures.latest ∙ is in cc)) c.requires.range joined)))
    c.insert_by_range-2.ensures.ok
