use Rattle.std.proofs.Common.{rules, SFits, w32}
use Rattle.std.proofs.lemmas.Int.{to_z-of_z}
use Rattle.horizontal.proofs.begin.Goals as goal

pub returns-then-not-branch-clause-overlap : goal.returns-then-not-branch-clause-overlap
returns-then-not-branch-clause-overlap g c = λ other is.
    let x : SFits w32 c.args.segment.x0 = search rules in
    let y : SFits w32 c.args.segment.y = search rules in
    let has = rw c.if-not-branch.true at (c.in_ok-insert_new.ensures).cases in
    (cc, simp to_z-of_z at has)

pub returns-clause-ok : goal.returns-clause-ok
returns-clause-ok g c =
    let x : SFits w32 c.args.segment.x0 = search rules in
    let y : SFits w32 c.args.segment.y = search rules in
    let last : SFits w32 c.args.segment.x1 = search rules in
    let absent = rw c.if-not-branch.false at (c.in_ok-insert_new.ensures).cases in
    let inserted = rw c.if-not-branch.false at (c.in_ok-insert_new.ensures).ok in
    (simp to_z-of_z at absent, simp to_z-of_z at inserted)
