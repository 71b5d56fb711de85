use Rattle.std.proofs.Common.{◌≡◌, [], List, arith, drop, length, refl, subst, sym, take}
use Rattle.std.proofs.lemmas.List.{drop_all, take_all}
use Rattle.plane.specs.declared.edge.Edge.{Edge}
use Rattle.noding.specs.Windings.{IsClosed}
use Rattle.offset.proofs.chained.append_boundary_of.Goals as goal

-- so many are all of them, and none is behind
all-first : (edges : List Edge) (count : _) → count ≡ length edges → take count edges ≡ edges
all-first edges count is = take_all count edges (omega (arith, is))

none-behind : (edges : List Edge) (count : _) → count ≡ length edges → drop count edges ≡ []
none-behind edges count is = drop_all count edges (omega (arith, is))

pub boundary-requires-clause-closed : goal.boundary-requires-clause-closed
boundary-requires-clause-closed g c = subst IsClosed (sym (all-first c.args.edges.now (length c.args.edges.now) refl)) c.requires

pub boundary-requires-clause-clip_closed : goal.boundary-requires-clause-clip_closed
boundary-requires-clause-clip_closed g c = subst IsClosed (sym (none-behind c.args.edges.now (length c.args.edges.now) refl)) (λ test. refl)
