use Rattle.std.proofs.Common.{◌≡◌, ◌≢◌, Bool, sym, subst}
use Rattle.std.specs.Bool.{MatchBool}
use Rattle.overlay.proofs.PieceLemmas.Edges.{edge-is}
use Rattle.overlay.proofs.fill.pieces.is_same.Goals as goal

pub returns : goal.returns
returns c = subst (λ (same : Bool). MatchBool same (c.args.one ≡ c.args.other) (c.args.one ≢ c.args.other)) (sym c.eq.ensures) (edge-is c.args.one c.args.other)
