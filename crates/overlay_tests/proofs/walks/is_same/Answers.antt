use Rattle.std.proofs.Common.{◌≡◌, ◌≢◌, Bool, sym, subst}
use Rattle.std.specs.Bool.{MatchBool}
use Rattle.std.proofs.lemmas.Bool.{MatchBool-at_true}
use Rattle.overlay.proofs.PieceLemmas.Edges.{edge-is}
use Rattle.overlay_tests.proofs.walks.is_same.Goals as goal

pub returns : goal.returns
returns c same = MatchBool-at_true (c.args.one ≡ c.args.other) (c.args.one ≢ c.args.other) same
    (subst (λ (test : Bool). MatchBool test (c.args.one ≡ c.args.other) (c.args.one ≢ c.args.other)) (sym c.eq.ensures) (edge-is c.args.one c.args.other))
