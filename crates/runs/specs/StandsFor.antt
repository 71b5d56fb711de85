-- When the stored pairs stand for the accepted ones.
use Rattle.std.specs.Prelude.{◌≡◌, List, [], ◌++◌, Option, All, MatchOption, IsPermutation}
use Rattle.std.specs.declared.cmp.Ordering.{Ordering}
use Rattle.i_tree.specs.Expiring.Live.{IsExpired}

module _ {K E V : Type 0} (expiration : K → E) (cmp_time : E → E → Ordering) where
  -- The accepted pairs are the stored ones and some that are gone, each once. Nothing that is gone is live at the last
  -- time; where there is none, nothing is gone.
  pub record StandsFor (stored accepted : List (K × V)) (last : Option E) : Type 0 where
    pub gone : List (K × V)
    pub together : IsPermutation accepted (stored ++ gone)
    pub expired : MatchOption last (gone ≡ []) (λ time. All (IsExpired expiration cmp_time time) gone)
