-- A chain of steps goes on by a step.
use Rattle.std.proofs.Common.{List, [], ◌∷◌, ◌++◌, refl, subst}
use Rattle.runs.specs.Chain.{Chain}

module _ {State Command Reply : Type 0} (Step : State → Command → Reply → State → Type 0) where
  -- a chain over all but the last command, and a step at that
  pub Chain-push : (old middle new : State) (commands : List Command) (replies : List Reply) (command : Command) (reply : Reply)
      → Chain Step old commands replies middle → Step middle command reply new → Chain Step old (commands ++ command ∷ []) (replies ++ reply ∷ []) new
  Chain-push old middle new [] [] command reply chain step =
      (new, subst (λ (state : State). Step state command reply new) chain step, refl)
  Chain-push old middle new [] (r ∷ rs) command reply chain step = absurd chain
  Chain-push old middle new (c ∷ cs) [] command reply chain step = absurd chain
  Chain-push old middle new (c ∷ cs) (r ∷ rs) command reply (between, first, rest) step =
      (between, first, Chain-push between middle new cs rs command reply rest step)
