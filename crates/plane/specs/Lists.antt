-- Lists that grow at their end.
use Rattle.std.specs.Prelude.{◌≡◌, List, ◌++◌}

-- The list begins as it was before.
abbrev pub Extends : {X : Type 0} → List X → List X → Type 0
Extends {X} before after = (more : List X) × (after ≡ before ++ more)
