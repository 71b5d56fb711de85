-- What a status that grows holds.
use Rattle.std.specs.Prelude.{◌≡◌, Bool, List, [], MatchBool}

-- one of the two has the pairs, and the other none: the tree where they are many, else the list
abbrev pub AreHeldByOne : {X : Type 0} → Bool → List X → List X → List X → Type 0
AreHeldByOne are_many few many pairs = MatchBool are_many ((few ≡ []) × (many ≡ pairs)) ((few ≡ pairs) × (many ≡ []))
