-- What serving commands one after another does to who calls and to the collection. For the private contracts of runs.
use Rattle.std.specs.Prelude.{◌≡◌, List, [], ◌∷◌}
use Rattle.runs.specs.declared.keys.KeyReply.{KeyReply}

-- each reply has come with what it does, one after another
abbrev pub DoesAll : {S C V : Type 0} → (KeyReply V → S → C → S → C → Type 0) → List (KeyReply V) → S → C → S → C → Type 0
DoesAll does [] calls c calls' c' = (calls' ≡ calls) × (c' ≡ c)
DoesAll {S} {C} does (reply ∷ replies) calls c calls' c' =
    (between : S) × (c-between : C) × does reply calls c between c-between × DoesAll does replies between c-between calls' c'
