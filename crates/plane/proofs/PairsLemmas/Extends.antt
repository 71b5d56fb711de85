-- Lists that grow at their end, and what holds whatever a call answered.
use Rattle.std.proofs.Common.{List, [], ◌++◌, append-nil, append_assoc, Result, Ok, Err, sym, ap, ◌∙◌}
use Rattle.std.specs.Result.{OnOk, OnErr}
use Rattle.plane.specs.Lists.{Extends}

pub OnOk-always : {T E : Type 0} (r : Result T E) (P : Type 0) → P → OnOk r P
OnOk-always (Ok x) P holds = holds
OnOk-always (Err e) P holds = tt

pub OnErr-always : {T E : Type 0} (r : Result T E) (P : Type 0) → P → OnErr r P
OnErr-always (Ok x) P holds = tt
OnErr-always (Err e) P holds = holds

-- a list extends itself
pub Extends-same : {X : Type 0} (items : List X) → Extends items items
Extends-same items = ([], sym (append-nil items))

-- what extends a list that extends another one extends that
pub Extends-trans : {X : Type 0} (before now after : List X) → Extends before now → Extends now after → Extends before after
Extends-trans before now after (more, is) (last, same) = (more ++ last, same ∙ ap (λ list. list ++ last) is ∙ append_assoc before more last)
