-- Chains behind a handle, which C holds.
use Rattle.std.specs.List.{flat_map}
use Rattle.std.specs.Prelude.{◌≡◌, ◌∷◌, ℤ, List, Option, Some, None}
use base.Fml.{Fml}
use denote.RawPtr.{Ptr}
use Rattle.std.specs.contracts.impls.GlobalAllocator.TheImpl.{ghosts}
use Rattle.noding.specs.Chains.{AreChains}
use Rattle.noding.specs.Local.{AreNodeChains}
use Rattle.noding.specs.Offsets.{offsets}
use Rattle.plane.specs.declared.edge.Edge.{Edge}
use Rattle.plane.specs.declared.point.Point.{Point}
use Rattle.itree_c.specs.Raw.{owns_at}
use Rattle.itree_c.specs.declared.chains.Chains.{Chains}
use Rattle.itree_c.specs.declared.status.TheConstants.{ANSWERED, REFUSED}
use Rattle.itree_c.specs.contracts.chains.Chains.{the_row}

-- chains lie at the handle and are its own, with the right to free their memory; or there are none, and it is null
abbrev pub owns_chains : Ptr → Option Chains → Fml
owns_chains = owns_at (ghosts.dealloc_token (record { memory = record { seal = tt } })) the_row

-- the points are those of the chains, one chain behind the other, and the offsets are 0 and where each chain stops
abbrev pub HoldsChains : List (List Point) → Chains → Type 0
HoldsChains chains held =
    (held.held_points.items ≡ flat_map (λ chain. chain) chains) × (held.held_offsets.items ≡ 0 ∷ offsets 0 chains)

-- the chains held are those of the edges
abbrev pub AreAllChains : List Edge → Chains → Type 0
AreAllChains edges held = (chains : List (List Point)) × AreChains edges chains × HoldsChains chains held

-- a call is answered by all chains, or it is refused and there are none
abbrev pub AnswersChains : List Edge → ℤ → Option Chains → Type 0
AnswersChains edges status (Some held) = (status ≡ ANSWERED) × AreAllChains edges held
AnswersChains edges status None = status ≡ REFUSED

-- the chains held are those of the edges over their nodes
abbrev pub AreAllNodeChains : List Edge → Chains → Type 0
AreAllNodeChains edges held = (chains : List (List Point)) × AreNodeChains edges chains × HoldsChains chains held

-- a call is answered by all of these, or it is refused and there are none
abbrev pub AnswersNode : List Edge → ℤ → Option Chains → Type 0
AnswersNode edges status (Some held) = (status ≡ ANSWERED) × AreAllNodeChains edges held
AnswersNode edges status None = status ≡ REFUSED
