-- What the walks of `allocate` and `deallocate` share. Z is the inner allocator.
use Rattle.std.proofs.Common.{ℕ, ◌+◌, [], ◌∷◌}
use seplogic.Ra.Ura.{Ura}
use mir.Syntax.{Args, a_type, dnil, dcons}
use base.Logic.{ent, id⊢}
use base.Fml.{Lft}
use prog.Memory.{align, up}
use types.Logic.{Logic, sem}
use types.Kit.{‵, ◌$◌, ◌∵◌, !, qed, keep, use1, fsplit, done}
use denote.Memory.{hidden_shr}
use denote.Opens.{unhide}
use denote.Param.{bounded, param}
use denote.RattleType.{RattleType}
use Rattle.std.proofs.alloc.Calls.{Al, α, seen}
use Rattle.test_kit.specs.contracts.Refusing.{the_row}

module _ (Z : Al) where
  -- the arguments at which a generic function of `Refusing` is called: the type, its methods and its drop
  abbrev pub arguments : Args
  arguments = bounded (a_type ∷ []) (Z.row, tt) (dcons Z.d (dcons Z.drops dnil))

  abbrev pub Whole : RattleType
  Whole = the_row (param 0 Z.row)

  -- where `inner` lies in a `Refusing` at (b, o)
  abbrev pub inner_at : ℕ → ℕ → ℕ × ℕ
  inner_at b o = (b, o + up (align (α Z)) 0)

  -- a `&` to the whole has one to `inner`
  pub inner_seen : {M : Type 1} {𝓤 : Ura M} (𝓛 : Logic 𝓤) (κ : Lft) (h : Whole.Denot) (b o : ℕ)
      → ent 𝓤 (sem 𝓛 (hidden_shr Whole κ h b o)) (sem 𝓛 (seen Z κ (inner_at b o) h.inner))
  inner_seen {𝓤 = 𝓤} 𝓛 κ h b o =
      qed 𝓛 (‵ (hidden_shr Whole κ h b o) ∷ []) ∵ unhide ! $ fsplit ! $ fsplit ! $ keep ! (0 ∷ []) $
      use1 𝓛 (‵ (seen Z κ (inner_at b o) h.inner)) (id⊢ 𝓤 _) $ done !
