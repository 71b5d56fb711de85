-- The names of the toolchain's logic that the walks of this crate cite.
pub use Rattle.std.proofs.BoxSteps.Steps.{box_in, box_out}
pub use Rattle.std.proofs.Common.{Bool, List, None, Option, Some, [], ap, length, lit<, not, refl, subst, sym, w32, w64, ℤ, ◌++◌, ◌∙◌, ◌∷◌, ◌≡◌}
pub use Rattle.std.proofs.ResultValues.{and_tt}
pub use Rattle.std.proofs.VecSteps.Shapes.{after}
pub use Rattle.std.proofs.alloc.Calls.{Goes-blank, handle_tells, token, α}
pub use Rattle.std.proofs.raw_atomic.Walks.{leaves, proved_at}
pub use Rattle.std.specs.Box.Ownership.{box_owns}
pub use Rattle.std.specs.Option.{IsSome}
pub use Rattle.std.specs.Vec.{vec_ptr}
pub use Rattle.std.specs.contracts.impls.GlobalAllocator.TheImpl.{ghosts}
pub use base.Fml.{fat, flft, fsep, ftrue}
pub use base.Fraction.{full_share}
pub use base.Logic.{SProp, emp, ent, ex, fst∗, id⊢, never, sep}
pub use contract.BorrowLft.{◌⊑◌}
pub use contract.Monad.{fact, fact_i}
pub use contract.Running.{tables}
pub use denote.Builtin.{SliceRefOf, i32, i64, u32, u8, unit, usize}
pub use denote.Exit.{no, yes}
pub use denote.Laws.{Is, shows}
pub use denote.Memory.{cell_at, lone}
pub use denote.Param.{bounded, layout}
pub use denote.Plain.{uint_Lawful, uint_Makes}
pub use denote.RattleType.{RattleType, Valss, owns}
pub use denote.RawPtr.{Ptr, RawPtr, block_ptr, in_a_block, null_ptr, ptr_val, rawptr_Lawful}
pub use denote.Ref.{MutRef}
pub use denote.Signature.{plain, types_at}
pub use denote.Signed.{sint_Lawful}
pub use denote.Slice.{ShrSlice, slice_val}
pub use denote.Steps.{closes, heard, nothing, only, opens, owned, peeks}
pub use denote.Struct.Owning.{shape}
pub use denote.Struct.Struct.{within}
pub use denote.Struct.Tuple.{Tuple}
pub use denote.Triple.Call.{calls_at, calls_at_last}
pub use denote.Triple.Clauses.{Lasts, lasts}
pub use denote.Triple.Spec.{triple_of}
pub use denote.Triple.Table.{framed}
pub use denote.Triple.Walked.{Goes-dropped, Goes-ref, Stays, stay_dropped, stay_ref, walk_of}
pub use lib.Dec.{T}
pub use mir.MapTy.{inst_fn}
pub use mir.Raw.{raw as bare}
pub use mir.Syntax.{a_type, dcons, dnil, named, ty_ptr}
pub use mir.Val.{Val, WT, has_ty, of_list, of_z, vcons, vint, vnil, vnull, vptr, vstruct, vunit}
pub use prog.Wp.{WpFn}
pub use types.ByLocal.{alloc_all, env, free_all, get, get_in, lands_as, lands_last, look_at, pass_all, sets, through}
pub use types.Kit.{ !, at_ret, await, by, drop, feq_i, feq_l, fjoin, fjoin3, fpack, fpick, fsplit, fsplit3, join, keep, later, move, pick, qed, raw, rewrite, some, split, split3, suffices, use0, use1, use2, use3, ‵, ◌$◌, ◌∵◌, ◌⊛◌}
pub use types.Logic.{sem}
pub use types.Part.{agg, look_in, sub, whole}
pub use types.Run.{and_then, assigns, blocks, enter, exec, first, fld, lit, load, no_more, of_opd, returns, stop, store, unit_lit}
