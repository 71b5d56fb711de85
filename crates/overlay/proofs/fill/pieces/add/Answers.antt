use Rattle.std.proofs.Common.{◌≡◌, ◌-◌, ◌<◌, ℕ, length, get_or, take, ap, sym, inl, ◌∙◌, arith}
use Rattle.std.specs.List.{slice_set}
use Rattle.std.proofs.Math.Seq.{take-set-lt}
use Rattle.std.proofs.lemmas.List.{get_or_default, get_or-take, length-take-le}
use Rattle.overlay.specs.declared.fill.pieces.Piece.{Piece}
use Rattle.overlay.specs.Fill.Turned.{sum_of}
use Rattle.overlay.proofs.fill.pieces.add.Goals as goal

pub returns-clause-adds : goal.returns-clause-adds
returns-clause-adds c =
    let items = c.args.pieces.now in
    let kept = c.args.kept in
    let front = take kept items in
    let size : length front ≡ kept = length-take-le kept items (omega (arith, c.requires.room)) in
    let (some, same) = c.if-not-end_in.ensures in
    let inside : kept - 1 < kept = omega (arith, size, some) in
    inl (
      (some, same),
      take-set-lt kept items (kept - 1) c.sum_of.result inside
          ∙ ap (λ (n : ℕ). slice_set front (n - 1) c.sum_of.result) (sym size)
          ∙ ap (λ (sum : Piece). slice_set front (length front - 1) sum)
          (c.sum_of.ensures ∙ ap (λ (one : Piece). sum_of one c.args.piece)
          (get_or_default items (kept - 1) _ c.args.piece (omega (arith, inside, c.requires.room)) ∙ sym (get_or-take kept items (kept - 1) c.args.piece inside) ∙ ap (λ (n : ℕ). get_or front (n - 1) c.args.piece) (sym size))),
    )
