-- Which line or lines are at fault, by the fault.
use Rattle.std.proofs.Common.{◌≡◌, Err, IfSome, refl, ap, sym, ◌∙◌, subst, arith}
use Rattle.std.proofs.lemmas.Option.{IfSome_then}
use Rattle.itree.specs.Faults.{status_of}
use Rattle.itree.specs.Modes.{Names, AsksForText}
use Rattle.itree.specs.Texts.{HasFault, IsFaultOf}
use Rattle.itree.specs.declared.fault.Fault.{Fault}
use Rattle.itree.specs.declared.fault.Fault.TheVariants.{Arguments, Line, Overlap, Cross, Unfit, Memory, Reading, Writing}
use Rattle.itree.specs.declared.mode.Mode.{Mode}
use Rattle.itree.proofs.Faults.{HasFault-line, HasFault-overlap, HasFault-crossing, HasFault-unfit}
use Rattle.itree.proofs.program.run_itree.Goals as goal

pub returns-clause-faulty_line : goal.returns-clause-faulty_line
returns-clause-faulty_line g c = λ two. by_fault c.in-Err.fault refl (sym c.status.ensures ∙ two)
  where
    told : {fault : Fault} → c.in-Err.fault ≡ fault → IsFaultOf c.args.words.now (g.I.Read.remaining c.args.input.now) fault
    told is = subst (IsFaultOf c.args.words.now (g.I.Read.remaining c.args.input.now)) is c.in-Err.ensures.told

    by_fault : (fault : Fault) → c.in-Err.fault ≡ fault → status_of fault ≡ 2 → (mode : Mode) → Names c.args.words.now mode → IfSome (g.I.Read.remaining c.args.input.now) (HasFault mode)
    by_fault Arguments is two mode names =
        let unasked : ¬ (AsksForText c.args.words.now) = λ asks. let one : status_of Arguments ≡ 1 = subst (λ (fault : Fault). status_of fault ≡ 1) is (c.in-Err.ensures.text_err asks) in absurd (omega (arith, one)) in
        absurd ((c.in-Err.ensures.faulty_words unasked).0 (ap Err is) (mode, names))
    by_fault (Line number) is two mode names =
        IfSome_then (g.I.Read.remaining c.args.input.now) (told is mode names) (λ text first. HasFault-line mode text number first)
    by_fault (Overlap number) is two mode names =
        IfSome_then (g.I.Read.remaining c.args.input.now) (told is mode names) (λ text overlap. HasFault-overlap mode text number overlap)
    by_fault (Cross first second) is two mode names =
        IfSome_then (g.I.Read.remaining c.args.input.now) (told is mode names) (λ text crossing. HasFault-crossing mode text first second crossing)
    by_fault (Unfit why) is two mode names =
        IfSome_then (g.I.Read.remaining c.args.input.now) (told is mode names) (λ text unfit. HasFault-unfit mode text why unfit)
    by_fault Memory is two mode names = absurd (omega (arith, two))
    by_fault (Reading error) is two mode names = absurd (omega (arith, two))
    by_fault (Writing error) is two mode names = absurd (omega (arith, two))
