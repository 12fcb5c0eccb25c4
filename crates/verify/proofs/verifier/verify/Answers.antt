use Rattle.std.proofs.Common.{◌≡◌, ◌∙◌, None, sym, ap, subst, List, Result, IfOk, length, arith}
use Rattle.insn.specs.declared.insn.Insn.{Insn}
use Rattle.semantics.specs.Run.{IsSound}
use Rattle.verify.specs.declared.error.VerifyError.{VerifyError}
use Rattle.verify.specs.Judgement.{judged}
use Rattle.verify.specs.Passes.{Answers, ComesThrough}
use Rattle.verify.proofs.JudgedAnswers.{answer_of, plain_refused, own_fault}
use Rattle.verify.proofs.JudgedSound.{judged_sound}
use Rattle.verify.proofs.PassLaws.{judged_through}
use Rattle.verify.proofs.UnitRuns.{wanted_of}
use Rattle.verify.proofs.ReadyLemmas.{is_ready}
use Rattle.verify.specs.Ready.{AreMade}
use Rattle.insn.specs.Program.{slots_of}
use Rattle.verify.proofs.verifier.verify.Goals as goal

pub of-requires : goal.of-requires
of-requires c =
    let accepted : judged c.args.program ≡ None = subst (λ (r : Result (Unit {0}) VerifyError). Answers (judged c.args.program) r) c.in-Ok.is c.check.ensures.judged in
    let made = subst (λ (r : Result (Unit {0}) VerifyError). IfOk r (λ _. AreMade c.args.program c.check.new.codes.items 0 (length (slots_of c.args.program)))) c.in-Ok.is c.check.ensures.made in
    let long = subst (λ (r : Result (Unit {0}) VerifyError). IfOk r (λ _. length c.check.new.codes.items ≡ length (slots_of c.args.program))) c.in-Ok.is c.check.ensures.long in
    record {
      sound = record {
        sound = judged_sound c.args.program c.recall_program.ensures.well c.recall_program.ensures.some accepted;
        ready = is_ready c.args.program c.check.new.codes.items c.paired.result.items c.recall_program.ensures.well c.recall_program.ensures.some accepted made long c.paired.ensures.paired c.paired.ensures.long;
        bound = let most = c.recall_program.ensures.bound in let same = c.paired.ensures.long in omega (arith, long, most, same);
      };
    }

pub returns-in-Ok-clause-accepted : goal.returns-in-Ok-clause-accepted
returns-in-Ok-clause-accepted c = ap judged c.of.ensures ∙ subst (λ (r : Result (Unit {0}) VerifyError). Answers (judged c.args.program) r) c.in-Ok.is c.check.ensures.judged

pub returns-in-Ok-clause-sound : goal.returns-in-Ok-clause-sound
returns-in-Ok-clause-sound c =
    let accepted : judged c.args.program ≡ None = subst (λ (r : Result (Unit {0}) VerifyError). Answers (judged c.args.program) r) c.in-Ok.is c.check.ensures.judged in
    subst (λ (program : List Insn). IsSound program) (sym c.of.ensures) (judged_sound c.args.program c.recall_program.ensures.well c.recall_program.ensures.some accepted)

pub returns-in-Ok-clause-plain : goal.returns-in-Ok-clause-plain
returns-in-Ok-clause-plain c = λ plain. tt

pub returns-in-Ok-clause-unstructural : goal.returns-in-Ok-clause-unstructural
returns-in-Ok-clause-unstructural c = λ none. tt

pub returns-in-Ok-clause-first : goal.returns-in-Ok-clause-first
returns-in-Ok-clause-first c = λ none. tt

pub returns-in-Ok-clause-passed : goal.returns-in-Ok-clause-passed
returns-in-Ok-clause-passed c =
    subst (λ (program : List Insn). ComesThrough program) (sym c.of.ensures)
    (judged_through c.args.program (subst (λ (r : Result (Unit {0}) VerifyError). Answers (judged c.args.program) r) c.in-Ok.is c.check.ensures.judged))

pub returns-in-Err-clause-refused : goal.returns-in-Err-clause-refused
returns-in-Err-clause-refused c = wanted_of (judged c.args.program) c.check.result c.in-Err.fault c.in-Err.is c.check.ensures.judged

pub returns-in-Err-clause-plain : goal.returns-in-Err-clause-plain
returns-in-Err-clause-plain c = λ plain. plain_refused c.args.program c.in-Err.fault c.recall_program.ensures.well plain (returns-in-Err-clause-refused c)

pub returns-in-Err-clause-first : goal.returns-in-Err-clause-first
returns-in-Err-clause-first c = λ none. answer_of c.args.program c.in-Err.fault none (returns-in-Err-clause-refused c)

pub returns-in-Err-clause-unstructural : goal.returns-in-Err-clause-unstructural
returns-in-Err-clause-unstructural c = λ none. own_fault c.args.program c.in-Err.fault (returns-in-Err-clause-first c none)
