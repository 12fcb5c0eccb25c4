use Rattle.std.proofs.Common.{◌≡◌, Some, rules, string_bytes}
use Rattle.std.specs.Prelude.{slice_get}
use Rattle.verify.specs.declared.error.VerifyError.TheVariants.{At}
use Rattle.explain.specs.Units.{written_in}
use Rattle.explain.proofs.NoteLemmas.{starts_within}
use Rattle.explain.proofs.AboutLemmas.{on_ok, refused_so}
use Rattle.explain.proofs.lines.put_refused.Goals as goal

pub put_told-requires-clause-inside : goal.put_told-requires-clause-inside
put_told-requires-clause-inside c = starts_within c.args.program.now _ c.in-Some.insn c.in-Some.ensures.found

pub returns : goal.returns
returns c =
    let there : c.args.fault ≡ Some (At c.in-Some-At.reason c.in-Some-At.unit) = search rules in
    on_ok c.put_told.result _ _ (λ h. refused_so (written_in c.args.written.now) (string_bytes c.args.out.now) _ (slice_get c.args.states.now) c.args.program.now c.args.fault c.in-Some-At.reason c.in-Some-At.unit c.units.result c.in-Some.insn _ c.sentence_of-sentence.result
    there c.in-Some.ensures.found c.units.ensures.units c.known_by.ensures c.sentence_of-sentence.ensures h) c.put_told.ensures
