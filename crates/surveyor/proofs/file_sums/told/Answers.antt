use Rattle.std.proofs.Common.{ℕ, ◌+◌, List, arith, refl, subst, ◌∙◌}
use Rattle.surveyor.specs.Faults.{IsNoPart}
use Rattle.surveyor.proofs.SumLemmas.{told_more, no_part_told}
use Rattle.surveyor.proofs.file_sums.told.Goals as goal

pub loop-name-preserved : goal.loop-name-preserved
loop-name-preserved c =
    record {
      told = told_more c.args.asked.now c.loop-name.name-index (c.loop-name.name-index + 1) c.name-item.result c.loop-name.parts.head.items c.read_part.new.parts.head.items c.loop-name.first.now c.first_name-first.result.now c.as_slice.result.now c.loop-name.parts.findings.items
          c.read_part.new.parts.findings.items c.span_of.result (omega arith) (cc (c.name-item.is, c.deref-name-items.ensures.value)) refl (λ none. c.first_name-first.ensures.none none ∙ c.as_str-in-loop-name.ensures.value) c.first_name-first.ensures.some c.loop-name.invariant.told c.span_of.ensures c.in-Ok.ensures.read;
      text = c.first_name-first.utf8;
    }

pub returns-in-Err-clause-refused : goal.returns-in-Err-clause-refused
returns-in-Err-clause-refused c =
    no_part_told c.args.asked.now c.loop-name.name-index c.name-item.result c.loop-name.parts.head.items c.read_part.new.parts.head.items c.loop-name.first.now c.first_name-first.result.now c.as_slice.result.now c.loop-name.parts.findings.items c.read_part.new.parts.findings.items
    c.span_of.result c.in-Err.error c.refused.result (omega arith) (cc (c.name-item.is, c.deref-name-items.ensures.value)) (λ none. c.first_name-first.ensures.none none ∙ c.as_str-in-loop-name.ensures.value) c.first_name-first.ensures.some c.loop-name.invariant.told c.span_of.ensures c.in-Err.ensures.wrong
    (subst (λ (n : List ℕ). IsNoPart n c.first_name-first.result.now c.in-Err.error c.refused.result) c.as_str-in-Err.ensures.value c.refused.ensures)
