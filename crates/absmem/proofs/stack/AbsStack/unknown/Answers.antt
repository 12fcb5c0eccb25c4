use Rattle.std.proofs.Common.{◌∙◌, ap, ap₂, sym, subst, length, replicate, List, Bool, false}
use Rattle.std.proofs.lemmas.List.{length-replicate}
use Rattle.semantics.specs.declared.value.Cell.{Cell}
use Rattle.absmem.specs.declared.spill.Spill.{Spill}
use Rattle.absmem.specs.declared.spill.Spill.TheVariants.{Free}
use Rattle.absmem.specs.Describes.{Describes}
use Rattle.absmem.proofs.Keeping.{nothing_described, nothing_filed}
use Rattle.absmem.proofs.Whole.{no_bytes, no_spills}
use Rattle.absmem.proofs.stack.AbsStack.unknown.Goals as goal

pub invariant_of-result : goal.invariant_of-result
invariant_of-result c = record {
  cells = ap (λ flags. length flags) c.none.ensures ∙ length-replicate 512 false;
  blocks = ap (λ spills. length spills) c.free.ensures ∙ length-replicate 64 Free;
  filed = λ b lt. rw (c.free.ensures) (nothing_filed b lt);
}

pub returns-clause-holds : goal.returns-clause-holds
returns-clause-holds c =
    subst (λ (flags : List Bool). (cells : List Cell) → Describes (record { bytes = flags; spills = c.free.result }) cells) (sym c.none.ensures)
    (subst (λ (spills : List Spill). (cells : List Cell) → Describes (record { bytes = replicate 512 false; spills = spills }) cells) (sym c.free.ensures) nothing_described)

pub returns-clause-exact : goal.returns-clause-exact
returns-clause-exact c =
    ap₂ (λ (bytes : List Bool) (spills : List Spill). record { bytes = bytes; spills = spills }) (c.none.ensures ∙ no_bytes) (c.free.ensures ∙ no_spills)
