use Rattle.std.proofs.Common.{◌≡◌, ◌+◌, drop, map, [], length}
use Rattle.std.specs.List.{AllByRecursion}
use Rattle.insn.specs.Insn.{IsWell}
use Rattle.insn.specs.Program.{slots_of}
use Rattle.asm.specs.Views.{kept_view}
use Rattle.asm.specs.Program.{Read, insns_on}
use Rattle.asm.specs.Keeping.{Keeps, units_kept}
use Rattle.asm.proofs.resolver.resolve_all.Given as goal

abbrev pub invariant-loop-kept : goal.invariant-loop-kept
invariant-loop-kept l = record {
  slots : l.unit ≡ length (slots_of l.insns.items);
  room : l.unit + units_kept (drop l.kept-index l.reading.sources.items) ≡ units_kept l.reading.sources.items;
  done : (r : Read) → Keeps l.reading r → insns_on r.names l.unit l.insns.items (map kept_view (drop l.kept-index l.reading.sources.items)) ≡ insns_on r.names 0 [] r.sources;
  well : AllByRecursion IsWell l.insns.items;
}
