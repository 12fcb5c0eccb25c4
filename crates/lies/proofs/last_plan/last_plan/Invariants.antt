use Rattle.std.proofs.Common.{◌≡◌, map, take}
use Rattle.lies.specs.Limits.{AreCheap}
use Rattle.lies.specs.Plans.{last_choice}
use Rattle.lies.proofs.last_plan.last_plan.Given as goal

abbrev pub invariant-loop-general : goal.invariant-loop-general
invariant-loop-general l = record {
  items : l.choices.items ≡ map (last_choice l.sender l.aims) (take l.general-index l.off);
  cheap : AreCheap 0 l.choices.items;
}
