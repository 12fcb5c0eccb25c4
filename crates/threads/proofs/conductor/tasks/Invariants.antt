use Rattle.std.proofs.Common.{◌≡◌, ◌∷◌, [], List, length}
use Rattle.round.specs.Letters.{Letter}
use Rattle.world.specs.Kind.{each}
use Rattle.threads.specs.Duties.{duty_of}
use Rattle.threads.specs.Inboxes.{AreByGeneral}
use Rattle.threads.proofs.conductor.tasks.Given as goal

abbrev pub invariant-loop-general : goal.invariant-loop-general
invariant-loop-general g l = record {
  duties : (before : List (List Letter)) → g.D.Delivered.was_told l.scenario before l.told → l.tasks.items ≡ each l.general (λ h. duty_of g.D.Delivered.kind l.scenario before h ∷ []);
  count : length l.tasks.items ≡ l.general;
  own : AreByGeneral l.tasks.items;
}
