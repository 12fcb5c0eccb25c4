-- A general's context in a task names him and the round, and describes his relay. Also, one more general gets his task.
use Rattle.std.proofs.Common.{◌≡◌, ℕ, suc, ◌+◌, ◌<◌, ◌≤◌, List, [], ◌∷◌, ◌++◌, length, sym, ap, subst, ◌∙◌, Option, None, Some}
use Rattle.std.proofs.Math.Numerals.{add-one}
use Rattle.insn.specs.declared.insn.Insn.{Insn}
use Rattle.label.specs.declared.shape.Shape.{Shape}
use Rattle.label.specs.Relay.{IsShape}
use Rattle.semantics.specs.Relay.{oral}
use Rattle.outbox.specs.Contents.{Contents}
use Rattle.round.specs.Scenario.{Scenario, IsScenario, program_of, shape_of}
use Rattle.round.specs.Letters.{Letter}
use Rattle.round.specs.Contexts.{AreWords, context_of, IsToldTo, shape_told}
use Rattle.world.specs.Kind.{Kind, each}
use Rattle.world.specs.World.{oral_kind}
use Rattle.threads.specs.Duties.{Duty, begun_outbox, duty_of, empty_contents, outbox_by}
use Rattle.round.proofs.Contexts.{context_is, shape_is}
use Rattle.round.proofs.Loyal.{letter_is, own_is_told, shape_is_told}

pub task_is : (s : Scenario) (before : List (List Letter)) (g h round : ℕ) (bytes : List ℕ) → IsScenario s → g < s.generals → length before ≤ s.bound → h ≡ g → round ≡ suc (length before) → bytes ≡ context_of s before g
    → (length bytes ≡ 4096) × IsToldTo h round bytes × IsShape (shape_told h round bytes)
task_is s before g h round bytes is lt le own of_round told =
    let n : ℕ = suc (length before) in
    let mine : IsToldTo g n bytes = subst (λ (b : List ℕ). IsToldTo g n b) (sym told) (own_is_told s before g is lt le) in
    let then : IsToldTo g round bytes = subst (λ (r : ℕ). IsToldTo g r bytes) (sym of_round) mine in
    let e : shape_told h round bytes ≡ shape_of s g (suc (length before)) = (λ i. shape_told (own i) (of_round i) (told i)) ∙ shape_is_told s before g (suc (length before)) is in (
      ap length told ∙ (context_is s before g).long,
      subst (λ (k : ℕ). IsToldTo k round bytes) (sym own) then,
      subst (λ (shape : Shape). IsShape shape) (sym e) (shape_is s g (length before) is lt le),
    )

pub duties_more : (K : Kind) (s : Scenario) (before : List (List Letter)) (g : ℕ) (old new : List Duty) (task : Duty) → new ≡ old ++ task ∷ [] → old ≡ each g (λ h. duty_of K s before h ∷ []) → task ≡ duty_of K s before g
    → new ≡ each (g + 1) (λ h. duty_of K s before h ∷ [])
duties_more K s before g old new task items so_far is =
    let f : ℕ → List Duty = λ h. duty_of K s before h ∷ [] in
    items ∙ ((λ i. so_far i ++ is i ∷ []) ∙ ap (λ n. each n f) (sym (add-one g)))

-- The outbox with which a general begins an oral round follows from his context.
pub begun_is : (s : Scenario) (before : List (List Letter)) (g : ℕ) (o : Option (List Insn)) → IsScenario s → g < s.generals → length before ≤ s.bound → AreWords s before g
    → outbox_by g (suc (length before)) (context_of s before g) o None ≡ begun_outbox oral_kind s before g o
begun_is s before g None is lt le small = ap (λ (l : Letter). l.outbox) (letter_is s before g is lt le small)
begun_is s before g (Some program) is lt le small =
    ap (λ (shape : Shape). empty_contents (oral shape)) (shape_is_told s before g (suc (length before)) is)

-- So the task is his duty.
pub duty_is : (s : Scenario) (before : List (List Letter)) (g h round : ℕ) (bytes : List ℕ) (program : Option (List Insn)) (patience : Option ℕ) → IsScenario s → g < s.generals → length before ≤ s.bound → AreWords s before g
    → h ≡ g → round ≡ suc (length before) → bytes ≡ context_of s before g → program ≡ program_of s g → patience ≡ s.patience
    → record { general = h; round = round; context = bytes; program = program; patience = patience; outbox = outbox_by h round bytes program None } ≡ duty_of oral_kind s before g
duty_is s before g h round bytes program patience is lt le small own of_round told has within =
    (λ i. record { general = own i; round = of_round i; context = told i; program = has i; patience = within i; outbox = outbox_by (own i) (of_round i) (told i) (has i) None })
    ∙ ap (λ (o : Contents). record (duty_of oral_kind s before g) { outbox = o }) (begun_is s before g (program_of s g) is lt le small)
