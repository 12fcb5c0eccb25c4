-- Lemmas about reading a schedule from the front of its file.
use Rattle.std.proofs.Common.{ℕ, ◌≡◌, ◌∙◌, ◌<◌, ◌≤◌, Bool, true, false, List, [], length, take, ap, arith, refl, subst, sym}
use Rattle.std.specs.Borrow.{Bor}
use Rattle.std.specs.Prelude.{nat_le, Option, None, Some, IfSome, Ok, option_map}
use Rattle.std.proofs.lemmas.Bool.{leb-false, leb-true}
use Rattle.std.proofs.lemmas.List.{append-nil, take-append-le}
use Rattle.world.specs.declared.schedule.Repeat.{Repeat}
use Rattle.trace.specs.Schedules.{schedule_told}
use Rattle.trace.specs.declared.fault.TraceError.TheVariants.{At, Write, Memory}
use Rattle.cli_tasks.specs.Faults.{IsToldIf, Stops}
use Rattle.cli_tasks.specs.Whys.{TellsWhy, TellsWhyOf, Schedule}
use Rattle.streams.specs.Names.{shown}
use Rattle.cli_report.specs.Chronicles.{schedule_line_told, schedule_told as schedule_why}
use Rattle.cli_report.specs.Lines.{line_at}
use Rattle.streams.specs.Reading.{BeginsSo, IsFront, AreBytes}
use Rattle.cli_tasks.specs.Refusals.{RefusesSchedule, RefusesText}
use Rattle.cli_tasks.specs.Serving.{IsScheduleOf, IsScheduleRefused, IsScheduleTold}
use Rattle.cli_tasks.specs.declared.failure.TaskFailure.{TaskFailure}
use Rattle.cli_tasks.specs.declared.refusal.InputRefusal.{InputRefusal}
use Rattle.cli_tasks.specs.declared.refusal.InputRefusal.TheVariants as refusal
use Rattle.cli_tasks.proofs.FilesLemmas.{second_told}
use Rattle.cli_tasks.proofs.WhyLemmas.{stops_later, told_weaker}

-- There is a whole file that begins with the front that was read.
all_of : (most : ℕ) (known : Option (List ℕ)) (front : List ℕ) → IsFront most known front → (all : List ℕ) × AreBytes known all × BeginsSo most all front
all_of most None front begins = (front, tt, record { rest = []; split = sym (append-nil front); whole = λ few. refl })
all_of most (Some all) front begins = (all, refl, begins)

-- If every file with this front gives the same schedule, it is the schedule in the second file.
pub front_told : {R : Type 0} (bytes : R → Option (List ℕ)) (second : Option R) (own : R) (front : List ℕ) (schedule : List (List Repeat))
    → second ≡ Some own → IsFront 1048576 (bytes own) front → ((all : List ℕ) → BeginsSo 1048576 all front → schedule_told all ≡ Ok schedule)
    → IsScheduleOf (option_map bytes second) schedule
front_told bytes second own front schedule is begins told =
    let all = all_of 1048576 (bytes own) front begins in
    second_told bytes second own all.0 schedule is all.1 (told all.0 all.2)

-- ---- why the front gives no schedule

-- The front and the whole file agree in the first 1,048,576 bytes.
same_front : (all front : List ℕ) → BeginsSo 1048576 all front → take 1048576 front ≡ take 1048576 all
same_front all front begins = by_length (nat_le (length front) 1048576) refl where
  by_length : (few : Bool) → nat_le (length front) 1048576 ≡ few → take 1048576 front ≡ take 1048576 all
  by_length true is = ap (take 1048576) (sym (begins.whole (leb-true (length front) 1048576 is)))
  by_length false is = let more : 1048576 < length front = leb-false (length front) 1048576 is in
      let long : 1048576 ≤ length front = omega (arith, more) in rw (begins.split, take-append-le 1048576 front begins.rest long) refl

-- A report on the front is also a report on the whole file.
front_says : (cause : InputRefusal) (name : Option (List ℕ)) (front all text : List ℕ) → take 1048576 front ≡ take 1048576 all → RefusesText RefusesSchedule all cause
    → IfSome name (λ n. TellsWhy cause Schedule n front text) → IfSome name (λ n. TellsWhy cause Schedule n all text)
unfolding schedule_why
front_says cause None front all text same refuses says = tt
front_says (refusal.Trace (At f line)) (Some n) front all text same refuses says = says ∙ ap (λ own. schedule_line_told n line (line_at own line)) same
front_says (refusal.Trace Write) (Some n) front all text same refuses says = says
front_says (refusal.Trace Memory) (Some n) front all text same refuses says = says
front_says refusal.NotText (Some n) front all text same refuses says = says
front_says refusal.Memory (Some n) front all text same refuses says = says
front_says (refusal.Codec error) (Some n) front all text same refuses says = absurd refuses
front_says (refusal.Object fault) (Some n) front all text same refuses says = absurd refuses
front_says (refusal.Verifier fault) (Some n) front all text same refuses says = absurd refuses
front_says (refusal.Assembly error) (Some n) front all text same refuses says = absurd refuses
front_says (refusal.Table error) (Some n) front all text same refuses says = absurd refuses
front_says (refusal.Scenario error) (Some n) front all text same refuses says = absurd refuses
front_says (refusal.Setting error) (Some n) front all text same refuses says = absurd refuses
front_says (refusal.Threads error) (Some n) front all text same refuses says = absurd refuses
front_says (refusal.Accesses fault) (Some n) front all text same refuses says = absurd refuses
front_says refusal.Tolerated (Some n) front all text same refuses says = absurd refuses
front_says (refusal.RuleCall unit) (Some n) front all text same refuses says = absurd refuses
front_says (refusal.LongSearch steps) (Some n) front all text same refuses says = absurd refuses
front_says refusal.LongScenario (Some n) front all text same refuses says = absurd refuses
front_says (refusal.Stranger general generals) (Some n) front all text same refuses says = absurd refuses

pub front_refused : {R : Type 0} (bytes : R → Option (List ℕ)) (unread : Type 0) (explained : Bool) (second : Option R) (own : R) (front : List ℕ) (file : Bor (List ℕ)) (cause : InputRefusal) (fault : TaskFailure)
    → second ≡ Some own → IsFront 1048576 (bytes own) front → ((all : List ℕ) → BeginsSo 1048576 all front → RefusesText RefusesSchedule all cause)
    → IsToldIf explained cause file (TellsWhyOf cause Schedule file.now front) fault
    → Stops unread (IsScheduleTold explained file.now (option_map bytes second)) file.now fault
front_refused {R} bytes unread explained second own front file cause fault is begins refuses told =
    let all = all_of 1048576 (bytes own) front begins in
    let why : RefusesText RefusesSchedule all.0 cause = refuses all.0 all.2 in
    subst (λ (o : Option R). Stops unread (IsScheduleTold explained file.now (option_map bytes o)) file.now fault) (sym is)
    (stops_later unread explained (Some (bytes own)) (IsScheduleRefused (Some (bytes own))) Schedule all.0 cause file fault all.1 (λ other. (other, (all.0, all.1, why)))
    (told_weaker explained cause file _ (TellsWhyOf cause Schedule file.now all.0) fault (λ text. front_says cause (shown file.now) front all.0 text (same_front all.0 front all.2) why) told))
