-- Lemmas about bytecode that is longer than any program.
use Rattle.std.proofs.Common.{ℕ, ◌≡◌, ◌∙◌, ◌++◌, ◌*◌, ◌≢◌, Bool, true, false, List, length, take, drop, ap, refl, subst, sym}
use Rattle.std.specs.Borrow.{Bor}
use Rattle.std.specs.declared.alloc.Global.{Global}
use Rattle.std.specs.Prelude.{Option, None, Some, IfSome, String, option_map, replicate}
use Rattle.std.proofs.lemmas.List.{length-replicate}
use Rattle.codec.specs.declared.fault.CodecError.{CodecError}
use Rattle.codec.specs.declared.fault.CodecError.TheVariants.{At, Memory as NoMemory}
use Rattle.codec.specs.declared.fault.CodecFault.{CodecFault}
use Rattle.cli_words.specs.declared.tasks.Notation.TheVariants.{Bytecode}
use Rattle.cli_words.specs.declared.tasks.Task.{Task}
use Rattle.cli_words.specs.declared.tasks.Task.TheVariants.{Check, Disassemble}
use Rattle.hex.specs.Hex.{encode_lower}
use Rattle.cli_tasks.specs.Faults.{IsTold, IsUnjudged, Stops, fault_of_bytes}
use Rattle.cli_tasks.specs.TaskHints.{IsHintBy, IsHintOf}
use Rattle.cli_tasks.specs.Hints.{hint_behind, seems_behind}
use Rattle.cli_tasks.specs.Reading.{IsTooLong}
use Rattle.cli_tasks.specs.ProgramRefusals.{RefusesBytes}
use Rattle.cli_tasks.specs.Seeming.{seems_at_first, seems_of}
use Rattle.cli_tasks.specs.Serving.{IsRefused, first_name}
use Rattle.cli_tasks.specs.Whys.{TellsWhy, TellsWhyOf, is_explained, seems_line, Nothing}
use Rattle.cli_tasks.specs.declared.failure.TaskFailure.{TaskFailure}
use Rattle.cli_tasks.specs.declared.failure.TaskFailure.TheVariants.{Read, Text, Refused, Write, Memory}
use Rattle.cli_tasks.specs.declared.hint.Hint.{Hint}
use Rattle.cli_tasks.specs.declared.hint.Hint.TheVariants.{Seems}
use Rattle.cli_tasks.specs.declared.refusal.InputRefusal.{InputRefusal}
use Rattle.cli_tasks.specs.declared.refusal.InputRefusal.TheVariants.{Codec, Object, Verifier, Assembly, Table, Scenario, Setting, Trace, Threads, Accesses, Tolerated, RuleCall, LongSearch, LongScenario, Stranger, NotText, Memory as NoMemoryLeft}
use Rattle.streams.specs.Names.{shown}
use Rattle.streams.specs.Reading.{AreBytes}
use Rattle.cli_report.specs.Bytecode.{bytecode_told, unit_told}

-- There are bytes of the given number that agree with what is known of the file.
pub bytes_of : (known : Option (List ℕ)) (number : ℕ) (front : List ℕ) → IfSome known (λ all. (length all ≡ number) × (take 32768 front ≡ take 32768 all)) → (bytes : List ℕ) × AreBytes known bytes × (length bytes ≡ number)
bytes_of None number front is = (replicate number 0, tt, length-replicate number 0)
bytes_of (Some all) number front is = (all, refl, is.0)

-- ---- bytes that agree with the file in the first 32,768

-- Both seem to be the same.
seems_same : (front all : List ℕ) → take 32768 front ≡ take 32768 all → seems_at_first front ≡ seems_at_first all
unfolding seems_at_first
seems_same front all same = ap seems_of same

-- The report on a unit is the same for both.
unit_same : (name front all : List ℕ) (f : CodecFault) (unit : ℕ) → take 32768 front ≡ take 32768 all → bytecode_told name front f unit ≡ bytecode_told name all f unit
unfolding bytecode_told
unit_same name front all f unit same = ap (λ bytes. unit_told name f unit (encode_lower (take 8 (drop (8 * unit) bytes)))) same

front_says : (error : CodecError) (name : Option (List ℕ)) (front all text : List ℕ) → take 32768 front ≡ take 32768 all
    → IfSome name (λ n. TellsWhy (Codec error) Nothing n front text) → IfSome name (λ n. TellsWhy (Codec error) Nothing n all text)
front_says error None front all text same says = tt
front_says (At f unit) (Some n) front all text same says =
    says ∙ (ap (λ l. seems_line l ++ bytecode_told n front f unit) (seems_same front all same) ∙ ap (λ t. seems_line (seems_at_first all) ++ t) (unit_same n front all f unit same))
front_says NoMemory (Some n) front all text same says = says

-- ---- why they are rejected

hint_told : (task : Task) (known : Option (List ℕ)) (number : ℕ) (front : List ℕ) (error : CodecError) (hint : Option Hint) → is_explained task ≡ true
    → IfSome known (λ all. (length all ≡ number) × (take 32768 front ≡ take 32768 all)) → TellsWhyOf (Codec error) Nothing (first_name task) front (hint_behind hint)
    → IfSome known (λ all. IsHintOf (Codec error) task all all hint)
hint_told task None number front error hint is same says = tt
hint_told task (Some all) number front error hint is same says =
    subst (λ (own : Bool). IsHintBy own (Codec error) task all all hint) (sym is) (front_says error (shown (first_name task)) front all (hint_behind hint) same.1 says)

hint_plain : (task : Task) (known : Option (List ℕ)) (number : ℕ) (front : List ℕ) (error : CodecError) → is_explained task ≡ false
    → IfSome known (λ all. (length all ≡ number) × (take 32768 front ≡ take 32768 all)) → IfSome known (λ all. IsHintOf (Codec error) task all all (seems_behind (Codec error) front))
hint_plain task None number front error is same = tt
hint_plain task (Some all) number front error is same =
    subst (λ (own : Bool). IsHintBy own (Codec error) task all all (seems_behind (Codec error) front)) (sym is) (ap (option_map Seems) (seems_same front all same.1))

-- Bytes that are too many stop the task, without a report. Only their number matters.
long_plain : (unread : Type 0) (task : Task) (known : Option (List ℕ)) (number : ℕ) (front : List ℕ) (error : CodecError) (file : Bor (List ℕ)) → is_explained task ≡ false
    → IfSome known (λ all. (length all ≡ number) × (take 32768 front ≡ take 32768 all)) → ((bytes : List ℕ) → length bytes ≡ number → RefusesBytes bytes error)
    → Stops unread (IsTooLong task known) file.now (fault_of_bytes (Codec error) file front)
long_plain unread task known number front error file is same refuses =
    let own = bytes_of known number front same in
    ((λ e. cc), ((own.0, own.1, refuses own.0 own.2), hint_plain task known number front error is same))

long_told : (unread : Type 0) (task : Task) (known : Option (List ℕ)) (number : ℕ) (front : List ℕ) (error : CodecError) (file : Bor (List ℕ)) (fault : TaskFailure) → file.now ≡ first_name task
    → is_explained task ≡ true → IfSome known (λ all. (length all ≡ number) × (take 32768 front ≡ take 32768 all)) → ((bytes : List ℕ) → length bytes ≡ number → RefusesBytes bytes error)
    → IsTold (Codec error) file (TellsWhyOf (Codec error) Nothing file.now front) fault → Stops unread (IsTooLong task known) file.now fault
long_told unread task known number front error file (Read own) named is same refuses told = absurd told
long_told unread task known number front error file (Text own) named is same refuses told = absurd (let e = told.0 in cc)
long_told unread task known number front error file (Refused own hint) named is same refuses told =
    let bytes = bytes_of known number front same in
    let P : InputRefusal → Type 0 = λ r. (r ≢ NotText) × IsTooLong task known r hint in
    subst P (sym told.0) (
      told.1,
      (
        (bytes.0, bytes.1, refuses bytes.0 bytes.2),
        hint_told task known number front error hint is same (subst (λ (n : List ℕ). TellsWhyOf (Codec error) Nothing n front (hint_behind hint)) named told.3),
      ),
    )
long_told unread task known number front error file Write named is same refuses told = absurd told
long_told unread task known number front error file Memory named is same refuses told = tt

pub long_first : (unread : Type 0) (task : Task) (known : Option (List ℕ)) (number : ℕ) (front : List ℕ) (error : CodecError) (file : Bor (List ℕ)) (fault : TaskFailure) → file.now ≡ first_name task
    → IfSome known (λ all. (length all ≡ number) × (take 32768 front ≡ take 32768 all)) → ((bytes : List ℕ) → length bytes ≡ number → RefusesBytes bytes error)
    → IsUnjudged (is_explained task) (Codec error) file front fault → Stops unread (IsTooLong task known) file.now fault
long_first unread task known number front error file fault named same refuses told = by_report (is_explained task) refl told where
  by_report : (reported : Bool) → is_explained task ≡ reported → IsUnjudged reported (Codec error) file front fault → Stops unread (IsTooLong task known) file.now fault
  by_report false is plain =
      subst (λ (f : TaskFailure). Stops unread (IsTooLong task known) file.now f) (sym plain) (long_plain unread task known number front error file is same refuses)
  by_report true is says = long_told unread task known number front error file fault named is same refuses says

-- ---- tasks whose first file is bytecode

pub check_long : (unread : Type 0) (file : String Global) (context : Option (String Global)) (explained traced : Bool) (known : Option (List ℕ)) (name : List ℕ) (fault : TaskFailure)
    → Stops unread (IsTooLong (Check file Bytecode context explained traced) known) name fault → Stops unread (IsRefused (Check file Bytecode context explained traced) known) name fault
check_long unread file context explained traced known name (Read own) stops = stops
check_long unread file context explained traced known name (Text own) stops = absurd stops.0
check_long unread file context explained traced known name (Refused (Codec error) hint) stops = (stops.0, ((λ e. cc), stops.1.0, stops.1.1))
check_long unread file context explained traced known name (Refused (Object fault) hint) stops = absurd stops.1
check_long unread file context explained traced known name (Refused (Verifier fault) hint) stops = absurd stops.1
check_long unread file context explained traced known name (Refused (Assembly error) hint) stops = absurd stops.1
check_long unread file context explained traced known name (Refused (Table error) hint) stops = absurd stops.1
check_long unread file context explained traced known name (Refused (Scenario error) hint) stops = absurd stops.1
check_long unread file context explained traced known name (Refused (Setting error) hint) stops = absurd stops.1
check_long unread file context explained traced known name (Refused (Trace error) hint) stops = absurd stops.1
check_long unread file context explained traced known name (Refused (Threads error) hint) stops = absurd stops.1
check_long unread file context explained traced known name (Refused (Accesses fault) hint) stops = absurd stops.1
check_long unread file context explained traced known name (Refused Tolerated hint) stops = absurd stops.1
check_long unread file context explained traced known name (Refused (RuleCall unit) hint) stops = absurd stops.1
check_long unread file context explained traced known name (Refused (LongSearch steps) hint) stops = absurd stops.1
check_long unread file context explained traced known name (Refused LongScenario hint) stops = absurd stops.1
check_long unread file context explained traced known name (Refused (Stranger general generals) hint) stops = absurd stops.1
check_long unread file context explained traced known name (Refused NotText hint) stops = absurd stops.1
check_long unread file context explained traced known name (Refused NoMemoryLeft hint) stops = absurd stops.1
check_long unread file context explained traced known name Write stops = absurd stops
check_long unread file context explained traced known name Memory stops = tt

pub listing_long : (unread : Type 0) (file : String Global) (units explained : Bool) (known : Option (List ℕ)) (name : List ℕ) (fault : TaskFailure)
    → Stops unread (IsTooLong (Disassemble file Bytecode units explained) known) name fault → Stops unread (IsRefused (Disassemble file Bytecode units explained) known) name fault
listing_long unread file units explained known name (Read own) stops = stops
listing_long unread file units explained known name (Text own) stops = absurd stops.0
listing_long unread file units explained known name (Refused (Codec error) hint) stops = (stops.0, ((λ e. cc), stops.1.0, stops.1.1))
listing_long unread file units explained known name (Refused (Object fault) hint) stops = absurd stops.1
listing_long unread file units explained known name (Refused (Verifier fault) hint) stops = absurd stops.1
listing_long unread file units explained known name (Refused (Assembly error) hint) stops = absurd stops.1
listing_long unread file units explained known name (Refused (Table error) hint) stops = absurd stops.1
listing_long unread file units explained known name (Refused (Scenario error) hint) stops = absurd stops.1
listing_long unread file units explained known name (Refused (Setting error) hint) stops = absurd stops.1
listing_long unread file units explained known name (Refused (Trace error) hint) stops = absurd stops.1
listing_long unread file units explained known name (Refused (Threads error) hint) stops = absurd stops.1
listing_long unread file units explained known name (Refused (Accesses fault) hint) stops = absurd stops.1
listing_long unread file units explained known name (Refused Tolerated hint) stops = absurd stops.1
listing_long unread file units explained known name (Refused (RuleCall unit) hint) stops = absurd stops.1
listing_long unread file units explained known name (Refused (LongSearch steps) hint) stops = absurd stops.1
listing_long unread file units explained known name (Refused LongScenario hint) stops = absurd stops.1
listing_long unread file units explained known name (Refused (Stranger general generals) hint) stops = absurd stops.1
listing_long unread file units explained known name (Refused NotText hint) stops = absurd stops.1
listing_long unread file units explained known name (Refused NoMemoryLeft hint) stops = absurd stops.1
listing_long unread file units explained known name Write stops = absurd stops
listing_long unread file units explained known name Memory stops = tt
