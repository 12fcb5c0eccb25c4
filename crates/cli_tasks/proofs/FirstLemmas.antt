-- Lemmas about a first file that is rejected, and its hint.
use Rattle.std.proofs.Common.{ℕ, ◌≡◌, ◌≢◌, ◌∙◌, Bool, List, inl, inr, refl, subst, sym, true, false}
use Rattle.std.specs.Borrow.{Bor}
use Rattle.std.specs.declared.alloc.Global.{Global}
use Rattle.std.specs.Prelude.{Option, None, Some, IfSome, String, string_bytes}
use Rattle.cli_words.specs.declared.tasks.Notation.{Notation}
use Rattle.cli_words.specs.declared.tasks.Notation.TheVariants.{Bytecode, Assembly as Texts, Object as Objects}
use Rattle.cli_words.specs.declared.tasks.Task.{Task}
use Rattle.cli_words.specs.declared.tasks.Accesses.TheVariants as accesses
use Rattle.cli_words.specs.declared.tasks.Task.TheVariants as task
use Rattle.cli_tasks.specs.Schedules.{is_chronicle}
use Rattle.cli_tasks.specs.Picturing.{is_toml}
use Rattle.cli_tasks.specs.Faults.{IsTold, IsUnjudged, Stops, fault_of_bytes}
use Rattle.cli_tasks.specs.TaskFaults.{Prevents, StopsFirst}
use Rattle.cli_tasks.specs.TaskHints.{IsHint, IsHintBy, IsSaid, asked_of, bytecode_in, explained_in}
use Rattle.cli_tasks.specs.Programs.{IsWhy}
use Rattle.cli_tasks.specs.Hints.{hint_behind, is_reported, seems_behind}
use Rattle.cli_tasks.specs.TaskRefusals.{Refuses}
use Rattle.cli_tasks.specs.Refusals.{RefusesAsked}
use Rattle.cli_tasks.specs.ProgramRefusals.{RefusesCheck, RefusesCheckIn, RefusesDisassembly, RefusesNotation, RefusesParts}
use Rattle.cli_tasks.specs.TableRefusals.{RefusesTreeIn}
use Rattle.cli_tasks.specs.Serving.{Files, IsRefused, first_name}
use Rattle.cli_tasks.specs.Whys.{TellsWhyOf, is_explained, Nothing}
use Rattle.streams.specs.Names.{shown}
use Rattle.streams.specs.Reading.{AreBytes}
use Rattle.cli_tasks.specs.declared.failure.TaskFailure.{TaskFailure}
use Rattle.cli_tasks.specs.declared.failure.TaskFailure.TheVariants.{Read, Text, Refused, Write, Memory as FaultMemory}
use Rattle.cli_tasks.specs.declared.hint.Hint.{Hint}
use Rattle.cli_tasks.specs.declared.hint.Hint.TheVariants.{Explained}
use Rattle.cli_tasks.specs.declared.refusal.InputRefusal.{InputRefusal}
use Rattle.cli_tasks.specs.declared.refusal.InputRefusal.TheVariants.{Codec, Object, Verifier, Assembly, Table, Scenario, Setting, Trace, Threads, Accesses, Tolerated, RuleCall, LongSearch, LongScenario, Stranger, NotText, Memory}
use Rattle.verify.specs.declared.error.VerifyError.{VerifyError}
use Rattle.cli_tasks.proofs.WhyLemmas.{nothing_said}

-- The hint is the one for the file's bytes, if these are known.
hint_known : (task : Task) (known : Option (List ℕ)) (bytes : List ℕ) (refusal : InputRefusal) (hint : Option Hint) → AreBytes known bytes → IsHint refusal task bytes hint
    → IfSome known (λ all. IsHint refusal task all hint)
hint_known task None bytes refusal hint are is = tt
hint_known task (Some all) bytes refusal hint are is = subst (λ (own : List ℕ). IsHint refusal task own hint) are is

-- A refusal with its hint stops the task.
pub refused_first : (task : Task) (known : Option (List ℕ)) (bytes : List ℕ) (refusal : InputRefusal) (hint : Option Hint) → AreBytes known bytes → Refuses task bytes refusal → refusal ≢ Memory
    → IsHint refusal task bytes hint → IsRefused task known refusal hint
refused_first task known bytes refusal hint are refuses other is = (other, (bytes, are, refuses), hint_known task known bytes refusal hint are is)

-- A refusal stops the task also if its hint says only what the bytes seem to be, or why an ELF object is at fault.
pub stopped_first : (task : Task) (known : Option (List ℕ)) (bytes own : List ℕ) (refusal : InputRefusal) (file : Bor (List ℕ)) → AreBytes known bytes
    → file.now ≡ first_name task → Refuses task bytes refusal → IsHint refusal task bytes (seems_behind refusal own)
    → Stops ⊥ (IsRefused task known) (first_name task) (fault_of_bytes refusal file own)
stopped_first task known bytes own (Codec error) file are named refuses is = ((λ e. cc), refused_first task known bytes (Codec error) _ are refuses (λ e. cc) is)
stopped_first task known bytes own (Object fault) file are named refuses is = ((λ e. cc), refused_first task known bytes (Object fault) _ are refuses (λ e. cc) is)
stopped_first task known bytes own (Verifier fault) file are named refuses is = ((λ e. cc), refused_first task known bytes (Verifier fault) _ are refuses (λ e. cc) is)
stopped_first task known bytes own (Assembly error) file are named refuses is = ((λ e. cc), refused_first task known bytes (Assembly error) _ are refuses (λ e. cc) is)
stopped_first task known bytes own (Table error) file are named refuses is = ((λ e. cc), refused_first task known bytes (Table error) _ are refuses (λ e. cc) is)
stopped_first task known bytes own (Scenario error) file are named refuses is = ((λ e. cc), refused_first task known bytes (Scenario error) _ are refuses (λ e. cc) is)
stopped_first task known bytes own (Setting error) file are named refuses is = ((λ e. cc), refused_first task known bytes (Setting error) _ are refuses (λ e. cc) is)
stopped_first task known bytes own (Trace error) file are named refuses is = ((λ e. cc), refused_first task known bytes (Trace error) _ are refuses (λ e. cc) is)
stopped_first task known bytes own (Threads error) file are named refuses is = ((λ e. cc), refused_first task known bytes (Threads error) _ are refuses (λ e. cc) is)
stopped_first task known bytes own (Accesses fault) file are named refuses is = ((λ e. cc), refused_first task known bytes (Accesses fault) _ are refuses (λ e. cc) is)
stopped_first task known bytes own Tolerated file are named refuses is = ((λ e. cc), refused_first task known bytes Tolerated _ are refuses (λ e. cc) is)
stopped_first task known bytes own (RuleCall unit) file are named refuses is = ((λ e. cc), refused_first task known bytes (RuleCall unit) _ are refuses (λ e. cc) is)
stopped_first task known bytes own (LongSearch steps) file are named refuses is = ((λ e. cc), refused_first task known bytes (LongSearch steps) _ are refuses (λ e. cc) is)
stopped_first task known bytes own LongScenario file are named refuses is = ((λ e. cc), refused_first task known bytes LongScenario _ are refuses (λ e. cc) is)
stopped_first task known bytes own (Stranger general generals) file are named refuses is = ((λ e. cc), refused_first task known bytes (Stranger general generals) _ are refuses (λ e. cc) is)
stopped_first task known bytes own NotText file are named refuses is = (refused_first task known bytes NotText _ are refuses (λ e. cc) is, named)
stopped_first task known bytes own Memory file are named refuses is = tt

-- ---- the explanation of a program

-- A task that must explain a program must explain its errors.
asks : (task : Task) (notation : Notation) → explained_in task ≡ Some notation → is_explained task ≡ true
asks (task.Check file own context true traced) notation is = refl
asks (task.Check file own context false traced) notation is = absurd cc
asks (task.Assemble file spelling target explained) notation is = absurd cc
asks (task.AssemblePartly file spelling target explained) notation is = absurd cc
asks (task.Disassemble file own units explained) notation is = absurd cc
asks (task.DisassemblePartly file own explained) notation is = absurd cc
asks (task.Book file) notation is = absurd cc
asks (task.ExplainDecisions file traitors) notation is = absurd cc
asks (task.Form n m c filling) notation is = absurd cc
asks (task.Refute n m c rule story staged) notation is = absurd cc
asks (task.Exhaust generals bound traitors commander rule staged) notation is = absurd cc
asks (task.Certify file own generals) notation is = absurd cc
asks (task.Play scenario schedule account explained) notation is = absurd cc
asks (task.Muster scenario explained) notation is = absurd cc
asks (task.Audit scenario chronicle explained) notation is = absurd cc
asks (task.Explore scenario most folder) notation is = absurd cc
asks (task.Tree file general marked drawing depth folded) notation is = absurd cc
asks (task.Draw scenario course) notation is = absurd cc
asks (task.Page scenario course target) notation is = absurd cc
asks (task.Retrace scenario chronicle) notation is = absurd cc

pub explained_first : (task : Task) (notation : Notation) (known : Option (List ℕ)) (bytes : List ℕ) (refusal : InputRefusal) (text : String Global) → AreBytes known bytes
    → Refuses task bytes refusal → asked_of refusal task ≡ Some notation → IsWhy notation bytes (string_bytes text)
    → Stops ⊥ (IsRefused task known) (first_name task) (Refused refusal (Some (Explained text)))
explained_first task notation known bytes (Verifier fault) text are refuses is why =
    let said : IsSaid (explained_in task) bytes None (Some (Explained text)) = subst (λ (o : Option Notation). IsSaid o bytes None (Some (Explained text))) (sym is) why in
    let hint : IsHint (Verifier fault) task bytes (Some (Explained text)) =
    subst (λ (own : Bool). IsHintBy own (Verifier fault) task bytes (bytecode_in task bytes) (Some (Explained text))) (sym (asks task notation is)) said in
    ((λ e. cc), refused_first task known bytes (Verifier fault) (Some (Explained text)) are refuses (λ e. cc) hint)
explained_first task notation known bytes (Codec error) text are refuses is why = absurd cc
explained_first task notation known bytes (Object fault) text are refuses is why = absurd cc
explained_first task notation known bytes (Assembly error) text are refuses is why = absurd cc
explained_first task notation known bytes (Table error) text are refuses is why = absurd cc
explained_first task notation known bytes (Scenario error) text are refuses is why = absurd cc
explained_first task notation known bytes (Setting error) text are refuses is why = absurd cc
explained_first task notation known bytes (Trace error) text are refuses is why = absurd cc
explained_first task notation known bytes (Threads error) text are refuses is why = absurd cc
explained_first task notation known bytes (Accesses fault) text are refuses is why = absurd cc
explained_first task notation known bytes Tolerated text are refuses is why = absurd cc
explained_first task notation known bytes (RuleCall unit) text are refuses is why = absurd cc
explained_first task notation known bytes (LongSearch steps) text are refuses is why = absurd cc
explained_first task notation known bytes LongScenario text are refuses is why = absurd cc
explained_first task notation known bytes (Stranger general generals) text are refuses is why = absurd cc
explained_first task notation known bytes NotText text are refuses is why = absurd cc
explained_first task notation known bytes Memory text are refuses is why = absurd cc

-- If no report is asked for, the hint is the one that is always printed.
pub unexplained : (task : Task) (bytes : List ℕ) (refusal : InputRefusal) → is_reported task refusal ≡ false → IsHint refusal task bytes (seems_behind refusal (bytecode_in task bytes))
unexplained task bytes refusal none =
    subst (λ (own : Bool). IsHintBy own refusal task bytes (bytecode_in task bytes) (seems_behind refusal (bytecode_in task bytes))) (sym none) refl

-- ---- the report on a fault

-- The refusal does not come from the verifier.
abbrev pub IsNotJudged : InputRefusal → Type 0
IsNotJudged (Verifier fault) = ⊥
IsNotJudged _ = Unit {0}

hint_told : (task : Task) (bytes : List ℕ) (refusal : InputRefusal) (hint : Option Hint) → is_reported task refusal ≡ true → IsNotJudged refusal
    → TellsWhyOf refusal Nothing (first_name task) (bytecode_in task bytes) (hint_behind hint) → IsHint refusal task bytes hint
hint_told task bytes (Verifier fault) hint is not told = absurd not
hint_told task bytes (Object fault) hint is not told = absurd cc
hint_told task bytes (Codec error) hint is not told = subst (λ (own : Bool). IsHintBy own (Codec error) task bytes (bytecode_in task bytes) hint) (sym is) told
hint_told task bytes (Assembly error) hint is not told = subst (λ (own : Bool). IsHintBy own (Assembly error) task bytes (bytecode_in task bytes) hint) (sym is) told
hint_told task bytes (Table error) hint is not told = subst (λ (own : Bool). IsHintBy own (Table error) task bytes (bytecode_in task bytes) hint) (sym is) told
hint_told task bytes (Scenario error) hint is not told = subst (λ (own : Bool). IsHintBy own (Scenario error) task bytes (bytecode_in task bytes) hint) (sym is) told
hint_told task bytes (Setting error) hint is not told = subst (λ (own : Bool). IsHintBy own (Setting error) task bytes (bytecode_in task bytes) hint) (sym is) told
hint_told task bytes (Trace error) hint is not told = subst (λ (own : Bool). IsHintBy own (Trace error) task bytes (bytecode_in task bytes) hint) (sym is) told
hint_told task bytes (Threads error) hint is not told = subst (λ (own : Bool). IsHintBy own (Threads error) task bytes (bytecode_in task bytes) hint) (sym is) told
hint_told task bytes (Accesses fault) hint is not told = subst (λ (own : Bool). IsHintBy own (Accesses fault) task bytes (bytecode_in task bytes) hint) (sym is) told
hint_told task bytes Tolerated hint is not told = subst (λ (own : Bool). IsHintBy own Tolerated task bytes (bytecode_in task bytes) hint) (sym is) told
hint_told task bytes (RuleCall unit) hint is not told = subst (λ (own : Bool). IsHintBy own (RuleCall unit) task bytes (bytecode_in task bytes) hint) (sym is) told
hint_told task bytes (LongSearch steps) hint is not told = subst (λ (own : Bool). IsHintBy own (LongSearch steps) task bytes (bytecode_in task bytes) hint) (sym is) told
hint_told task bytes LongScenario hint is not told = subst (λ (own : Bool). IsHintBy own LongScenario task bytes (bytecode_in task bytes) hint) (sym is) told
hint_told task bytes (Stranger general generals) hint is not told = subst (λ (own : Bool). IsHintBy own (Stranger general generals) task bytes (bytecode_in task bytes) hint) (sym is) told
hint_told task bytes NotText hint is not told = subst (λ (own : Bool). IsHintBy own NotText task bytes (bytecode_in task bytes) hint) (sym is) told
hint_told task bytes Memory hint is not told = subst (λ (own : Bool). IsHintBy own Memory task bytes (bytecode_in task bytes) hint) (sym is) told

pub told_first : (task : Task) (known : Option (List ℕ)) (bytes : List ℕ) (cause : InputRefusal) (file : Bor (List ℕ)) (fault : TaskFailure) → AreBytes known bytes
    → file.now ≡ first_name task → Refuses task bytes cause → is_reported task cause ≡ true → IsNotJudged cause
    → IsTold cause file (TellsWhyOf cause Nothing file.now (bytecode_in task bytes)) fault → Stops ⊥ (IsRefused task known) (first_name task) fault
told_first task known bytes cause file (Read own) are named refuses is not told = absurd told
told_first task known bytes cause file (Text own) are named refuses is not told =
    let reported : is_reported task NotText ≡ true = subst (λ (r : InputRefusal). is_reported task r ≡ true) told.0 is in
    let none : IsRefused task known NotText None =
    refused_first task known bytes NotText None are (subst (λ (r : InputRefusal). Refuses task bytes r) told.0 refuses) (λ e. cc)
    (hint_told task bytes NotText None reported tt (nothing_said (shown (first_name task)))) in
    (none, subst (λ (f : Bor (List ℕ)). f.now ≡ first_name task) (sym told.1) named)
told_first task known bytes cause file (Refused own hint) are named refuses is not told =
    let P : InputRefusal → Type 0 = λ r. (r ≢ NotText) × IsRefused task known r hint in
    let says : TellsWhyOf cause Nothing (first_name task) (bytecode_in task bytes) (hint_behind hint) =
    subst (λ (n : List ℕ). TellsWhyOf cause Nothing n (bytecode_in task bytes) (hint_behind hint)) named told.3 in
    subst P (sym told.0) (told.1, refused_first task known bytes cause hint are refuses told.2 (hint_told task bytes cause hint is not says))
told_first task known bytes cause file Write are named refuses is not told = absurd told
told_first task known bytes cause file FaultMemory are named refuses is not told = tt

-- A refusal stops the task, with or without the report in its hint.
unjudged_first : (task : Task) (known : Option (List ℕ)) (bytes : List ℕ) (cause : InputRefusal) (file : Bor (List ℕ)) (fault : TaskFailure) → AreBytes known bytes
    → file.now ≡ first_name task → Refuses task bytes cause → (is_reported task cause ≡ true → IsNotJudged cause)
    → IsUnjudged (is_reported task cause) cause file (bytecode_in task bytes) fault → Stops ⊥ (IsRefused task known) (first_name task) fault
unjudged_first task known bytes cause file fault are named refuses not told = by_report (is_reported task cause) refl told where
  by_report : (reported : Bool) → is_reported task cause ≡ reported → IsUnjudged reported cause file (bytecode_in task bytes) fault → Stops ⊥ (IsRefused task known) (first_name task) fault
  by_report false is plain =
      subst (λ (f : TaskFailure). Stops ⊥ (IsRefused task known) (first_name task) f) (sym plain)
      (stopped_first task known bytes (bytecode_in task bytes) cause file are named refuses (unexplained task bytes cause is))
  by_report true is says = told_first task known bytes cause file fault are named refuses is (not is) says

-- ---- refusals for which no program is explained

-- Reading a campaign never fails with a refusal of the verifier.
no_campaign : (plain : Bool) (bytes : List ℕ) (fault : VerifyError) → RefusesAsked plain bytes (Verifier fault) → ⊥
no_campaign true bytes fault refuses = refuses
no_campaign false bytes fault refuses = refuses

-- Reading a program never fails with a refusal of the verifier.
not_spelt : (code : List ℕ) (fault : VerifyError) → RefusesDisassembly code (Verifier fault) → ⊥
not_spelt code fault refuses = refuses

no_program : (notation : Notation) (bytes : List ℕ) (fault : VerifyError) → RefusesNotation notation bytes (Verifier fault) → ⊥
no_program Bytecode bytes fault refuses = refuses
no_program Texts bytes fault refuses = refuses
no_program (Objects entry) bytes fault (inl (other, is, none)) = absurd cc
no_program (Objects entry) bytes fault (inr (code, is, refuses)) = not_spelt code fault refuses

-- Reading a message table never fails with a refusal of the verifier.
no_tree : (own : Bool) (general : ℕ) (traitors bytes : List ℕ) (fault : VerifyError) → RefusesTreeIn own general traitors bytes (Verifier fault) → ⊥
no_tree true general traitors bytes fault refuses = refuses
no_tree false general traitors bytes fault refuses = refuses

-- Reading code that need not be a program never fails with a refusal of the verifier.
no_parts : (notation : Notation) (bytes : List ℕ) (fault : VerifyError) → RefusesParts notation bytes (Verifier fault) → ⊥
no_parts Bytecode bytes fault refuses = refuses
no_parts Texts bytes fault refuses = refuses
no_parts (Objects entry) bytes fault (inl (other, is, none)) = absurd cc
no_parts (Objects entry) bytes fault (inr (code, is, refuses)) = refuses

-- So only `check` fails with a refusal of the verifier, and then it explains the program if a report is asked for.
pub not_judged : (task : Task) (bytes : List ℕ) (refusal : InputRefusal) → Refuses task bytes refusal → is_reported task refusal ≡ true → asked_of refusal task ≡ None → IsNotJudged refusal
not_judged (task.Check file own context true traced) bytes (Verifier fault) refuses is none = absurd cc
not_judged (task.Check file own context false traced) bytes (Verifier fault) refuses is none = absurd cc
not_judged (task.Assemble file spelling target explained) bytes (Verifier fault) refuses is none = absurd refuses
not_judged (task.AssemblePartly file spelling target explained) bytes (Verifier fault) refuses is none = absurd refuses
not_judged (task.Disassemble file own units explained) bytes (Verifier fault) refuses is none = absurd (no_program own bytes fault refuses)
not_judged (task.DisassemblePartly file own explained) bytes (Verifier fault) refuses is none = absurd (no_parts own bytes fault refuses)
not_judged (task.Book file) bytes (Verifier fault) refuses is none = absurd refuses
not_judged (task.ExplainDecisions file traitors) bytes (Verifier fault) refuses is none = absurd refuses
not_judged (task.Form n m c None) bytes (Verifier fault) refuses is none = absurd refuses
not_judged (task.Form n m c (Some filling)) bytes (Verifier fault) refuses is none = absurd refuses
not_judged (task.Refute n m c rule story staged) bytes (Verifier fault) refuses is none = absurd refuses
not_judged (task.Exhaust generals bound traitors commander rule staged) bytes (Verifier fault) refuses is none = absurd refuses
not_judged (task.Certify file own generals) bytes (Verifier fault) refuses is none = absurd cc
not_judged (task.Play scenario schedule account explained) bytes (Verifier fault) refuses is none = absurd (no_campaign (is_chronicle account) bytes fault refuses)
not_judged (task.Muster scenario explained) bytes (Verifier fault) refuses is none = absurd (no_campaign true bytes fault refuses)
not_judged (task.Audit scenario chronicle explained) bytes (Verifier fault) refuses is none = absurd (no_campaign true bytes fault refuses)
not_judged (task.Explore scenario most folder) bytes (Verifier fault) refuses is none = absurd refuses
not_judged (task.Tree file general marked drawing depth folded) bytes (Verifier fault) refuses is none = absurd (no_tree (is_toml bytes) general marked.items bytes fault refuses)
not_judged (task.Draw scenario course) bytes (Verifier fault) refuses is none = absurd (no_campaign true bytes fault refuses)
not_judged (task.Page scenario course target) bytes (Verifier fault) refuses is none = absurd (no_campaign true bytes fault refuses)
not_judged (task.Retrace scenario (accesses.OfChronicle own)) bytes (Verifier fault) refuses is none = absurd (no_campaign true bytes fault refuses)
not_judged (task.Retrace scenario (accesses.Listed own)) bytes (Verifier fault) refuses is none = absurd refuses
not_judged task bytes (Codec error) refuses is none = tt
not_judged task bytes (Object fault) refuses is none = tt
not_judged task bytes (Assembly error) refuses is none = tt
not_judged task bytes (Table error) refuses is none = tt
not_judged task bytes (Scenario error) refuses is none = tt
not_judged task bytes (Setting error) refuses is none = tt
not_judged task bytes (Trace error) refuses is none = tt
not_judged task bytes (Threads error) refuses is none = tt
not_judged task bytes (Accesses fault) refuses is none = tt
not_judged task bytes Tolerated refuses is none = tt
not_judged task bytes (RuleCall unit) refuses is none = tt
not_judged task bytes (LongSearch steps) refuses is none = tt
not_judged task bytes LongScenario refuses is none = tt
not_judged task bytes (Stranger general generals) refuses is none = tt
not_judged task bytes NotText refuses is none = tt
not_judged task bytes Memory refuses is none = tt

pub unasked_first : (task : Task) (known : Option (List ℕ)) (bytes : List ℕ) (cause : InputRefusal) (file : Bor (List ℕ)) (fault : TaskFailure) → AreBytes known bytes
    → file.now ≡ first_name task → Refuses task bytes cause → asked_of cause task ≡ None
    → IsUnjudged (is_reported task cause) cause file (bytecode_in task bytes) fault → Stops ⊥ (IsRefused task known) (first_name task) fault
unasked_first task known bytes cause file fault are named refuses none told =
    unjudged_first task known bytes cause file fault are named refuses (λ is. not_judged task bytes cause refuses is none) told

-- ---- a rejected program that is read once more

-- The program is read once more only if the verifier rejected it and the task must explain it.
asked_in : (task : Task) (notation : Notation) (refusal : InputRefusal) → asked_of refusal task ≡ Some notation → explained_in task ≡ Some notation
asked_in task notation (Verifier fault) is = is
asked_in task notation (Codec error) is = absurd cc
asked_in task notation (Object fault) is = absurd cc
asked_in task notation (Assembly error) is = absurd cc
asked_in task notation (Table error) is = absurd cc
asked_in task notation (Scenario error) is = absurd cc
asked_in task notation (Setting error) is = absurd cc
asked_in task notation (Trace error) is = absurd cc
asked_in task notation (Threads error) is = absurd cc
asked_in task notation (Accesses fault) is = absurd cc
asked_in task notation Tolerated is = absurd cc
asked_in task notation (RuleCall unit) is = absurd cc
asked_in task notation (LongSearch steps) is = absurd cc
asked_in task notation LongScenario is = absurd cc
asked_in task notation (Stranger general generals) is = absurd cc
asked_in task notation NotText is = absurd cc
asked_in task notation Memory is = absurd cc

-- Code that is not the bytecode of a program is not rejected by the verifier.
unspelt : (code : List ℕ) (refusal : InputRefusal) → RefusesDisassembly code refusal → RefusesCheck code refusal × IsNotJudged refusal
unspelt code (Codec error) refuses = (refuses, tt)
unspelt code Memory refuses = (tt, tt)
unspelt code (Object fault) refuses = absurd refuses
unspelt code (Verifier fault) refuses = absurd refuses
unspelt code (Assembly error) refuses = absurd refuses
unspelt code (Table error) refuses = absurd refuses
unspelt code (Scenario error) refuses = absurd refuses
unspelt code (Setting error) refuses = absurd refuses
unspelt code (Trace error) refuses = absurd refuses
unspelt code (Threads error) refuses = absurd refuses
unspelt code (Accesses fault) refuses = absurd refuses
unspelt code Tolerated refuses = absurd refuses
unspelt code (RuleCall unit) refuses = absurd refuses
unspelt code (LongSearch steps) refuses = absurd refuses
unspelt code LongScenario refuses = absurd refuses
unspelt code (Stranger general generals) refuses = absurd refuses
unspelt code NotText refuses = absurd refuses

-- A file without a program is not rejected by the verifier.
by_notation : (notation : Notation) (bytes : List ℕ) (refusal : InputRefusal) → RefusesNotation notation bytes refusal → RefusesCheckIn notation bytes refusal × IsNotJudged refusal
by_notation Bytecode bytes refusal refuses = unspelt bytes refusal refuses
by_notation Texts bytes (Assembly error) refuses = (refuses, tt)
by_notation Texts bytes NotText refuses = (refuses, tt)
by_notation Texts bytes Memory refuses = (tt, tt)
by_notation Texts bytes (Codec error) refuses = absurd refuses
by_notation Texts bytes (Object fault) refuses = absurd refuses
by_notation Texts bytes (Verifier fault) refuses = absurd refuses
by_notation Texts bytes (Table error) refuses = absurd refuses
by_notation Texts bytes (Scenario error) refuses = absurd refuses
by_notation Texts bytes (Setting error) refuses = absurd refuses
by_notation Texts bytes (Trace error) refuses = absurd refuses
by_notation Texts bytes (Threads error) refuses = absurd refuses
by_notation Texts bytes (Accesses fault) refuses = absurd refuses
by_notation Texts bytes Tolerated refuses = absurd refuses
by_notation Texts bytes (RuleCall unit) refuses = absurd refuses
by_notation Texts bytes (LongSearch steps) refuses = absurd refuses
by_notation Texts bytes LongScenario refuses = absurd refuses
by_notation Texts bytes (Stranger general generals) refuses = absurd refuses
by_notation (Objects entry) bytes refusal (inl (fault, is, none)) = (inl (fault, is, none), subst (λ (r : InputRefusal). IsNotJudged r) (sym is) tt)
by_notation (Objects entry) bytes refusal (inr (code, is, refuses)) = let both = unspelt code refusal refuses in (inr (code, is, both.0), both.1)

checks_in : (task : Task) (notation : Notation) (bytes : List ℕ) (refusal : InputRefusal) → explained_in task ≡ Some notation → RefusesCheckIn notation bytes refusal → Refuses task bytes refusal
checks_in (task.Check file own context true traced) notation bytes refusal is refuses =
    let same : notation ≡ own = cc in subst (λ (n : Notation). RefusesCheckIn n bytes refusal) same refuses
checks_in (task.Check file own context false traced) notation bytes refusal is refuses = absurd cc
checks_in (task.Assemble file spelling target explained) notation bytes refusal is refuses = absurd cc
checks_in (task.AssemblePartly file spelling target explained) notation bytes refusal is refuses = absurd cc
checks_in (task.Disassemble file own units explained) notation bytes refusal is refuses = absurd cc
checks_in (task.DisassemblePartly file own explained) notation bytes refusal is refuses = absurd cc
checks_in (task.Book file) notation bytes refusal is refuses = absurd cc
checks_in (task.ExplainDecisions file traitors) notation bytes refusal is refuses = absurd cc
checks_in (task.Form n m c filling) notation bytes refusal is refuses = absurd cc
checks_in (task.Refute n m c rule story staged) notation bytes refusal is refuses = absurd cc
checks_in (task.Exhaust generals bound traitors commander rule staged) notation bytes refusal is refuses = absurd cc
checks_in (task.Certify file own generals) notation bytes refusal is refuses = absurd cc
checks_in (task.Play scenario schedule account explained) notation bytes refusal is refuses = absurd cc
checks_in (task.Muster scenario explained) notation bytes refusal is refuses = absurd cc
checks_in (task.Audit scenario chronicle explained) notation bytes refusal is refuses = absurd cc
checks_in (task.Explore scenario most folder) notation bytes refusal is refuses = absurd cc
checks_in (task.Tree file general marked drawing depth folded) notation bytes refusal is refuses = absurd cc
checks_in (task.Draw scenario course) notation bytes refusal is refuses = absurd cc
checks_in (task.Page scenario course target) notation bytes refusal is refuses = absurd cc
checks_in (task.Retrace scenario chronicle) notation bytes refusal is refuses = absurd cc

-- If reading the program once more fails, this failure stops the task too.
pub unread_first : (task : Task) (notation : Notation) (known : Option (List ℕ)) (bytes : List ℕ) (first refusal : InputRefusal) (file : Bor (List ℕ)) (fault : TaskFailure) → AreBytes known bytes
    → file.now ≡ first_name task → asked_of first task ≡ Some notation → RefusesNotation notation bytes refusal
    → IsUnjudged (is_reported task refusal) refusal file (bytecode_in task bytes) fault → Stops ⊥ (IsRefused task known) (first_name task) fault
unread_first task notation known bytes first refusal file fault are named is refuses told =
    let both = by_notation notation bytes refusal refuses in
    unjudged_first task known bytes refusal file fault are named (checks_in task notation bytes refusal (asked_in task notation first is) both.0) (λ reported. both.1) told

-- ---- why the task has no answer

stops_for : (unread : Type 0) (refused : InputRefusal → Option Hint → Type 0) (name : List ℕ) (fault : TaskFailure) → Stops ⊥ refused name fault → Stops unread refused name fault
stops_for unread refused name (Read file) stops = absurd stops.0
stops_for unread refused name (Text file) stops = stops
stops_for unread refused name (Refused cause hint) stops = stops
stops_for unread refused name Write stops = absurd stops
stops_for unread refused name FaultMemory stops = tt

pub prevented_first : (task : Task) (files : Files) (unread second_unread : Type 0) (bytes : List ℕ) (fault : TaskFailure) → AreBytes files.first bytes
    → StopsFirst task bytes fault → Prevents unread second_unread task files fault
prevented_first task files unread second_unread bytes fault are stops = inl (stops_for unread (IsRefused task files.first) (first_name task) fault (stops files.first are))

-- ---- a refusal without a report

pub quiet_first : (cause : InputRefusal) (file : Bor (List ℕ)) (own : List ℕ) (fault : TaskFailure) → cause ≢ Memory → fault ≡ fault_of_bytes cause file own → fault ≢ FaultMemory
quiet_first (Codec error) file own told other is e = (let z : FaultMemory ≡ Refused (Codec error) (seems_behind (Codec error) own) = sym e ∙ is in cc)
quiet_first (Object fault) file own told other is e = (let z : FaultMemory ≡ Refused (Object fault) (seems_behind (Object fault) own) = sym e ∙ is in cc)
quiet_first (Verifier fault) file own told other is e = (let z : FaultMemory ≡ Refused (Verifier fault) (seems_behind (Verifier fault) own) = sym e ∙ is in cc)
quiet_first (Assembly error) file own told other is e = (let z : FaultMemory ≡ Refused (Assembly error) (seems_behind (Assembly error) own) = sym e ∙ is in cc)
quiet_first (Table error) file own told other is e = (let z : FaultMemory ≡ Refused (Table error) (seems_behind (Table error) own) = sym e ∙ is in cc)
quiet_first (Scenario error) file own told other is e = (let z : FaultMemory ≡ Refused (Scenario error) (seems_behind (Scenario error) own) = sym e ∙ is in cc)
quiet_first (Setting error) file own told other is e = (let z : FaultMemory ≡ Refused (Setting error) (seems_behind (Setting error) own) = sym e ∙ is in cc)
quiet_first (Trace error) file own told other is e = (let z : FaultMemory ≡ Refused (Trace error) (seems_behind (Trace error) own) = sym e ∙ is in cc)
quiet_first (Threads error) file own told other is e = (let z : FaultMemory ≡ Refused (Threads error) (seems_behind (Threads error) own) = sym e ∙ is in cc)
quiet_first (Accesses fault) file own told other is e = (let z : FaultMemory ≡ Refused (Accesses fault) (seems_behind (Accesses fault) own) = sym e ∙ is in cc)
quiet_first Tolerated file own told other is e = (let z : FaultMemory ≡ Refused Tolerated (seems_behind Tolerated own) = sym e ∙ is in cc)
quiet_first (RuleCall unit) file own told other is e = (let z : FaultMemory ≡ Refused (RuleCall unit) (seems_behind (RuleCall unit) own) = sym e ∙ is in cc)
quiet_first (LongSearch steps) file own told other is e = (let z : FaultMemory ≡ Refused (LongSearch steps) (seems_behind (LongSearch steps) own) = sym e ∙ is in cc)
quiet_first LongScenario file own told other is e = (let z : FaultMemory ≡ Refused LongScenario (seems_behind LongScenario own) = sym e ∙ is in cc)
quiet_first (Stranger general generals) file own told other is e = (let z : FaultMemory ≡ Refused (Stranger general generals) (seems_behind (Stranger general generals) own) = sym e ∙ is in cc)
quiet_first NotText file own told other is e = (let z : FaultMemory ≡ Text file = sym e ∙ is in cc)
quiet_first Memory file own told other is e = other refl

pub asked_reports : (task : Task) (refusal : InputRefusal) (notation : Notation) → asked_of refusal task ≡ Some notation → is_reported task refusal ≡ true
asked_reports task (Verifier fault) notation is = asks task notation is
asked_reports task (Codec error) notation is = absurd cc
asked_reports task (Object fault) notation is = absurd cc
asked_reports task (Assembly error) notation is = absurd cc
asked_reports task (Table error) notation is = absurd cc
asked_reports task (Scenario error) notation is = absurd cc
asked_reports task (Setting error) notation is = absurd cc
asked_reports task (Trace error) notation is = absurd cc
asked_reports task (Threads error) notation is = absurd cc
asked_reports task (Accesses fault) notation is = absurd cc
asked_reports task Tolerated notation is = absurd cc
asked_reports task (RuleCall unit) notation is = absurd cc
asked_reports task (LongSearch steps) notation is = absurd cc
asked_reports task LongScenario notation is = absurd cc
asked_reports task (Stranger general generals) notation is = absurd cc
asked_reports task NotText notation is = absurd cc
asked_reports task Memory notation is = absurd cc
