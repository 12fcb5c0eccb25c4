-- What `rule` prints or rejects.
use Rattle.std.proofs.Common.{ℕ, ◌≡◌, List, inl, inr}
use Rattle.insn.specs.declared.insn.Insn.{Insn}
use Rattle.rule_program.specs.Calls.{IsFirstCall, IsRuleProgram}
use Rattle.rule_program.specs.Evaluation.{evaluated}
use Rattle.rule_program.specs.Majorities.{IsFirstLost, KeepsMajorities}
use Rattle.cli_words.specs.declared.tasks.Notation.{Notation}
use Rattle.cli_words.specs.declared.tasks.Notation.TheVariants.{Bytecode, Assembly as Texts, Object as Objects}
use Rattle.cli_tasks.specs.Programs.{HasProgram}
use Rattle.cli_tasks.specs.ProgramRefusals.{RefusesCheckIn}
use Rattle.cli_tasks.specs.RuleCertificates.{Certifies, IsCertificate, RefusesRule}
use Rattle.cli_tasks.specs.declared.refusal.InputRefusal.{InputRefusal}
use Rattle.cli_tasks.specs.declared.refusal.InputRefusal.TheVariants.{Codec, Object, Verifier, Assembly, Table, Scenario, Setting, Trace, Threads, Accesses, Tolerated, RuleCall, LongSearch, LongScenario, Stranger, NotText, Memory}

-- Proves that `check` never rejects a file because of a call.
no_call : (notation : Notation) (bytes : List ℕ) (unit : ℕ) → RefusesCheckIn notation bytes (RuleCall unit) → ⊥
no_call Bytecode bytes unit refuses = refuses
no_call Texts bytes unit refuses = refuses
no_call (Objects entry) bytes unit (inl (fault, is, none)) = absurd cc
no_call (Objects entry) bytes unit (inr (code, is, refuses)) = refuses

-- Proves that what `check` rejects, `rule` rejects.
pub of_check : (notation : Notation) (bytes : List ℕ) (refusal : InputRefusal) → RefusesCheckIn notation bytes refusal → RefusesRule notation bytes refusal
of_check notation bytes (Codec error) refuses = refuses
of_check notation bytes (Object fault) refuses = refuses
of_check notation bytes (Verifier fault) refuses = refuses
of_check notation bytes (Assembly error) refuses = refuses
of_check notation bytes (Table error) refuses = refuses
of_check notation bytes (Scenario error) refuses = refuses
of_check notation bytes (Setting error) refuses = refuses
of_check notation bytes (Trace error) refuses = refuses
of_check notation bytes (Threads error) refuses = refuses
of_check notation bytes (Accesses fault) refuses = refuses
of_check notation bytes Tolerated refuses = refuses
of_check notation bytes (RuleCall unit) refuses = absurd (no_call notation bytes unit refuses)
of_check notation bytes (LongSearch steps) refuses = refuses
of_check notation bytes LongScenario refuses = refuses
of_check notation bytes (Stranger general generals) refuses = refuses
of_check notation bytes NotText refuses = refuses
of_check notation bytes Memory refuses = refuses
