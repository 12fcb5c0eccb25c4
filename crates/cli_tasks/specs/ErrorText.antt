-- Defines the text of a refusal, the reason why a task rejects its input: the code of the fault and where it is. An
-- unknown key is shown without control characters.
use Rattle.std.specs.Prelude.{ℕ, List, ◌++◌, codes, decimal}
use Rattle.asm.specs.ErrorText as asm
use Rattle.book.specs.ErrorText as book
use Rattle.codec.specs.ErrorText as codec
use Rattle.object.specs.ErrorText as elf
use Rattle.campaign_schedules.specs.ErrorText.{fault_told}
use Rattle.threads.specs.ErrorText as threads
use Rattle.trace.specs.ErrorText as trace
use Rattle.verify.specs.ErrorText as verify
use Rattle.cli_report.specs.ShownErrors.{scenario_text, setting_text}
use Rattle.cli_tasks.specs.declared.refusal.InputRefusal.{InputRefusal}
use Rattle.cli_tasks.specs.declared.refusal.InputRefusal.TheVariants.{Codec, Object, Verifier, Assembly, Table, Scenario, Setting, Trace, Threads, Accesses, Tolerated, RuleCall, LongSearch, LongScenario, Stranger, NotText, Memory}

-- Returns the text of a refusal: the code of the fault and, as far as there is one, where the fault is.
abbrev pub refusal_text : InputRefusal → List ℕ
refusal_text (Codec error) = codec.told error
refusal_text (Object fault) = elf.told fault
refusal_text (Verifier fault) = verify.told fault
refusal_text (Assembly error) = asm.told error
refusal_text (Table error) = book.told error
refusal_text (Scenario error) = scenario_text error
refusal_text (Setting error) = setting_text error
refusal_text (Trace error) = trace.told error
refusal_text (Threads error) = threads.told error
refusal_text (Accesses fault) = fault_told fault
refusal_text (Stranger general generals) = codes "G1 general " ++ decimal general
refusal_text Tolerated = codes "B5 more than 3m generals tolerate m traitors: no message table with at most m traitors breaks the rule"
refusal_text (RuleCall unit) = codes "R1 unit " ++ decimal unit
refusal_text (LongSearch steps) =
    codes "B6 the search takes some " ++ decimal steps ++ codes " steps, and at most 100000000 are allowed"
refusal_text LongScenario = codes "B7 the program of a traitor could have more than 4096 units"
refusal_text NotText = codes "not UTF-8"
refusal_text Memory = codes "out of memory"
