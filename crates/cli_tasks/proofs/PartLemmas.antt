-- A text whose bytes are not whole units of 8 is rejected.
use Rattle.std.proofs.Common.{ℕ, ◌≡◌, List, Ok}
use Rattle.asm.specs.Reading.{bytes_said}
use Rattle.cli_tasks.specs.ProgramRefusals.{RefusesSaid, RefusesUnits}
use Rattle.cli_tasks.specs.declared.refusal.InputRefusal.{InputRefusal}
use Rattle.cli_tasks.specs.declared.refusal.InputRefusal.TheVariants.{Codec, Object, Verifier, Assembly, Table, Scenario, Setting, Trace, Threads, Accesses, Tolerated, RuleCall, LongSearch, LongScenario, Stranger, NotText, Memory}

pub cut_said : (text bytes : List ℕ) (refusal : InputRefusal) → bytes_said text ≡ Ok bytes → RefusesUnits bytes refusal → RefusesSaid text refusal
cut_said text bytes (Codec error) said refuses = (bytes, said, refuses)
cut_said text bytes Memory said refuses = tt
cut_said text bytes (Object fault) said refuses = absurd refuses
cut_said text bytes (Verifier fault) said refuses = absurd refuses
cut_said text bytes (Assembly error) said refuses = absurd refuses
cut_said text bytes (Table error) said refuses = absurd refuses
cut_said text bytes (Scenario error) said refuses = absurd refuses
cut_said text bytes (Setting error) said refuses = absurd refuses
cut_said text bytes (Trace error) said refuses = absurd refuses
cut_said text bytes (Threads error) said refuses = absurd refuses
cut_said text bytes (Accesses fault) said refuses = absurd refuses
cut_said text bytes Tolerated said refuses = absurd refuses
cut_said text bytes (RuleCall unit) said refuses = absurd refuses
cut_said text bytes (LongSearch steps) said refuses = absurd refuses
cut_said text bytes LongScenario said refuses = absurd refuses
cut_said text bytes (Stranger general generals) said refuses = absurd refuses
cut_said text bytes NotText said refuses = absurd refuses
