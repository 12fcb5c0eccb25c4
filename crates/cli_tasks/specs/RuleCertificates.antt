-- Defines the certificate of a rule program, which says whether it keeps majorities, and why a file has none.
use Rattle.std.specs.Prelude.{ℕ, ◌≡◌, ◌-◌, ◌⊎◌, ◌++◌, min, List, codes}
use Rattle.std.specs.Fmt.{decimal}
use Rattle.std.specs.List.{flat_map}
use Rattle.insn.specs.declared.insn.Insn.{Insn}
use Rattle.rule_program.specs.Calls.{IsFirstCall, IsRuleProgram}
use Rattle.rule_program.specs.Evaluation.{evaluated}
use Rattle.rule_program.specs.Majorities.{IsFirstLost, KeepsMajorities}
use Rattle.cli_words.specs.declared.tasks.Notation.{Notation}
use Rattle.cli_tasks.specs.Programs.{HasProgram}
use Rattle.cli_tasks.specs.ProgramRefusals.{RefusesCheckIn}
use Rattle.cli_tasks.specs.declared.refusal.InputRefusal.{InputRefusal}
use Rattle.cli_tasks.specs.declared.refusal.InputRefusal.TheVariants.{RuleCall}

-- Returns the length of the longest lists that at most 13 generals combine: one order fewer than there are generals.
abbrev pub longest_list : ℕ → ℕ
longest_list generals = min (generals - 1) 12

-- Writes the line of a rule that keeps majorities among this many generals.
abbrev pub certified_line : ℕ → List ℕ
certified_line generals = codes "certified generals " ++ decimal generals ++ codes "\n"

-- Writes the line of a rule that loses the majority of a list: the majority, what the rule returns instead, and the
-- list.
abbrev pub uncertified_line : ℕ → ℕ → List ℕ → List ℕ
uncertified_line majority returned orders =
    codes "uncertified majority " ++ decimal majority ++ codes " result " ++ decimal returned ++ codes " list"
    ++ flat_map (λ order. codes " " ++ decimal order) orders ++ codes "\n"

-- States that the text says that a rule keeps majorities among this many generals, or shows the first list whose
-- majority it loses.
abbrev pub IsCertificate : (List ℕ → ℕ) → ℕ → List ℕ → Type 0
IsCertificate f generals text =
    (KeepsMajorities (longest_list generals) f × (text ≡ certified_line generals))
    ⊎ ((orders : List ℕ) × (majority : ℕ) × (returned : ℕ)
    × IsFirstLost (longest_list generals) f orders majority returned
    × (text ≡ uncertified_line majority returned orders))

-- States that the file contains a rule program in its notation, and that the text is its certificate.
abbrev pub Certifies : Notation → ℕ → List ℕ → List ℕ → Type 0
Certifies notation generals bytes text =
    (program : List Insn) × HasProgram notation bytes program × IsRuleProgram program
    × IsCertificate (evaluated program) generals text

-- States that the file contains no program that the verifier accepts, in its notation, that its program calls a helper,
-- or that memory ran out.
abbrev pub RefusesRule : Notation → List ℕ → InputRefusal → Type 0
RefusesRule notation bytes (RuleCall unit) =
    (program : List Insn) × HasProgram notation bytes program × IsFirstCall program unit
RefusesRule notation bytes refusal = RefusesCheckIn notation bytes refusal
