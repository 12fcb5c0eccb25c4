-- The text of a drawn campaign: a scenario in TOML (docs/FORMATS.md, "Scenarios").
use Rattle.std.specs.Prelude.{ℕ, Bool, true, false, if◌then◌else◌, List, [], ◌++◌, flat_map, decimal, codes, Option, None, Some}
use Rattle.combine.specs.declared.campaign_rule.Rule.{Rule}
use Rattle.combine.specs.Names.{is_default}
use Rattle.combine.specs.Rule.{rule_name}
use Rattle.surveys.specs.declared.lie.Lie.{Lie}
use Rattle.surveys.specs.declared.lie.Lie.TheVariants.{Honest, Sway, Sign, Pass}
use Rattle.surveys.specs.declared.lie.LieValue.{LieValue}
use Rattle.surveys.specs.declared.lie.LieValue.TheVariants.{Number, Parity}
use Rattle.surveys.specs.declared.manner.Manner.{Manner}
use Rattle.surveys.specs.declared.manner.Manner.TheVariants.{Oral, Signed}
use Rattle.surveys.specs.Family.{Family}
use Rattle.surveys.specs.Plot.{Plot, Traitor}
use Rattle.surveys.specs.Plotting.{plot_of}

-- Writes what a statement sends: a number in decimal, or `r6`, the register that contains the parity of the board's
-- count.
abbrev pub said_text : LieValue → List ℕ
said_text (Number number) = decimal number
said_text Parity = codes "r6"

-- Writes a call of a helper with two arguments in assembly.
abbrev pub call_text : List ℕ → List ℕ → List ℕ → List ℕ
call_text first second helper =
    codes "mov r1, " ++ first ++ codes "\nmov r2, " ++ second ++ codes "\ncall " ++ helper ++ codes "\n"

-- Writes a statement of a traitor's program in assembly.
abbrev pub lie_text : Lie → List ℕ
lie_text (Honest receiver) = codes "mov r1, " ++ decimal receiver ++ codes "\ncall honest\n"
lie_text (Sway receiver said) = call_text (decimal receiver) (said_text said) (codes "sway")
lie_text (Sign said receivers) = call_text (said_text said) (decimal receivers) (codes "sign_order")
lie_text (Pass said receivers) = call_text (said_text said) (decimal receivers) (codes "pass_on")

-- Writes instructions that increment the count on the board and store the parity of the old count in r6, if the traitor
-- counts.
abbrev pub counting_text : Bool → List ℕ
counting_text true = codes "mov r1, 0\nmov r2, 1\ncall board_add\nmov r6, r0\nand r6, 1\n"
counting_text false = []

-- Writes the program of a traitor in assembly, made of his statements.
unfoldable pub program_text : Traitor → List ℕ
program_text t = counting_text t.counts ++ (flat_map lie_text t.lies ++ codes "mov r0, 0\nexit\n")

-- Writes the TOML key with the program of a traitor: `code` with the given bytecode, or `asm` with his statements in
-- assembly.
unfoldable pub source_text : Option (List ℕ) → Traitor → List ℕ
source_text None t = codes "\nasm = \"\"\"\n" ++ program_text t ++ codes "\"\"\"\n"
source_text (Some hex) t = codes "\ncode = \"" ++ hex ++ codes "\"\n"

-- Writes the TOML table of a traitor, with his number and his program.
unfoldable pub traitor_text : Option (List ℕ) → Traitor → List ℕ
traitor_text given t = codes "\n[[traitor]]\ngeneral = " ++ (decimal t.general ++ source_text given t)

-- Writes the TOML key `rule`, unless the rule is the default.
abbrev pub rule_text : Rule → List ℕ
rule_text rule = if is_default rule then [] else codes "rule = \"" ++ (rule_name rule ++ codes "\"\n")

-- Writes the TOML key for how orders are sent: `messages` if they are signed, and otherwise `rule`, unless it is the
-- default.
abbrev pub manner_text : Manner → List ℕ
manner_text (Oral rule) = rule_text rule
manner_text Signed = codes "messages = \"signed\"\n"

-- Writes the TOML key `patience`, the number of steps that a traitor may take in a round, if they are limited.
abbrev pub patience_text : Option ℕ → List ℕ
patience_text None = []
patience_text (Some steps) = codes "patience = " ++ decimal steps ++ codes "\n"

-- Writes the TOML keys `generals`, `bound`, `commander` and `order`.
abbrev pub numbers_text : Plot → List ℕ
numbers_text p =
    codes "generals = " ++ (decimal p.generals ++ (codes "\nbound = " ++ (decimal p.bound
    ++ (codes "\ncommander = " ++ (decimal p.commander ++ (codes "\norder = " ++ (decimal p.order ++ codes "\n")))))))

-- Writes a drawn campaign as a scenario in TOML.
unfoldable pub plot_text : Plot → List ℕ
plot_text p =
    numbers_text p ++ manner_text p.manner ++ patience_text p.patience ++ flat_map (traitor_text p.given) p.traitors

-- Writes the campaign that a seed draws from a family as a scenario in TOML.
abbrev pub campaign_text : Family → ℕ → List ℕ
campaign_text f seed = plot_text (plot_of f seed)
