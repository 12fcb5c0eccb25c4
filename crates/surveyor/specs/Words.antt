-- Defines what the values of options mean: how messages are sent, what the traitors do, and the family of campaigns
-- (docs/FORMATS.md, "Surveys").
use Rattle.std.specs.Prelude.{ℕ, ◌≡◌, ◌≢◌, IsSomeAnd, Bool, true, false, List, codes, Option, None, Some, option_map, string_bytes}
use Rattle.hex.specs.Hex.{encode_lower}
use Rattle.asm.specs.Program.{program_of}
use Rattle.codec.specs.Spelling.{program_bytes}
use Rattle.verify.specs.Judgement.{judged}
use Rattle.combine.specs.Names.{default_rule, rule_named}
use Rattle.surveys.specs.declared.adversary.Adversary.{Adversary}
use Rattle.surveys.specs.declared.adversary.Adversary.TheVariants.{Lies, Silent, Collude, Given}
use Rattle.surveys.specs.declared.manner.Manner.{Manner}
use Rattle.surveys.specs.declared.manner.Manner.TheVariants.{Oral, Signed}
use Rattle.surveys.specs.Family.{Family}
use Rattle.surveyor.specs.declared.task.Survey.{Survey}

-- Returns how messages are sent if no rule is given: signed if the flag is set, and otherwise orally with the default
-- rule.
abbrev pub plain_manner : Bool → Manner
plain_manner true = Signed
plain_manner false = Oral default_rule

-- Returns how messages are sent: signed if `signed` is set, and otherwise orally with the given rule. Returns `None` if
-- there is no such rule, or if a rule is given for signed messages.
abbrev pub manner_named : Option (List ℕ) → Bool → Option Manner
manner_named None signed = Some (plain_manner signed)
manner_named (Some rule) true = None
manner_named (Some rule) false = option_map Oral (rule_named rule)

-- States that the text is an assembly program that the verifier accepts, and that `hex` is its bytecode in hexadecimal
-- digits.
abbrev pub IsProgramOf : List ℕ → List ℕ → Type 0
IsProgramOf text hex =
    IsSomeAnd (program_of text) (λ program. (judged program ≡ None) × (hex ≡ encode_lower (program_bytes program)))

-- States that each traitor runs a given program, which is assembled from some text.
abbrev pub IsGiven : Adversary → Type 0
IsGiven (Given hex) = (text : List ℕ) × IsProgramOf text (string_bytes hex)
IsGiven _ = ⊥

-- States that the traitors do what the value of `--adversary` says.
pub record IsNamed (word : List ℕ) (a : Adversary) : Type 0 where
  pub lies : word ≡ codes "lies" → a ≡ Lies
  pub silent : word ≡ codes "silent" → a ≡ Silent
  pub collude : word ≡ codes "collude" → a ≡ Collude
  pub given : word ≢ codes "lies" → word ≢ codes "silent" → word ≢ codes "collude" → IsGiven a

-- States that this is the family that a survey asks for.
pub record IsFamilyOf (s : Survey) (f : Family) : Type 0 where
  pub generals : f.generals ≡ s.generals
  pub bound : f.bound ≡ s.bound
  pub traitors : f.traitors ≡ s.traitors
  pub commander : f.commander ≡ s.commander
  pub orders : f.orders ≡ s.orders
  pub grid : f.grid ≡ s.grid
  pub manner : f.manner ≡ s.manner
  pub patience : f.patience ≡ s.patience
  pub adversary : IsNamed (string_bytes s.adversary) f.adversary
