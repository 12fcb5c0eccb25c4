-- The head of a survey: a line with a JSON object (RFC 8259) that describes the family of its campaigns. The members
-- are in ascending order of their names.
use Rattle.std.specs.Prelude.{ℕ, ◌≡◌, ◌<◌, ◌^◌, ◌==◌, cond, not, true, false, Bool, IfSome, List, [], ◌∷◌, ◌++◌, take, decimal, bytes_eq, codes, Option, None, Some, string_bytes}
use Rattle.std.specs.List.{list_all}
use Rattle.combine.specs.Rule.{rule_name}
use Rattle.surveys.specs.declared.adversary.Adversary.{Adversary}
use Rattle.surveys.specs.declared.adversary.Adversary.TheVariants.{Lies, Silent, Collude, Given}
use Rattle.surveys.specs.declared.manner.Manner.{Manner}
use Rattle.surveys.specs.declared.manner.Manner.TheVariants.{Oral, Signed}
use Rattle.surveys.specs.declared.span.CountRange.{CountRange}
use Rattle.surveys.specs.Family.{Family}
use Rattle.surveys.specs.Lines.{member}
use Rattle.surveys.specs.Wording.{campaign_text}

-- Writes what the traitors do as a JSON string. For a given program it is `0x` with the bytecode in hex.
abbrev pub adversary_word : Adversary → List ℕ
adversary_word Lies = codes "\"lies\""
adversary_word Silent = codes "\"silent\""
adversary_word Collude = codes "\"collude\""
adversary_word (Given hex) = codes "\"0x" ++ (string_bytes hex ++ codes "\"")

-- Writes how orders are sent as a JSON string: the name of the rule that combines oral messages, or `signed`.
abbrev pub manner_word : Manner → List ℕ
manner_word (Oral rule) = codes "\"" ++ (rule_name rule ++ codes "\"")
manner_word Signed = codes "\"signed\""

-- Writes the value of the member `line`: `grid` if consecutive seeds go through all combinations of the ranges, and
-- `family` if each seed draws at random.
abbrev pub line_word : Bool → List ℕ
line_word false = codes "\"family\""
line_word true = codes "\"grid\""

-- Writes how many steps a traitor may take in a round, or `null` if they are not limited.
abbrev pub patience_word : Option ℕ → List ℕ
patience_word None = codes "null"
patience_word (Some steps) = decimal steps

-- Writes the JSON member `commander`, unless general 0 commands.
abbrev pub commander_text : ℕ → List ℕ
commander_text c = cond (c == 0) [] (codes ",\"commander\":" ++ decimal c)

-- Writes the JSON member `orders` with the greatest order, unless this is 1.
abbrev pub orders_text : ℕ → List ℕ
orders_text v = cond (v == 1) [] (codes ",\"orders\":" ++ decimal v)

-- Writes the head of a survey of this family: a JSON object and a line feed.
abbrev pub head_text : Family → List ℕ
head_text f =
    member (codes "{\"adversary\"") (adversary_word f.adversary)
    (member (codes ",\"bound_high\"") (decimal f.bound.high)
    (member (codes ",\"bound_low\"") (decimal f.bound.low) (commander_text f.commander ++
    (member (codes ",\"generals_high\"") (decimal f.generals.high)
    (member (codes ",\"generals_low\"") (decimal f.generals.low)
    (member (codes ",\"line\"") (line_word f.grid)
    (member (codes ",\"manner\"") (manner_word f.manner) (orders_text f.orders ++
    (member (codes ",\"patience\"") (patience_word f.patience)
    (member (codes ",\"traitors_high\"") (decimal f.traitors.high)
    (member (codes ",\"traitors_low\"") (decimal f.traitors.low) (codes "}\n"))))))))))))

-- Writes the JSON members `bound_high`, `bound_low`, `commander` (unless it is 0), `generals_high` and `generals_low`.
abbrev pub head_front : CountRange → ℕ → CountRange → List ℕ
head_front bound c generals =
    codes ",\"bound_high\":" ++ (decimal bound.high ++ (codes ",\"bound_low\":" ++ (decimal bound.low
    ++ (commander_text c ++ (codes ",\"generals_high\":"
    ++ (decimal generals.high ++ (codes ",\"generals_low\":" ++ decimal generals.low)))))))

-- Writes the JSON members `line`, `manner`, `orders` (unless it is 1) and `patience`.
abbrev pub head_middle : Bool → List ℕ → ℕ → List ℕ → List ℕ
head_middle grid manner v patience =
    codes ",\"line\":" ++ (line_word grid ++ (codes ",\"manner\":" ++ (manner ++ (orders_text v
    ++ (codes ",\"patience\":" ++ patience)))))

-- Writes the JSON members `traitors_high` and `traitors_low`, the closing brace, and a line feed.
abbrev pub head_end : CountRange → List ℕ
head_end traitors = codes ",\"traitors_high\":"
    ++ (decimal traitors.high ++ (codes ",\"traitors_low\":" ++ (decimal traitors.low ++ codes "}\n")))

-- Checks whether a line begins with `{"adversary":`, as a head does.
abbrev pub is_head : List ℕ → Bool
is_head line = bytes_eq (take 13 line) (codes "{\"adversary\":")

-- States that a line begins with `{"adversary":`, as a head does, and ends with a line feed.
pub record IsHead (line : List ℕ) : Type 0 where
  pub begins : is_head line ≡ true
  pub front : List ℕ
  pub whole : line ≡ front ++ 10 ∷ []

-- States that the numbers of the ranges, the commander and the greatest order are below 256, that the patience is below
-- 2 ^ 64, and that the bytecode contains no comma.
pub record IsTold (f : Family) : Type 0 where
  pub bound : (f.bound.low < 256) × (f.bound.high < 256)
  pub generals : (f.generals.low < 256) × (f.generals.high < 256)
  pub traitors : (f.traitors.low < 256) × (f.traitors.high < 256)
  pub commander : f.commander < 256
  pub orders : f.orders < 256
  pub patience : IfSome f.patience (λ steps. steps < 2 ^ 64)
  pub adversary : list_all (λ c. not (c == 44)) (adversary_word f.adversary) ≡ true

-- States that two families with the same head, for which `IsTold` holds, draw the same campaign from each seed. It also
-- states that each family has a head.
pub record HeadsTellFamilies : Type 0 where
  pub campaigns : (f g : Family) (seed : ℕ) → IsTold f → IsTold g → head_text f ≡ head_text g →
      campaign_text f seed ≡ campaign_text g seed
  pub heads : (f : Family) → IsHead (head_text f)
