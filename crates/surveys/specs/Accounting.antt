-- The account of a surveyed campaign, and its text: a line with a JSON object (RFC 8259) whose members are in ascending
-- order of their names.
use Rattle.std.specs.Prelude.{ℕ, ◌≡◌, List, [], ◌∷◌, ◌++◌, filter, flat_map, decimal, codes}
use Rattle.std.specs.List.{range_with_len}
use Rattle.round.specs.Scenario.{is_traitor}
use Rattle.scenario.specs.declared.messages.Campaign.{Campaign}
use Rattle.scenario.specs.declared.messages.Campaign.TheVariants.{Oral, Signed}
use Rattle.signed.specs.Chronicle.{signed_chronicle_of}
use Rattle.signed.specs.Kind.{played}
use Rattle.world.specs.Chronicle.{chronicle_of}
use Rattle.world.specs.Lists.{listed}
use Rattle.world.specs.World.{opening, run}
use Rattle.surveys.specs.Account.{Account}
use Rattle.surveys.specs.Family.{Family}
use Rattle.surveys.specs.Judging.{IsFound, scenario_in}
use Rattle.surveys.specs.Lines.{answer_text, flag_text, member}
use Rattle.surveys.specs.Wording.{campaign_text}

-- Returns what the lieutenants of a campaign decide if it is played with the empty schedule.
abbrev pub decisions_in : Campaign → List ℕ
decisions_in (Oral s) = (chronicle_of (run (opening s) (listed s []))).decisions
decisions_in (Signed s) = (signed_chronicle_of (played s (listed s []))).decisions

-- States that `a` is the account of the campaign that the text describes. Its seed is `by`, and its result, order,
-- traitors and decisions are those of that campaign.
pub record IsAccount (text : List ℕ) (by : ℕ) (a : Account) : Type 0 where
  pub found : IsFound text by a.finding
  pub order : a.order ≡ (scenario_in found.campaign).order
  pub traitors : a.traitors
      ≡ filter (is_traitor (scenario_in found.campaign)) (range_with_len 0 (scenario_in found.campaign).generals)
  pub decisions : a.decisions ≡ decisions_in found.campaign

-- States that `a` is the account of the campaign that the seed draws from the family.
abbrev pub IsAccountOf : Family → ℕ → Account → Type 0
IsAccountOf f seed a = IsAccount (campaign_text f seed) seed a

-- ---- the line

-- Writes a number in decimal after a comma.
abbrev pub next_text : ℕ → List ℕ
next_text n = codes "," ++ decimal n

-- Writes numbers in decimal, with commas between them.
abbrev pub numbers_text : List ℕ → List ℕ
numbers_text [] = []
numbers_text (n ∷ ns) = decimal n ++ flat_map next_text ns

-- Writes a list of numbers as a JSON array.
abbrev pub list_text : List ℕ → List ℕ
list_text ns = codes "[" ++ numbers_text ns ++ codes "]"

-- Writes an account as a line: a JSON object and a line feed.
abbrev pub account_text : Account → List ℕ
account_text a =
    member (codes "{\"alike\"") (flag_text a.finding.verdict.alike)
    (member (codes ",\"bound\"") (decimal a.finding.bound)
    (member (codes ",\"decisions\"") (list_text a.decisions)
    (member (codes ",\"generals\"") (decimal a.finding.generals)
    (member (codes ",\"kept\"") (flag_text a.finding.verdict.bound)
    (member (codes ",\"line\"") (codes "\"account\"")
    (member (codes ",\"obeyed\"") (answer_text a.finding.verdict.obeyed)
    (member (codes ",\"order\"") (decimal a.order)
    (member (codes ",\"seed\"") (decimal a.finding.seed)
    (member (codes ",\"traitors\"") (list_text a.traitors) (codes "}\n"))))))))))

-- Writes the first members of an account's JSON object, with the opening brace: `alike`, `bound` and `decisions`.
abbrev pub account_front : Account → List ℕ
account_front a =
    codes "{\"alike\":" ++ (flag_text a.finding.verdict.alike ++ (codes ",\"bound\":" ++ (decimal a.finding.bound
    ++ (codes ",\"decisions\":" ++ list_text a.decisions))))

-- Writes the middle members of an account's JSON object: `generals`, `kept`, `line` and `obeyed`.
abbrev pub account_middle : Account → List ℕ
account_middle a =
    codes ",\"generals\":" ++ (decimal a.finding.generals ++ (codes ",\"kept\":" ++ (flag_text a.finding.verdict.bound
    ++ (codes ",\"line\":\"account\",\"obeyed\":" ++ answer_text a.finding.verdict.obeyed))))

-- Writes the last members of an account's JSON object, `order`, `seed` and `traitors`, the closing brace, and a line
-- feed.
abbrev pub account_back : Account → List ℕ
account_back a =
    codes ",\"order\":" ++ (decimal a.order ++ (codes ",\"seed\":" ++ (decimal a.finding.seed
    ++ (codes ",\"traitors\":" ++ (list_text a.traitors ++ codes "}\n")))))
