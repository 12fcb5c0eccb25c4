-- The text of a chronicle, as lines of words (own).
use Rattle.std.specs.Prelude.{ℕ, suc, ◌==◌, Bool, true, false, List, [], ◌∷◌, ◌++◌, bytes_eq, map, flat_map, filter, decimal, codes, Option, None, Some, option_map, if◌then◌else◌}
use Rattle.combine.specs.declared.campaign_rule.Rule.{Rule}
use Rattle.combine.specs.Names.{is_default}
use Rattle.combine.specs.Rule.{rule_name}
use Rattle.text.specs.Parts.{pieces}
use Rattle.text.specs.Stop.{space}
use Rattle.semantics.specs.declared.request.Request.{Request}
use Rattle.board.specs.Wording.{numbers_asked, row_asked}
use Rattle.board.specs.Board.{Access}
use Rattle.round.specs.Scenario.{Scenario, is_traitor}
use Rattle.round.specs.Letters.{Letter}
use Rattle.world.specs.declared.verdict.Verdict.{Verdict}
use Rattle.world.specs.Chronicle.{Chronicle}
use Rattle.label.specs.Lieutenants.{lieutenants}
use Rattle.trace.specs.declared.version.Version.{Version}
use Rattle.trace.specs.declared.version.Version.TheVariants.{First, Second}

-- A word, as a list of bytes.
abbrev pub Word : Type 0
Word = List ℕ

-- A line, as a list of words.
abbrev pub Line : Type 0
Line = List Word

-- Returns each word with a space before it.
abbrev pub further : List Word → List ℕ
further [] = []
further (w ∷ ws) = 32 ∷ w ++ further ws

-- Returns words separated by single spaces.
abbrev pub spaced : Line → List ℕ
spaced [] = []
spaced (w ∷ ws) = w ++ further ws

-- Returns the bytes of these lines, each ended by a line feed.
abbrev pub text : List Line → List ℕ
text [] = []
text (l ∷ ls) = spaced l ++ 10 ∷ text ls

-- Returns the words of a request: its name and its numbers.
abbrev pub question : Request → List Word
question request = (row_asked request).word ∷ map decimal (numbers_asked request)

-- Returns the line of an access: its general, his request and the words of the board's reply.
abbrev pub access_line : Access → Line
access_line a = codes "access" ∷ decimal a.general ∷ (question a.request ++ (codes "=" ∷ map decimal a.reply))

-- Returns a number in decimal, or `-` for `None`.
abbrev pub place : Option ℕ → Word
place None = codes "-"
place (Some number) = decimal number

-- Returns a line for each label, ascending by rank: the rank, and the orders sent to the label's receivers.
abbrev pub row_lines : ℕ → List (List (Option ℕ)) → List Line
row_lines rank [] = []
row_lines rank (row ∷ rows) = (codes "row" ∷ decimal rank ∷ map place row) ∷ row_lines (suc rank) rows

-- The form of a letter's first line, in which N means a number: `letter N loyal` for a loyal general, and
-- `letter N steps N` for a traitor, with the steps that his program took.
abbrev pub loyal_shape : List ℕ
loyal_shape = codes "letter N loyal"

abbrev pub acting_shape : List ℕ
acting_shape = codes "letter N steps N"

-- Returns the words of a shape with each N replaced by the next of the numbers.
abbrev pub filled : List Word → List ℕ → Line
filled (word ∷ words) (number ∷ numbers) =
    if bytes_eq word (codes "N") then decimal number ∷ filled words numbers
    else word ∷ filled words (number ∷ numbers)
filled words [] = words
filled [] numbers = []

-- Returns the first line of a letter: its general, and the steps that his program took if he is a traitor.
abbrev pub author_line : ℕ → Option ℕ → Line
author_line g None = filled (pieces space loyal_shape) (g ∷ [])
author_line g (Some steps) = filled (pieces space acting_shape) (g ∷ steps ∷ [])

-- Returns how many steps a traitor's program took in the round of this letter, or `None` for a loyal general.
abbrev pub steps_of : Letter → Option ℕ
steps_of l = option_map (λ _. l.steps) l.program

-- Returns the lines of a letter: its first line, and a line with the orders sent for each label.
abbrev pub letter_lines : Letter → List Line
letter_lines l = author_line l.general (steps_of l) ∷ row_lines 0 l.outbox.rows

-- Returns the lines of the rounds from number `round` on: for each its first line, its accesses, and its letters.
-- `told` returns the lines of a letter in a round.
abbrev pub rounds_told : (ℕ → Letter → List Line) → List Access → ℕ → List (List Letter) → List Line
rounds_told told accesses round [] = []
rounds_told told accesses round (letters ∷ rounds) =
    (codes "round" ∷ decimal round ∷ [])
    ∷ (map access_line (filter (λ a. a.round == round) accesses)
    ++ (flat_map (told round) letters ++ rounds_told told accesses (suc round) rounds))

abbrev pub round_lines : ℕ → List Access → List (List Letter) → List Line
round_lines round accesses rounds = rounds_told (λ _. letter_lines) accesses round rounds

-- Returns the line of a lieutenant's decision, which also says whether he is a traitor.
abbrev pub decision_line : ℕ → Bool → ℕ → Line
decision_line g true d = codes "decision" ∷ decimal g ∷ codes "traitor" ∷ decimal d ∷ []
decision_line g false d = codes "decision" ∷ decimal g ∷ decimal d ∷ []

abbrev pub decision_lines : Scenario → List ℕ → List ℕ → List Line
decision_lines s (g ∷ gs) (d ∷ ds) = decision_line g (is_traitor s g) d ∷ decision_lines s gs ds
decision_lines s _ _ = []

abbrev pub yes_no : Bool → Word
yes_no true = codes "yes"
yes_no false = codes "no"

abbrev pub yes_no_none : Option Bool → Word
yes_no_none None = codes "-"
yes_no_none (Some b) = yes_no b

-- Returns the line of the verdict.
abbrev pub verdict_line : Verdict → Line
verdict_line v = codes "verdict" ∷ codes "alike" ∷ yes_no v.alike ∷ codes "obeyed" ∷ yes_no_none v.obeyed ∷
    codes "bound" ∷ yes_no v.bound ∷ []

-- Returns the version that a campaign needs: the first if it has no patience and the default rule, otherwise the
-- second.
abbrev pub version_by : Option ℕ → Rule → Version
version_by None rule = if is_default rule then First else Second
version_by (Some patience) rule = Second

abbrev pub version_of : Scenario → Version
version_of s = version_by s.patience s.rule

abbrev pub version_word : Version → Word
version_word First = codes "1"
version_word Second = codes "2"

abbrev pub version_line : Version → Line
version_line v = codes "chronicle" ∷ version_word v ∷ []

abbrev pub campaign_words : ℕ → ℕ → ℕ → ℕ → Line
campaign_words n m c order = codes "generals" ∷ decimal n ∷ codes "bound" ∷ decimal m ∷ codes "commander" ∷ decimal c ∷
    codes "order" ∷ decimal order ∷ []

-- Returns the words at the end of the second line: the patience and the rule in the second version, none in the first.
abbrev pub further_words : Version → Option ℕ → Rule → List Word
further_words First patience rule = []
further_words Second patience rule = codes "patience" ∷ place patience ∷ codes "rule" ∷ rule_name rule ∷ []

-- Returns the first two lines of a chronicle: the version, and the description of the campaign.
abbrev pub head_lines : Version → Scenario → List Line
head_lines v s =
    version_line v ∷ (campaign_words s.generals s.bound s.commander s.order ++ further_words v s.patience s.rule) ∷ []

-- Returns the lines of a chronicle: `head`, then the rounds, the decisions and the verdict. `told` returns the lines of
-- a letter in a round.
abbrev pub lines_behind : List Line → (ℕ → Letter → List Line) → Chronicle → List Line
lines_behind head told c =
    head
    ++ (rounds_told told c.accesses 1 c.letters
    ++ (decision_lines c.scenario (lieutenants c.scenario.generals c.scenario.commander) c.decisions
    ++ verdict_line c.verdict ∷ []))

-- Returns the lines of a chronicle in this version.
unfoldable pub lines_in : Version → Chronicle → List Line
lines_in v c = lines_behind (head_lines v c.scenario) (λ _. letter_lines) c

-- Returns the text of a chronicle in this version.
unfoldable pub text_in : Version → Chronicle → List ℕ
text_in v c = text (lines_in v c)

-- Returns the text of a chronicle in the version that its campaign needs.
abbrev pub chronicle_text : Chronicle → List ℕ
chronicle_text c = text_in (version_of c.scenario) c
