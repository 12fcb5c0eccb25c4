-- The text of a signed campaign's chronicle, which is the third version (own). The lines of rounds, accesses, decisions
-- and the verdict, and the first line of a letter, are as in the other versions.
use Rattle.std.specs.Prelude.{ℕ, List, [], ◌∷◌, ◌++◌, map, flat_map, decimal, codes}
use Rattle.round.specs.Scenario.{Scenario}
use Rattle.round.specs.Letters.{Letter}
use Rattle.world.specs.Chronicle.{Chronicle}
use Rattle.signed.specs.Entries.{Dispatch}
use Rattle.signed.specs.Sent.{Sent, sent_by, sent_in}
use Rattle.trace.specs.Text.{Word, Line, author_line, steps_of, text, place, campaign_words, lines_behind}

-- Returns generals' numbers joined by dots, such as `0.2.5`, or `-` if there are none.
abbrev pub dotted : List ℕ → Word
dotted [] = codes "-"
dotted (g ∷ gs) = decimal g ++ flat_map (λ h. 46 ∷ decimal h) gs

-- Returns the line of a chain: its order, its signers, and its receivers.
abbrev pub chain_line : Dispatch → Line
chain_line x = codes "chain" ∷ decimal x.chain.order ∷ dotted x.chain.signers ∷ codes "to" ∷ dotted x.receivers ∷ []

-- Returns the lines of a general's letter of a round: its first line, and then a line for each chain that he sent.
abbrev pub letter_lines : Sent → ℕ → Letter → List Line
letter_lines sent round l = author_line l.general (steps_of l) ∷ map chain_line (sent_by sent round l.general)

-- Returns the first two lines of a signed campaign's chronicle: the version, and the description of the campaign.
abbrev pub head_lines : Scenario → List Line
head_lines s =
    (codes "chronicle" ∷ codes "3" ∷ [])
    ∷ (codes "signed"
    ∷ (campaign_words s.generals s.bound s.commander s.order ++ codes "patience" ∷ place s.patience ∷ []))
    ∷ []

-- Returns the lines of a signed campaign's chronicle.
unfoldable pub signed_lines : Chronicle → List Line
signed_lines c = lines_behind (head_lines c.scenario) (letter_lines (sent_in c.scenario c.letters)) c

-- Returns the text of a signed campaign's chronicle.
unfoldable pub signed_text : Chronicle → List ℕ
signed_text c = text (signed_lines c)
