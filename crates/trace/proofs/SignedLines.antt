-- The lines of signed letters, and the first two lines, are made from their parts.
use Rattle.std.proofs.Common.{◌≡◌, ℕ, List, [], ◌∷◌, ◌++◌, map, sym, ap, ◌∙◌, append_assoc, Option}
use Rattle.std.specs.Prelude.{codes, decimal}
use Rattle.round.specs.Letters.{Letter}
use Rattle.round.specs.Scenario.{Scenario}
use Rattle.signed.specs.Chains.{Chain}
use Rattle.signed.specs.Sending.{dispatch_of}
use Rattle.signed.specs.Sent.{Sent, sent_by}
use Rattle.trace.specs.SignedText.{chain_line, head_lines, letter_lines}
use Rattle.trace.specs.Text.{Word, author_line, campaign_words, further, place, spaced, steps_of, text}
use Rattle.trace.proofs.LineLemmas.{said, text-append}
use Rattle.trace.proofs.WrittenLemmas.{further-append, further-one}

-- The lines of a letter are made from their parts.
pub letter_parts : (sent : Sent) (round : ℕ) (l : Letter) (g : ℕ) (o : Option ℕ) (xs : List (Chain × ℕ)) → g ≡ l.general → o ≡ steps_of l → map dispatch_of xs ≡ sent_by sent round l.general
    → text (author_line g o ∷ []) ++ text (map chain_line (map dispatch_of xs)) ≡ text (letter_lines sent round l)
letter_parts sent round l g o xs eg eo ex =
    (λ i. text (author_line (eg i) (eo i) ∷ []) ++ text (map chain_line (ex i)))
    ∙ sym (text-append (author_line l.general (steps_of l) ∷ []) (map chain_line (sent_by sent round l.general)))

-- Words after those that describe the campaign.
behind_campaign : (n m c order : ℕ) (ws : List Word) → spaced (campaign_words n m c order) ++ further ws ≡ spaced (campaign_words n m c order ++ ws)
behind_campaign n m c order ws =
    let all : List Word = decimal n ∷ codes "bound" ∷ decimal m ∷ codes "commander" ∷ decimal c ∷ codes "order" ∷ decimal order ∷ [] in
    append_assoc (codes "generals") (further all) (further ws) ∙ ap (λ t. codes "generals" ++ t) (sym (further-append all ws))

-- The first two lines are made from their parts.
pub head_parts : (s : Scenario) (patience : Option ℕ) → patience ≡ s.patience
    → (((codes "chronicle 3\nsigned " ++ spaced (campaign_words s.generals s.bound s.commander s.order)) ++ codes " patience") ++ (32 ∷ place patience)) ++ 10 ∷ [] ≡ text (head_lines s)
head_parts s patience e =
    let front = codes "chronicle 3\nsigned " in
    let campaign = spaced (campaign_words s.generals s.bound s.commander s.order) in
    let words : List Word = codes "patience" ∷ place patience ∷ [] in
    let x = front ++ campaign in
    ap (λ t. ((x ++ codes " patience") ++ t) ++ 10 ∷ []) (sym (further-one (place patience)))
    ∙ ap (λ t. t ++ 10 ∷ []) (said x (codes "patience") (place patience ∷ []) ∙ append_assoc front campaign (further words))
    ∙ ap (λ t. (front ++ t) ++ 10 ∷ []) (behind_campaign s.generals s.bound s.commander s.order words)
    ∙ ap (λ o. front ++ (spaced (campaign_words s.generals s.bound s.commander s.order ++ codes "patience" ∷ place o ∷ []) ++ 10 ∷ [])) e
