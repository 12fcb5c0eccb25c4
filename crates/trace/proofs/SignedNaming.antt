-- The generals named in a signed chronicle's text are those of its accesses.
use Rattle.std.proofs.Common.{◌≡◌, ◌<◌, ℕ, List, [], ◌∷◌, ◌++◌, map, flat_map, length, refl, arith}
use Rattle.std.specs.Prelude.{All, codes, decimal}
use Rattle.round.specs.Letters.{Letter}
use Rattle.round.specs.Scenario.{Scenario}
use Rattle.signed.specs.Entries.{Dispatch}
use Rattle.signed.specs.Sent.{Sent, sent_by, sent_in}
use Rattle.world.specs.Chronicle.{Chronicle}
use Rattle.world.specs.KindLists.{names_in}
use Rattle.trace.specs.Names.{names_of}
use Rattle.trace.specs.SignedText.{chain_line, dotted, head_lines, letter_lines, signed_lines, signed_text}
use Rattle.trace.specs.Text.{Word, place, steps_of}
use Rattle.trace.proofs.Naming.{AreKnown, AreSilent, author_silent, known_all, lines_named}
use Rattle.trace.proofs.Plain.{author_plain, by_test, campaign_plain, lines_plain, place_plain}
use Rattle.trace.proofs.Splitting.{AreLines, IsLine, IsPlain, decimal_plain}

word-append : (v w : Word) → IsPlain v → IsPlain w → IsPlain (v ++ w)
word-append [] w p q = q
word-append (c ∷ cs) w p q = (p.0, word-append cs w p.1 q)

joined_plain : (gs : List ℕ) → IsPlain (flat_map (λ h. 46 ∷ decimal h) gs)
joined_plain [] = tt
joined_plain (g ∷ gs) = word-append (46 ∷ decimal g) (flat_map (λ h. 46 ∷ decimal h) gs) ((omega arith), decimal_plain g) (joined_plain gs)

dotted_plain : (gs : List ℕ) → IsPlain (dotted gs)
dotted_plain [] = by_test (codes "-") refl
dotted_plain (g ∷ gs) = word-append (decimal g) (flat_map (λ h. 46 ∷ decimal h) gs) (decimal_plain g) (joined_plain gs)

chain_plain : (x : Dispatch) → IsLine (chain_line x)
chain_plain x = (by_test (codes "chain") refl, (decimal_plain x.chain.order, (dotted_plain x.chain.signers, (by_test (codes "to") refl, (dotted_plain x.receivers, tt)))))

chains_plain : (xs : List Dispatch) → AreLines (map chain_line xs)
chains_plain [] = tt
chains_plain (x ∷ xs) = (chain_plain x, chains_plain xs)

letter_lines_plain : (sent : Sent) (round : ℕ) (l : Letter) → AreLines (letter_lines sent round l)
letter_lines_plain sent round l = (author_plain l.general (steps_of l), chains_plain (sent_by sent round l.general))

head_lines_plain : (s : Scenario) → AreLines (head_lines s)
head_lines_plain s = (
  (by_test (codes "chronicle") refl, (by_test (codes "3") refl, tt)),
  (
    (by_test (codes "signed") refl, campaign_plain s.generals s.bound s.commander s.order (codes "patience" ∷ place s.patience ∷ []) (by_test (codes "patience") refl, (place_plain s.patience, tt))),
    tt,
  ),
)

signed_plain : (c : Chronicle) → AreLines (signed_lines c)
unfolding signed_lines
signed_plain c = lines_plain (head_lines c.scenario) (letter_lines (sent_in c.scenario c.letters)) c (head_lines_plain c.scenario) (letter_lines_plain (sent_in c.scenario c.letters))

chains_silent : (xs : List Dispatch) → AreSilent (map chain_line xs)
chains_silent [] = tt
chains_silent (x ∷ xs) = ((λ rest. refl), chains_silent xs)

letter_silent : (sent : Sent) (round : ℕ) (l : Letter) → AreSilent (letter_lines sent round l)
letter_silent sent round l = (author_silent l.general (steps_of l), chains_silent (sent_by sent round l.general))

head_silent : (s : Scenario) → AreSilent (head_lines s)
head_silent s = ((λ rest. refl), ((λ rest. refl), tt))

pub signed_names_told : (c : Chronicle) → AreKnown c.accesses → names_of (signed_text c) ≡ names_in 1 c.accesses (length c.letters)
unfolding signed_text signed_lines
signed_names_told c k = lines_named (head_lines c.scenario) (letter_lines (sent_in c.scenario c.letters)) c (head_silent c.scenario) (letter_silent (sent_in c.scenario c.letters)) (signed_plain c) k

pub proved_signed_names_are_told : (c : Chronicle) → All (λ a. a.general < 13) c.accesses → names_of (signed_text c) ≡ names_in 1 c.accesses (length c.letters)
proved_signed_names_are_told c known = signed_names_told c (known_all c.accesses known)
