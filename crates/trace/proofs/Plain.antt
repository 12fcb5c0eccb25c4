-- The words in a chronicle's lines have no spaces and no line ends.
use Rattle.std.proofs.Common.{◌≡◌, ℕ, suc, List, [], ◌∷◌, ◌++◌, map, flat_map, Bool, true, false, refl, Option, None, Some, arith}
use Rattle.std.specs.Prelude.{decimal, codes, nat_lt, filter, ◌==◌}
use Rattle.std.specs.List.{list_all}
use Rattle.std.proofs.lemmas.Bool.Decides.{nat_tests}
use Rattle.std.proofs.lemmas.Bool.{and_parts, ltb-true}
use Rattle.combine.specs.declared.campaign_rule.Rule.{Rule}
use Rattle.combine.specs.Names.{is_small}
use Rattle.combine.specs.Rule.{rule_name}
use Rattle.combine.proofs.RuleLaws.{names_law}
use Rattle.text.proofs.BytesLemmas.{all-weaker}
use Rattle.semantics.specs.declared.request.Request.{Request}
use Rattle.board.specs.Wording.{Row, numbers_asked, row_asked}
use Rattle.board.proofs.RowLemmas.{row_has}
use Rattle.board.specs.Board.{Access}
use Rattle.round.specs.Scenario.{Scenario, is_traitor}
use Rattle.round.specs.Letters.{Letter}
use Rattle.world.specs.declared.verdict.Verdict.{Verdict}
use Rattle.world.specs.Chronicle.{Chronicle}
use Rattle.label.specs.Lieutenants.{lieutenants}
use Rattle.trace.specs.Text.{Word, Line, access_line, question, place, row_lines, yes_no, yes_no_none, author_line, letter_lines, rounds_told, steps_of, decision_line, decision_lines, verdict_line, version_word, version_line, campaign_words, further_words, head_lines, lines_behind, lines_in}
use Rattle.trace.specs.declared.version.Version.{Version}
use Rattle.trace.specs.declared.version.Version.TheVariants.{First, Second}
use Rattle.trace.proofs.Splitting.{IsPlain, ArePlain, IsLine, AreLines, decimal_plain}

pub by_test : (w : Word) → list_all (λ c. nat_lt 32 c) w ≡ true → IsPlain w
by_test [] h = tt
by_test (c ∷ cs) h = let b = and_parts (nat_lt 32 c) (list_all (λ c. nat_lt 32 c) cs) h in (ltb-true 32 c b.0, by_test cs b.1)

pub lines-append : (ls ks : List Line) → AreLines ls → AreLines ks → AreLines (ls ++ ks)
lines-append [] ks p q = q
lines-append (l ∷ ls) ks p q = (p.0, lines-append ls ks p.1 q)

plain-append : (vs ws : List Word) → ArePlain vs → ArePlain ws → ArePlain (vs ++ ws)
plain-append [] ws p q = q
plain-append (v ∷ vs) ws p q = (p.0, plain-append vs ws p.1 q)

decimals_plain : (ns : List ℕ) → ArePlain (map decimal ns)
decimals_plain [] = tt
decimals_plain (n ∷ ns) = (decimal_plain n, decimals_plain ns)

abbrev is_plain_word : Row → Bool
is_plain_word r = list_all (λ c. nat_lt 32 c) r.word

question_plain : (q : Request) → ArePlain (question q)
question_plain q = (by_test (row_asked q).word (row_has is_plain_word refl q), decimals_plain (numbers_asked q))

access_plain : (a : Access) → IsLine (access_line a)
access_plain a = (by_test (codes "access") refl, (decimal_plain a.general, plain-append (question a.request) (codes "=" ∷ map decimal a.reply) (question_plain a.request) (by_test (codes "=") refl, decimals_plain a.reply)))

accesses_plain : (xs : List Access) → AreLines (map access_line xs)
accesses_plain [] = tt
accesses_plain (a ∷ rest) = (access_plain a, accesses_plain rest)

pub place_plain : (o : Option ℕ) → IsPlain (place o)
place_plain None = by_test (codes "-") refl
place_plain (Some v) = decimal_plain v

places_plain : (row : List (Option ℕ)) → ArePlain (map place row)
places_plain [] = tt
places_plain (o ∷ row) = (place_plain o, places_plain row)

rows_plain : (rank : ℕ) (rows : List (List (Option ℕ))) → AreLines (row_lines rank rows)
rows_plain rank [] = tt
rows_plain rank (row ∷ rows) = ((by_test (codes "row") refl, (decimal_plain rank, places_plain row)), rows_plain (suc rank) rows)

yes_no_plain : (b : Bool) → IsPlain (yes_no b)
yes_no_plain true = by_test (codes "yes") refl
yes_no_plain false = by_test (codes "no") refl

yes_no_none_plain : (o : Option Bool) → IsPlain (yes_no_none o)
yes_no_none_plain None = by_test (codes "-") refl
yes_no_none_plain (Some b) = yes_no_plain b

decision_plain : (g : ℕ) (b : Bool) (d : ℕ) → IsLine (decision_line g b d)
decision_plain g true d = (by_test (codes "decision") refl, (decimal_plain g, (by_test (codes "traitor") refl, (decimal_plain d, tt))))
decision_plain g false d = (by_test (codes "decision") refl, (decimal_plain g, (decimal_plain d, tt)))

pub author_plain : (g : ℕ) (steps : Option ℕ) → IsLine (author_line g steps)
author_plain g None = (by_test (codes "letter") refl, (decimal_plain g, (by_test (codes "loyal") refl, tt)))
author_plain g (Some steps) = (by_test (codes "letter") refl, (decimal_plain g, (by_test (codes "steps") refl, (decimal_plain steps, tt))))

letter_lines_plain : (l : Letter) → AreLines (letter_lines l)
letter_lines_plain l = (author_plain l.general (steps_of l), rows_plain 0 l.outbox.rows)

letters_plain : (told : Letter → List Line) → ((l : Letter) → AreLines (told l)) → (ls : List Letter) → AreLines (flat_map told ls)
letters_plain told plain [] = tt
letters_plain told plain (l ∷ ls) = lines-append (told l) (flat_map told ls) (plain l) (letters_plain told plain ls)

rounds_plain : (told : ℕ → Letter → List Line) → ((r : ℕ) (l : Letter) → AreLines (told r l)) → (xs : List Access) (r : ℕ) (rounds : List (List Letter)) → AreLines (rounds_told told xs r rounds)
rounds_plain told plain xs r [] = tt
rounds_plain told plain xs r (ls ∷ rest) = (
  (by_test (codes "round") refl, (decimal_plain r, tt)),
  lines-append (map access_line (filter (λ a. a.round == r) xs)) (flat_map (told r) ls ++ rounds_told told xs (suc r) rest) (accesses_plain (filter (λ a. a.round == r) xs))
      (lines-append (flat_map (told r) ls) (rounds_told told xs (suc r) rest) (letters_plain (told r) (plain r) ls) (rounds_plain told plain xs (suc r) rest)),
)

decisions_plain : (s : Scenario) (gs ds : List ℕ) → AreLines (decision_lines s gs ds)
decisions_plain s [] ds = tt
decisions_plain s (g ∷ gs) [] = tt
decisions_plain s (g ∷ gs) (d ∷ ds) = (decision_plain g (is_traitor s g) d, decisions_plain s gs ds)

version_plain : (v : Version) → IsPlain (version_word v)
version_plain First = by_test (codes "1") refl
version_plain Second = by_test (codes "2") refl

past_space : (c : ℕ) → is_small c ≡ true → nat_lt 32 c ≡ true
past_space c h = grind (arith, nat_tests)

rule_plain : (r : Rule) → IsPlain (rule_name r)
rule_plain r = by_test (rule_name r) (all-weaker is_small (λ c. nat_lt 32 c) past_space (rule_name r) (names_law.letters r))

head_plain : (v : Version) (patience : Option ℕ) (rule : Rule) → ArePlain (further_words v patience rule)
head_plain First patience rule = tt
head_plain Second patience rule = (by_test (codes "patience") refl, (place_plain patience, (by_test (codes "rule") refl, (rule_plain rule, tt))))

verdict_plain : (v : Verdict) → IsLine (verdict_line v)
verdict_plain v =
    (by_test (codes "verdict") refl, (by_test (codes "alike") refl, (yes_no_plain v.alike, (by_test (codes "obeyed") refl, (yes_no_none_plain v.obeyed, (by_test (codes "bound") refl, (yes_no_plain v.bound, tt)))))))

-- If the words of the first lines and of the letters' lines are such words, all are.
pub lines_plain : (head : List Line) (told : ℕ → Letter → List Line) (c : Chronicle) → AreLines head → ((r : ℕ) (l : Letter) → AreLines (told r l)) → AreLines (lines_behind head told c)
lines_plain head told c front plain =
    let s = c.scenario in
    lines-append head _ front
    (lines-append (rounds_told told c.accesses 1 c.letters) _ (rounds_plain told plain c.accesses 1 c.letters)
    (lines-append (decision_lines s (lieutenants s.generals s.commander) c.decisions) _ (decisions_plain s (lieutenants s.generals s.commander) c.decisions) (verdict_plain c.verdict, tt)))

-- The words that describe the campaign, and further words after them.
pub campaign_plain : (n m c order : ℕ) (ws : List Word) → ArePlain ws → ArePlain (campaign_words n m c order ++ ws)
campaign_plain n m c order ws p =
    (by_test (codes "generals") refl, (decimal_plain n, (by_test (codes "bound") refl, (decimal_plain m, (by_test (codes "commander") refl, (decimal_plain c, (by_test (codes "order") refl, (decimal_plain order, p))))))))

pub chronicle_plain : (v : Version) (c : Chronicle) → AreLines (lines_in v c)
unfolding lines_in
chronicle_plain v c =
    let s = c.scenario in
    let version : IsLine (version_line v) = (by_test (codes "chronicle") refl, (version_plain v, tt)) in
    lines_plain (head_lines v s) (λ _. letter_lines) c (version, (campaign_plain s.generals s.bound s.commander s.order (further_words v s.patience s.rule) (head_plain v s.patience s.rule), tt)) (λ _. letter_lines_plain)
